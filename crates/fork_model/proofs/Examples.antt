-- What the definitions say of a few heads, whose signatures are taken as verified.
use Rattle.std.proofs.Common.{◌≡◌, ℕ, List, [], ◌∷◌, Option, Some, None, refl}
use Rattle.log_model.specs.Heads.{stamp}
use Rattle.fork_model.specs.Bytes.{fork_bytes}
use Rattle.fork_model.specs.Before.{Before}
use Rattle.fork_model.specs.Finding.{Tip, fork_of, first_pair}

-- a head of the owner whose key is this one byte, over a record of that number with this one byte as its name
abbrev head_of : ℕ → ℕ → ℕ → Tip
head_of owner seq name = record { bytes = owner ∷ seq ∷ name ∷ []; owner = record { 0 = owner ∷ [] }; newest = stamp seq (record { 0 = name ∷ [] }) }

-- no block is a record
abbrev no_records : Before
no_records owner seq block = None

-- two records of one number are a fork, without any block, and the earlier head stands first
equal_numbers : fork_of no_records [] (head_of 7 3 1) (head_of 7 3 2) ≡ Some (fork_bytes (7 ∷ 3 ∷ 1 ∷ []) (7 ∷ 3 ∷ 2 ∷ []) [])
equal_numbers = refl

-- one record isn't, nor are records of two logs
one_record : fork_of no_records [] (head_of 7 3 1) (head_of 7 3 1) ≡ None
one_record = refl

two_logs : fork_of no_records [] (head_of 7 3 1) (head_of 8 3 2) ≡ None
two_logs = refl

-- of two numbers nothing is shown by the names alone
two_numbers : fork_of no_records [] (head_of 7 4 1) (head_of 7 3 2) ≡ None
two_numbers = refl

-- of three heads the second one and the third are the first pair, as the first one is of another log
pair_of_three : first_pair (fork_of no_records []) (head_of 8 3 5 ∷ head_of 7 3 1 ∷ head_of 7 3 2 ∷ []) ≡ Some (fork_bytes (7 ∷ 3 ∷ 1 ∷ []) (7 ∷ 3 ∷ 2 ∷ []) [])
pair_of_three = refl
