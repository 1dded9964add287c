-- The proof of the first two heads that are shown as forked by blocks.
use Rattle.std.specs.Prelude.{ℕ, zero, suc, ◌-◌, nat_lt, nat_le, Bool, ◌&&◌, List, [], ◌∷◌, ◌++◌, find, filter_map, Option, Some, None}
use Rattle.std.specs.Prelude.{option_map, if◌then◌else◌}
use Rattle.std.specs.Option.{option_or}
use Rattle.std.specs.Ordering.{eq_by_cmp}
use Rattle.ivy_base.specs.declared.key.Key.{Key}
use Rattle.ivy_base.specs.declared.key.PubKey.{PubKey}
use Rattle.ivy_base.specs.Naming.{name, head_key_of, key_cmp, owner_cmp}
use Rattle.log_model.specs.Vector.{Stamp}
use Rattle.log_model.specs.Heads.{stamp, owner_in}
use Rattle.dht_ids.specs.declared.judge.Judged.{Judged}
use Rattle.dhash_model.specs.Signed.{hss_judged}
use Rattle.fork_model.specs.Bytes.{fork_bytes, most_blocks}
use Rattle.fork_model.specs.Before.{Before}

-- the second step, where the first gave a value
infixl 10 ◌>>=◌
abbrev pub ◌>>=◌ : {A B : Type 0} → Option A → (A → Option B) → Option B
None >>= f = None
Some x >>= f = f x

-- ---- heads

-- a signed head: its bytes, whose log it is of, and that log's newest record, as it says
pub record Tip : Type 0 where
  pub bytes : List ℕ
  pub owner : PubKey
  pub newest : Stamp

abbrev pub tip_with : List ℕ → PubKey → Judged → Tip
tip_with bytes owner said = record { bytes = bytes; owner = owner; newest = stamp said.seq said.name }

-- the bytes as a head that is signed under the public key which stands in it, where they are one
abbrev pub tip_of : List ℕ → Option Tip
tip_of bytes = option_map (tip_with bytes (owner_in bytes)) (hss_judged (head_key_of (owner_in bytes)) bytes)

abbrev pub same_owner : Tip → Tip → Bool
same_owner a b = eq_by_cmp owner_cmp a.owner b.owner

-- ---- the way down a log

-- the first of the blocks that has this name
abbrev pub block_named : List (List ℕ) → Key → Option (List ℕ)
block_named blocks k = find (λ b. eq_by_cmp key_cmp (name b) k) blocks

-- the block of that name with the name of the record before it, where it is the owner's record of that number
abbrev pub step_down : Before → List (List ℕ) → PubKey → ℕ → Key → Option (List ℕ × Key)
step_down before blocks owner seq k = do
  block ← block_named blocks k
  option_map (λ prev. (block, prev)) (before owner seq block)

-- blocks of records, the newest first, and the name that the last one gives of the record before it
pub record Way : Type 0 where
  pub blocks : List (List ℕ)
  pub last : Key

abbrev pub goes_on : Way → List ℕ × Key → Way
goes_on way step = record { blocks = way.blocks ++ step.0 ∷ []; last = step.1 }

-- so many records down from the one that the head names, as the names lead, where they are all among the blocks
abbrev pub way_down : Before → List (List ℕ) → Tip → ℕ → Option Way
way_down before blocks tip zero = Some (record { blocks = []; last = tip.newest.name })
way_down before blocks tip (suc n) = do
  way ← way_down before blocks tip n
  option_map (goes_on way) (step_down before blocks tip.owner (tip.newest.seq - n) way.last)

-- ---- two heads

-- the proof, where the way leads elsewhere than to the record that the lower head names
abbrev pub proof_by : Tip → Tip → Way → Option (List ℕ)
proof_by low high way = if eq_by_cmp key_cmp way.last low.newest.name then None else Some (fork_bytes low.bytes high.bytes way.blocks)

-- they are of one log, and few records lie between
abbrev pub are_near : Tip → Tip → Bool
are_near low high = same_owner low high && nat_le (high.newest.seq - low.newest.seq) most_blocks

-- the proof of a head and one whose number isn't smaller, where the blocks show them as forked
abbrev pub proof_of_fork : Before → List (List ℕ) → Tip → Tip → Option (List ℕ)
proof_of_fork before blocks low high =
    if are_near low high then (way_down before blocks high (high.newest.seq - low.newest.seq) >>= proof_by low high) else None

-- of two heads in their order: the one of the smaller number stands first in the proof, and of equal numbers the earlier head
abbrev pub fork_of : Before → List (List ℕ) → Tip → Tip → Option (List ℕ)
fork_of before blocks one other =
    if nat_lt other.newest.seq one.newest.seq then proof_of_fork before blocks other one else proof_of_fork before blocks one other

-- ---- the first pair

-- what is found with the first item that something is found with
abbrev pub first_with : {A B : Type 0} → (A → Option B) → List A → Option B
first_with f [] = None
first_with f (x ∷ xs) = option_or (f x) (first_with f xs)

-- what is found of the first pair of items that something is found of: by the earlier item of the two, and then by the later one
abbrev pub first_pair : {A B : Type 0} → (A → A → Option B) → List A → Option B
first_pair f [] = None
first_pair f (x ∷ xs) = option_or (first_with (f x) xs) (first_pair f xs)

-- the bytes of the proof of the first two heads, where there are two that the blocks show as forked
abbrev pub find_fork : Before → List (List ℕ) → List (List ℕ) → Option (List ℕ)
find_fork before heads blocks = first_pair (fork_of before blocks) (filter_map tip_of heads)
