-- The levels, one by one: what was read of them, and the first fault.
use Rattle.std.proofs.Common.{◌≡◌, ℕ, zero, suc, Bool, true, false, ◌&&◌, ◌-◌, List, ◌∷◌, length, take, cond, eqb, Result, Ok, Err, refl, sym, ap, ◌∙◌, arith}
use Rattle.std.specs.List.{list_all}
use Rattle.std.proofs.lemmas.Bool.{eq-eqb}
use Rattle.hash_signature_model.specs.declared.set.LmsFault.{LmsFault}
use Rattle.hash_signature_model.specs.declared.set.LmsFault.TheVariants.{Malformed, Wrong}
use Rattle.hash_signature_model.specs.declared.keys.PublicKey.{PublicKey}
use Rattle.hash_signature_model.specs.Signatures.{Signature}
use Rattle.hash_signature_model.specs.Reading.{◌>>=◌, read_word, key_at, signature_at, whole_signature}
use Rattle.hash_signature_model.specs.Levels.{Level, is_right, whole_levels, whole_hss_key, whole_hss_signature, hss_verdict}
use Rattle.hss_keys.specs.Checks.{right_levels}

-- a Boolean and the other one in the other order
and_turned : (a b : Bool) → (a && b) ≡ (b && a)
and_turned true true = refl
and_turned true false = refl
and_turned false true = refl
and_turned false false = refl

-- ---- the last level

pub last_read : (key : PublicKey) (message bytes : List ℕ) (s : Signature) (rest : List ℕ) → signature_at key.set bytes ≡ Ok (s, rest) → eqb (length rest) 0 ≡ true → right_levels 0 key message bytes ≡ Ok (is_right (record { key = key; signed = message; signature = s }))
unfolding right_levels whole_levels whole_signature
last_read key message bytes s rest e none = rw (e, none) (ap (λ (b : Bool). Ok b) (and_turned (is_right (record { key = key; signed = message; signature = s })) true))

pub last_left : (key : PublicKey) (message bytes : List ℕ) (s : Signature) (rest : List ℕ) → signature_at key.set bytes ≡ Ok (s, rest) → eqb (length rest) 0 ≡ false → right_levels 0 key message bytes ≡ Err Malformed
unfolding right_levels whole_levels whole_signature
last_left key message bytes s rest e some = rw (e, some) refl

-- ---- a level above others

-- what the levels below give is what the levels below and this one give
below_then : (r : Result (List Level) LmsFault) (level : Level) (b : Bool) → (r >>= λ below. Ok (list_all is_right below)) ≡ Ok b → (r >>= λ below. Ok (level ∷ below)) >>= (λ levels. Ok (list_all is_right levels)) ≡ Ok (is_right level && b)
below_then (Ok below) level b e = ap (λ (r : Result Bool LmsFault). r >>= λ c. Ok (is_right level && c)) e
below_then (Err d) level b e = absurd cc

below_fails : (r : Result (List Level) LmsFault) (level : Level) (d : LmsFault) → (r >>= λ below. Ok (list_all is_right below)) ≡ Err d → (r >>= λ below. Ok (level ∷ below)) >>= (λ levels. Ok (list_all is_right levels)) ≡ Err d
below_fails (Ok below) level d e = absurd cc
below_fails (Err f) level d e = cc

above_read : (n : ℕ) (key next : PublicKey) (message bytes rest after : List ℕ) (s : Signature) (b : Bool) → signature_at key.set bytes ≡ Ok (s, rest) → key_at rest ≡ Ok (next, after) → right_levels n next message after ≡ Ok b → right_levels (suc n) key message bytes ≡ Ok (b && is_right (record { key = key; signed = take 56 rest; signature = s }))
unfolding right_levels whole_levels
above_read n key next message bytes rest after s b e k below =
    let level : Level = record { key = key; signed = take 56 rest; signature = s } in
    rw (e, k) (below_then (whole_levels n next message after) level b below ∙ ap (λ (c : Bool). Ok c) (and_turned (is_right level) b))

above_below_fails : (n : ℕ) (key next : PublicKey) (message bytes rest after : List ℕ) (s : Signature) (d : LmsFault) → signature_at key.set bytes ≡ Ok (s, rest) → key_at rest ≡ Ok (next, after) → right_levels n next message after ≡ Err d → right_levels (suc n) key message bytes ≡ Err d
unfolding right_levels whole_levels
above_below_fails n key next message bytes rest after s d e k below =
    rw (e, k) (below_fails (whole_levels n next message after) (record { key = key; signed = take 56 rest; signature = s }) d below)

above_next_fails : (n : ℕ) (key : PublicKey) (message bytes rest : List ℕ) (s : Signature) (d : LmsFault) → signature_at key.set bytes ≡ Ok (s, rest) → key_at rest ≡ Err d → right_levels (suc n) key message bytes ≡ Err d
unfolding right_levels whole_levels
above_next_fails n key message bytes rest s d e k = rw (e, k) refl

-- the same of n keys between, where there is one
one_less : (n : ℕ) → ¬ (n ≡ 0) → suc (n - 1) ≡ n
one_less zero some = absurd (some refl)
one_less (suc n) some = omega arith

pub upper_read : (n : ℕ) (key next : PublicKey) (message bytes rest after signed : List ℕ) (s : Signature) (b : Bool) → ¬ (n ≡ 0) → signature_at key.set bytes ≡ Ok (s, rest) → key_at rest ≡ Ok (next, after) → signed ≡ take 56 rest → right_levels (n - 1) next message after ≡ Ok b → right_levels n key message bytes ≡ Ok (b && is_right (record { key = key; signed = signed; signature = s }))
upper_read n key next message bytes rest after signed s b some e k same below =
    ap (λ (m : ℕ). right_levels m key message bytes) (sym (one_less n some)) ∙ above_read (n - 1) key next message bytes rest after s b e k below
    ∙ ap (λ (t : List ℕ). Ok (b && is_right (record { key = key; signed = t; signature = s }))) (sym same)

pub upper_below_fails : (n : ℕ) (key next : PublicKey) (message bytes rest after : List ℕ) (s : Signature) (d : LmsFault) → ¬ (n ≡ 0) → signature_at key.set bytes ≡ Ok (s, rest) → key_at rest ≡ Ok (next, after) → right_levels (n - 1) next message after ≡ Err d → right_levels n key message bytes ≡ Err d
upper_below_fails n key next message bytes rest after s d some e k below =
    ap (λ (m : ℕ). right_levels m key message bytes) (sym (one_less n some)) ∙ above_below_fails (n - 1) key next message bytes rest after s d e k below

pub next_fails : (n : ℕ) (key : PublicKey) (message bytes rest : List ℕ) (s : Signature) (d : LmsFault) → ¬ (n ≡ 0) → signature_at key.set bytes ≡ Ok (s, rest) → key_at rest ≡ Err d → right_levels n key message bytes ≡ Err d
next_fails n key message bytes rest s d some e k =
    ap (λ (m : ℕ). right_levels m key message bytes) (sym (one_less n some)) ∙ above_next_fails (n - 1) key message bytes rest s d e k

pub signature_fails : (n : ℕ) (key : PublicKey) (message bytes : List ℕ) (d : LmsFault) → signature_at key.set bytes ≡ Err d → right_levels n key message bytes ≡ Err d
unfolding right_levels whole_levels whole_signature
signature_fails zero key message bytes d e = rw e refl
signature_fails (suc n) key message bytes d e = rw e refl

-- ---- the answer

decided : (r : Result (List Level) LmsFault) → (r >>= λ levels. cond (list_all is_right levels) (Ok (tt {0})) (Err Wrong)) ≡ ((r >>= λ levels. Ok (list_all is_right levels)) >>= λ right. cond right (Ok tt) (Err Wrong))
decided (Ok levels) = refl
decided (Err d) = refl

pub verdict_is : (public message bytes : List ℕ) (n m : ℕ) (k : PublicKey) (rest : List ℕ) → whole_hss_key public ≡ Ok (n, k) → read_word bytes ≡ Ok (m, rest) → m ≡ n → hss_verdict public message bytes ≡ (right_levels n k message rest >>= λ right. cond right (Ok (tt {0})) (Err Wrong))
unfolding hss_verdict whole_hss_signature right_levels
verdict_is public message bytes n m k rest key number same = rw (key, number, eq-eqb m n same) (decided (whole_levels n k message rest))
