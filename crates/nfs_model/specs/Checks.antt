-- Checks in their order, of which the first that fails decides.
use Rattle.std.specs.Prelude.{ℕ, nat_lt, Bool, ◌||◌, List, [], ◌∷◌, length, Option, Some, None, ◌==◌, if◌then◌else◌}
use Rattle.std.specs.List.{list_any}
use Rattle.std.specs.Cmp.Lexicographic.{slice_cmp}
use Rattle.std.specs.Ordering.{nat_cmp, is_eq}
use Rattle.nfs_model.specs.declared.replies.NfsStatus.{NfsStatus}
use Rattle.nfs_model.specs.declared.replies.NfsStatus.TheVariants.{NameTooLong, Inval}

-- whether it fails, and with which status
abbrev pub Check : Type 0
Check = Bool × NfsStatus

-- the status of the first check that fails
abbrev pub first_failure : List Check → Option NfsStatus
first_failure [] = None
first_failure (c ∷ cs) = if c.0 then Some c.1 else first_failure cs

-- a comparison of bytes, as a test
abbrev pub same_bytes : List ℕ → List ℕ → Bool
same_bytes xs ys = is_eq (slice_cmp nat_cmp xs ys)

-- the checks on a name: above 255 bytes it is too long; empty, or with a slash (47) or a zero byte, it is invalid
abbrev pub too_long_name : List ℕ → Check
too_long_name name = (nat_lt 255 (length name), NameTooLong)

abbrev pub invalid_name : List ℕ → Check
invalid_name name = (length name == 0 || list_any (λ b. b == 47 || b == 0) name, Inval)

abbrev pub is_dot : List ℕ → Bool
is_dot name = same_bytes name (46 ∷ [])

abbrev pub is_dot_dot : List ℕ → Bool
is_dot_dot name = same_bytes name (46 ∷ 46 ∷ [])
