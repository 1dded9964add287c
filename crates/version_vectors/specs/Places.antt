-- Where a log stands in a vector, whose entries ascend by log.
use Rattle.std.specs.Prelude.{◌≡◌, ℕ, ◌+◌, ◌<◌, ◌≤◌, ◌∷◌, ◌++◌, length, take, drop, true}
use Rattle.std.specs.Ordering.{is_lt}
use Rattle.std.specs.List.{AllByRecursion}
use Rattle.std.specs.FinMap.Entries.{put}
use Rattle.ivy_base.specs.declared.key.Key.{Key}
use Rattle.ivy_base.specs.Naming.{key_cmp}
use Rattle.log_model.specs.Vector.{Stamp, Vector, without_log}

-- the logs of these entries come before that one
abbrev pub AreBefore : Key → Vector → Type 0
AreBefore log v = AllByRecursion (λ e. is_lt (key_cmp e.0 log) ≡ true) v

-- and of these after it
abbrev pub AreBehind : Key → Vector → Type 0
AreBehind log v = AllByRecursion (λ e. is_lt (key_cmp log e.0) ≡ true) v

-- the entry of that index is the log's
pub record IsAt (log : Key) (v : Vector) (i : ℕ) : Type 0 where
  pub within : i < length v
  pub stamp : Stamp
  pub parts : v ≡ take i v ++ (log, stamp) ∷ drop (i + 1) v
  pub before : AreBefore log (take i v)
  pub behind : AreBehind log (drop (i + 1) v)

-- no entry is the log's: those below that index come before it, and the others after it
pub record IsBetween (log : Key) (v : Vector) (i : ℕ) : Type 0 where
  pub within : i ≤ length v
  pub before : AreBefore log (take i v)
  pub behind : AreBehind log (drop i v)

-- the entries of the other logs, in two parts: an entry of the log stands between them
pub record IsAround (log : Key) (v front back : Vector) : Type 0 where
  pub others : without_log log v ≡ front ++ back
  pub between : (s : Stamp) → put key_cmp log s v ≡ front ++ (log, s) ∷ back
