-- Conflicts: two records that touch one entry of a directory, or one byte range of a file, while neither knows the other.
use Rattle.std.specs.Prelude.{ℕ, nat_le, Bool, ◌&&◌, ◌||◌, not}
use Rattle.std.specs.Prelude.{List, [], ◌∷◌, ◌++◌, if◌then◌else◌}
use Rattle.std.specs.List.{flat_map}
use Rattle.ivy_base.specs.Naming.{head_key_of}
use Rattle.log_model.specs.Vector.{seq_of}
use Rattle.log_model.specs.Record.{Record}
use Rattle.log_model.specs.Rank.{Rank, rank, full_vector}
use Rattle.log_model.specs.Touching.{share_entry, share_bytes}

-- r knows s (Ivy): its vector, with its own number, goes as far in s's log as s
abbrev pub knows : Record → Record → Bool
knows r s = nat_le s.seq (seq_of (full_vector r) (head_key_of s.owner))

-- neither knows the other
abbrev pub are_concurrent : Record → Record → Bool
are_concurrent r s = not (knows r s) && not (knows s r)

abbrev pub touch : Record → Record → Bool
touch r s = share_entry r.op s.op || share_bytes r.op s.op

abbrev pub in_conflict : Record → Record → Bool
in_conflict r s = touch r s && are_concurrent r s

-- ---- the list

-- a pair by its ranks, the smaller first, and whether it touches bytes; else it touches an entry
pub record Clash : Type 0 where
  pub first : Rank
  pub second : Rank
  pub bytes : Bool

abbrev pub clash_of : Record → Record → Clash
clash_of r s = record { first = rank r; second = rank s; bytes = share_bytes r.op s.op }

abbrev pub clash_with : Record → Record → List Clash
clash_with r s = if in_conflict r s then clash_of r s ∷ [] else []

-- of each record the clashes with those after it
abbrev pub clashes : List Record → List Clash
clashes [] = []
clashes (r ∷ rs) = flat_map (clash_with r) rs ++ clashes rs

-- no list that is given has more
abbrev pub most_clashes : ℕ
most_clashes = 1000000
