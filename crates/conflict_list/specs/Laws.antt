-- Laws of the list of conflicts: exactly which pairs it has, and in which order.
use Rattle.std.specs.Prelude.{◌≡◌, ◌⊎◌, ◌↔◌, ℕ, true, List, [], ◌∷◌, Contains, Some, IsTrue}
use Rattle.std.specs.List.{AllByRecursion}
use Rattle.std.specs.Ordering.{is_lt}
use Rattle.ivy_base.specs.declared.operation.Op.{Op}
use Rattle.tree_model.specs.Tree.{Place}
use Rattle.log_model.specs.Closed.{IsAscending}
use Rattle.log_model.specs.Record.{Record}
use Rattle.log_model.specs.Rank.{record_cmp, rank_cmp}
use Rattle.log_model.specs.Touching.{Span, places, share_entry, span, share_bytes, is_within}
use Rattle.log_model.specs.Conflicts.{Clash, clashes, clash_of, are_concurrent, touch}

-- two of the records, the first of a smaller rank, that touch one thing while neither knows the other
pub record IsConflict (records : List Record) (c : Clash) : Type 0 where
  pub r : Record
  pub s : Record
  pub stand : Contains records r × Contains records s
  pub in_order : IsTrue (is_lt (record_cmp r s))
  pub concurrent : are_concurrent r s ≡ true
  pub touches : touch r s ≡ true
  pub is : c ≡ clash_of r s

-- by the first rank, and then by the second
abbrev pub IsBefore : Clash → Clash → Type 0
IsBefore c d = IsTrue (is_lt (rank_cmp c.first d.first)) ⊎ ((c.first ≡ d.first) × IsTrue (is_lt (rank_cmp c.second d.second)))

abbrev pub AreInOrder : List Clash → Type 0
AreInOrder [] = Unit {0}
AreInOrder (c ∷ cs) = AllByRecursion (IsBefore c) cs × AreInOrder cs

-- Of records that ascend by rank, the list has exactly the pairs in conflict, in that order, so each once.
abbrev pub ListIsExact : Type 0
ListIsExact = (records : List Record) → IsAscending records
    → ((c : Clash) → Contains (clashes records) c ↔ IsConflict records c) × AreInOrder (clashes records)

-- Two operations touch one entry where a name of a directory stands in both.
abbrev pub EntriesAreShared : Type 0
EntriesAreShared = (o p : Op) → (share_entry o p ≡ true) ↔ ((place : Place) × Contains (places o) place × Contains (places p) place)

-- They touch one byte range where each has one, of one file, and these have a place in common.
pub record HaveBytes (o p : Op) : Type 0 where
  pub one : Span
  pub other : Span
  pub of_one : span o ≡ Some one
  pub of_other : span p ≡ Some other
  pub file : one.file ≡ other.file
  pub place : ℕ
  pub in_one : IsTrue (is_within place one)
  pub in_other : IsTrue (is_within place other)

abbrev pub BytesAreShared : Type 0
BytesAreShared = (o p : Op) → (share_bytes o p ≡ true) ↔ HaveBytes o p
