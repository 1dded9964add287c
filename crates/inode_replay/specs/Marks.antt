-- Marks as ranges of places: each range is kept under its end, and its start is the value.
use Rattle.std.specs.Prelude.{◌≡◌, ℕ, ◌+◌, ◌-◌, ◌<◌, ◌≤◌, Bool, true, false, ◌&&◌, nat_le, nat_lt, List, length, map, count_by}
use Rattle.std.specs.Prelude.{slice_index_or, Option, Some, None}
use Rattle.std.specs.List.{list_any, range_with_len}
use Rattle.std.specs.FinMap.Entries.{find as value_at}
use Rattle.inode_replay.specs.declared.ranges.Range.{Range}
use Rattle.inode_replay.specs.declared.ranges.RangeEnd.{RangeEnd}
use Rattle.inode_replay.specs.Ends.{end_cmp}

-- the start of the range that ends there
abbrev pub start_of : List (RangeEnd × ℕ) → ℕ → Option ℕ
start_of ranges end = value_at end_cmp (record { 0 = end }) ranges

abbrev pub contains : ℕ → RangeEnd × ℕ → Bool
contains place range = nat_le range.1 place && nat_lt place range.0.0

-- whether some range contains the place
abbrev pub is_marked : List (RangeEnd × ℕ) → ℕ → Bool
is_marked ranges place = list_any (contains place) ranges

-- the marks of the places below the size
unfoldable pub marks_of : List (RangeEnd × ℕ) → ℕ → List Bool
marks_of ranges size = map (is_marked ranges) (range_with_len 0 size)

abbrev pub count_marked : List Bool → ℕ
count_marked marks = count_by (λ m. m) marks

-- no range is empty or ends after the size, and between two of them there is a place
pub record AreApart (starts : ℕ → Option ℕ) (size : ℕ) : Type 0 where
  pub within : (e s : ℕ) → starts e ≡ Some s → (s < e) × (e ≤ size)
  pub gap : (e s f t : ℕ) → starts e ≡ Some s → starts f ≡ Some t → e < f → e < t

-- the first range that ends at or after the place
pub record IsFirstFrom (starts : ℕ → Option ℕ) (place : ℕ) (range : Range) : Type 0 where
  pub there : starts range.end ≡ Some range.start
  pub behind : place ≤ range.end
  pub first : (e : ℕ) → place ≤ e → e < range.end → starts e ≡ None

-- the mark at a place; after the end there is none
abbrev pub mark_at : List Bool → ℕ → Bool
mark_at marks place = slice_index_or marks place false

-- neither a place from the start to the end is marked, nor one beside them: a range there would touch no other
abbrev pub IsBare : (ℕ → Bool) → ℕ → ℕ → Type 0
IsBare marked start end = (p : ℕ) → start ≤ p + 1 → p ≤ end → marked p ≡ false

-- the places from the start to the end have that mark, and the others the same as before
pub record AreSet (old new : ℕ → Bool) (start end : ℕ) (mark : Bool) : Type 0 where
  pub inside : (p : ℕ) → start ≤ p → p < end → new p ≡ mark
  pub before : (p : ℕ) → p < start → new p ≡ old p
  pub behind : (p : ℕ) → end ≤ p → new p ≡ old p

-- the range shared a place with those from the start to the end or touched them, and none of its places is marked any more
pub record IsTakenOut (old new : List Bool) (start end : ℕ) (range : Range) : Type 0 where
  pub beside : (range.start ≤ end) × (start ≤ range.end)
  pub within : (range.start < range.end) × (range.end ≤ length old)
  pub long : length new ≡ length old
  pub full : (p : ℕ) → range.start ≤ p → p < range.end → mark_at old p ≡ true
  pub cleared : AreSet (mark_at old) (mark_at new) range.start range.end false
  pub bare : IsBare (mark_at new) range.start range.end
  pub fewer : count_marked old ≡ count_marked new + (range.end - range.start)

-- the wide range has this range's places and else only marked ones, and nothing has changed but in it
pub record IsWidened (old new : List Bool) (range wide : Range) : Type 0 where
  pub around : (wide.start ≤ range.start) × (range.end ≤ wide.end)
  pub within : wide.end ≤ length old
  pub long : length new ≡ length old
  pub in_front : (p : ℕ) → wide.start ≤ p → p < range.start → mark_at old p ≡ true
  pub at_back : (p : ℕ) → range.end ≤ p → p < wide.end → mark_at old p ≡ true
  pub before : (p : ℕ) → p < wide.start → mark_at new p ≡ mark_at old p
  pub behind : (p : ℕ) → wide.end ≤ p → mark_at new p ≡ mark_at old p
