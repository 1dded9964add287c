-- The steps of the row, over its list of marks.
use Rattle.std.proofs.Common.{◌≡◌, ℕ, Bool, true, false, not, ◌+◌, ◌-◌, ◌<◌, ◌≤◌, T, List, length, Some, None, sym, ap, subst, ◌∙◌, inl, inr, arith}
use Rattle.std.proofs.lemmas.Bool.{cases_lt, both_ways}
use Rattle.std.specs.Ordering.{eq_by_cmp}
use Rattle.std.specs.FinMap.Entries.{put, where_key, is_sorted, is_sorted-where_key, is_sorted-put}
use Rattle.inode_replay.specs.declared.ranges.Range.{Range}
use Rattle.inode_replay.specs.Ends.{end_cmp}
use Rattle.inode_replay.specs.Marks.{start_of, is_marked, marks_of, count_marked, mark_at, AreApart, AreSet, IsBare, IsFirstFrom, IsTakenOut}
use Rattle.inode_replay.proofs.FoundRanges.{Entries, ChangesOne, Shows, shows, put_one, removed_one, total}
use Rattle.inode_replay.proofs.Changes.{bare_none, bare_far, put_sets, put_apart, taken_apart, taken_bare, taken_sets}
use Rattle.inode_replay.proofs.MarkPlaces.{length-marks_of, at_marks, same_count, counted}

-- the same marks, seen by other lists
sets_as : {a b c d : ℕ → Bool} (s e : ℕ) (mark : Bool) → ((p : ℕ) → a p ≡ b p) → ((p : ℕ) → c p ≡ d p) → AreSet b d s e mark → AreSet a c s e mark
sets_as s e mark old new set = record {
  inside = λ p low high. new p ∙ set.inside p low high;
  before = λ p l. new p ∙ set.before p l ∙ sym (old p);
  behind = λ p l. new p ∙ set.behind p l ∙ sym (old p);
}

-- ranges in a map, of which a row of that size has these marks
pub record IsRow (es : Entries) (size : ℕ) (marks : List Bool) : Type 0 where
  pub ordered : T (is_sorted end_cmp es)
  pub apart : AreApart (start_of es) size
  pub seen : marks_of es size ≡ marks

-- what a row is with a range put in, and with one taken out
pub record IsPutIn (old : List Bool) (es : Entries) (size : ℕ) (range : Range) : Type 0 where
  pub ordered : T (is_sorted end_cmp es)
  pub apart : AreApart (start_of es) size
  pub set : AreSet (mark_at old) (mark_at (marks_of es size)) range.start range.end true
  pub long : length (marks_of es size) ≡ length old
  pub more : count_marked (marks_of es size) ≡ count_marked old + (range.end - range.start)

pub record IsLeft (old : List Bool) (es : Entries) (size start end : ℕ) (range : Range) : Type 0 where
  pub ordered : T (is_sorted end_cmp es)
  pub apart : AreApart (start_of es) size
  pub taken : IsTakenOut old (marks_of es size) start end range

module _ {es : Entries} {size : ℕ} {old : List Bool} (row : IsRow es size old) where
  showing : Shows (start_of es) (is_marked es)
  showing = shows es row.ordered

  pub size_is : size ≡ length old
  size_is = sym (length-marks_of es size) ∙ ap length row.seen

  at_old : (p : ℕ) → mark_at old p ≡ is_marked es p
  at_old p = ap (λ l. mark_at l p) (sym row.seen) ∙ at_marks es size showing row.apart p

  -- ---- another size

  module _ (n : ℕ) (bare : (p : ℕ) → n ≤ p → mark_at old p ≡ false) where
    pub resized_apart : AreApart (start_of es) n
    resized_apart = record {
      within = λ e s there.
          let w = row.apart.within e s there in (
            w.0,
            elim (cases_lt n e) [
              | inl l ↦ absurd (both_ways (is_marked es (e - 1)) (sym (at_old (e - 1)) ∙ bare (e - 1) (omega arith)) (showing.inside (e - 1) e s there (omega arith) (omega arith)))
              | inr l ↦ l
            ],
          );
      gap = row.apart.gap;
    }

    pub resized_same : (p : ℕ) → mark_at (marks_of es n) p ≡ mark_at old p
    resized_same p = at_marks es n showing resized_apart p ∙ sym (at_old p)

    pub resized_count : count_marked (marks_of es n) ≡ count_marked old
    resized_count = same_count (marks_of es n) old resized_same

  -- ---- no range beside the places

  pub none_beside : (start end : ℕ) → ((e : ℕ) → start ≤ e → start_of es e ≡ None) → IsBare (mark_at old) start end
  none_beside start end none p low high = at_old p ∙ bare_none (start_of es) (is_marked es) showing size row.apart start end none p low high

  pub far_behind : (start end : ℕ) (range : Range) → IsFirstFrom (start_of es) start range → end < range.start → IsBare (mark_at old) start end
  far_behind start end range first far p low high = at_old p ∙ bare_far (start_of es) (is_marked es) showing size row.apart start end range first far p low high

  module _ (fs : Entries) (range : Range) where
    -- ---- a range put in

    pub put_in : range.start < range.end → range.end ≤ length old → IsBare (mark_at old) range.start range.end → fs ≡ put end_cmp (record { 0 = range.end }) range.start es → IsPutIn old fs size range
    put_in some fits bare change =
        let ordered = subst (λ l. T (is_sorted end_cmp l)) (sym change) (is_sorted-put end_cmp total (record { 0 = range.end }) range.start es row.ordered) in
        let changes = subst (λ l. ChangesOne (start_of es) (start_of l) range.end (Some range.start)) (sym change) (put_one range.end es range.start) in
        let shown = shows fs ordered in
        let none = λ (p : ℕ) (low : range.start ≤ p + 1) (high : p ≤ range.end). sym (at_old p) ∙ bare p low high in
        let apart = put_apart (start_of es) (is_marked es) showing size row.apart (start_of fs) (is_marked fs) shown range.end range.start some none changes (omega (arith, size_is)) in
        let set = sets_as range.start range.end true at_old (at_marks fs size shown apart) (put_sets (start_of es) (is_marked es) showing size row.apart (start_of fs) (is_marked fs) shown range.end range.start some none changes) in
        let long = length-marks_of fs size ∙ size_is in
        record {
          ordered = ordered;
          apart = apart;
          set = set;
          long = long;
          more = counted old (marks_of fs size) range.start range.end (omega arith) long (λ p low high. bare p (omega arith) (omega arith)) set fits;
        }

    -- ---- a range taken out

    pub take_out : (start end : ℕ) → IsFirstFrom (start_of es) start range → range.start ≤ end → fs ≡ where_key end_cmp (λ x. not (eq_by_cmp end_cmp (record { 0 = range.end }) x)) es → IsLeft old fs size start end range
    take_out start end first near change =
        let ordered = subst (λ l. T (is_sorted end_cmp l)) (sym change) (is_sorted-where_key end_cmp (λ x. not (eq_by_cmp end_cmp (record { 0 = range.end }) x)) es row.ordered) in
        let changes = subst (λ l. ChangesOne (start_of es) (start_of l) range.end None) (sym change) (removed_one range.end es) in
        let shown = shows fs ordered in
        let ends = row.apart.within range.end range.start first.there in
        let within : range.end ≤ length old = omega (arith, size_is) in
        let apart = taken_apart (start_of es) (is_marked es) showing size row.apart (start_of fs) (is_marked fs) shown range.end range.start ends.0 first.there changes in
        let at_new = at_marks fs size shown apart in
        let long : length (marks_of fs size) ≡ length old = length-marks_of fs size ∙ size_is in
        let full = λ (p : ℕ) (low : range.start ≤ p) (high : p < range.end). at_old p ∙ showing.inside p range.end range.start first.there low high in
        let bare = λ (p : ℕ) (low : range.start ≤ p + 1) (high : p ≤ range.end). at_new p ∙ taken_bare (start_of es) (is_marked es) showing size row.apart (start_of fs) (is_marked fs) shown range.end range.start ends.0 first.there changes p low high in
        let cleared = sets_as range.start range.end false at_old at_new (taken_sets (start_of es) (is_marked es) showing size row.apart (start_of fs) (is_marked fs) shown range.end range.start ends.0 first.there changes) in
        let back : AreSet (mark_at (marks_of fs size)) (mark_at old) range.start range.end true = record {
          inside = full;
          before = λ p l. sym (cleared.before p l);
          behind = λ p l. sym (cleared.behind p l);
        } in
        record {
          ordered = ordered;
          apart = apart;
          taken = record {
            beside = (near, first.behind);
            within = (ends.0, within);
            long = long;
            full = full;
            cleared = cleared;
            bare = bare;
            fewer = counted (marks_of fs size) old range.start range.end (omega arith) (sym long) cleared.inside back (omega arith);
          };
        }
