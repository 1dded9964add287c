-- Vectors that a member of the view may cite, how far their joins go, and what is kept with one joined in.
use Rattle.std.proofs.Common.{◌≡◌, ℕ, ◌≤◌, [], ◌∷◌, Option, Some, None, refl, sym, ap, ◌∙◌, arith}
use Rattle.std.specs.Prelude.{IsTrue}
use Rattle.std.specs.List.{AllByRecursion}
use Rattle.ivy_base.specs.declared.key.Key.{Key}
use Rattle.log_model.specs.Vector.{Entry, Stamp, Vector, join, reach, seq_of, stamp_at, with_entry}
use Rattle.log_model.specs.View.{View, IsView, is_named}
use Rattle.log_model.proofs.Lists.{each_from}
use Rattle.log_model.proofs.Vectors.{Dominates-join}
use Rattle.log_model.proofs.Weights.{Sorted, joins_reach, sorted_with_entry}
use Rattle.version_vectors.specs.Vectors.{EntryFits}
use Rattle.snapshot_model.specs.Blocks.{IsVectorSpelled}
use Rattle.turn_laws.proofs.Entries.{at_stamp, each_join}
use Rattle.turn_laws.proofs.Heads.{short_named}
use Rattle.turn_laws.proofs.Whole.{at_entry}
use Rattle.ivy_agent.specs.Appended.{MayBeCited}

pub spelled : (view : View) (v : Vector) → IsView view → MayBeCited view v → IsVectorSpelled v
spelled view v well cited =
    let short = short_named view v well cited.whole.in_order cited.named in
    record { each = cited.whole.entries; in_order = cited.whole.in_order; short = omega (arith, short) }

pub may_be_cited : (view : View) (v : Vector) → IsVectorSpelled v → AllByRecursion (λ e. IsTrue (is_named view e.0)) v → MayBeCited view v
may_be_cited view v h named = record { whole = record { entries = h.each; in_order = h.in_order }; named = named }

-- ---- joins

sorted_join : (w v : Vector) → Sorted v → Sorted (join v w)
sorted_join [] v h = h
sorted_join (e ∷ w) v h = sorted_join w (with_entry v e) (sorted_with_entry v e h)

pub join_may_be_cited : (view : View) (v w : Vector) → MayBeCited view v → MayBeCited view w → MayBeCited view (join v w)
join_may_be_cited view v w h g = record {
  whole = record {
    entries = each_join EntryFits v w h.whole.entries g.whole.entries;
    in_order = sorted_join w v h.whole.in_order;
  };
  named = each_join (λ e. IsTrue (is_named view e.0)) v w h.named g.named;
}

-- of that log the entry goes so far at most
abbrev IsUpTo : Key → ℕ → Entry → Type 0
IsUpTo log n e = e.0 ≡ log → e.1.seq ≤ n

each_up_to : (log : Key) (n : ℕ) (v : Vector) → Sorted v → seq_of v log ≤ n → AllByRecursion (IsUpTo log n) v
each_up_to log n v sorted far = each_from (IsUpTo log n) v (λ e c is.
    let at : seq_of v log ≡ e.1.seq = ap (λ (l : Key). seq_of v l) (sym is) ∙ ap reach (at_entry v e sorted c) in
    omega (arith, at, far))

goes_up_to : (log : Key) (n : ℕ) (v : Vector) → AllByRecursion (IsUpTo log n) v → seq_of v log ≤ n
goes_up_to log n v h = by (stamp_at v log) refl
  where
    by : (o : Option Stamp) → stamp_at v log ≡ o → reach o ≤ n
    by None e = omega arith
    by (Some t) e = at_stamp (IsUpTo log n) v log t h e refl

-- a join goes no further than both parts
pub join_up_to : (log : Key) (n : ℕ) (v w : Vector) → Sorted v → Sorted w → seq_of v log ≤ n → seq_of w log ≤ n → seq_of (join v w) log ≤ n
join_up_to log n v w sorted sorted_too far far_too =
    goes_up_to log n (join v w) (each_join (IsUpTo log n) v w (each_up_to log n v sorted far) (each_up_to log n w sorted_too far_too))

-- and as far as each
pub join_from_first : (log : Key) (v w : Vector) → seq_of v log ≤ seq_of (join v w) log
join_from_first log v w = Dominates-join v w log

pub join_from_second : (log : Key) (v w : Vector) → seq_of w log ≤ seq_of (join v w) log
join_from_second log v w = (joins_reach (w ∷ []) v).0 log
