-- What an engine holds after any list of calls.
use Rattle.std.proofs.Common.{◌≡◌, ◌≢◌, ⊎_elim, ◌<◌, ◌≤◌, Bool, true, false, cond, not, List, [], ◌∷◌, ◌++◌, take, map, None, refl, sym, ap, ◌∙◌, subst, arith, Contains}
use Rattle.std.specs.Prelude.{IsTrue}
use Rattle.std.specs.List.{AllByRecursion}
use Rattle.std.specs.Ordering.{eq_by_cmp, is_eq}
use Rattle.std.specs.declared.cmp.Ordering.{Ordering}
use Rattle.std.specs.declared.cmp.Ordering.TheVariants.{Less, Equal, Greater}
use Rattle.std.specs.Cmp.{eq_by_cmp_equiv}
use Rattle.std.specs.FinMap.Entries.{by_order, is_sorted-where_key, find-where_key}
use Rattle.std.proofs.lemmas.List.Elements.{Contains-append_left, Contains-append_right, Contains-append_cases}
use Rattle.ivy_base.specs.declared.key.Key.{Key}
use Rattle.ivy_base.specs.Naming.{key_cmp, head_key_of}
use Rattle.tree_model.specs.Tree.{Tree}
use Rattle.tree_model.proofs.Keys.{keys_total, exact_keys}
use Rattle.tree_model.proofs.Sound.{from_test, to_test}
use Rattle.tree_model.specs.Apply.{apply_all}
use Rattle.log_model.specs.View.{View}
use Rattle.log_model.specs.Vector.{Vector, seq_of, reach, stamp_at, weight_of, without_log}
use Rattle.log_model.specs.Record.{Record}
use Rattle.log_model.specs.Rank.{weight, front, full_vector, record_cmp}
use Rattle.log_model.specs.Spelling.{HasSpelling}
use Rattle.log_model.specs.Closed.{IsAscending}
use Rattle.log_model.specs.Replay.{with_record, in_order, effect}
use Rattle.log_model.proofs.Lists.{here, there, in_cons, in_nothing, each_from, each, each_append}
use Rattle.log_model.proofs.Sets.{IsBefore, in_order_in, with_old, lighter_is_before}
use Rattle.log_model.proofs.Later.{replay_more, good_of}
use Rattle.log_model.proofs.Weights.{Sorted, sorted_front, weight-mono, weight_by_log, full_other, no_heavier_than_front}
use Rattle.replay_engine.specs.Rows.{IsRow, union}
use Rattle.replay_engine.proofs.Unions.{union_in_order}
use Rattle.turn_model.specs.Basis.{Basis, StandsFor, IsAboveTide}
use Rattle.replay_engine.specs.Places.{AreNew}
use Rattle.replay_engine.specs.Engines.{Engine, taken_in, undone}
use Rattle.replay_engine.specs.Laws.{Call, Absorb, Append, Undo, after_all, AllMayBe, without_first, standing, all_of, opened, Holds, ReplayIsIncremental}
use Rattle.replay_engine.proofs.Placed.{new_with_all, taken_row, behind_new}

-- ---- what a union has

with_has : (s : List Record) (r : Record) → AllByRecursion (λ q. IsTrue (not (is_eq (record_cmp r q)))) s → Contains (with_record s r) r
with_has [] r h = here r []
with_has (q ∷ s) r h = by (record_cmp r q) h.0 (with_has s r h.1)
  where
    by : (o : Ordering) → IsTrue (not (is_eq o)) → Contains (with_record s r) r → Contains (by_order o (r ∷ q ∷ s) (q ∷ s) (q ∷ with_record s r)) r
    by Less n again = here r (q ∷ s)
    by Equal n again = cc
    by Greater n again = there q (with_record s r) r again

union_old : (s more : List Record) (q : Record) → Contains s q → Contains (union s more) q
union_old s [] q c = c
union_old s (r ∷ more) q c = union_old (with_record s r) more q (with_old s r q c)

union_new : (s more : List Record) (q : Record) → IsAscending more → AreNew s more → Contains more q → Contains (union s more) q
union_new s [] q up new c = absurd (in_nothing q c)
union_new s (r ∷ more) q up new c =
    ⊎_elim (λ e. subst (λ (x : Record). Contains (union (with_record s r) more) x) e (union_old (with_record s r) more r (with_has s r new.0)))
    (λ d. union_new (with_record s r) more q up.1 (new_with_all s r more up new) d) (in_cons r more q c)

-- ---- what each call leaves

abbrev pub HoldAll : Basis → List (List Record) → List (List Record) → Type 0
HoldAll b taken [] = Unit {0}
HoldAll b taken (h ∷ hs) = Holds b taken h × HoldAll b (without_first taken) hs

hold_two : (b : Basis) (taken : List (List Record)) (hs : List (List Record)) → HoldAll b taken hs → HoldAll b taken (take 2 hs)
hold_two b taken [] h = tt
hold_two b taken (x ∷ []) h = (h.0, tt)
hold_two b taken (x ∷ y ∷ hs) h = (h.0, (h.1.0, tt))

holds_more : (b : Basis) (taken : List (List Record)) (held more : List Record) → Holds b taken held → IsRow more → AreNew held more → AllByRecursion (IsAboveTide b) more → Holds b (more ∷ taken) (in_order (held ++ more))
holds_more b taken held more holds row new above = record {
  row = taken_row held more holds.row row;
  these = λ r. (
    λ c. ⊎_elim (λ d. Contains-append_right more (all_of taken) r ((holds.these r).0 d)) (λ d. Contains-append_left more (all_of taken) r d) (Contains-append_cases held more r (in_order_in (held ++ more) r c)),
    λ c. subst (λ (l : List Record). Contains l r) (sym (union_in_order held more holds.row.ascending))
        (⊎_elim (λ d. union_new held more r row.ascending new d) (λ d. union_old held more r ((holds.these r).1 d)) (Contains-append_cases more (all_of taken) r c)),
  );
  above = each_from (IsAboveTide b) (in_order (held ++ more)) (λ r c. each (IsAboveTide b) (held ++ more) r (each_append (IsAboveTide b) held more holds.above above) (in_order_in (held ++ more) r c));
}

module _ (b : Basis) where
  pub all_hold : (e : Engine) (taken : List (List Record)) (calls : List Call) → e.basis ≡ b → HoldAll b taken (e.held ∷ e.before) → AllMayBe e calls
      → ((after_all e calls).basis ≡ b) × Holds b (standing taken calls) (after_all e calls).held
  all_hold e taken [] same all may = (same, all.0)
  all_hold e taken (Absorb more ∷ calls) same all may =
      all_hold (taken_in e more) (more ∷ taken) calls same
      (holds_more b taken e.held more all.0 may.0.0 may.0.1 (subst (λ (x : Basis). AllByRecursion (IsAboveTide x) more) same may.0.2), hold_two b taken (e.held ∷ e.before) all)
      may.1
  all_hold e taken (Append more ∷ calls) same all may =
      all_hold (taken_in e more) (more ∷ taken) calls same
      (holds_more b taken e.held more all.0 may.0.0 (behind_new e.held more may.0.1) (subst (λ (x : Basis). AllByRecursion (IsAboveTide x) more) same may.0.2), hold_two b taken (e.held ∷ e.before) all)
      may.1
  all_hold e taken (Undo ∷ calls) same all may = by e.before refl all may.0 may.1 (λ x p q r. all_hold x (without_first taken) calls p q r)
    where
      by : (hs : List (List Record)) → e.before ≡ hs → HoldAll b taken (e.held ∷ e.before) → e.before ≢ [] → AllMayBe (undone e) calls
          → ((x : Engine) → x.basis ≡ b → HoldAll b (without_first taken) (x.held ∷ x.before) → AllMayBe x calls → ((after_all x calls).basis ≡ b) × Holds b (standing (without_first taken) calls) (after_all x calls).held)
          → ((after_all (undone e) calls).basis ≡ b) × Holds b (standing (without_first taken) calls) (after_all (undone e) calls).held
      by [] is all some may again = absurd (some is)
      by (h ∷ hs) is all some may again =
          let left : undone e ≡ record { basis = e.basis; held = h; before = hs } = rw is refl in
          again (undone e) (ap (λ (x : Engine). x.basis) left ∙ same)
          (subst (λ (x : Engine). HoldAll b (without_first taken) (x.held ∷ x.before)) (sym left) (subst (λ l. HoldAll b taken (e.held ∷ l)) is all).1) may

-- ---- above the tide

stamp_without : (v : Vector) (log k : Key) → stamp_at (without_log log v) k ≡ cond (not (eq_by_cmp key_cmp log k)) (stamp_at v k) None
stamp_without v log k = find-where_key key_cmp (λ x. not (eq_by_cmp key_cmp log x)) k (λ x tied. ap (λ (y : Key). not (eq_by_cmp key_cmp log y)) (sym (exact_keys k x tied))) v

-- a record above the tide weighs more than the front
same_symm : (a b : Key) → eq_by_cmp key_cmp a b ≡ eq_by_cmp key_cmp b a
same_symm = (eq_by_cmp_equiv keys_total).symm

outweighs : (s : List Record) (b : Basis) (r : Record) → b.front ≡ front s → HasSpelling r → IsAboveTide b r → weight_of (front s) < weight r
outweighs s b r same spelled above =
    let own = head_key_of r.owner in
    let rest = without_log own (front s) in
    let sorted : Sorted rest = to_test _ (is_sorted-where_key key_cmp (λ x. not (eq_by_cmp key_cmp own x)) (front s) (from_test _ (sorted_front s))) in
    let light = weight-mono rest r.vector spelled.in_order sorted (λ log. by log (eq_by_cmp key_cmp own log) refl) in
    let parts = weight_by_log own (front s) (sorted_front s) in
    let later : seq_of (front s) own < r.seq = subst (λ v. seq_of v own < r.seq) same above.later in
    omega arith
  where
    by : (log : Key) (t : Bool) → eq_by_cmp key_cmp (head_key_of r.owner) log ≡ t → seq_of (without_log (head_key_of r.owner) (front s)) log ≤ seq_of r.vector log
    by log true e =
        let zero : seq_of (without_log (head_key_of r.owner) (front s)) log ≡ 0 = ap reach (stamp_without (front s) (head_key_of r.owner) log ∙ ap (λ t. cond (not t) (stamp_at (front s) log) None) e) in
        omega arith
    by log false e =
        let left : seq_of (without_log (head_key_of r.owner) (front s)) log ≡ seq_of (front s) log = ap reach (stamp_without (front s) (head_key_of r.owner) log ∙ ap (λ t. cond (not t) (stamp_at (front s) log) None) e) in
        let right = full_other r log (same_symm log (head_key_of r.owner) ∙ e) in
        let le : seq_of (front s) log ≤ seq_of (full_vector r) log = subst (λ v. seq_of v log ≤ seq_of (full_vector r) log) same (above.knows log) in
        omega arith

ascends_both : (s t : List Record) → IsAscending s → IsAscending t → AllByRecursion (λ q. AllByRecursion (IsBefore q) t) s → IsAscending (s ++ t)
ascends_both [] t up vp apart = vp
ascends_both (q ∷ s) t up vp apart = (each_append (IsBefore q) s t up.0 apart.0, ascends_both s t up.1 vp apart.1)

above_all : (view : View) (b : Basis) (s held : List Record) → StandsFor view b s → IsRow held → AllByRecursion (IsAboveTide b) held → IsAscending (s ++ held)
above_all view b s held stands row above =
    let spelled = each_from HasSpelling s (λ r c. (good_of view s r stands.closed c).spelled) in
    ascends_both s held stands.closed.ascending row.ascending
    (each_from (λ q. AllByRecursion (IsBefore q) held) s (λ q c. each_from (IsBefore q) held (λ r d.
    let light : weight q ≤ weight_of (front s) = each (λ q. weight q ≤ weight_of (front s)) s q (no_heavier_than_front s spelled) c in
    let heavy = outweighs s b r stands.front (each HasSpelling held r row.spelled d) (each (IsAboveTide b) held r above d) in
    lighter_is_before q r (omega arith))))

-- ---- the law

pub replay_is_incremental : ReplayIsIncremental
replay_is_incremental view b s calls stands may =
    let all = all_hold b (opened b) [] calls refl (record { row = record { ascending = tt; spelled = tt }; these = λ r. (λ c. c, λ c. c); above = tt }, tt) may in
    let last = after_all (opened b) calls in (
      all.1,
      ap (λ (x : Basis). apply_all x.tree (map effect last.held)) all.0
          ∙ ap (λ (t : Tree). apply_all t (map effect last.held)) stands.tree
          ∙ sym (replay_more s last.held stands.closed.ascending (above_all view b s last.held stands all.1.row all.1.above)),
    )
