-- Where no record is left, what was taken is the largest closed part.
use Rattle.std.proofs.Common.{◌≡◌, ⊎_elim, List, [], ◌∷◌, ◌++◌, refl, sym, ap, ◌∙◌, subst, Contains}
use Rattle.std.specs.List.{AllByRecursion}
use Rattle.std.specs.Cmp.{tied_itself}
use Rattle.std.specs.Ordering.{eq_by_cmp, is_lt, ordering_reverse}
use Rattle.std.specs.declared.cmp.Ordering.TheVariants.{Equal}
use Rattle.std.proofs.lemmas.List.Elements.{Contains-append_right, filter-append}
use Rattle.ivy_base.specs.declared.key.PubKey.{PubKey}
use Rattle.ivy_base.specs.Naming.{owner_cmp}
use Rattle.log_model.specs.View.{View}
use Rattle.log_model.specs.Vector.{Vector}
use Rattle.log_model.specs.Record.{Record}
use Rattle.log_model.specs.Rank.{record_cmp}
use Rattle.log_model.specs.Closed.{log_of, IsAscending}
use Rattle.log_model.specs.Replay.{in_order}
use Rattle.log_model.proofs.Lists.{in_cons, in_nothing, each_from, each}
use Rattle.log_model.proofs.Owners.{records_total}
use Rattle.log_model.proofs.Sets.{same_list, in_order_ascends, in_order_in, in_order_has, filter_ascends, same_rank_is}
use Rattle.causal_order.specs.Over.{HasCauses, GoesOnFrom, IsClosed, IsClosedPart}
use Rattle.causal_order.specs.Available.{IsAvailable, IsNewPart}
use Rattle.causal_order.proofs.Logs.{ascends_over}
use Rattle.causal_order.specs.Passing.{Queue, IsLeft, IsTaken, IsBefore}
use Rattle.causal_order.proofs.Passes.{start, in_log, of_log, causes_weaken}

pub same_rank_owner : (r q : Record) → record_cmp r q ≡ Equal → q.owner ≡ r.owner
same_rank_owner r q e = sym (same_rank_is r q e).0

not_before : (r q : Record) → record_cmp r q ≡ Equal → IsBefore r q → ⊥
not_before r q e b = let h = ap is_lt e in cc

-- of an ascending list each rank has one record
pub one_of_rank : (xs : List Record) → IsAscending xs → (r q : Record) → Contains xs r → Contains xs q → record_cmp r q ≡ Equal → record_cmp q r ≡ Equal → r ≡ q
one_of_rank [] h r q cr cq e d = absurd (in_nothing r cr)
one_of_rank (x ∷ xs) h r q cr cq e d = ⊎_elim
    (λ is_r. ⊎_elim (λ is_q. sym is_r ∙ is_q)
    (λ c. absurd (not_before r q e (subst (λ (y : Record). IsBefore y q) is_r (each (IsBefore x) xs q h.0 c)))) (in_cons x xs q cq))
    (λ c. ⊎_elim (λ is_q. absurd (not_before q r d (subst (λ (y : Record). IsBefore y r) is_q (each (IsBefore x) xs r h.0 c))))
    (λ b. one_of_rank xs h.1 r q c b e d) (in_cons x xs q cq))
    (in_cons x xs r cr)

pub tied_back : (r q : Record) → record_cmp r q ≡ Equal → record_cmp q r ≡ Equal
tied_back r q e = records_total.antisymm q r ∙ ap ordering_reverse e

module _ (view : View) (front : Vector) (Available : Record → Type 0) (known out : List Record) (queues : List Queue) (p : IsTaken view front Available known out queues) where
  log_ascends : (owner : PubKey) → IsAscending (log_of owner known)
  log_ascends owner = ascends_over view owner (start view front owner) (log_of owner known) (p.passed.logs owner)

  -- putting them in order loses none
  in_order_keeps : (q : Record) → Contains known q → Contains (in_order known) q
  in_order_keeps q c =
      let w = in_order_has known q c in
      let in_known = in_order_in known w.0 w.1 in
      let owned = same_rank_owner q w.0 w.2 in
      let same : q ≡ w.0 = one_of_rank (log_of q.owner known) (log_ascends q.owner) q w.0 (in_log q.owner known q c refl) (in_log q.owner known w.0 in_known owned) w.2 (tied_back q w.0 w.2) in
      subst (λ (x : Record). Contains (in_order known) x) (sym same) w.1

  -- nor does it change a log
  same_log : (owner : PubKey) → log_of owner known ≡ log_of owner (in_order known)
  same_log owner = same_list (log_of owner known) (log_of owner (in_order known)) (log_ascends owner)
      (filter_ascends (λ (x : Record). eq_by_cmp owner_cmp owner x.owner) (in_order known) (in_order_ascends known))
      (λ q c. let w = of_log owner known q c in in_log owner (in_order known) q (in_order_keeps q w.0) w.1)
      (λ q c. let w = of_log owner (in_order known) q c in in_log owner known q (in_order_in known q w.0) w.1)

  pub is_closed : IsClosed view front (in_order known)
  is_closed = record {
    ascending = in_order_ascends known;
    members = each_from (λ r. Contains view.members r.owner) (in_order known) (λ r c. each (λ q. Contains view.members q.owner) known r p.passed.members (in_order_in known r c));
    chains = λ owner. subst (λ (l : List Record). GoesOnFrom view owner (start view front owner) l) (same_log owner) (p.passed.logs owner);
    causes = each_from (HasCauses view front (in_order known)) (in_order known) (λ r c. causes_weaken view front known (in_order known) r in_order_keeps (each (HasCauses view front known) known r p.passed.causes (in_order_in known r c)));
  }

  pub is_part : ((q : Record) → IsLeft queues q → ⊥) → IsClosedPart view front Available (in_order known)
  is_part none = record {
    part = λ q c. p.hand q (in_order_in known q c);
    closed = is_closed;
    largest = λ t within closed q c. ⊎_elim (in_order_keeps q) (λ l. absurd (none q l)) (p.seen t closed within q c);
  }

-- none of the new ones was held
not_held : (xs ys : List Record) → IsAscending (xs ++ ys) → (q : Record) → Contains xs q → Contains ys q → ⊥
not_held [] ys h q c d = in_nothing q c
not_held (x ∷ xs) ys h q c d = ⊎_elim
    (λ e. let b = each (IsBefore x) (xs ++ ys) q h.0 (Contains-append_right xs ys q d) in not_before q q (tied_itself records_total q) (subst (λ (y : Record). IsBefore y q) e b))
    (λ f. not_held xs ys h.1 q f d) (in_cons x xs q c)

pub is_fresh : (view : View) (front : Vector) (Available : Record → Type 0) (held out : List Record) (queues : List Queue) → IsTaken view front Available (held ++ out) out queues → AllByRecursion (λ r. Contains held r → ⊥) out
is_fresh view front Available held out queues p = each_from (λ r. Contains held r → ⊥) out
    (λ r c d. not_held (log_of r.owner held) (log_of r.owner out)
    (subst IsAscending (filter-append (λ (x : Record). eq_by_cmp owner_cmp r.owner x.owner) held out) (log_ascends view front Available (held ++ out) out queues p r.owner))
    r (in_log r.owner held r d refl) (in_log r.owner out r c refl))

pub is_new_part : (view : View) (front : Vector) (held : List Record) (chains : List (List Record)) (out : List Record) (queues : List Queue) → IsTaken view front (IsAvailable view front held chains) (held ++ out) out queues
    → ((q : Record) → IsLeft queues q → ⊥) → IsNewPart view front held chains out
is_new_part view front held chains out queues p none = record {
  ascending = p.ascending;
  fresh = is_fresh view front (IsAvailable view front held chains) held out queues p;
  within = each_from (λ r. Contains (in_order (held ++ out)) r) out (λ r c. in_order_keeps view front (IsAvailable view front held chains) (held ++ out) out queues p r (Contains-append_right held out r c));
  largest = is_part view front (IsAvailable view front held chains) (held ++ out) out queues p none;
}
