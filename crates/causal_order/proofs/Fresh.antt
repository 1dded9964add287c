-- Over the empty front closed sets are those of the definitions; ranks in a closed set.
use Rattle.std.proofs.Common.{inl, inr, ⊎_elim, List, [], arith, Contains}
use Rattle.std.specs.Prelude.{IsTrue}
use Rattle.log_model.specs.View.{View, is_member}
use Rattle.log_model.specs.Vector.{Entry}
use Rattle.log_model.specs.Record.{Record}
use Rattle.log_model.specs.Closed as log
use Rattle.log_model.specs.Closed.{IsCause}
use Rattle.log_model.proofs.Lists.{each_from, each}
use Rattle.log_model.proofs.Sets.{lighter_is_before}
use Rattle.causal_order.specs.Over.{IsUnder, IsMet, HasCauses, IsClosed}
use Rattle.causal_order.specs.Laws.{FreshIsPlain, FreshPartIsPlain, RanksDiffer, CausesAreBefore}
use Rattle.causal_order.proofs.Ends.{one_of_rank, tied_back}

not_under : (e : Entry) → IsUnder [] e → ⊥
not_under e (inl less) = omega (arith, less)
not_under e (inr own) = cc

plain_causes : (view : View) (s : List Record) (r : Record) → HasCauses view [] s r → log.HasCauses view s r
plain_causes view s r h = each_from (λ (e : Entry). IsTrue (is_member view e.0) → (c : Record) × Contains s c × IsCause c e r) r.vector
    (λ e c member. ⊎_elim (λ u. absurd (not_under e u)) (λ w. w) (each (IsMet view [] s r) r.vector e h c member))

fresh_causes : (view : View) (s : List Record) (r : Record) → log.HasCauses view s r → HasCauses view [] s r
fresh_causes view s r h = each_from (IsMet view [] s r) r.vector
    (λ e c member. inr (each (λ (e : Entry). IsTrue (is_member view e.0) → (c : Record) × Contains s c × IsCause c e r) r.vector e h c member))

pub plain_closed : (view : View) (s : List Record) → IsClosed view [] s → log.IsClosed view s
plain_closed view s h = record {
  ascending = h.ascending;
  members = h.members;
  chains = h.chains;
  causes = each_from (log.HasCauses view s) s (λ r c. plain_causes view s r (each (HasCauses view [] s) s r h.causes c));
}

pub fresh_closed : (view : View) (s : List Record) → log.IsClosed view s → IsClosed view [] s
fresh_closed view s h = record {
  ascending = h.ascending;
  members = h.members;
  chains = h.chains;
  causes = each_from (HasCauses view [] s) s (λ r c. fresh_causes view s r (each (log.HasCauses view s) s r h.causes c));
}

pub fresh_is_plain : FreshIsPlain
fresh_is_plain view s = (plain_closed view s, fresh_closed view s)

pub fresh_part_is_plain : FreshPartIsPlain
fresh_part_is_plain view all s = (
  λ h. record { part = h.part; closed = plain_closed view s h.closed; largest = λ t within closed. h.largest t within (fresh_closed view t closed) },
  λ h. record { part = h.part; closed = fresh_closed view s h.closed; largest = λ t within closed. h.largest t within (plain_closed view t closed) },
)

pub ranks_differ : RanksDiffer
ranks_differ view s r q closed cr cq tied = one_of_rank s closed.ascending r q cr cq tied (tied_back r q tied)

pub causes_are_before : CausesAreBefore
causes_are_before c e r h = lighter_is_before c r h.lighter
