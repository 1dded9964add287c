use Rattle.std.proofs.Common.{Some, refl, sym, ap, ◌∙◌}
use Rattle.ivy_base.specs.declared.key.Key.{Key}
use Rattle.log_model.specs.Vector.{stamp_at}
use Rattle.log_records.specs.Records.{records_of}
use Rattle.causal_order.proofs.Starts.{last_place, tip_is}
use Rattle.causal_order.proofs.start.tip_of.Goals as goal

pub returns-in_ok-name-in-Some : goal.returns-in_ok-name-in-Some
returns-in_ok-name-in-Some c = λ rs at.
    let held = c.args.base.now.held.now in
    let p = last_place (records_of held) c.args.places.now c.args.places.now rs c.in-Some.place.now refl c.in-Some.ensures.value at in
    ap (λ (k : Key). Some k) c.in_ok-name-in-Some.ensures ∙ sym (tip_is (stamp_at c.args.base.now.front.now c.args.key.now) held rs c.in-Some.place.now c.index-base-place.result p)
