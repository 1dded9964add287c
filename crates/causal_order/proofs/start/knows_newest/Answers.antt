use Rattle.std.proofs.Common.{◌≡◌, get_or, sym, ap, ◌∙◌, arith}
use Rattle.ivy_base.specs.Naming.{head_key_of}
use Rattle.log_model.specs.Closed.{log_of}
use Rattle.log_records.specs.Records.{record_of}
use Rattle.log_records.specs.Records.{records_of}
use Rattle.causal_order.proofs.Passes.{start}
use Rattle.causal_order.proofs.Starts.{last_place, held_within, newest_owner, newest_spelled, newest_known}
use Rattle.causal_order.proofs.start.knows_newest.Goals as goal

pub bounds-base-place : goal.bounds-base-place
bounds-base-place c =
    let held = c.args.base.now.held.now in
    let p = last_place (records_of held) c.deref.result.now c.args.log.now.places.items (log_of c.args.log.now.owner (records_of held)) c.in-Some.place.now c.deref.ensures.value c.in-Some.ensures.value c.requires.kept.places in
    held_within held c.in-Some.place.now p.last p.placed

pub offset_bounds-base-place : goal.offset_bounds-base-place
offset_bounds-base-place c =
    let held = c.args.base.now.held.now in
    let p = last_place (records_of held) c.deref.result.now c.args.log.now.places.items (log_of c.args.log.now.owner (records_of held)) c.in-Some.place.now c.deref.ensures.value c.in-Some.ensures.value c.requires.kept.places in
    let within = held_within held c.in-Some.place.now p.last p.placed in
    omega (arith, within)

pub knows-requires-clause-other_key : goal.knows-requires-clause-other_key
knows-requires-clause-other_key c =
    let held = c.args.base.now.held.now in
    let owner = c.args.log.now.owner in
    let p = last_place (records_of held) c.deref.result.now c.args.log.now.places.items (log_of c.args.log.now.owner (records_of held)) c.in-Some.place.now c.deref.ensures.value c.in-Some.ensures.value c.requires.kept.places in
    c.requires.kept.key ∙ ap head_key_of (sym (newest_owner c.args.base.now.view.now (start c.args.base.now.view.now c.args.base.now.front.now owner) owner held c.in-Some.place.now c.index-base-place.result (c.requires.held.chains owner) p))

pub knows-requires-clause-other_of_others : goal.knows-requires-clause-other_of_others
knows-requires-clause-other_of_others c =
    let held = c.args.base.now.held.now in
    let owner = c.args.log.now.owner in
    let view = c.args.base.now.view.now in
    let s = start c.args.base.now.view.now c.args.base.now.front.now owner in
    let p = last_place (records_of held) c.deref.result.now c.args.log.now.places.items (log_of c.args.log.now.owner (records_of held)) c.in-Some.place.now c.deref.ensures.value c.in-Some.ensures.value c.requires.kept.places in
    let key : head_key_of (get_or held c.in-Some.place.now c.index-base-place.result).owner ≡ c.args.log.now.key = ap head_key_of (newest_owner view s owner held c.in-Some.place.now c.index-base-place.result (c.requires.held.chains owner) p) ∙ sym c.requires.kept.key in
    rw (← key) (newest_spelled view s owner held c.in-Some.place.now c.index-base-place.result (c.requires.held.chains owner) p).of_others

pub returns-in-Some : goal.returns-in-Some
returns-in-Some c =
    let held = c.args.base.now.held.now in
    let owner = c.args.log.now.owner in
    let p = last_place (records_of held) c.deref.result.now c.args.log.now.places.items (log_of c.args.log.now.owner (records_of held)) c.in-Some.place.now c.deref.ensures.value c.in-Some.ensures.value c.requires.kept.places in
    newest_known c.args.base.now.view.now (start c.args.base.now.view.now c.args.base.now.front.now owner) owner held c.in-Some.place.now c.index-base-place.result (c.requires.held.chains owner) p (record_of c.args.next.now) c.knows.result c.knows.ensures
