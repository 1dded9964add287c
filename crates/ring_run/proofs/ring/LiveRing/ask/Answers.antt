use Rattle.std.proofs.Common.{is_some, sym, ap, ◌∙◌}
use Rattle.dhash_model.specs.Signed.{hss_judged}
use Rattle.ring_run.specs.Live.{LiveState}
use Rattle.ring_run.specs.Live.Gives.{silent}
use Rattle.ring_run.proofs.Giving.{answer_form, gives_answer}
use Rattle.ring_run.proofs.Seats.{met_is}
use Rattle.ring_run.proofs.ring.LiveRing.ask.Goals as goal

pub returns-in-Some-clause-gives : goal.returns-in-Some-clause-gives
returns-in-Some-clause-gives g c =
    let met = met_is (λ s. s.peer) (λ s. s.now) c.seat_of.result c.args.self.now c.args.node.now c.self.inside.live.items c.deref.result.now c.seat_of.ensures c.deref.ensures.value (ap (λ (r : LiveState). r.live) c.self.view_is) in
    gives_answer hss_judged c.args.self.now c.args.node.now c.args.ask.now c.deref_mut.result.now c.answer_known.result (sym met ∙ ap is_some c.in-Some.is) c.answer_known.ensures.given

pub returns-in-Some-clause-form : goal.returns-in-Some-clause-form
returns-in-Some-clause-form g c = answer_form hss_judged c.args.ask.now c.deref_mut.result.now c.answer_known.result c.answer_known.ensures.given

pub returns-in-None-clause-gives : goal.returns-in-None-clause-gives
returns-in-None-clause-gives g c =
    let met = met_is (λ s. s.peer) (λ s. s.now) c.seat_of.result c.args.self.now c.args.node.now c.self.inside.live.items c.deref.result.now c.seat_of.ensures c.deref.ensures.value (ap (λ (r : LiveState). r.live) c.self.view_is) in
    silent (sym met ∙ ap is_some c.in-None.is)
