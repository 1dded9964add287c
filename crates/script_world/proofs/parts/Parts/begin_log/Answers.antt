use Rattle.std.proofs.Common.{sym, ap, ◌∙◌, subst}
use Rattle.std.proofs.lemmas.Result.{IfOk-from_err}
use Rattle.script_participants.specs.ParticipantState.{ParticipantState}
use Rattle.script_world.specs.PartsState.{HasParts}
use Rattle.script_world.proofs.Beginning.{comes, name_free, name_taken, no_ring_yet, signs_first}
use Rattle.script_world.proofs.Kept.{kept_pushed}
use Rattle.script_world.proofs.parts.Parts.begin_log.Goals as goal
use Rattle.script_world.proofs.parts.Parts.begin_log.Goals.{then-is_none-via-then-is_none, then-is_none-via-else-is_none+then-is_some}

pub returns-then-is_none : goal.returns-then-is_none
returns-then-is_none c = elim c.then-is_none.branch [
  | then-is_none-via-then-is_none b ↦ λ w has judged. no_ring_yet w _ (subst (HasParts w.0) (sym c.self.view_is) has) c.args.name c.args.id.now c.args.seed.now c.args.sets.now judged b.if-is_none.ensures
  | then-is_none-via-else-is_none+then-is_some b ↦ λ w has judged.
      name_taken w _ (subst (HasParts w.0) (sym c.self.view_is) has) c.args.name c.args.id.now c.args.seed.now c.args.sets.now _ b.named.result b.as_slice.result.now b.as_slice.ensures b.named.ensures.named judged
      b.if-is_some.ensures
]

pub open-requires : goal.open-requires
open-requires c = signs_first c.in_ok-signer.signer c.args.id.now c.args.seed.now c.args.sets.now c.in_ok-signer.ensures

pub returns-in_err-meet_all : goal.returns-in_err-meet_all
returns-in_err-meet_all c = IfOk-from_err _ _ c.from_residual-in_err-meet_all.ensures.0

pub invariant_of-self-2 : goal.invariant_of-self-2
invariant_of-self-2 c =
    kept_pushed c.self.inside.replicas c.self.inside.participants c.push.new.self c.in_ok-one.one c.args.name c.self.invariant c.if-is_none.ensures (ap (λ (p : ParticipantState). p.name) c.in_ok-one.ensures)
    (name_free _ c.named.result c.self.inside.participants c.as_slice.result.now c.args.name c.as_slice.ensures c.named.ensures.found c.if-is_some.ensures) c.in_ok-push.ensures.pushed

pub returns : goal.returns
returns c = λ w has.
    comes w _ (subst (HasParts w.0) (sym c.self.view_is) has) c.args.name c.args.id.now c.args.seed.now c.args.sets.now _ c.named.result c.as_slice.result.now c.as_slice.ensures c.named.ensures.named c.in_ok-signer.signer
    c.in_ok-one.one c.push.new.self c.as_slice-2.result.now c.meet_all.new.self c.if-is_none.ensures c.if-is_some.ensures c.in_ok-signer.ensures c.in_ok-one.ensures c.in_ok-push.ensures.pushed
    (c.as_slice-2.ensures ∙ c.pending.ensures) c.in_ok-meet_all.ensures.met
