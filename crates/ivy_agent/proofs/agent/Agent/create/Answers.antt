use Rattle.std.proofs.Common.{Err, ap, ◌∙◌}
use Rattle.ivy_agent.proofs.First.{opened_sound, made, save_failed}
use Rattle.ivy_agent.proofs.agent.Agent.create.Goals as goal

pub of-requires : goal.of-requires
of-requires g c = opened_sound g.S.Signs.signing c.args.signs c.args.now c.in-Ok.opened c.in-Ok.ensures

pub returns-in-Err-Keeper-clause-makes : goal.returns-in-Err-Keeper-clause-makes
returns-in-Err-Keeper-clause-makes g c = save_failed
    g.S.Signs.signing c.args.signs c.args.now c.in-Ok.opened c.in-Ok.ensures g.S.Signs.is_whole g.K.Keeper.saves c.args.keeper c.save.new.keeper
    (λ none. c.if-left-eq0.false (c.left.ensures ∙ none)) c.save.result c.save.ensures.saved c.save.ensures.whole (c.in-Err-Keeper.is ∙ ap Err c.in-Err-Keeper.field-0-is)

pub returns-in-Ok-save-clause-makes : goal.returns-in-Ok-save-clause-makes
returns-in-Ok-save-clause-makes g c = made
    g.S.Signs.signing c.args.signs c.args.now c.in-Ok.opened c.in-Ok.ensures g.S.Signs.is_whole g.K.Keeper.saves c.args.keeper c.save.new.keeper
    (λ none. c.if-left-eq0.false (c.left.ensures ∙ none)) c.save.result c.save.ensures.saved c.save.ensures.whole c.in-Ok-save.field-0 c.in-Ok-save.is c.of.result c.of.ensures
