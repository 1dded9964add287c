use Rattle.std.proofs.Common.{Err, ap, inl, ◌∙◌}
use Rattle.ivy_agent.proofs.Dropped.{entered_sound}
use Rattle.ivy_agent.proofs.Entered.{went_in, stayed_out}
use Rattle.ivy_agent.proofs.agent.Agent.go_in.Goals as goal

pub returns-in-Ok-save_in-clause-goes : goal.returns-in-Ok-save_in-clause-goes
returns-in-Ok-save_in-clause-goes g c = went_in
    g.S.Signs.signing g.S.Signs.is_whole g.K.Keeper.saves c.args.view c.args.self.now c.self.inside.kept c.self.inside.engine c.self.inside.to_load c.self.inside.has_failed c.self.inside.keeper c.self.view_is c.self.invariant.kept c.requires
    c.save_in.new.kept c.in-Ok.nothing c.save_in.new.keeper c.in-Ok-save_in.ensures.ok c.in-Ok.ensures c.in-Ok-save_in.ensures.whole c.in-Ok-save_in.ensures.saved

pub returns-in-Err-Keeper-clause-goes : goal.returns-in-Err-Keeper-clause-goes
returns-in-Err-Keeper-clause-goes g c = stayed_out
    g.S.Signs.signing g.S.Signs.is_whole g.K.Keeper.saves c.args.view c.args.self.now c.self.inside.kept c.self.inside.engine c.self.inside.to_load c.self.inside.has_failed c.self.inside.keeper c.self.view_is c.self.invariant.kept c.requires
    c.save_in.new.kept c.save_in.new.keeper c.save_in.result c.in-Err-Keeper.ensures.err (c.in-Err-Keeper.is ∙ ap Err c.in-Err-Keeper.field-0-is) c.save_in.ensures.whole c.save_in.ensures.saved

pub invariant_of-self : goal.invariant_of-self
invariant_of-self g c = entered_sound
    g.S.Signs.signing g.K.Keeper.saves c.args.view c.args.self.now c.self.inside.kept c.self.inside.engine c.self.inside.to_load c.self.inside.has_failed c.self.inside.keeper c.self.view_is
    c.self.inside.front c.self.invariant c.requires c.save_in.new.kept c.in-Ok.nothing c.empty.result c.in-Ok-save_in.ensures.ok c.in-Ok.ensures c.empty.ensures

pub returns-in-Err-Keeper-clause-cause : goal.returns-in-Err-Keeper-clause-cause
returns-in-Err-Keeper-clause-cause g c = rw (← c.self.view_is) (inl (rw c.in-Err-Keeper.field-0-is at c.in-Err-Keeper.ensures.cause))
