use Rattle.std.proofs.Common.{ap, ◌∙◌}
use Rattle.std.specs.Prelude.{find, option_map}
use Rattle.agent_model.specs.Views.{is_refused_in}
use Rattle.ivy_agent.proofs.Entered.{may_be_entered}
use Rattle.ivy_agent.proofs.agent.Agent.may_enter.Goals as goal

pub returns-clause-may : goal.returns-clause-may
returns-clause-may g c = may_be_entered
    g.S.Signs.signing c.args.view.now c.args.self.now _ c.self.inside.keeper c.self.view_is
    c.owner.result c.members.result.now c.is_among.result c.not_named.result c.owner.ensures c.members.ensures.value c.is_among.ensures c.if-not-is_among.false
    (c.not_named.ensures ∙ ap (λ before. option_map (λ e. e.0) (find (λ e. is_refused_in before c.args.view.now e.0) c.self.inside.kept.floor)) c.as_ref.ensures.value) c.in_default.is c.if-self.false c.members.ensures.legal c.members.ensures.keys
