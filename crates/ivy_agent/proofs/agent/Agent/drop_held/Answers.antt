use Rattle.ivy_agent.proofs.Dropped.{dropped_is, dropped_sound, dropped_standing}
use Rattle.ivy_agent.proofs.agent.Agent.drop_held.Goals as goal

pub invariant_of-self : goal.invariant_of-self
invariant_of-self g c = dropped_sound g.S.Signs.signing c.self.inside.kept c.in-Ok.nothing c.self.inside.has_failed c.in-Ok.ensures c.self.inside.engine c.self.inside.to_load c.self.inside.front c.empty.result c.self.invariant c.empty.ensures

pub returns-clause-ok : goal.returns-clause-ok
returns-clause-ok g c = dropped_is g.S.Signs.signing c.self.inside.kept c.in-Ok.nothing c.self.inside.has_failed c.in-Ok.ensures c.self.inside.engine c.self.inside.to_load c.self.inside.keeper c.args.self.now c.self.view_is

pub returns-clause-standing : goal.returns-clause-standing
returns-clause-standing g c = dropped_standing g.S.Signs.signing c.args.self.now.agent _ _ c.args.self.now.agent.view c.in_ok-before.ensures c.without_held-standing.ensures
