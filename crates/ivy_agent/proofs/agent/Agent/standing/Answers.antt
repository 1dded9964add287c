use Rattle.std.proofs.Common.{ap}
use Rattle.log_fetch.specs.declared.standing.Standing.{Standing}
use Rattle.ivy_agent.proofs.Told.{are_beyond, know_others, of_members, told, told_named}
use Rattle.ivy_agent.proofs.agent.Agent.standing.Goals as goal

pub fill-filled-requires-clause-others : goal.fill-filled-requires-clause-others
fill-filled-requires-clause-others g c = know_others _ c.records.ensures.row

pub fill-filled-requires-clause-members : goal.fill-filled-requires-clause-members
fill-filled-requires-clause-members g c = of_members g.S.Signs.signing c.self.inside.kept c.self.inside.engine c.self.inside.to_load c.self.inside.has_failed c.self.inside.keeper c.args.self.now c.self.view_is c.self.inside.front c.self.invariant
    c.in-Some.view c.in-Some.is _ c.in_ok-standing.ensures.view _ c.records.ensures.records

pub fill-filled-requires-clause-beyond : goal.fill-filled-requires-clause-beyond
fill-filled-requires-clause-beyond g c = are_beyond g.S.Signs.signing c.self.inside.kept c.self.inside.engine c.self.inside.to_load c.self.inside.has_failed c.self.inside.keeper c.args.self.now c.self.view_is c.self.inside.front c.self.invariant
    c.in-Some.view c.in-Some.is c.basis_front.result.now c.basis_front.ensures _ c.records.ensures.records c.records.ensures.row

pub returns-in-Ok-clause-stands : goal.returns-in-Ok-clause-stands
returns-in-Ok-clause-stands g c = told g.S.Signs.signing c.self.inside.kept c.self.inside.engine c.self.inside.to_load c.self.inside.has_failed c.self.inside.keeper c.args.self.now c.self.view_is c.self.inside.front c.self.invariant
    c.in-Some.view c.in-Some.is c.owner.result c.owner.ensures _ c.records.ensures.records c.in_ok-standing.standing _ c.in_ok-standing.ensures.view c.in_ok-standing.ensures.own c.in_ok-standing.ensures.basis c.in-Ok.ensures

pub returns-in-Ok-clause-named : goal.returns-in-Ok-clause-named
returns-in-Ok-clause-named g c = told_named c.self.inside.kept.pending (ap (λ (s : Standing). s.pending) c.in-Ok.ensures) c.self.invariant.kept.posts
