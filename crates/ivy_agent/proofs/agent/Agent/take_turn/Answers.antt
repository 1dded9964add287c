use Rattle.std.specs.Prelude.{option_map}
use Rattle.fs_tree.specs.Bases.{basis_of}
use Rattle.ivy_agent.proofs.Going.{from_over, going_over}
use Rattle.ivy_agent.proofs.agent.Agent.take_turn.Goals as goal

pub turn_over-requires-clause-from : goal.turn_over-requires-clause-from
turn_over-requires-clause-from g c = from_over g.S.Signs.signing c.self.inside.kept c.self.inside.engine c.self.inside.to_load c.self.inside.has_failed c.self.inside.keeper c.args.self.now c.self.view_is c.self.inside.front c.self.invariant c.args.refresh.batch c.args.refresh.basis c.in-Ok-Some.ground (rw c.in-Ok-Some.field-0-is at c.in-Ok-Some.ensures) c.requires.bounds c.requires.batch

pub turn_over-requires-clause-going : goal.turn_over-requires-clause-going
turn_over-requires-clause-going g c = (option_map basis_of c.args.refresh.basis, going_over g.S.Signs.signing c.self.inside.kept c.self.inside.engine c.self.inside.to_load c.self.inside.has_failed c.self.inside.keeper c.args.self.now c.self.view_is c.self.inside.front c.self.invariant c.args.refresh.batch c.args.refresh.basis c.in-Ok-Some.ground (rw c.in-Ok-Some.field-0-is at c.in-Ok-Some.ensures))
