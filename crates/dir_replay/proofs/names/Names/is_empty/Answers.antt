use Rattle.dir_replay.proofs.Empty.{empty-found, empty-missing}
use Rattle.dir_replay.proofs.names.Names.is_empty.Goals as goal

pub returns-in-Some-clause-empty : goal.returns-in-Some-clause-empty
returns-in-Some-clause-empty c = rw (← c.self.view_is) (empty-found c.self.inside.nodes c.self.invariant c.args.dir.now c.in-Some.node.now c.in-Some.ensures c.is_empty.result c.is_empty.ensures)

pub returns-in-None-clause-empty : goal.returns-in-None-clause-empty
returns-in-None-clause-empty c = rw (← c.self.view_is) (empty-missing c.self.inside.nodes c.self.invariant c.args.dir.now c.in-None.ensures)
