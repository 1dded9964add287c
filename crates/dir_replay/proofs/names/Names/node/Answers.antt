use Rattle.dir_replay.proofs.Found.{there, kept}
use Rattle.dir_replay.proofs.names.Names.node.Goals as goal

pub returns-clause-there : goal.returns-clause-there
returns-clause-there c = there c.self.inside.nodes c.self.invariant c.args.self.now c.self.view_is c.args.ino.now c.get.result c.get.ensures

pub returns-clause-kept : goal.returns-clause-kept
returns-clause-kept c = kept c.self.inside.nodes c.self.invariant c.args.self.now c.self.view_is c.args.ino.now c.get.result c.get.ensures
