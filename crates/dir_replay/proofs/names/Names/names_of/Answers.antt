use Rattle.dir_replay.proofs.Shown.{names-missing}
use Rattle.dir_replay.proofs.names.Names.names_of.Goals as goal

pub returns-in-None : goal.returns-in-None
returns-in-None c = rw (← c.self.view_is) (names-missing c.self.inside.nodes c.self.invariant c.args.ino.now c.in-None.ensures)
