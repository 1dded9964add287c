use Rattle.dir_replay.proofs.Shown.{subdirs-missing}
use Rattle.dir_replay.proofs.names.Names.subdirs.Goals as goal

pub returns-in-None : goal.returns-in-None
returns-in-None c = rw (← c.self.view_is) (subdirs-missing c.self.inside.nodes c.self.invariant c.args.dir.now c.in-None.ensures)
