use Rattle.dir_replay.proofs.Shown.{bare-tree_of}
use Rattle.dir_replay.proofs.names.Names.laws.Goals as goal

pub returns-clause-bare : goal.returns-clause-bare
returns-clause-bare c = rw (← c.self.view_is) (bare-tree_of c.self.inside.nodes)
