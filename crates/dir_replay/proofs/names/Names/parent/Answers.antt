use Rattle.dir_replay.proofs.Shown.{parent-missing}
use Rattle.dir_replay.proofs.names.Names.parent.Goals as goal

pub returns-in_err-get-clause-parent : goal.returns-in_err-get-clause-parent
returns-in_err-get-clause-parent c = rw (c.from_residual.ensures, ← c.self.view_is) (parent-missing c.self.inside.nodes c.self.invariant c.args.dir.now c.in_err-get.ensures)
