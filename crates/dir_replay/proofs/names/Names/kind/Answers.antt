use Rattle.std.proofs.Common.{None, Some}
use Rattle.dir_replay.proofs.Shown.{bare-tree_of, kind-found}
use Rattle.dir_replay.proofs.names.Names.kind.Goals as goal

pub returns-in_err-get-clause-kind : goal.returns-in_err-get-clause-kind
returns-in_err-get-clause-kind c = rw (c.from_residual.ensures, ← c.self.view_is) (kind-found c.self.inside.nodes c.args.ino.now None c.in_err-get.ensures)

pub returns-in_err-get-clause-bare : goal.returns-in_err-get-clause-bare
returns-in_err-get-clause-bare c = rw (← c.self.view_is) (bare-tree_of c.self.inside.nodes)

pub returns-clause-kind : goal.returns-clause-kind
returns-clause-kind c = rw (← c.self.view_is) (kind-found c.self.inside.nodes c.args.ino.now (Some c.in_ok-get.field-0.now) c.in_ok-get.ensures)

pub returns-clause-bare : goal.returns-clause-bare
returns-clause-bare c = rw (← c.self.view_is) (bare-tree_of c.self.inside.nodes)
