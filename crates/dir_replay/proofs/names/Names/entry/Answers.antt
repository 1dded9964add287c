use Rattle.dir_replay.proofs.Views.{entry-found}
use Rattle.dir_replay.proofs.names.Names.entry.Goals as goal
use Rattle.std.proofs.Common.{◌∙◌, None, Some}

pub returns-in_err-get : goal.returns-in_err-get
returns-in_err-get c = rw (c.from_residual.ensures, ← c.self.view_is) (entry-found c.self.inside.nodes c.self.invariant c.args.dir.now c.args.name.now None c.in_err-get.ensures)

pub returns : goal.returns
returns c = rw (← c.self.view_is) (c.get-2.ensures ∙ entry-found c.self.inside.nodes c.self.invariant c.args.dir.now c.args.name.now (Some c.in_ok-get.field-0.now) c.in_ok-get.ensures)
