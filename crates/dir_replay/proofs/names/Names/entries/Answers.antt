use Rattle.std.proofs.Common.{ap, ◌∙◌, length, None, Some}
use Rattle.dir_replay.proofs.Shown.{listing-found}
use Rattle.dir_replay.proofs.names.Names.entries.Goals as goal

pub returns-in-Some : goal.returns-in-Some
returns-in-Some c = rw (← c.self.view_is) (c.len.ensures ∙ ap length (listing-found c.self.inside.nodes c.self.invariant c.args.dir.now (Some c.in-Some.node.now) c.in-Some.ensures))

pub returns-in-None : goal.returns-in-None
returns-in-None c = rw (← c.self.view_is) (ap length (listing-found c.self.inside.nodes c.self.invariant c.args.dir.now None c.in-None.ensures))
