use Rattle.std.proofs.Common.{◌∙◌, None, Some}
use Rattle.dir_replay.proofs.Shown.{listing-found}
use Rattle.dir_replay.proofs.names.Names.listing.Goals as goal

pub returns : goal.returns
returns c = rw (← c.self.view_is) (c.of-2.ensures ∙ c.in_ok-list.ensures ∙ listing-found c.self.inside.nodes c.self.invariant c.args.dir.now (Some c.in-Some.node.now) c.in-Some.ensures)

pub returns-in_default : goal.returns-in_default
returns-in_default c = rw (← c.self.view_is) (c.of.ensures ∙ c.new.ensures.items ∙ listing-found c.self.inside.nodes c.self.invariant c.args.dir.now None c.in_default.ensures)
