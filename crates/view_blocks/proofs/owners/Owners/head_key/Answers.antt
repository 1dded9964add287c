use Rattle.std.proofs.Common.{◌∙◌}
use Rattle.view_blocks.proofs.Heads.{kept_head}
use Rattle.view_blocks.proofs.owners.Owners.head_key.Goals as goal

pub returns-in-Some : goal.returns-in-Some
returns-in-Some c = c.index.ensures ∙ kept_head c.self.inside.keys.items c.args.self.now c.self.inside.heads.items c.args.owner.now c.in-Some.place c.index.result.now c.self.invariant.heads_are c.self.view_is c.in-Some.ensures.0 c.in-Some.ensures.1
