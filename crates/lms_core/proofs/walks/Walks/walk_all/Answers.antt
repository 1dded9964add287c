use Rattle.std.proofs.Common.{◌∙◌, arith}
use Rattle.lms_core.proofs.OnWay.{same_end}
use Rattle.lms_core.proofs.walks.Walks.walk_all.Goals as goal

pub returns : goal.returns
returns c i below = c.places.invariant.1 i (omega arith) ∙ same_end c.args.leaf.now.id c.args.leaf.now.number c.args.self c.walk_fours.new.self i c.walk_fours.ensures below
