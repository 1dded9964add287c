use Rattle.std.proofs.Common.{◌∙◌, subst}
use Rattle.dhash_repair.specs.Putting.{PuttingIsWanted}
use Rattle.dhash_repair.proofs.Repairing.{over_by}
use Rattle.dhash_repair.proofs.repair.Repair.go_on.Goals as goal

pub returns-in_ok-conclude-in-Done : goal.returns-in_ok-conclude-in-Done
returns-in_ok-conclude-in-Done c =
    over_by c.args.self.now c.conclude.new.self c.args.put c.next.new.self c.in-Done.goes c.ack.result c.requires (subst (PuttingIsWanted c.args.put c.next.new.self) c.in-Done.is c.in_ok-node.ensures.wanted)
    (c.ack.ensures ∙ c.in_ok-node.ensures.ack) c.in_ok-conclude-in-Done.ensures
