use Rattle.dhash_repair.specs.Repairing.{repair_left}
use Rattle.ring_run.proofs.ring.LiveRing.put_all.Given as goal

abbrev pub decreases-asks : goal.decreases-asks
decreases-asks g l = repair_left l.repair
