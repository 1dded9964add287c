use Rattle.dhash_client.specs.Machine.{looks_left}
use Rattle.ring_run.proofs.ring.LiveRing.first_owner.Given as goal

abbrev pub decreases-asks : goal.decreases-asks
decreases-asks g l = looks_left l.lookup
