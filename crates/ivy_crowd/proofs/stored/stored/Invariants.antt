use Rattle.dhash_client.specs.Execution.{asks_left}
use Rattle.ivy_crowd.proofs.stored.stored.Given as goal

abbrev pub decreases-asks : goal.decreases-asks
decreases-asks g l = asks_left l.get.execution
