use Rattle.dhash_client.specs.Execution.{asks_left}
use Rattle.server_trials.proofs.stored.head.Given as goal

abbrev pub decreases-asks : goal.decreases-asks
decreases-asks g l = asks_left l.get.execution
