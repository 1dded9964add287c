use Rattle.dhash_client.specs.Execution.{asks_left}
use Rattle.server_trials.proofs.live.client.put.Given as goal

abbrev pub decreases-asks : goal.decreases-asks
decreases-asks g l = asks_left l.put.execution
