use Rattle.script_driver.specs.Run.{Ended, RefusedAt, LimitAt}
use Rattle.ivy_play.specs.Playing.{initial_world}
use Rattle.ivy_play.proofs.Plays.{runs_fully, read_rose, write_rose, lacked, begins, played, ends_alike}
use Rattle.ivy_play.proofs.playing.play.Goals as goal

pub run_script-requires : goal.run_script-requires
run_script-requires g c = (initial_world, c.new-machine.ensures, begins)

pub returns-in-Ok-Ended-clause-ended : goal.returns-in-Ok-Ended-clause-ended
returns-in-Ok-Ended-clause-ended g c = λ zero. ((rw c.in-Ok-Ended.field-0-is at c.in-Ok-Ended.ensures.told) initial_world c.new-machine.ensures begins)

pub returns-in-Ok-Ended-clause-front : goal.returns-in-Ok-Ended-clause-front
returns-in-Ok-Ended-clause-front g c = c.run_script.ensures.front initial_world c.new-machine.ensures begins

pub returns-in-Ok-Ended-clause-complete : goal.returns-in-Ok-Ended-clause-complete
returns-in-Ok-Ended-clause-complete g c = played Ended _ _ _ _ _ ((rw c.in-Ok-Ended.field-0-is at c.in-Ok-Ended.ensures.told) initial_world c.new-machine.ensures begins)

pub returns-in-Ok-Refused-clause-refused : goal.returns-in-Ok-Refused-clause-refused
returns-in-Ok-Refused-clause-refused g c = λ three. (_, ((rw c.in-Ok-Refused.field-0-is at c.in-Ok-Refused.ensures.told) initial_world c.new-machine.ensures begins))

pub returns-in-Ok-Refused-clause-front : goal.returns-in-Ok-Refused-clause-front
returns-in-Ok-Refused-clause-front g c = c.run_script.ensures.front initial_world c.new-machine.ensures begins

pub returns-in-Ok-Refused-clause-complete : goal.returns-in-Ok-Refused-clause-complete
returns-in-Ok-Refused-clause-complete g c = played (RefusedAt _) _ _ _ _ _ ((rw c.in-Ok-Refused.field-0-is at c.in-Ok-Refused.ensures.told) initial_world c.new-machine.ensures begins)

pub returns-in-Err-Read-clause-front : goal.returns-in-Err-Read-clause-front
returns-in-Err-Read-clause-front g c = c.run_script.ensures.front initial_world c.new-machine.ensures begins

pub returns-in-Err-Read-clause-read_fault : goal.returns-in-Err-Read-clause-read_fault
returns-in-Err-Read-clause-read_fault g c = λ four. ((rw c.in-Err-Read.field-0-is at c.in-Err-Read.ensures.fails) initial_world c.new-machine.ensures begins).1

pub returns-in-Err-Read-clause-waits : goal.returns-in-Err-Read-clause-waits
returns-in-Err-Read-clause-waits g c = λ four. ((rw c.in-Err-Read.field-0-is at c.in-Err-Read.ensures.waits) initial_world c.new-machine.ensures begins)

pub returns-in-Err-Read-clause-complete : goal.returns-in-Err-Read-clause-complete
returns-in-Err-Read-clause-complete g c = read_rose _ _ _ 4 _ _ ((rw c.in-Err-Read.field-0-is at c.in-Err-Read.ensures.fails) initial_world c.new-machine.ensures begins).1

pub returns-in-Err-Write-clause-front : goal.returns-in-Err-Write-clause-front
returns-in-Err-Write-clause-front g c = c.run_script.ensures.front initial_world c.new-machine.ensures begins

pub returns-in-Err-Write-clause-write_fault : goal.returns-in-Err-Write-clause-write_fault
returns-in-Err-Write-clause-write_fault g c = λ five. ((rw c.in-Err-Write.field-0-is at c.in-Err-Write.ensures.fails) initial_world c.new-machine.ensures begins).1

pub returns-in-Err-Write-clause-less : goal.returns-in-Err-Write-clause-less
returns-in-Err-Write-clause-less g c = λ five. ((rw c.in-Err-Write.field-0-is at c.in-Err-Write.ensures.fails) initial_world c.new-machine.ensures begins).0

pub returns-in-Err-Write-clause-complete : goal.returns-in-Err-Write-clause-complete
returns-in-Err-Write-clause-complete g c = write_rose _ _ _ 5 _ _ ((rw c.in-Err-Write.field-0-is at c.in-Err-Write.ensures.fails) initial_world c.new-machine.ensures begins).1

pub returns-in-Err-Memory-clause-front : goal.returns-in-Err-Memory-clause-front
returns-in-Err-Memory-clause-front g c = c.run_script.ensures.front initial_world c.new-machine.ensures begins

pub returns-in-Err-Memory-clause-complete : goal.returns-in-Err-Memory-clause-complete
returns-in-Err-Memory-clause-complete g c = lacked _ _ _ _ _

pub returns-in-Err-Read-clause-alike : goal.returns-in-Err-Read-clause-alike
returns-in-Err-Read-clause-alike g c = λ ending each no_read no_write. absurd (no_read ((rw c.in-Err-Read.field-0-is at c.in-Err-Read.ensures.fails) initial_world c.new-machine.ensures begins).1)

pub returns-in-Err-Write-clause-alike : goal.returns-in-Err-Write-clause-alike
returns-in-Err-Write-clause-alike g c = λ ending each no_read no_write. absurd (no_write ((rw c.in-Err-Write.field-0-is at c.in-Err-Write.ensures.fails) initial_world c.new-machine.ensures begins).1)

pub returns-in-Ok-Ended-clause-alike : goal.returns-in-Ok-Ended-clause-alike
returns-in-Ok-Ended-clause-alike g c = ends_alike Ended _ _ _ _ _ ((rw c.in-Ok-Ended.field-0-is at c.in-Ok-Ended.ensures.told) initial_world c.new-machine.ensures begins)

pub returns-in-Ok-Refused-clause-alike : goal.returns-in-Ok-Refused-clause-alike
returns-in-Ok-Refused-clause-alike g c = ends_alike (RefusedAt _) _ _ _ _ _ ((rw c.in-Ok-Refused.field-0-is at c.in-Ok-Refused.ensures.told) initial_world c.new-machine.ensures begins)

pub returns-clause-limited : goal.returns-clause-limited
returns-clause-limited g c = λ seven. (_, ((rw c.in-Ok-Exceeded.field-0-is at c.in-Ok-Exceeded.ensures.told) initial_world c.new-machine.ensures begins))

pub returns-clause-front : goal.returns-clause-front
returns-clause-front g c = c.run_script.ensures.front initial_world c.new-machine.ensures begins

pub returns-clause-complete : goal.returns-clause-complete
returns-clause-complete g c = played (LimitAt _) _ _ _ _ _ ((rw c.in-Ok-Exceeded.field-0-is at c.in-Ok-Exceeded.ensures.told) initial_world c.new-machine.ensures begins)

pub returns-clause-alike : goal.returns-clause-alike
returns-clause-alike g c = ends_alike (LimitAt _) _ _ _ _ _ ((rw c.in-Ok-Exceeded.field-0-is at c.in-Ok-Exceeded.ensures.told) initial_world c.new-machine.ensures begins)

pub returns-in-Ok-Ended-clause-fully : goal.returns-in-Ok-Ended-clause-fully
returns-in-Ok-Ended-clause-fully g c = runs_fully _

pub returns-in-Ok-Refused-clause-fully : goal.returns-in-Ok-Refused-clause-fully
returns-in-Ok-Refused-clause-fully g c = runs_fully _

pub returns-in-Err-Read-clause-fully : goal.returns-in-Err-Read-clause-fully
returns-in-Err-Read-clause-fully g c = runs_fully _

pub returns-in-Err-Write-clause-fully : goal.returns-in-Err-Write-clause-fully
returns-in-Err-Write-clause-fully g c = runs_fully _

pub returns-in-Err-Memory-clause-fully : goal.returns-in-Err-Memory-clause-fully
returns-in-Err-Memory-clause-fully g c = runs_fully _

pub returns-clause-fully : goal.returns-clause-fully
returns-clause-fully g c = runs_fully _
