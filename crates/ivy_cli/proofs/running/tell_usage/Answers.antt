use Rattle.ivy_cli.proofs.RunLemmas.{whole_line, part_of_line}
use Rattle.ivy_cli.specs.Words.{usage_line}
use Rattle.ivy_cli.proofs.running.tell_usage.Goals as goal

pub returns-in-Ok-clause-front : goal.returns-in-Ok-clause-front
returns-in-Ok-clause-front g c = whole_line usage_line c.as_slice.result.now _ _ c.as_slice.ensures c.in-Ok.ensures.ok

pub returns-in-Err-Failed-clause-front : goal.returns-in-Err-Failed-clause-front
returns-in-Err-Failed-clause-front g c = part_of_line usage_line c.as_slice.result.now _ _ c.as_slice.ensures c.in-Err-Failed.ensures.front

pub returns-in-Err-Memory-clause-front : goal.returns-in-Err-Memory-clause-front
returns-in-Err-Memory-clause-front g c = part_of_line usage_line c.as_slice.result.now _ _ c.as_slice.ensures c.in-Err-Memory.ensures.front
