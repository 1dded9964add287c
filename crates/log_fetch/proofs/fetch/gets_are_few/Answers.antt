use Rattle.log_fetch.proofs.Counting.{gets_are_few}
use Rattle.log_fetch.proofs.fetch.gets_are_few.Goals as goal

pub returns : goal.returns
returns c = gets_are_few
