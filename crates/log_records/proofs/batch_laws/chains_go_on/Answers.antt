use Rattle.log_records.proofs.Batches.{chains_begin, chains_go_on}
use Rattle.log_records.proofs.batch_laws.chains_go_on.Goals as goal

pub returns-clause-begin : goal.returns-clause-begin
returns-clause-begin c = chains_begin

pub returns-clause-go_on : goal.returns-clause-go_on
returns-clause-go_on c = chains_go_on
