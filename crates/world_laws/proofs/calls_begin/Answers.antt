use Rattle.world_laws.proofs.Beginning.{calls_begin}
use Rattle.world_laws.proofs.Opening.{open_line_keeps}
use Rattle.world_laws.proofs.calls_begin.Goals as goal

pub returns-clause-begin : goal.returns-clause-begin
returns-clause-begin c = calls_begin

pub returns-clause-open : goal.returns-clause-open
returns-clause-open c = open_line_keeps
