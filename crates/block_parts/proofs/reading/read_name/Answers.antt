use Rattle.std.proofs.Common.{refl}
use Rattle.block_parts.proofs.Misfits.{name_front, no_such_name}
use Rattle.block_parts.proofs.reading.read_name.Goals as goal

pub returns-then-not-name_ok-clause-err : goal.returns-then-not-name_ok-clause-err
returns-then-not-name_ok-clause-err c = no_such_name c.in_ok-name.ensures.ok c.name_ok.ensures.1 c.if-not-name_ok.true

pub returns-clause-ok : goal.returns-clause-ok
returns-clause-ok c = name_front c.in_ok-name.ensures.ok (c.if-not-name_ok.ensures.0 refl)
