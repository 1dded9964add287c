use Rattle.world_laws.proofs.EachLine.{each_line_keeps}
use Rattle.calm_laws.proofs.Whole.{heads_name_what_was_put, known_is_put_or_pending}
use Rattle.calm_laws.proofs.heads_name_what_was_put.Goals as goal

pub returns-clause-heads : goal.returns-clause-heads
returns-clause-heads c = heads_name_what_was_put each_line_keeps

pub returns-clause-known : goal.returns-clause-known
returns-clause-known c = known_is_put_or_pending each_line_keeps
