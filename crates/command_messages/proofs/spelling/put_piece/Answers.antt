use Rattle.std.proofs.Common.{refl}
use Rattle.command_messages.proofs.spelling.put_piece.Goals as goal

pub returns-in_ok-put_head-in-Call : goal.returns-in_ok-put_head-in-Call
returns-in_ok-put_head-in-Call c = rw (c.in-Call.is, c.in_ok-put_head-in-Call.ensures, c.in_ok-groups-in-Call.ensures) refl
