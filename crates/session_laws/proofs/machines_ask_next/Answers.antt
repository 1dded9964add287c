use Rattle.session_laws.proofs.AskedMachines.{head_asks_next, block_asks_next, put_asks_next}
use Rattle.session_laws.proofs.machines_ask_next.Goals as goal

pub returns : goal.returns
returns g c = record { heads = head_asks_next; blocks = block_asks_next; puts = put_asks_next }
