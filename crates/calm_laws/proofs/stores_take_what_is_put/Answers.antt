use Rattle.calm_laws.proofs.PutsAcked.{puts_are_acknowledged}
use Rattle.calm_laws.proofs.PutsTaken.{live_puts_are_taken}
use Rattle.calm_laws.proofs.StoreRoom.{stores_have_room}
use Rattle.calm_laws.proofs.stores_take_what_is_put.Goals as goal

pub returns-clause-room : goal.returns-clause-room
returns-clause-room c = stores_have_room

pub returns-clause-taken_by_live : goal.returns-clause-taken_by_live
returns-clause-taken_by_live c = live_puts_are_taken

pub returns-clause-acknowledged : goal.returns-clause-acknowledged
returns-clause-acknowledged c = puts_are_acknowledged
