use Rattle.world_laws.proofs.MetBytes as bytes
use Rattle.world_laws.proofs.SnapRoom as room
use Rattle.world_laws.proofs.snapshots_can_be_saved.Goals as goal

pub returns-clause-empty : goal.returns-clause-empty
returns-clause-empty c = bytes.empty_met_bytes

pub returns-clause-lines : goal.returns-clause-lines
returns-clause-lines c = bytes.met_bytes_come

pub returns-clause-saved : goal.returns-clause-saved
returns-clause-saved c = room.snapshots_can_be_saved

pub returns-clause-fails : goal.returns-clause-fails
returns-clause-fails c = room.snapshots_fail_by_saves

pub returns-clause-scripts : goal.returns-clause-scripts
returns-clause-scripts c = room.scripts_save_snapshots
