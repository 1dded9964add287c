use Rattle.std.proofs.Common.{sym, ap}
use Rattle.std.specs.Prelude.{option_map}
use Rattle.version_vectors.specs.Entries.{entry_of}
use Rattle.version_vectors.proofs.Places.{got, missing}
use Rattle.version_vectors.proofs.vector.Vector.get.Goals as goal

pub returns-in-Ok : goal.returns-in-Ok
returns-in-Ok c = rw (← c.self.view_is) (got c.self.inside.entries.items c.in-Ok.i c.index.result.now (rw (← c.as_slice.ensures.value) c.in-Ok.ensures) c.index.ensures)

pub returns-in-Err : goal.returns-in-Err
returns-in-Err c = rw (← c.self.view_is, ← c.as_slice.ensures.value) (ap (option_map (entry_of c.args.log.now)) (sym (missing c.in-Err.ensures)))
