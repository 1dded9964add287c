use Rattle.version_vectors.proofs.Domination.{dominates_by_entries}
use Rattle.version_vectors.proofs.vector.Vector.dominates.Goals as goal

pub returns : goal.returns
returns c = rw (← c.entries.ensures.entries) (dominates_by_entries c.args.self.now c.entries.result.now c.reaches.result (rw c.entries.ensures.entries c.entries.ensures.fits.in_order) c.reaches.ensures)
