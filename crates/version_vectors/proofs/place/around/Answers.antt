use Rattle.version_vectors.proofs.Edits.{kept_around_at, kept_around_between}
use Rattle.version_vectors.proofs.place.around.Goals as goal

pub returns-in-Ok : goal.returns-in-Ok
returns-in-Ok c = kept_around_at c.args.entries.now c.in-Ok.ensures

pub returns-in-Err : goal.returns-in-Err
returns-in-Err c = kept_around_between c.args.entries.now c.split_at.result.0.now c.split_at.result.1.now c.in-Err.ensures c.split_at.ensures.front c.split_at.ensures.back
