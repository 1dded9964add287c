use Rattle.version_vectors.proofs.OneVector.{one_vector}
use Rattle.version_vectors.proofs.reading.vectors_read_one_way.Goals as goal

pub returns : goal.returns
returns c = one_vector
