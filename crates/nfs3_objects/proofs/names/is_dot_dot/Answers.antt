use Rattle.nfs3_objects.proofs.Bytes.{same_known}
use Rattle.nfs3_objects.proofs.names.is_dot_dot.Goals as goal

pub returns : goal.returns
returns c = same_known _ _ _ _ c.eq.ensures c.as_slice.ensures
