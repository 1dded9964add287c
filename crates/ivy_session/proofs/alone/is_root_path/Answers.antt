use Rattle.nfs3_objects.proofs.Bytes.{same_known}
use Rattle.ivy_session.proofs.alone.is_root_path.Goals as goal

pub returns : goal.returns
returns c = same_known _ _ _ _ c.eq.ensures c.as_slice.ensures
