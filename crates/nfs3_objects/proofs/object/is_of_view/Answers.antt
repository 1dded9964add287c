use Rattle.std.proofs.Common.{ap}
use Rattle.ivy_base.specs.declared.key.Key.{Key}
use Rattle.nfs3_objects.proofs.Bytes.{same_known}
use Rattle.nfs3_objects.proofs.object.is_of_view.Goals as goal

pub returns : goal.returns
returns c = same_known _ _ _ _ c.eq.ensures (ap (λ (k : Key). k.0) c.name.ensures)
