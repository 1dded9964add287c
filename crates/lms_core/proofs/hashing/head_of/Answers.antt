use Rattle.std.proofs.Common.{refl}
use Rattle.lms_core.proofs.Fours.{head_bytes}
use Rattle.lms_core.proofs.hashing.head_of.Goals as goal

pub returns : goal.returns
returns c = rw (c.copy_from_slice.ensures.after, c.copy_from_slice-2.ensures.after, c.to_be_bytes.ensures) (head_bytes c.args.id.now _ c.told-id refl)
