use Rattle.std.proofs.Common.{◌∙◌}
use Rattle.nfs3_objects.proofs.Bytes.{same_pointwise}
use Rattle.nfs3_reads.proofs.page.are_same.Goals as goal

pub returns : goal.returns
returns c = c.eq.ensures ∙ same_pointwise c.args.a.now c.args.b.now
