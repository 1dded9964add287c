use Rattle.std.proofs.Common.{unwrap_or, ap, ◌∙◌, Option}
use Rattle.ivy_base.specs.declared.key.Key.{Key}
use Rattle.nfs3_reads.proofs.Parents.{parent_of_names}
use Rattle.nfs3_reads.proofs.finding.above.Goals as goal

pub returns : goal.returns
returns c = c.unwrap_or.ensures ∙ ap (λ (o : Option Key). unwrap_or o c.args.dir.now) (c.parent.ensures.parent ∙ parent_of_names _ _ _ c.names.ensures c.requires)
