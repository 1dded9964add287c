use Rattle.std.proofs.Common.{◌∙◌}
use Rattle.snapshot_loading.proofs.Contents.{all_written, file_content, other_content, is_file, is_other}
use Rattle.snapshot_loading.proofs.content.content_of.Goals as goal
use Rattle.snapshot_loading.proofs.content.content_of.Goals.{then-eq+in_ok-write, else-eq}

pub returns-clause-content : goal.returns-clause-content
returns-clause-content c = elim c.if-eq.branch [
  | then-eq+in_ok-write w ↦ file_content c.args.part.now c.in_ok-content.content c.if-eq.content c.set.new.content (is_file c.args.part.now.kind w.if-eq.ensures) c.in_ok-content.ensures (w.content-is ∙ w.in_ok-write.ensures) c.in_ok-set.ensures
  | else-eq w ↦ other_content c.args.part.now c.in_ok-content.content c.if-eq.content c.set.new.content c.requires (is_other c.args.part.now.kind w.if-eq.ensures) c.in_ok-content.ensures w.content-is c.in_ok-set.ensures
]

pub returns-clause-written : goal.returns-clause-written
returns-clause-written c file = all_written c.args.part.now c.set.new.content (returns-clause-content c) file
