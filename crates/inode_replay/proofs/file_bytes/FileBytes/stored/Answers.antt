use Rattle.std.proofs.Common.{sym, ◌∙◌}
use Rattle.std.proofs.lemmas.List.Sums.{length-filter}
use Rattle.inode_replay.proofs.file_bytes.FileBytes.stored.Goals as goal

pub returns-clause-count : goal.returns-clause-count
returns-clause-count c = c.count.ensures ∙ sym (length-filter (λ m. m) c.args.self.now.marks)
