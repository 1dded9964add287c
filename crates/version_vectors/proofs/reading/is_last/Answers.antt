use Rattle.std.proofs.Common.{ap, ◌∙◌}
use Rattle.std.specs.Ordering.{is_lt}
use Rattle.version_vectors.proofs.Order.{all_before}
use Rattle.version_vectors.proofs.reading.is_last.Goals as goal

pub returns-in-Some : goal.returns-in-Some
returns-in-Some c = all_before c.args.entries.now c.in-Some.last.now c.args.log.now c.is_lt.result c.in-Some.ensures.value c.requires (c.is_lt.ensures ∙ ap is_lt c.cmp.ensures)
