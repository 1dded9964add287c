use Rattle.std.proofs.Common.{sym, ◌∙◌}
use Rattle.std.proofs.lemmas.Map.Text.{is_eq-slice_cmp}
use Rattle.dhash_repair.proofs.put.is_node.Goals as goal

pub returns : goal.returns
returns c = c.eq.ensures ∙ sym (is_eq-slice_cmp c.args.node.now.id.0 c.args.peer.now.id.0)
