use Rattle.std.proofs.Common.{rules, sym, ◌∙◌, arith}
use Rattle.command_lines.proofs.ReadLemmas.{too_few_for_node, too_many_for_node, without_node}
use Rattle.command_lines.proofs.nodes.only_node.Goals.{in_default-via-then-words-lt1, in_default-via-else-words-lt1+else-words-lt2}
use Rattle.command_lines.proofs.nodes.only_node.Goals as goal

pub returns-in_default : goal.returns-in_default
returns-in_default c =
    elim c.in_default.branch [
      | in_default-via-then-words-lt1 w ↦ sym (too_few_for_node c.args.words.now (search rules))
      | in_default-via-else-words-lt1+else-words-lt2 w ↦ sym (too_many_for_node c.args.words.now (search rules))
    ]

pub returns-in_default-2 : goal.returns-in_default-2
returns-in_default-2 c =
    sym (without_node c.args.words.now _ (omega (arith, c.in-len1.len_at_least, c.in-len1.len_below)) (sym c.in_ok-node.ensures ∙ c.in_default-2.is))
