use Rattle.std.proofs.Common.{rules, sym, ◌∙◌, arith}
use Rattle.command_lines.proofs.ReadLemmas.{too_few_for_damage, too_many_for_damage, damage_without_offset}
use Rattle.command_lines.proofs.nodes.damage.Goals.{in_default-via-then-words-lt4, in_default-via-else-words-lt4+else-words-lt5}
use Rattle.command_lines.proofs.nodes.damage.Goals as goal

pub returns-in_default : goal.returns-in_default
returns-in_default c =
    elim c.in_default.branch [
      | in_default-via-then-words-lt4 w ↦ sym (too_few_for_damage c.args.words.now (search rules))
      | in_default-via-else-words-lt4+else-words-lt5 w ↦ sym (too_many_for_damage c.args.words.now (search rules))
    ]

pub returns-in_default-number_u64 : goal.returns-in_default-number_u64
returns-in_default-number_u64 c =
    damage_without_offset c.args.words.now _ (omega (arith, c.in-len4.len_at_least, c.in-len4.len_below)) (sym c.number_u64.ensures ∙ c.in_default-number_u64.is)
