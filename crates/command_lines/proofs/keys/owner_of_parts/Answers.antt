use Rattle.std.proofs.Common.{rules, sym, ◌∙◌}
use Rattle.std.proofs.lemmas.List.{take_rest}
use Rattle.command_lines.proofs.OwnerLemmas.{owner_without_place, owner_without_key, owner_of_key}
use Rattle.command_lines.proofs.keys.owner_of_parts.Goals as goal

pub returns-in_default-number_u64 : goal.returns-in_default-number_u64
returns-in_default-number_u64 c = owner_without_place c.args.parts.now _ (search rules) (sym c.number_u64.ensures ∙ c.in_default-number_u64.is)

pub returns-in_default-2 : goal.returns-in_default-2
returns-in_default-2 c =
    owner_without_key c.args.parts.now _ _ (search rules) (sym c.number_u64.ensures ∙ c.in-Some.is) (sym (rw take_rest at c.in_ok-key.ensures) ∙ c.in_default-2.is)

pub returns : goal.returns
returns c =
    owner_of_key c.args.parts.now _ _ _ (search rules) (sym c.number_u64.ensures ∙ c.in-Some.is) (sym (rw take_rest at c.in_ok-key.ensures) ∙ c.in-Some-2.is)
