use Rattle.std.proofs.Common.{◌≡◌, ◌≤◌, ◌<◌, ◌++◌, [], ◌∷◌, length, sym, ap, ◌∙◌, subst}
use Rattle.std.specs.Prelude.{codes}
use Rattle.std.specs.Fmt.{decimal}
use Rattle.std.proofs.lemmas.List.{length-map}
use Rattle.log_model.specs.Conflicts.{clashes, most_clashes}
use Rattle.conflict_list.specs.Conflicts.{seen, seen_all}
use Rattle.script_participants.specs.Texts.{clash_lines_of}
use Rattle.script_participants.proofs.Clashing.{list_shown, too_many_shown}
use Rattle.script_participants.proofs.participants.Participants.conflicts_text.Goals as goal

pub returns-in_ok-list_text-in-Ok : goal.returns-in_ok-list_text-in-Ok
returns-in_ok-list_text-in-Ok c = λ w p has same.
    let long : length (seen_all c.in-Ok.list.items) ≡ length c.in-Ok.list.items = length-map c.in-Ok.list.items seen in
    list_shown w c.args.self.now has c.args.one.now c.in_ok-list_text-in-Ok.field-0.items (seen_all c.in-Ok.list.items) (c.in-Ok.ensures.list ∙ ap clashes c.order.ensures.records)
    (subst (λ n. n ≤ most_clashes) (sym long) c.in-Ok.ensures.few)
    (c.in_ok-list_text-in-Ok.ensures
    ∙ (λ i. codes "conflicts " ++ c.name.ensures i ++ 32 ∷ decimal (length (c.as_slice.ensures.value i)) ++ 10 ∷ clash_lines_of c.args.self.now (seen_all (c.as_slice.ensures.value i)))
    ∙ ap (λ n. codes "conflicts " ++ c.args.one.now.name ++ 32 ∷ decimal n ++ 10 ∷ clash_lines_of c.args.self.now (seen_all c.in-Ok.list.items)) (sym long))
    p same

pub returns-in-Err-TooMany : goal.returns-in-Err-TooMany
returns-in-Err-TooMany c = λ w p has same.
    let many = rw c.in-Err-TooMany.field-0-is at c.in-Err-TooMany.ensures.fault in
    too_many_shown w c.args.self.now has c.args.one.now (subst (λ held. most_clashes < length (clashes held)) c.order.ensures.records many) p same
