use Rattle.std.proofs.Common.{List, [], ◌∷◌, ◌++◌, get_or, take, map, sym, ap, ◌∙◌, append_assoc}
use Rattle.std.proofs.lemmas.List.{map_more}
use Rattle.conflict_list.specs.declared.marked.Marked.{Marked}
use Rattle.conflict_list.specs.Order.{marked}
use Rattle.conflict_list.proofs.marked.mark.Goals as goal

pub numbers-preserved : goal.numbers-preserved
numbers-preserved c =
    let one = marked c.args.log c.args.place (get_or c.args.numbers.now c.numbers.number-index 0) in
    let before = map (marked c.args.log c.args.place) (take c.numbers.number-index c.args.numbers.now) in
    c.in_ok-push.ensures.items ∙ ap (λ (l : List Marked). l ++ one ∷ []) c.numbers.invariant ∙ append_assoc c.args.list.now.items before (one ∷ [])
    ∙ ap (λ (l : List Marked). c.args.list.now.items ++ l) (sym (map_more (marked c.args.log c.args.place) c.args.numbers.now c.numbers.number-index 0 c.numbers-test.true))
