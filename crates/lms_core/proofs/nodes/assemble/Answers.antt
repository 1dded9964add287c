use Rattle.std.proofs.Common.{rules, ◌≡◌, ◌++◌, List, ℕ, length, sym, ap, ◌∙◌, subst, arith}
use Rattle.lms_core.specs.Kept.{HoldsLeaves}
use Rattle.lms_core.proofs.Trees.{halves_are}
use Rattle.lms_core.proofs.nodes.assemble.Goals as goal

pub fill_above-requires-clause-leaves : goal.fill_above-requires-clause-leaves
fill_above-requires-clause-leaves c =
    let front = c.resize.new.self.items in
    let left = c.args.left.now in
    let right = c.args.right.now in
    let count = c.leaf_count-count.ensures in
    let lengths = c.requires.left.0 in
    let others = c.requires.right.0 in
    let wide : length front ≡ c.leaf_count-count.result = search rules in
    let whole : c.as_mut_slice.result.now ≡ front ++ left ++ right = c.as_mut_slice.ensures.value ∙ (c.in_ok-extend_from_slice-2.ensures.items ∙ ap (λ (xs : List (List ℕ)). xs ++ right) c.in_ok-extend_from_slice.ensures.items) in
    subst (HoldsLeaves c.args.key.now) (sym whole)
    (halves_are c.args.key.now front left right c.leaf_count-count.result wide (omega arith) (omega arith) count c.requires.left.1 c.requires.right.1)
