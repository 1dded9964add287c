use Rattle.std.proofs.Common.{◌≡◌, ◌+◌, ◌-◌, ℕ, length, take, drop, ◌∙◌, subst, arith}
use Rattle.std.proofs.lemmas.List.{length-take, length-drop}
use Rattle.hash_signature_model.specs.Parameters.{leaves}
use Rattle.lms_core.specs.Kept.{at, leaf_of}
use Rattle.lms_core.proofs.Trees.{nodes_known, at_part}
use Rattle.lms_core.proofs.nodes.fill.Goals as goal

pub returns : goal.returns
returns c =
    let count = c.leaf_count-count.result in
    let e : count ≡ leaves c.args.key.now.set.h = c.leaf_count-count.ensures in
    let whole = c.requires in
    let wide : length (take (length c.args.nodes.now - count) (drop count c.args.nodes.now)) ≡ count = omega (arith, length-take (length c.args.nodes.now - count) (drop count c.args.nodes.now), length-drop count c.args.nodes.now) in
    let size = c.fill_inner.ensures.kept in
    let out = c.fill_leaves.auto.out in
    nodes_known c.args.key.now c.fill_inner.new.nodes
    (omega arith)
    (λ k lt.
    let none : 0 + k ≡ k = omega arith in
    let written = rw none at (c.fill_leaves.ensures k (omega arith)) in
    let there = c.fill_inner.ensures.same (count + k) (omega arith) ∙ (at_part c.args.nodes.now c.fill_leaves.new.out _ count k (omega arith) (omega arith) ∙ written) in
    subst (λ (n : ℕ). at c.fill_inner.new.nodes (n + k) ≡ leaf_of c.args.key.now k) e there)
    (λ r low lt. c.fill_inner.ensures.inner r low (omega arith))
