use Rattle.std.proofs.Common.{◌≡◌, ℕ, [], ◌+◌, ◌*◌, ◌≤◌, slice_index_or, length, ap, ◌∙◌, arith}
use Rattle.hash_signature_model.specs.Parameters.{leaves}
use Rattle.lms_core.specs.Kept.{leaf_of}
use Rattle.lms_core.proofs.Fours.{four_more, leaf_from}
use Rattle.lms_core.proofs.nodes.fill_leaves.Goals as goal

pub fours-preserved : goal.fours-preserved
fours-preserved c =
    let key = c.args.key.now in
    let n = 4 * c.fours.four in
    let leaf = c.args.first + n in
    let none : leaf + 0 ≡ leaf = omega arith in
    let count : c.leaf_count-count.result ≡ leaves key.set.h = c.leaf_count-count.ensures in
    let long = c.fours.auto.out in
    let room : n + 4 ≤ length c.fours.out = omega arith in
    let node0 = leaf_from key (leaf) _ c.hash_leaf.result (slice_index_or c.make_keys.result 0 []) c.hash_leaf.ensures (omega arith) (rw none at (c.make_keys.ensures 0 (omega arith))) in
    let node1 = leaf_from key (leaf + 1) _ c.hash_leaf-in-fours.result (slice_index_or c.make_keys.result 1 []) c.hash_leaf-in-fours.ensures (omega arith) (c.make_keys.ensures 1 (omega arith)) in
    let node2 = leaf_from key (leaf + 2) _ c.hash_leaf-in-fours-2.result (slice_index_or c.make_keys.result 2 []) c.hash_leaf-in-fours-2.ensures (omega arith) (c.make_keys.ensures 2 (omega arith)) in
    let node3 = leaf_from key (leaf + 3) _ c.hash_leaf-in-fours-3.result (slice_index_or c.make_keys.result 3 []) c.hash_leaf-in-fours-3.ensures (omega arith) (c.make_keys.ensures 3 (omega arith)) in
    let more : 4 * (c.fours.four + 1) ≡ n + 4 = omega arith in
    let next : (i : ℕ) → leaf + i ≡ c.args.first + (n + i) = λ i. omega arith in
    rw more
    (four_more (λ k. leaf_of key (c.args.first + k)) n c.fours.out _ _ _ _ room node0 (node1 ∙ ap (leaf_of key) (next 1)) (node2 ∙ ap (leaf_of key) (next 2)) (node3 ∙ ap (leaf_of key) (next 3)) c.fours.invariant)

pub returns : goal.returns
returns c k lt =
    let whole = c.requires.whole in
    c.fours.invariant k (omega arith)
