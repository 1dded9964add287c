use Rattle.std.proofs.Common.{◌≡◌, ◌+◌, ◌∙◌, arith}
use Rattle.hash_signature_model.specs.Parameters.{leaves}
use Rattle.lms_core.proofs.Trees.{nodes_known}
use Rattle.lms_core.proofs.nodes.fill_above.Goals as goal

pub returns : goal.returns
returns c =
    let e : c.leaf_count.result ≡ leaves c.args.key.now.set.h = c.leaf_count.ensures in
    let size = c.fill_inner.ensures.kept in
    nodes_known c.args.key.now c.fill_inner.new.nodes
    (omega arith)
    (λ k lt. c.fill_inner.ensures.same (leaves c.args.key.now.set.h + k) (omega arith) ∙ c.requires.leaves k lt)
    (λ r low lt. c.fill_inner.ensures.inner r low (omega arith))
