use Rattle.std.proofs.Common.{◌+◌, ◌/◌, ℕ, sym, ap, ◌∙◌}
use Rattle.hash_signature_model.specs.Parameters.{leaves}
use Rattle.hash_signature_model.specs.Nodes.{leaf_node}
use Rattle.hash_signature_model.proofs.Paths.{above_none, above_more, climbed_none, climb_step}
use Rattle.lms_core.proofs.verifying.climb.Goals as goal

pub levels-init : goal.levels-init
levels-init c = record {
  r_is = ap (λ (n : ℕ). n + c.args.leaf) c.leaf_count.ensures ∙ sym (above_none (leaves c.args.h + c.args.leaf));
  node_is = c.hash_leaf-node.ensures ∙ (ap (λ (n : ℕ). leaf_node c.args.id.now (n + c.args.leaf) c.args.key.now) c.leaf_count.ensures ∙ sym (climbed_none c.args.id.now (leaves c.args.h + c.args.leaf) c.args.path.now _));
}

pub levels-preserved : goal.levels-preserved
levels-preserved c = record {
  r_is = ap (λ (n : ℕ). n / 2) c.levels.invariant.r_is ∙ sym (above_more (leaves c.args.h + c.args.leaf) c.levels.n);
  node_is = c.hash_above-node.ensures ∙ climb_step c.args.id.now (leaves c.args.h + c.args.leaf) c.args.path.now c.levels.n _ c.levels.r c.levels.node c.value.result c.levels.invariant.r_is c.levels.invariant.node_is c.value.ensures;
}
