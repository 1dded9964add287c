use Rattle.std.proofs.Common.{◌+◌, ◌/◌, ℕ, sym, ap, ◌∙◌, arith}
use Rattle.hash_signature_model.specs.Parameters.{leaves}
use Rattle.hash_signature_model.specs.Nodes.{sibling_of}
use Rattle.hash_signature_model.proofs.Paths.{leaves_small, above_none, above_more}
use Rattle.lms_core.specs.Kept.{at, path_in}
use Rattle.lms_core.proofs.Pieces.{pushed, nothing_pushed}
use Rattle.lms_core.proofs.signing.push_path.Goals as goal

pub levels-init : goal.levels-init
levels-init c = record {
  r_is = ap (λ (n : ℕ). n + c.args.leaf) c.leaf_count.ensures ∙ sym (above_none (leaves c.args.h + c.args.leaf));
  small = omega (arith, leaves_small c.args.h);
  inside = omega arith;
  out_is = nothing_pushed c.args.out.now.items (path_in c.args.nodes.now c.args.h c.args.leaf);
}

pub levels-preserved : goal.levels-preserved
levels-preserved c =
    let inside = c.levels.invariant.inside in
    let small = c.levels.invariant.small in
    record {
      r_is = ap (λ (n : ℕ). n / 2) c.levels.invariant.r_is ∙ sym (above_more (leaves c.args.h + c.args.leaf) c.levels._n);
      small = omega arith;
      inside = omega arith;
      out_is = pushed c.args.out.now.items c.levels.out.items c.append.new.out.items _ (path_in c.args.nodes.now c.args.h c.args.leaf) c.levels._n c.in_ok-append.ensures
          (ap (λ (n : ℕ). at c.args.nodes.now n) (c.number_beside.ensures.value ∙ ap sibling_of c.levels.invariant.r_is)) c.levels.invariant.out_is;
    }
