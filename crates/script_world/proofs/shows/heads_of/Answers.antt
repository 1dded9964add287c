use Rattle.std.proofs.Common.{List, ℕ, ap, sym, ◌∙◌}
use Rattle.std.specs.Ordering.{eq_by_cmp}
use Rattle.ivy_base.specs.Naming.{owner_cmp}
use Rattle.log_model.specs.Heads.{owner_in}
use Rattle.script_world.proofs.Telling.{one_more, none_more}
use Rattle.script_world.proofs.shows.heads_of.Goals as goal
use Rattle.script_world.proofs.shows.heads_of.Goals.{then-is_of+in_ok-copy+in_ok-push, else-is_of}

pub each-preserved : goal.each-preserved
each-preserved c =
    let test = λ (b : List ℕ). eq_by_cmp owner_cmp (owner_in b) c.args.owner.now in
    let passes = ap test (sym (c.as_slice.ensures ∙ c.block-item.is)) in
    elim c.if-is_of.branch [
      | then-is_of+in_ok-copy+in_ok-push w ↦
          ap (λ v. v.items) w.heads-is
          ∙ one_more test c.args.blocks.now c.each.block-index c.block-item.result c.each.heads.items c.each-test.true c.each.invariant w.push.new.self.items w.in_ok-copy.field-0 (w.in_ok-copy.ensures ∙ c.block-item.is) w.in_ok-push.ensures.items
          (passes ∙ sym c.is_of.ensures ∙ w.if-is_of.true)
      | else-is_of w ↦
          ap (λ v. v.items) w.heads-is
          ∙ none_more test c.args.blocks.now c.each.block-index c.block-item.result c.each.heads.items c.each-test.true c.each.invariant (passes ∙ sym c.is_of.ensures ∙ w.if-is_of.false)
    ]
