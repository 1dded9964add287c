use Rattle.std.proofs.Common.{slice_index, sym, ◌∙◌}
use Rattle.lms_core.specs.Kept.{at}
use Rattle.lms_core.proofs.OnWay.{chain_more, chain_none}
use Rattle.lms_core.proofs.walks.walk_each.Goals as goal

pub steps-init : goal.steps-init
steps-init c k below = chain_none c.args.leaf.now.id c.args.leaf.now.number (slice_index c.args.chains.now k) (slice_index c.args.from.now k) (at c.args.start k)

pub steps-preserved : goal.steps-preserved
steps-preserved c k below =
    let leaf = c.args.leaf.now in
    let i = slice_index c.args.chains.now k in
    let from = slice_index c.args.from.now k in
    let n = c.steps.step in
    c.step_each-values.ensures k below
    ∙ rw (c.later.ensures k below, c.steps.invariant k below) (sym (chain_more leaf.id leaf.number i from n (at c.args.start k)))
