use Rattle.std.proofs.Common.{◌≡◌, List, ℕ, ◌+◌, ◌-◌, sym, ap, ◌∙◌, arith}
use Rattle.hash_signature_model.specs.OneTime.{chain_step}
use Rattle.hash_signature_model.proofs.Chains.{chain_start, chain_next}
use Rattle.lms_core.specs.Kept.{at}
use Rattle.lms_core.proofs.chains.walk_four.Goals as goal

pub steps-init : goal.steps-init
steps-init c = λ id first k heads below. sym (chain_start id (first + k) c.args.i 0 (at c.args.start k))

pub steps-preserved : goal.steps-preserved
steps-preserved c = λ id first k heads below.
    c.step_four-values.ensures id first k heads below
    ∙ ap (λ (v : List ℕ). chain_step id (first + k) c.args.i c.steps.j v) (c.steps.invariant id first k heads below)
    ∙ sym (chain_next id (first + k) c.args.i 0 c.steps.j (at c.args.start k) (omega arith))

pub returns : goal.returns
returns c = λ id first k heads below.
    let done : c.steps.j - 0 ≡ c.args.steps = omega arith in
    rw done at (c.steps.invariant id first k heads below)
