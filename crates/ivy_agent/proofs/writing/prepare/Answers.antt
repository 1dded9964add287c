use Rattle.std.proofs.Common.{◌+◌, ℕ, List, length, sym, ap, ◌∙◌}
use Rattle.ivy_base.specs.declared.operation.Op.{Op}
use Rattle.ivy_agent.proofs.Drafting.{as_many}
use Rattle.ivy_agent.proofs.writing.prepare.Goals as goal

pub returns-in-Ok-clause-count : goal.returns-in-Ok-clause-count
returns-in-Ok-clause-count g c = c.in_ok-applied.ensures ∙ ap (λ (n : ℕ). c.args.applied + n)
    (sym (as_many g.S.Signs.signing c.args.kept.now c.args.front.now c.args.now _ c.in-Ok.draft c.in-Ok.ensures
    ∙ ap (λ (l : List Op). length l) (c.into_vec-ops.ensures ∙ c.in_ok-copy.ensures)))
