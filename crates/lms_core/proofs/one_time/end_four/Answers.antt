use Rattle.std.proofs.Common.{List, ℕ, ap, refl, ◌∙◌}
use Rattle.lms_core.specs.Kept.{at}
use Rattle.lms_core.proofs.one_time.end_four.Goals as goal

pub returns : goal.returns
returns c = λ id first k heads below.
    ap (λ (lists : List (List ℕ)). at lists k) c.to_bytes.ensures
    ∙ c.walk_four.ensures id first k heads below
    ∙ rw (c.step_count.ensures, c.derive_four-start.ensures id first k heads below) refl
