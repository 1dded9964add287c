use Rattle.std.proofs.Common.{take, ap, ◌∙◌}
use Rattle.std.specs.Ordering.{eq_by_cmp, nat_cmp}
use Rattle.std.specs.Cmp.Lexicographic.{slice_cmp, texts_ties}
use Rattle.script_world.proofs.shows.is_of.Goals as goal

pub returns : goal.returns
returns c =
    c.eq.ensures ∙ texts_ties c.first.result.now c.as_slice.result.now
    ∙ (λ i. eq_by_cmp (slice_cmp nat_cmp) ((c.first.ensures ∙ ap (take 60) c.behind.ensures) i) (c.as_slice.ensures i))
