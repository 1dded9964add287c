use Rattle.std.proofs.Common.{sym, ◌∙◌}
use Rattle.std.proofs.lemmas.Map.Text.{is_eq-slice_cmp}
use Rattle.ring_run.proofs.seat.is_id.Goals as goal

pub returns : goal.returns
returns c = c.eq.ensures ∙ sym (is_eq-slice_cmp c.args.a.now.0 c.args.b.now.0)
