use Rattle.ring_run.proofs.Giving.{form, not_heads, silence, wrong_names}
use Rattle.ring_run.proofs.laws.live_laws.Goals as goal

pub returns : goal.returns
returns c = record { silence = silence; form = form; names = wrong_names; heads = not_heads }
