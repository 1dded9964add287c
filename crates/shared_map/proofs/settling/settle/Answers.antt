use Rattle.shared_map.proofs.Forks.{few_again}
use Rattle.shared_map.proofs.settling.settle.Goals as goal

pub set_height-requires-clause-few : goal.set_height-requires-clause-few
set_height-requires-clause-few g c = few_again c.args.at.now c.turn.new.at c.turn.ensures.entries c.requires.few
