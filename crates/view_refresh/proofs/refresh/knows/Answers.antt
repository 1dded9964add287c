use Rattle.view_refresh.proofs.Counting.{tests_front}
use Rattle.view_refresh.proofs.refresh.knows.Goals as goal

pub returns : goal.returns
returns c = tests_front c.args.floor.now c.args.front.now c.entries.result.now c.dominates.result c.entries.ensures.entries c.entries.ensures.fits c.dominates.ensures
