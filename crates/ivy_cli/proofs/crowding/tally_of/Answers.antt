use Rattle.ivy_cli.proofs.RunLemmas.{is_told}
use Rattle.ivy_cli.proofs.crowding.tally_of.Goals as goal

pub crowd-requires-clause-some : goal.crowd-requires-clause-some
crowd-requires-clause-some g c κs outlives = (c.requires.some, c.requires.few)

pub crowd-requires-clause-few : goal.crowd-requires-clause-few
crowd-requires-clause-few g c κs outlives = c.requires.all

pub returns : goal.returns
returns g c = is_told _ _ c.in_ok-tally.tally c.in_ok-tally.ensures c.spell.ensures
