use Rattle.std.proofs.Common.{Some}
use Rattle.ivy_io.proofs.PlaceLemmas.{lying-laid, given-has_place, others_stay}
use Rattle.ivy_io.proofs.mem_keepers.lies_again.Goals as goal

pub returns-clause-placed : goal.returns-clause-placed
returns-clause-placed c = given-has_place

pub returns-clause-lies : goal.returns-clause-lies
returns-clause-lies c = λ name keeper places has. lying-laid name (Some keeper) places has

pub returns-clause-others : goal.returns-clause-others
returns-clause-others c = others_stay
