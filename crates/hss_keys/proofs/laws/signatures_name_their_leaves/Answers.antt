use Rattle.hss_keys.proofs.Leaves.{signatures_name}
use Rattle.hss_keys.proofs.Uses.{signatures_are_numbered}
use Rattle.hss_keys.proofs.laws.signatures_name_their_leaves.Goals as goal

pub returns-clause-numbers : goal.returns-clause-numbers
returns-clause-numbers c = signatures_are_numbered

pub returns-clause-leaves : goal.returns-clause-leaves
returns-clause-leaves c = signatures_name
