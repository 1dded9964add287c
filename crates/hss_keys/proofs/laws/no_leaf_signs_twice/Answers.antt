use Rattle.hss_keys.proofs.Signing.{no_leaf_twice, upper_leaf}
use Rattle.hss_keys.proofs.laws.no_leaf_signs_twice.Goals as goal

pub returns-clause-lowest : goal.returns-clause-lowest
returns-clause-lowest c = no_leaf_twice

pub returns-clause-upper : goal.returns-clause-upper
returns-clause-upper c = upper_leaf
