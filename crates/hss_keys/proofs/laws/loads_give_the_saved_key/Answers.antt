use Rattle.hss_keys.proofs.Uses.{loads_give}
use Rattle.hss_keys.proofs.laws.loads_give_the_saved_key.Goals as goal

pub returns-clause-equal : goal.returns-clause-equal
returns-clause-equal g c = λ key loaded whole loaded_whole same. g.met.S.Signs.told_apart loaded key loaded_whole whole same

pub returns-clause-signatures : goal.returns-clause-signatures
returns-clause-signatures g c = loads_give g.S.Signs.signing.signature g.S.Signs.signing.next g.S.Signs.is_whole g.S.Signs.signing.saved g.met.S.Signs.told_apart
