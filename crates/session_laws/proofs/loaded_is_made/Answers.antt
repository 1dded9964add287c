use Rattle.session_laws.proofs.Loading.{loaded_is_made, basis_is_known}
use Rattle.session_laws.proofs.loaded_is_made.Goals as goal

pub returns-clause-made : goal.returns-clause-made
returns-clause-made c = loaded_is_made

pub returns-clause-known : goal.returns-clause-known
returns-clause-known c = basis_is_known
