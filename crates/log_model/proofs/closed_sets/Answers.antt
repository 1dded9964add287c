use Rattle.log_model.proofs.ClosedPart.{same_part}
use Rattle.log_model.proofs.Opening.{opening_is_closed}
use Rattle.log_model.proofs.Part.{closed_part_is}
use Rattle.log_model.proofs.Sets.{union_is_closed}
use Rattle.log_model.proofs.Later.{replay_more}
use Rattle.log_model.proofs.Weights.{front_outweighs}
use Rattle.log_model.proofs.Numbers.{records_make_keys}
use Rattle.log_model.proofs.closed_sets.Goals as goal

pub returns-clause-opening : goal.returns-clause-opening
returns-clause-opening c = opening_is_closed

pub returns-clause-largest : goal.returns-clause-largest
returns-clause-largest c = λ view all s t p q. same_part view _ s t p q

pub returns-clause-after : goal.returns-clause-after
returns-clause-after c = front_outweighs

pub returns-clause-exists : goal.returns-clause-exists
returns-clause-exists c = closed_part_is

pub returns-clause-union : goal.returns-clause-union
returns-clause-union c = union_is_closed

pub returns-clause-later : goal.returns-clause-later
returns-clause-later c = replay_more

pub returns-clause-keys : goal.returns-clause-keys
returns-clause-keys c = records_make_keys
