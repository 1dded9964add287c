use Rattle.turn_laws.proofs.Fronts.{front_is_joined}
use Rattle.turn_laws.proofs.Taken.{taken_is_by_definition, own_log_ends_at_floor}
use Rattle.turn_laws.proofs.turns_take_by_definition.Goals as goal

pub returns-clause-taken : goal.returns-clause-taken
returns-clause-taken c = taken_is_by_definition

pub returns-clause-front : goal.returns-clause-front
returns-clause-front c = front_is_joined

pub returns-clause-own_log : goal.returns-clause-own_log
returns-clause-own_log c = own_log_ends_at_floor
