use Rattle.turn_model.proofs.Keeps.{turn_keeps}
use Rattle.turn_model.proofs.Known.{turn_is_unique, turn_is_on_known, only_member_has_nothing_new}
use Rattle.turn_model.proofs.known_sets.Goals as goal

pub returns-clause-one : goal.returns-clause-one
returns-clause-one c = turn_is_unique

pub returns-clause-kept : goal.returns-clause-kept
returns-clause-kept c = turn_keeps

pub returns-clause-on_known : goal.returns-clause-on_known
returns-clause-on_known c = turn_is_on_known

pub returns-clause-alone : goal.returns-clause-alone
returns-clause-alone c = only_member_has_nothing_new
