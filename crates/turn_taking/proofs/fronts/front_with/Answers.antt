use Rattle.log_model.specs.Spelling.{HasSpelling}
use Rattle.turn_taking.specs.Naming.{HasNameOf}
use Rattle.turn_taking.proofs.NameLemmas.{each_at}
use Rattle.turn_taking.proofs.fronts.front_with.Goals as goal

pub full_vector-requires-clause-named : goal.full_vector-requires-clause-named
full_vector-requires-clause-named c = each_at (HasNameOf c.args.names.now) c.args.records.now c.records.record-index c.record-item.result c.records-test.true c.record-item.is c.requires.named

pub full_vector-requires-clause-spelled : goal.full_vector-requires-clause-spelled
full_vector-requires-clause-spelled c = each_at HasSpelling c.args.records.now c.records.record-index c.record-item.result c.records-test.true c.record-item.is c.requires.spelled
