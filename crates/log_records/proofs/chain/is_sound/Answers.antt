use Rattle.log_model.specs.Heads.{stamp}
use Rattle.log_records.specs.Records.{records_of}
use Rattle.log_records.proofs.ChainTests.{sound_by, unsound_by}
use Rattle.log_records.proofs.chain.is_sound.Goals as goal

pub returns-then-goes_on_from : goal.returns-then-goes_on_from
returns-then-goes_on_from c =
    sound_by c.args.view.now c.args.held.now c.args.edge.now (stamp c.args.head.now.seq c.args.head.now.name) (records_of c.args.chain.now) c.requires.log
    (c.goes_on_from.ensures.0 c.if-goes_on_from.true) c.ends_at.ensures

pub returns-else-goes_on_from : goal.returns-else-goes_on_from
returns-else-goes_on_from c =
    unsound_by c.args.view.now c.args.held.now c.args.edge.now (stamp c.args.head.now.seq c.args.head.now.name) (records_of c.args.chain.now) c.requires.log
    c.if-goes_on_from.false c.goes_on_from.ensures
