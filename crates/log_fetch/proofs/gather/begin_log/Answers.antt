use Rattle.std.proofs.Common.{[], map, ◌^◌}
use Rattle.session_model.specs.Brought.{stamp_of}
use Rattle.log_fetch.proofs.Lefts.{waits_within}
use Rattle.log_fetch.proofs.Passing.{not_passed, begins_log, settled_passing}
use Rattle.log_fetch.proofs.gather.begin_log.Goals as goal

pub open-requires-clause-new_log : goal.open-requires-clause-new_log
open-requires-clause-new_log c = not_passed c.args.known.now c.args.passed.now c.args.owner.now c.requires.passing c.requires.next

pub returns-clause-begun : goal.returns-clause-begun
returns-clause-begun c =
    begins_log c.args.known.now c.args.passed.now c.pass.new.passed c.open.new.batch c.args.owner.now c.requires.passing.floor_is (map stamp_of c.args.heads.now) c.in_ok-settled.settled c.in_ok-settled.ensures.opens c.pass.result
    c.pass.ensures.passes

pub returns-clause-left : goal.returns-clause-left
returns-clause-left c = waits_within c.in_ok-settled.settled (2 ^ 96) c.in_ok-settled.ensures.left c.pass.result c.pass.ensures.left

pub returns-clause-passing : goal.returns-clause-passing
returns-clause-passing c =
    let opens = c.in_ok-settled.ensures.opens in
    settled_passing c.args.known.now c.args.passed.now c.pass.new.passed c.open.new.batch c.args.owner.now c.requires.passing c.requires.next opens.0 [] c.in_ok-settled.settled opens.2 c.pass.ensures.batch c.pass.ensures.at
