use Rattle.log_fetch.specs.Trying.{trial_left}
use Rattle.log_fetch.proofs.Lefts.{waits_within}
use Rattle.log_fetch.proofs.Passing.{not_passed, goes_on_log}
use Rattle.log_fetch.proofs.Taking.{block_wants, block_owner, block_passing}
use Rattle.log_fetch.proofs.gather.go_on_log.Goals as goal

pub go_on-requires-clause-new_log : goal.go_on-requires-clause-new_log
go_on-requires-clause-new_log c = not_passed c.args.known.now c.args.passed.now c.args.owner.now c.requires.legal.passing c.requires.next

pub go_on-requires-clause-wanted : goal.go_on-requires-clause-wanted
go_on-requires-clause-wanted c = block_wants c.args.known.now c.args.passed.now c.args.trial c.requires.legal

pub go_on-requires-clause-owner : goal.go_on-requires-clause-owner
go_on-requires-clause-owner c = block_owner c.args.known.now c.args.passed.now c.args.trial c.args.owner.now c.requires.next c.requires.legal

pub returns-clause-gone : goal.returns-clause-gone
returns-clause-gone c =
    goes_on_log c.args.known.now c.args.passed.now c.pass.new.passed c.go_on.new.batch c.args.owner.now c.requires.legal.passing.floor_is c.args.trial c.args.bytes.now c.in_ok-settled.settled c.in_ok-settled.ensures.goes_on c.pass.result
    c.pass.ensures.passes

pub returns-clause-left : goal.returns-clause-left
returns-clause-left c = waits_within c.in_ok-settled.settled (trial_left c.args.trial) c.in_ok-settled.ensures.left c.pass.result c.pass.ensures.left

pub returns-clause-passing : goal.returns-clause-passing
returns-clause-passing c =
    block_passing c.args.known.now c.args.passed.now c.args.trial c.args.owner.now c.requires.next c.requires.legal c.args.bytes.now c.pass.new.passed c.go_on.new.batch c.in_ok-settled.settled c.in_ok-settled.ensures.goes_on c.pass.ensures.batch
    c.pass.ensures.at
