use Rattle.log_records.proofs.ChainTests.{both_hold, first_fails}
use Rattle.log_records.proofs.chain.continues.Goals as goal

pub follows-requires-clause-spelled : goal.follows-requires-clause-spelled
follows-requires-clause-spelled c = (c.is_good.ensures.0 c.if-is_good.true).spelled

pub returns-then-is_good : goal.returns-then-is_good
returns-then-is_good c = both_hold (c.is_good.ensures.0 c.if-is_good.true) c.follows.ensures

pub returns-else-is_good : goal.returns-else-is_good
returns-else-is_good c = first_fails c.if-is_good.false c.is_good.ensures
