use Rattle.rpc_wire.proofs.Calls.{counted_groups, too_many_groups}
use Rattle.rpc_wire.proofs.call.read_groups.Goals as goal

pub returns-then-count-gt-MOST_GROUPS-clause-reads : goal.returns-then-count-gt-MOST_GROUPS-clause-reads
returns-then-count-gt-MOST_GROUPS-clause-reads c = too_many_groups c.u32-count.ensures c.if-count-gt-MOST_GROUPS.true c.miss.ensures

pub returns-clause-reads : goal.returns-clause-reads
returns-clause-reads c = counted_groups c.u32-count.ensures c.if-count-gt-MOST_GROUPS.false c.read_each_group.ensures.reads
