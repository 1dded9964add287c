use Rattle.std.proofs.Common.{◌≡◌, ◌<◌, ◌≤◌, length, get_or}
use Rattle.inode_replay.proofs.FoundRanges.{none_from, first_is}
use Rattle.inode_replay.proofs.ranges.first_from.Goals as goal

pub returns-in-None-clause-none : goal.returns-in-None-clause-none
returns-in-None-clause-none c =
    let short : length c.in_ok-entries.entries.items ≤ 0 = rw c.deref.ensures.value at c.in-None.ensures.item.3 in
    none_from c.args.place c.args.ranges.now c.in_ok-entries.entries.items c.in_ok-entries.ensures short

pub returns-clause-some : goal.returns-clause-some
returns-clause-some c =
    let some : 0 < length c.in_ok-entries.entries.items = rw c.deref.ensures.value at c.in-Some.ensures.item.3.0 in
    let at : c.in-Some.field-0.now ≡ get_or c.in_ok-entries.entries.items 0 c.in-Some.field-0.now = rw c.deref.ensures.value at c.in-Some.ensures.item.1 in
    first_is c.args.place c.args.ranges.now c.in_ok-entries.entries.items c.in_ok-entries.ensures c.requires c.in-Some.field-0.now some at
