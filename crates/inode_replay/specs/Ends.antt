-- How ends of ranges compare.
use Rattle.std.specs.Ordering.{nat_cmp}
use Rattle.std.specs.declared.cmp.Ordering.{Ordering}
use Rattle.inode_replay.specs.declared.ranges.RangeEnd.{RangeEnd}

abbrev pub end_cmp : RangeEnd → RangeEnd → Ordering
end_cmp a b = nat_cmp a.0 b.0
