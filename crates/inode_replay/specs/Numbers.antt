-- How numbers of pieces compare.
use Rattle.std.specs.Ordering.{nat_cmp}
use Rattle.std.specs.declared.cmp.Ordering.{Ordering}
use Rattle.inode_replay.specs.declared.number.PieceNumber.{PieceNumber}

abbrev pub number_cmp : PieceNumber → PieceNumber → Ordering
number_cmp a b = nat_cmp a.0 b.0
