use Rattle.std.proofs.Common.{◌≡◌, ◌-◌, ◌≤◌, ◌++◌, length, take, drop}
use Rattle.snapshot_loading.specs.WholeLaws.{blocks_read}
use Rattle.snapshot_loading.specs.Picks.{within}
use Rattle.snapshot_loading.proofs.inodes.within.Given as goal

abbrev pub invariant-inside : goal.invariant-inside
invariant-inside l = record {
  short : l.count ≤ length l.read;
  inside : within (blocks_read l.read) ≡ blocks_read (take l.count l.read) ++ within (blocks_read (drop l.count l.read));
}

abbrev pub decreases-inside : goal.decreases-inside
decreases-inside l = length l.read - l.count
