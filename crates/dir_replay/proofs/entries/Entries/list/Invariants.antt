use Rattle.std.proofs.Common.{◌≡◌, take}
use Rattle.dir_replay.proofs.entries.Entries.list.Given as goal

abbrev pub invariant-names : goal.invariant-names
invariant-names l = l.pairs.items ≡ take l.name-index l.self
