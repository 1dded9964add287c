use Rattle.std.proofs.Common.{◌≡◌, map, take}
use Rattle.std.specs.Prelude.{filter_map}
use Rattle.fork_model.specs.Finding.{tip_of}
use Rattle.fork_proof.specs.Found.{tip_seen}
use Rattle.fork_proof.proofs.tips.signed_heads.Given as goal

abbrev pub invariant-heads : goal.invariant-heads
invariant-heads l = map tip_seen l.tips.items ≡ filter_map tip_of (take l.head-index l.heads)
