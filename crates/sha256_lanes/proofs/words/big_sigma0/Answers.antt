use Rattle.std.proofs.Common.{refl, ◌∙◌, arith}
use Rattle.sha256_lanes.proofs.LaneLemmas.{three_xors}
use Rattle.sha256_lanes.proofs.words.big_sigma0.Goals as goal

pub returns : goal.returns
returns c j h =
    three_xors c.rotate.result (omega arith) c.rotate-2.result (omega arith) c.rotate-3.result (omega arith) j h
    ∙ rw (c.rotate.ensures j h, c.rotate-2.ensures j h, c.rotate-3.ensures j h) refl
