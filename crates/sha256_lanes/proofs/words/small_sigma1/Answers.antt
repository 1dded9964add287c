use Rattle.std.proofs.Common.{refl, ◌∙◌, arith}
use Rattle.std.proofs.lemmas.Simd.{length-zip2}
use Rattle.sha256_lanes.proofs.LaneLemmas.{shifts_of, three_xors}
use Rattle.sha256_lanes.proofs.words.small_sigma1.Goals as goal

pub returns : goal.returns
returns c j h =
    three_xors c.rotate.result (omega arith) c.rotate-2.result (omega arith) _ (length-zip2 _ c.args.x _ c.fits-x.0 ∙ c.fits-x.0) j h
    ∙ rw (c.rotate.ensures j h, c.rotate-2.ensures j h, shifts_of 10 c.args.x c.fits-x.0 j h) refl
