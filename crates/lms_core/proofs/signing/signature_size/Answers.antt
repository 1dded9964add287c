use Rattle.std.proofs.Common.{arith}
use Rattle.lms_core.proofs.Pieces.{length_signature}
use Rattle.lms_core.proofs.signing.signature_size.Goals as goal

pub returns : goal.returns
returns c = λ s fits.
    let size = length_signature c.args.set s fits in
    omega arith
