use Rattle.hss_keys.specs.ToldApart.{signers_told_apart}
use Rattle.hss_keys.proofs.save.saved_bytes_are_of_one_signer.Goals as goal

pub returns : goal.returns
returns c = signers_told_apart
