use Rattle.wire_model.proofs.OneReading.{one_auth}
use Rattle.wire_model.proofs.PartByPart.{◌▸◌, part}
use Rattle.rpc_wire.specs.Parts.{auth_of}
use Rattle.rpc_wire.proofs.Calls.{one_words}
use Rattle.rpc_wire.proofs.call.read_body.Goals as goal

pub returns : goal.returns
returns c = (auth_of c.read_credential-verifier.result, (part one_words c.read_words-program.ensures ▸ part one_auth c.read_credential-credential.ensures ▸ part one_auth c.read_credential-verifier.ensures).reads)
