-- A caller's numbers are within their bounds.
use Rattle.std.proofs.Common.{arith}
use Rattle.wire_model.specs.Rpc.{Auth, Identity, IsIdentity, IsCaller, none, system}

pub caller_is_identity : {a : Auth} {who : Identity} → IsCaller a who → IsIdentity who
caller_is_identity none = record { uid = omega arith; gid = omega arith; few = omega arith; groups = tt }
caller_is_identity (system stamp machine fits short is) = is
