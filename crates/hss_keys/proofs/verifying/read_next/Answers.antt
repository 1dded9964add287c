use Rattle.std.proofs.Common.{arith}
use Rattle.hss_keys.proofs.Acceptance.{key_holds}
use Rattle.hss_keys.proofs.verifying.read_next.Goals as goal

pub split_at-requires : goal.split_at-requires
split_at-requires c = key_holds c.args.bytes.now c.in_ok-key.key c.in_ok-key.behind.now (λ i. omega (arith, c.type_inv.bytes i)) c.in_ok-key.ensures
