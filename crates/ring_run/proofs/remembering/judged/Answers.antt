use Rattle.std.proofs.Common.{◌≡◌, true, false, arith}
use Rattle.log_records.proofs.PlainHeads.{on_none}
use Rattle.log_heads.proofs.SignedHeads.{no_head, long_enough, signed_head, other_head}
use Rattle.ring_run.proofs.remembering.judged.Goals as goal

pub returns-in_err-head-clause-none : goal.returns-in_err-head-clause-none
returns-in_err-head-clause-none c = on_none c.from_residual.result (no_head c.args.key.now c.args.bytes.now c.in_err-head.ensures.none)

pub signed_part-requires : goal.signed_part-requires
signed_part-requires c = long_enough c.args.bytes.now _ _ _ c.in_ok-head.ensures.some

pub returns-then-not-is_signed_under-clause-none : goal.returns-then-not-is_signed_under-clause-none
returns-then-not-is_signed_under-clause-none c = other_head c.args.key.now c.args.bytes.now _ _ _ _ c.in_ok-head.ensures.some c.signed_part.ensures (λ w. let no : false ≡ true = c.if-not-is_signed_under.ensures.1 w in absurd (cc no))

pub returns-clause-some : goal.returns-clause-some
returns-clause-some c =
    signed_head c.args.key.now c.args.bytes.now c.in_ok-head.head.owner _ _ c.in_ok-head.head.signature.now (λ i. omega (arith, c.type_inv.bytes i)) c.in_ok-head.ensures.some c.signed_part.ensures (c.is_signed_under.ensures.0 c.if-not-is_signed_under.false)
