use Rattle.std.proofs.Common.{arith, sym}
use Rattle.std.proofs.lemmas.Result.{err_from_is_err_and}
use Rattle.hash_signature_model.proofs.Readings.{signature_takes}
use Rattle.lms_core.specs.Readers.{fields_of}
use Rattle.hss_keys.proofs.Levels.{signature_fails, next_fails, upper_below_fails, upper_read}
use Rattle.hss_keys.proofs.verifying.+check_levels.Goals as goal

pub returns-in_err-parts : goal.returns-in_err-parts
returns-in_err-parts t c =
    let p = err_from_is_err_and c.from_residual.result c.from_residual.ensures.1 in
    rw (p.1, p.2) (sym (signature_fails c.args.between c.args.key.now c.args.message.now c.args.bytes.now c.in_err-parts.field-0.0 c.in_err-parts.ensures))

pub returns-in_err-next : goal.returns-in_err-next
returns-in_err-next t c =
    let p = err_from_is_err_and c.from_residual-in_err-next.result c.from_residual-in_err-next.ensures.1 in
    rw (p.1, p.2) (sym (next_fails c.args.between c.args.key.now c.args.message.now c.args.bytes.now c.in_ok-parts.rest.now (fields_of c.in_ok-parts.parts) c.in_err-next.field-0.0 c.if-between-eq0.false c.in_ok-parts.ensures c.in_err-next.ensures.gives))

pub returns-in_err-below_right : goal.returns-in_err-below_right
returns-in_err-below_right t c =
    let p = err_from_is_err_and c.from_residual-in_err-below_right.result c.from_residual-in_err-below_right.ensures.1 in
    rw (p.1, p.2) (sym (upper_below_fails c.args.between c.args.key.now c.in_ok-next.next c.args.message.now c.args.bytes.now c.in_ok-parts.rest.now c.in_ok-next.behind.now (fields_of c.in_ok-parts.parts) c.in_err-below_right.field-0.0 c.if-between-eq0.false c.in_ok-parts.ensures c.in_ok-next.ensures.gives (sym c.in_err-below_right.ensures)))

pub gives_root-requires : goal.gives_root-requires
gives_root-requires t c = (signature_takes c.args.key.now.set c.args.bytes.now (fields_of c.in_ok-parts.parts) c.in_ok-parts.rest.now (λ i. omega (arith, c.type_inv.bytes i)) c.in_ok-parts.ensures).0

pub returns-then-below_right : goal.returns-then-below_right
returns-then-below_right t c =
    let this = upper_read c.args.between c.args.key.now c.in_ok-next.next c.args.message.now c.args.bytes.now c.in_ok-parts.rest.now c.in_ok-next.behind.now c.in_ok-next.signed.now (fields_of c.in_ok-parts.parts) c.in_ok-below_right.below_right c.if-between-eq0.false c.in_ok-parts.ensures c.in_ok-next.ensures.gives c.in_ok-next.ensures.signed (sym c.in_ok-below_right.ensures) in
    rw c.gives_root.ensures (sym (rw c.if-below_right.true at this))

pub returns-else-below_right : goal.returns-else-below_right
returns-else-below_right t c =
    let this = upper_read c.args.between c.args.key.now c.in_ok-next.next c.args.message.now c.args.bytes.now c.in_ok-parts.rest.now c.in_ok-next.behind.now c.in_ok-next.signed.now (fields_of c.in_ok-parts.parts) c.in_ok-below_right.below_right c.if-between-eq0.false c.in_ok-parts.ensures c.in_ok-next.ensures.gives c.in_ok-next.ensures.signed (sym c.in_ok-below_right.ensures) in
    rw c.if-below_right.false (sym (rw c.if-below_right.false at this))
