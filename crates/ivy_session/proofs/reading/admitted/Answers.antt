use Rattle.std.proofs.Common.{sym}
use Rattle.ivy_session.specs.Admitting.{no_program, no_version, no_procedure}
use Rattle.ivy_session.proofs.Admitted.{by_caller}
use Rattle.ivy_session.proofs.reading.admitted.Goals as goal

pub returns-in_default : goal.returns-in_default
returns-in_default c = no_program (sym c.in_default.ensures)

pub returns-then-call-ne-VERSION : goal.returns-then-call-ne-VERSION
returns-then-call-ne-VERSION c = no_version c.in-Some.count (sym c.in-Some.ensures) c.if-call-ne-VERSION.true

pub returns-then-call-count : goal.returns-then-call-count
returns-then-call-count c = no_procedure c.in-Some.count (sym c.in-Some.ensures) c.if-call-ne-VERSION.false c.if-call-count.true

pub returns : goal.returns
returns c =
    by_caller c.args.call.now
    (record { count = c.in-Some.count; program = sym c.in-Some.ensures; version = c.if-call-ne-VERSION.false; procedure = c.if-call-count.false })
    c.ok_or.result c.ok_or.ensures.value
