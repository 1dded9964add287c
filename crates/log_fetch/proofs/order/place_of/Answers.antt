use Rattle.std.proofs.Common.{refl, arith}
use Rattle.std.proofs.lemmas.Bool.{false≢true}
use Rattle.turn_model.specs.Candidates.{IsTriedBefore}
use Rattle.session_model.specs.Brought.{stamp_of}
use Rattle.log_fetch.proofs.Placing.{each_next, behind_here, behind_all}
use Rattle.log_fetch.proofs.order.place_of.Goals as goal

pub returns-then-not-goes_before : goal.returns-then-not-goes_before
returns-then-not-goes_before c =
    behind_here c.args.tried.now c.args.head.now c.before-2.place c.before-2-test.true c.before-2.invariant.passed (λ h. absurd (false≢true (c.if-not-goes_before.ensures.1 h)))

pub before-2-preserved : goal.before-2-preserved
before-2-preserved c =
    let within = c.before-2-test.true in
    record {
      within = omega (arith, within);
      passed = each_next (λ t. IsTriedBefore t (stamp_of c.args.head.now)) c.args.tried.now c.before-2.place c.args.head.now c.before-2-test.true c.before-2.invariant.passed (c.if-not-goes_before.ensures.0 refl);
    }

pub returns : goal.returns
returns c = behind_all c.args.tried.now c.args.head.now c.before-2.place c.before-2.invariant.within c.before-2-test.false c.before-2.invariant.passed
