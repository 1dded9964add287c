use Rattle.std.proofs.Common.{sym}
use Rattle.session_steps.specs.Representing.{shown}
use Rattle.session_steps.proofs.Arms.{on_ok}
use Rattle.session_steps.proofs.Ends.{is_told_stays}
use Rattle.session_steps.proofs.open.OpenCall.step.Goals as goal

pub returns-then-is_told-clause-steps : goal.returns-then-is_told-clause-steps
returns-then-is_told-clause-steps g c = is_told_stays (shown c.args.self.now c.args.nodes.now c.args.who.now c.args.met.now c.args.now) (sym c.if-is_told.ensures)

pub returns-clause-steps : goal.returns-clause-steps
returns-clause-steps g c = on_ok c.goes_on.result c.in_ok-act.ensures.steps c.goes_on.ensures
