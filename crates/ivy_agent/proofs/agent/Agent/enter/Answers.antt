use Rattle.std.proofs.lemmas.Result.{err_from_is_err_and}
use Rattle.ivy_agent.proofs.Caused.{entered_caused}
use Rattle.ivy_agent.proofs.Entered.{enters_refused, enters_gone}
use Rattle.ivy_agent.proofs.agent.Agent.enter.Goals as goal

pub returns-in_err-may_enter-clause-enters : goal.returns-in_err-may_enter-clause-enters
returns-in_err-may_enter-clause-enters g c =
    let p = err_from_is_err_and c.from_residual.result c.from_residual.ensures.1 in
    rw (p.1, p.2) (enters_refused g.S.Signs.signing g.S.Signs.is_whole g.K.Keeper.saves c.args.view c.args.self.now c.in_err-may_enter.field-0.0 c.in_err-may_enter.ensures.may)

pub returns-clause-enters : goal.returns-clause-enters
returns-clause-enters g c = enters_gone
    g.S.Signs.signing g.S.Signs.is_whole g.K.Keeper.saves c.args.view c.args.self.now c.in_ok-may_enter.ensures.may c.go_in.result c.go_in.new.self c.go_in.ensures.goes

pub returns-in_err-may_enter-clause-cause : goal.returns-in_err-may_enter-clause-cause
returns-in_err-may_enter-clause-cause g c =
    let p = err_from_is_err_and c.from_residual.result c.from_residual.ensures.1 in
    rw (p.1, p.2) (entered_caused g.K.Keeper.faults c.args.self.now c.in_err-may_enter.field-0.0 c.in_err-may_enter.ensures.cause)
