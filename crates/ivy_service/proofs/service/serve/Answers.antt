use Rattle.ivy_service.proofs.Ways.{goes_back, goes_lost, goes_unlent, goes_unopened, opened_at, rose_back}
use Rattle.ivy_service.proofs.service.serve.Goals as goal

pub returns-in-Err : goal.returns-in-Err
returns-in-Err g c = goes_unlent _ _ _ _ _ _ c.status_refused.ensures c.in-Err.ensures.refused

pub returns-in-Some : goal.returns-in-Some
returns-in-Some g c = goes_back _ _ _ _ _ _ c.moment-moment.ensures.0 _ _ _ _ _ _
    (record { lends = c.in-Ok.ensures.is; gave = c.moment-moment.ensures.2 })
    (opened_at _ _ c.moment-moment.ensures.1 c.in-Ok-open.ensures.opened) c.in-Some.is c.serve_agent-agent.ensures _ c.into_keeper.ensures c.give_back.ensures.is

pub returns-in_default : goal.returns-in_default
returns-in_default g c = goes_lost _ _ _ _ _ c.moment-moment.ensures.0 _ _ _ _ _
    (record { lends = c.in-Ok.ensures.is; gave = c.moment-moment.ensures.2 })
    (opened_at _ _ c.moment-moment.ensures.1 c.in-Ok-open.ensures.opened) c.in_default.is c.serve_agent-agent.ensures

pub returns-in-Err-open : goal.returns-in-Err-open
returns-in-Err-open g c = goes_unopened _ _ _ _ _ _ _ c.moment-moment.ensures.0 _ _ _ c.status_refused-in-Err-open.ensures
    (record { lends = c.in-Ok.ensures.is; gave = c.moment-moment.ensures.2 }) c.give_back-in-Err-open.ensures.is
    (λ e. rose_back _ _ _ _ (c.in-Err-open.ensures.failed e) c.keeper.ensures.later c.give_back-in-Err-open.ensures.cause)
