use Rattle.ivy_cli.proofs.RunLemmas.{told_crowd, untold_crowd}
use Rattle.ivy_cli.proofs.crowding.tell_crowd.Goals as goal

pub returns-in-Ok : goal.returns-in-Ok
returns-in-Ok g c = told_crowd _ c.in-Ok.text c.as_slice.result.now _ _ _ _ _ c.in-Ok.ensures c.as_slice.ensures
    c.tell.ensures.statuses c.tell.ensures.whole c.tell.ensures.part c.tell.ensures.failed c.tell.ensures.later

pub returns-in-Err : goal.returns-in-Err
returns-in-Err g c = untold_crowd _ _ _
