use Rattle.ivy_cli.proofs.LoadLemmas.{bytes_told, nothing_told}
use Rattle.ivy_cli.proofs.loading.load.Goals as goal

pub returns-in-Ok : goal.returns-in-Ok
returns-in-Ok g c = bytes_told c.in-Ok.ensures.ok c.as_slice.result.now c.tell.result _ _ _ _ c.as_slice.ensures c.tell.ensures.statuses c.tell.ensures.whole c.tell.ensures.part c.tell.ensures.failed c.tell.ensures.later

pub returns-in-Err : goal.returns-in-Err
returns-in-Err g c = nothing_told _ _ c.in-Err.ensures.err
