use denote.Param.Send.{sendable}
use Rattle.std.proofs.Common.{arith}
use Rattle.std.proofs.Crossing.{crosses, sync}
use Rattle.ring_run.proofs.ring.LiveRing.TheSendSync as ring
use Rattle.agent_gate.specs.Taking.{kind_of}
use Rattle.agent_crossing.proofs.Crossing.{gate_sync, pass_send}
use Rattle.ivy_crowd.specs.Jobs.{EndsAs}
use Rattle.ivy_crowd.specs.Sessions.{serving_by}
use Rattle.ivy_crowd.proofs.Crossing.{job_send}
use Rattle.ivy_crowd.proofs.Zips.{from_jobs}
use Rattle.ivy_crowd.proofs.running.serve_each.Goals as goal

pub map_vec-requires-send-J : goal.map_vec-requires-send-J
map_vec-requires-send-J g c κs within = search (sendable, job_send) depth 30

pub map_vec-requires-send-X : goal.map_vec-requires-send-X
map_vec-requires-send-X g c κs within = search (sendable, crosses, pass_send) depth 30

pub map_vec-requires-sync-F : goal.map_vec-requires-sync-F
map_vec-requires-sync-F g c κs within = search (sendable, sync, gate_sync, ring.the_sync) depth 30

pub returns : goal.returns
returns g c =
    let kind = kind_of g.S.Signs.signing g.S.Signs.is_whole g.K.Keeper.saves in
    from_jobs _ _ (EndsAs (serving_by kind c.args.gate.now c.args.ring.now g.C.Clock.gives)) (λ j x e. e) c.args.jobs.items
    c.in_ok-ended.ended.items (omega (arith, c.in_ok-ended.ensures.len)) c.in_ok-ended.ensures.each
