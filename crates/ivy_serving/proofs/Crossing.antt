-- A link may go to another thread, before it is served and after.
use denote.RattleType.{RattleType}
use denote.Param.Send.{IsSend, sendable}
use Rattle.std.proofs.Crossing.{crosses}
use Rattle.ivy_io.specs.declared.clock.Clock as clock
use Rattle.ivy_io.specs.declared.keeper.Keeper as keeper
use Rattle.ivy_io.specs.declared.ports.Ports as ports
use Rattle.ivy_io.specs.declared.sink.Sink as sink
use Rattle.ivy_io.specs.declared.source.Source as source
use Rattle.hss_keys.specs.declared.signs.Signs as signs
use Rattle.ring_run.proofs.ring.LiveRing.TheSendSync as ring
use Rattle.agent_crossing.proofs.Crossing.{gate_sync, pass_send}
use Rattle.ivy_serving.specs.contracts.job.LinkJob as LinkJob
use Rattle.ivy_serving.specs.contracts.job.LinkDone as LinkDone

module _ (K S P C Q W : RattleType) (k : keeper.Ghosts K.Denot) (s : signs.Ghosts S.Denot) (p : ports.Ghosts P.Denot Q.Denot W.Denot)
    (q : source.Ghosts Q.Denot) (w : sink.Ghosts W.Denot) (c : clock.Ghosts C.Denot)
    (of_keeper : IsSend K) (of_signer : IsSend S) (of_reads : IsSend Q) (of_writes : IsSend W) (of_clock : IsSend C) where
  pub done_send : IsSend (LinkDone.the_row K S P C Q W k s p q w c)
  done_send = search (sendable, crosses, pass_send) depth 30

  pub job_send : (l : _) → IsSend (LinkJob.the_row l K S P C Q W k s p q w c)
  job_send l = search (sendable, crosses, gate_sync, pass_send, ring.the_sync) depth 30
