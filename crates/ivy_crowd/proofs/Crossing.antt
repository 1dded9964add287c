-- A job may go to another thread.
use denote.RattleType.{RattleType}
use denote.Param.Send.{IsSend, sendable}
use Rattle.std.proofs.Crossing.{crosses}
use Rattle.ivy_io.specs.declared.keeper.Keeper as keeper
use Rattle.hss_keys.specs.declared.signs.Signs as signs
use Rattle.ivy_io.proofs.memory.MemSource.TheSendSync as source
use Rattle.ivy_io.proofs.memory.MemSink.TheSendSync as sink
use Rattle.agent_crossing.proofs.Crossing.{pass_send}
use Rattle.ivy_crowd.specs.contracts.job.Job as Job

module _ (K S C : RattleType) (k : keeper.Ghosts K.Denot) (s : signs.Ghosts S.Denot) (of_keeper : IsSend K) (of_signer : IsSend S)
    (of_clock : IsSend C) where
  pub job_send : IsSend (Job.the_row K S C k s)
  job_send = search (sendable, crosses, pass_send, source.the_send, sink.the_send) depth 30
