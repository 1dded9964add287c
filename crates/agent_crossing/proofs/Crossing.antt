-- An agent may go to another thread, and a gate over it may be shared: what its keeper and its signer allow.
use denote.RattleType.{RattleType}
use denote.Param.Send.{IsSend, IsSync, sendable}
use Rattle.std.proofs.Crossing.{crosses}
use Rattle.ivy_base.proofs.key.Key.TheSendSync as key
use Rattle.ivy_io.specs.declared.keeper.Keeper as keeper
use Rattle.hss_keys.specs.declared.signs.Signs as signs
use Rattle.version_vectors.proofs.vector.Vector.TheSendSync as vector
use Rattle.log_fetch.proofs.names.KnownName.TheSendSync as known
use Rattle.ivy_agent.specs.contracts.agent.Agent as Agent
use Rattle.ivy_agent.proofs.saving.Kept.TheSendSync as kept
use Rattle.value_gate.specs.contracts.pass.Pass as Pass
use Rattle.value_gate.specs.declared.sequential.Sequential as sequential
use Rattle.value_gate.proofs.gate.Gate.TheSendSync as inner
use Rattle.value_gate.proofs.pass.Pass.TheSendSync as pass
use Rattle.agent_gate.specs.contracts.gate.Gate as Gate
use Rattle.agent_gate.specs.contracts.shared.Shared as Shared
use Rattle.agent_crossing.proofs.EngineSent.{engine_send}

module _ (K S : RattleType) (k : keeper.Ghosts K.Denot) (s : signs.Ghosts S.Denot) (of_keeper : IsSend K) (of_signer : IsSend S) where
  pub agent_send : IsSend (Agent.the_row K S k s)
  agent_send = search (sendable, crosses, kept.the_field_send, engine_send, vector.the_send, key.the_field_send, known.the_field_send) depth 30

  -- an agent behind a gate
  pub shared_send : IsSend (Shared.the_row K S k s)
  shared_send = search (sendable, agent_send) depth 30

  pub gate_send : IsSend (Gate.the_row K S k s)
  gate_send = search (sendable, inner.the_send, shared_send) depth 30

  pub gate_sync : IsSync (Gate.the_row K S k s)
  gate_sync = search (sendable, inner.the_sync, shared_send) depth 30

  -- whatever turns are asked, with whatever is replied
  pub pass_send : (A R F : RattleType) (g : sequential.Ghosts (Shared.the_row K S k s).Denot A.Denot R.Denot F.Denot) → IsSend (Pass.the_row (Shared.the_row K S k s) A R F g)
  pass_send A R F g = pass.the_send (Shared.the_row K S k s) A R F g shared_send
