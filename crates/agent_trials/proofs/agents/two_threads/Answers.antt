use denote.Param.Send.{arg_send, param_send, plain_sync, recorded_send, sendable, shr_send, struct_send}
use Rattle.std.proofs.Crossing.{sync}
use Rattle.hss_keys.proofs.signer.Hss.TheSendSync as hss
use Rattle.ivy_base.proofs.bytes.Bytes.TheSendSync as bytes
use Rattle.ivy_io.proofs.mem_keeper.MemKeeper.TheSendSync as keeper
use Rattle.agent_crossing.proofs.Crossing.{gate_sync, pass_send}
use Rattle.agent_trials.proofs.agents.two_threads.Goals as goal

-- what a closure takes along, step by step: `sendable` has too many ways
ruleset taken = (gate_sync, pass_send, keeper.the_send, hss.the_send, bytes.the_sync, sync, plain_sync, param_send, arg_send, recorded_send, struct_send, shr_send)

pub join-mine-requires-send-F : goal.join-mine-requires-send-F
join-mine-requires-send-F g c κs within = search taken depth 30

pub join-mine-requires-send-A : goal.join-mine-requires-send-A
join-mine-requires-send-A g c κs within = search (sendable, pass_send, keeper.the_send, hss.the_send) depth 30
