-- An engine may go to another thread.
use denote.Param.Send.{IsSend, sendable}
use Rattle.std.proofs.Crossing.{crosses}
use Rattle.version_vectors.proofs.vector.Vector.TheSendSync as vector
use Rattle.version_vectors.proofs.rank.Rank.TheSendSync as rank
use Rattle.log_records.proofs.record.Record.TheSendSync as record_sent
use Rattle.replay_engine.specs.contracts.state.State as State
use Rattle.replay_engine.specs.contracts.state.Replaced as Replaced
use Rattle.replay_engine.specs.contracts.engine.Engine as Engine
use Rattle.agent_crossing.proofs.TreeSent.{tree_send}

state_send : IsSend State.the_field.row
state_send = search (sendable, crosses, tree_send, record_sent.the_send) depth 30

replaced_send : IsSend Replaced.the_field.row
replaced_send = search (sendable, crosses, tree_send, record_sent.the_send) depth 30

pub engine_send : IsSend Engine.the_row
engine_send = search (sendable, crosses, vector.the_send, rank.the_field_send, state_send, replaced_send) depth 30
