-- A link that a pass of a gate served.
use Rattle.std.specs.Prelude.{◌≡◌, List, ◌++◌}
use Rattle.agent_gate.specs.Sharing.{AgentGate, AgentPass, Comes, Leaves, made_by}
use Rattle.agent_gate.specs.Taking.{AgentKind}
use Rattle.ivy_agent.specs.Calls.{Made}
use Rattle.server_model.specs.Acts.{turns_of}
use Rattle.server_model.specs.Links.{Execution, Link}
use Rattle.server_model.specs.Takers.{Ring, Taker}
use Rattle.server_model.specs.declared.ended.Ended.{Ended}
use Rattle.ivy_server.specs.Passes.{by_passes, passes}
use Rattle.ivy_server.specs.Served.{AreTurns}

module _ {K S : Type 0} (kind : AgentKind K S) where
  -- the gate's agent takes the turns
  abbrev pub by_gate : AgentGate kind → Taker (AgentPass kind)
  by_gate gate = by_passes (passes kind.signs kind.IsWhole kind.saves (Comes kind gate) (Leaves kind gate))

  -- The pass's own calls in its history are those that it had, and after them the link's turns, in order.
  pub record HasServedBy (gate : AgentGate kind) (ring : Ring) (p : AgentPass kind) (how : Ended) (q : AgentPass kind) : Type 0 where
    pub execution : Execution
    pub link : Link (by_gate gate) ring p execution how q
    pub made : List Made
    pub are_turns : AreTurns made (turns_of execution.acts)
    pub calls : made_by q ≡ made_by p ++ made
