-- What may be asked of an agent behind a gate, and what is said of the one that was found.
use Rattle.std.specs.Prelude.{◌≡◌, List, IfOk, IfSome, IsSomeAnd, Result, Err}
use Rattle.std.specs.List.{AllByRecursion}
use Rattle.ivy_base.specs.declared.memory.Memory.{Memory}
use Rattle.dht_ids.specs.declared.post.Ack.{Ack}
use Rattle.agent_model.specs.Others.{settled}
use Rattle.agent_model.specs.SavedBytes.{HasItsName}
use Rattle.agent_model.specs.Standing.{standing_in}
use Rattle.log_fetch.specs.declared.standing.Standing.{Standing}
use Rattle.log_fetch.specs.declared.turned.TurnFault.{TurnFault}
use Rattle.log_fetch.specs.Standings.{asked_of, standing_of}
use Rattle.ivy_agent.specs.Answering.{IsCall}
use Rattle.ivy_agent.specs.Bounds.{HasBounds}
use Rattle.ivy_agent.specs.Holders.{Holder}
use Rattle.ivy_agent.specs.Turns.{IsFetchedIn}
use Rattle.agent_gate.specs.declared.request.TurnRequest.{TurnRequest}
use Rattle.agent_gate.specs.Taking.{AgentKind, TurnsInView}

-- the conditions of a turn, by the view of the opening agent
pub record MayAsk {K S : Type 0} (opening : Holder K S) (asked : TurnRequest) : Type 0 where
  pub batch : IsSomeAnd opening.agent.view (λ view. IsFetchedIn view asked.refresh.batch)
  pub bounds : IfSome asked.refresh.basis (λ basis. HasBounds basis.tree)
  pub call : IsCall (asked_of asked.asked) asked.now

-- a view was entered
abbrev pub MayVisit : {K S : Type 0} → Holder K S → Type 0
MayVisit opening = IsSomeAnd opening.agent.view (λ view. Unit {0})

module _ {K S : Type 0} (kind : AgentKind K S) where
  -- The turn that left no entry was this agent's, with the refusal and its cause.
  abbrev pub Refuses : TurnRequest → Holder K S → TurnFault → Type 0
  Refuses asked found fault = (after : Holder K S) × TurnsInView kind found asked (Err fault) after

  -- this agent's standing, whose posts have their names; the agent stays as it is
  pub record ShowsStanding (found : Holder K S) (seen : Result Standing Memory) (left : Holder K S) : Type 0 where
    pub same : left ≡ found
    pub stands : IfOk seen (λ s. IfSome found.agent.view (λ view. standing_of s ≡ standing_in kind.signs found.agent view))
    pub named : IfOk seen (λ s. AllByRecursion HasItsName s.pending)

-- it dropped what was acknowledged
abbrev pub DropsPosts : {K S : Type 0} → List Ack → Holder K S → Holder K S → Type 0
DropsPosts acks found left = left ≡ record found { agent = settled found.agent acks }
