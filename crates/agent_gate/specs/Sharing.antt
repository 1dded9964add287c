-- A gate over an agent, and what a pass comes to there.
use Rattle.std.specs.Prelude.{◌≡◌, ◌+◌, List, [], ◌∷◌, ◌++◌, length, map}
use mathlib.Core.List.{IsPrefix}
use Rattle.log_fetch.specs.declared.turned.Turned.{Turned}
use Rattle.ivy_agent.specs.Calls.{Made}
use Rattle.ivy_agent.specs.Holders.{Holder}
use Rattle.value_gate.specs.Histories.{entry}
use Rattle.value_gate.specs.Passes.{GateView, PassView, with_history}
use Rattle.agent_gate.specs.declared.request.TurnRequest.{TurnRequest}
use Rattle.agent_gate.specs.Taking.{AgentEntry, AgentKind, HasTaken, TookLast}

module _ {K S : Type 0} (kind : AgentKind K S) where
  abbrev pub AgentGate : Type 0
  AgentGate = GateView (Holder K S)

  abbrev pub AgentPass : Type 0
  AgentPass = PassView (Holder K S) (TurnRequest × Turned)

  -- A pass comes to an agent that took all turns that the pass has seen, and maybe more.
  pub record Comes (gate : AgentGate) (pass : AgentPass) (found : Holder K S) : Type 0 where
    pub history : List AgentEntry
    pub older : IsPrefix pass.history history
    pub has_taken : HasTaken kind gate.opening history found

  -- It leaves one that took just the turns that the pass has seen then.
  abbrev pub Leaves : AgentGate → AgentPass → Holder K S → Type 0
  Leaves gate pass left = HasTaken kind gate.opening pass.history left

  -- the entry of the pass's next call
  abbrev pub next_call : AgentPass → TurnRequest → Turned → AgentEntry
  next_call pass asked turned = entry pass.number (length pass.calls + 1) (asked, turned)

  -- The pass's next call is the newest entry of the one history, and the agent that had taken all before it gave this.
  pub record Answers (gate : AgentGate) (old : AgentPass) (asked : TurnRequest) (turned : Turned) (new : AgentPass) : Type 0 where
    pub before : List AgentEntry
    pub older : IsPrefix old.history before
    pub newest : (let e = next_call old asked turned in new ≡ with_history old (before ++ e ∷ []) (old.calls ++ e ∷ []))
    pub took : TookLast kind gate.opening before (next_call old asked turned)

-- a turn that was answered, as an entry has it
abbrev pub made_of : AgentEntry → Made
made_of e = record { refresh = e.turn.0.refresh; asked = e.turn.0.asked; now = e.turn.0.now; turned = e.turn.1 }

-- the turns that were answered with a pass, in their order
abbrev pub made_by : {K S : Type 0} → PassView (Holder K S) (TurnRequest × Turned) → List Made
made_by pass = map made_of pass.calls
