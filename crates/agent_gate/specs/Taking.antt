-- What an agent has become by the turns that several took with it.
use Rattle.std.specs.Prelude.{◌≡◌, ◌<◌, ◌≤◌, ℕ, ◌+◌, Bool, List, [], ◌∷◌, ◌++◌, length, map, Some, Result, Ok, Err}
use Rattle.log_model.specs.Signing.{Signing}
use Rattle.log_model.specs.View.{View}
use Rattle.dht_ids.specs.declared.post.Ack.{Ack}
use Rattle.agent_model.specs.Others.{settled}
use Rattle.nfs_model.specs.Results.{longest_result}
use Rattle.log_fetch.specs.declared.turned.Turned.{Turned}
use Rattle.log_fetch.specs.declared.turned.TurnFault.{TurnFault}
use Rattle.log_fetch.specs.Standings.{asked_of, refresh_of}
use Rattle.ivy_agent.specs.Answering.{IsCall}
use Rattle.ivy_agent.specs.Holders.{Holder}
use Rattle.ivy_agent.specs.Turns.{TakesTurn}
use Rattle.value_gate.specs.declared.history.Entry.{Entry}
use Rattle.agent_gate.specs.declared.request.TurnRequest.{TurnRequest}

-- A kind of agents: what they sign with, which of their signers are whole, and how their keepers save.
pub record AgentKind (K S : Type 0) : Type 1 where
  pub signs : Signing S
  pub IsWhole : S → Type 0
  pub saves : K → List ℕ → Bool → K → Type 0

abbrev pub kind_of : {K S : Type 0} → Signing S → (S → Type 0) → (K → List ℕ → Bool → K → Type 0) → AgentKind K S
kind_of signs IsWhole saves = record { signs = signs; IsWhole = IsWhole; saves = saves }

-- an entry of a history: a pass's call, what its turn was asked, and what it gave
abbrev pub AgentEntry : Type 0
AgentEntry = Entry (TurnRequest × Turned)

-- an entry, and whether the save of its turn failed
pub record Taken : Type 0 where
  pub entry : AgentEntry
  pub fails : Bool

module _ {K S : Type 0} (kind : AgentKind K S) where
  -- The agent took this turn in its view.
  pub record TurnsInView (before : Holder K S) (asked : TurnRequest) (result : Result Turned TurnFault) (after : Holder K S) : Type 0 where
    pub view : View
    pub in_view : before.agent.view ≡ Some view
    pub turn : TakesTurn kind.signs kind.IsWhole kind.saves view (refresh_of asked.refresh) (asked_of asked.asked) asked.now
        before result after

  -- The agent took the turn of this entry, which was a call, and whose save failed where its keeper failed.
  pub record TakesEntry (before : Holder K S) (t : Taken) (after : Holder K S) : Type 0 where
    pub took : TurnsInView before t.entry.turn.0 (Ok t.entry.turn.1) after
    pub saved : t.fails ≡ took.turn.fails
    pub call : IsCall (asked_of t.entry.turn.0.asked) t.entry.turn.0.now
    pub short : length t.entry.turn.1.reply ≤ longest_result

  -- The opening agent became this one by these turns, one after the other. Between two of them turns may be refused and posts be
  -- settled, which leave no entry.
  pub data Became (opening : Holder K S) : List Taken → Holder K S → Type 0 where
    opens : Became opening [] opening
    takes : {taken : List Taken} {before after : Holder K S} (t : Taken)
        → Became opening taken before → TakesEntry before t after → Became opening (taken ++ t ∷ []) after
    refuses : {taken : List Taken} {before after : Holder K S} (asked : TurnRequest) (fault : TurnFault)
        → Became opening taken before → TurnsInView before asked (Err fault) after → Became opening taken after
    settles : {taken : List Taken} {before : Holder K S} (acks : List Ack)
        → Became opening taken before → Became opening taken (record before { agent = settled before.agent acks })

  -- The opening agent took the turns of this history, and became this one.
  pub record HasTaken (opening : Holder K S) (history : List AgentEntry) (value : Holder K S) : Type 0 where
    pub taken : List Taken
    pub entries : map (λ t. t.entry) taken ≡ history
    pub became : Became opening taken value

  -- How the last turn of a history was taken: from an agent that had taken those before it.
  pub record TookLast (opening : Holder K S) (before : List AgentEntry) (e : AgentEntry) : Type 0 where
    pub found : Holder K S
    pub after : Holder K S
    pub had_taken : HasTaken opening before found
    pub took : TurnsInView found e.turn.0 (Ok e.turn.1) after
    pub short : length e.turn.1.reply ≤ longest_result
    pub has_taken : HasTaken opening (before ++ e ∷ []) after

  -- ---- laws

  -- Whoever has taken some turns has taken the last of them from an agent that had taken the others.
  abbrev pub LastIsTaken : Type 0
  LastIsTaken = (opening value : Holder K S) (before : List AgentEntry) (e : AgentEntry)
      → HasTaken opening (before ++ e ∷ []) value → TookLast opening before e

  -- All are in the opening agent's view.
  abbrev pub StaysInView : Type 0
  StaysInView = (opening value : Holder K S) (history : List AgentEntry)
      → HasTaken opening history value → value.agent.view ≡ opening.agent.view

-- With a signature the key stays, and one signature fewer is left.
pub record SignsOn {S : Type 0} (signs : Signing S) : Type 0 where
  pub key : (s : S) → 0 < signs.remaining s → signs.key (signs.next s) ≡ signs.key s
  pub left : (s : S) → 0 < signs.remaining s → signs.remaining (signs.next s) + 1 ≡ signs.remaining s

-- All have the opening agent's key, where a signature leaves the key as it is.
abbrev pub KeyStays : {K S : Type 0} → AgentKind K S → Type 0
KeyStays {K} {S} kind = (opening value : Holder K S) (history : List AgentEntry) → SignsOn kind.signs → HasTaken kind opening history value
    → kind.signs.key value.agent.signer ≡ kind.signs.key opening.agent.signer
