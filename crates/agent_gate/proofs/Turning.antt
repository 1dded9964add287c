-- A call of the agent that was found goes on with its history, or leaves it as it was.
use Rattle.std.proofs.Common.{◌≡◌, ◌≤◌, List, [], ◌∷◌, ◌++◌, length, Option, Some, None, Result, Ok, Err, refl, sym, subst}
use Rattle.std.specs.Prelude.{IfErr, IfOk, IfSome, IsSomeAnd, OnErr}
use Rattle.log_model.specs.View.{View}
use Rattle.nfs_model.specs.Results.{longest_result}
use Rattle.log_fetch.specs.declared.turned.Turned.{Turned}
use Rattle.log_fetch.specs.declared.turned.TurnFault.{TurnFault}
use Rattle.log_fetch.specs.Standings.{asked_of, refresh_of}
use Rattle.dht_ids.specs.declared.post.Ack.{Ack}
use Rattle.agent_model.specs.Others.{settled}
use Rattle.ivy_agent.specs.Answering.{IsCall}
use Rattle.ivy_agent.specs.Holders.{Holder}
use Rattle.ivy_agent.specs.Turns.{TakesTurn}
use Rattle.value_gate.specs.Histories.{CanTake, CanVisit, GoesOn, Stays, entry}
use Rattle.agent_gate.specs.declared.request.TurnRequest.{TurnRequest}
use Rattle.agent_gate.specs.Asking.{MayAsk, MayVisit, Refuses}
use Rattle.agent_gate.specs.Taking.{AgentEntry, AgentKind, HasTaken, Taken, TurnsInView}
use Rattle.agent_gate.specs.Taking.Became.{opens, takes, refuses, settles}
use Rattle.agent_gate.proofs.Histories.{entries_on, stays_in_view}

module _ {K S : Type 0} (kind : AgentKind K S) where
  pub opening_taken : (opening : Holder K S) → HasTaken kind opening [] opening
  opening_taken opening = record { taken = []; entries = refl; became = opens }

  -- ---- what may be asked of the opening agent may be asked of all that came from it

  pub asked_then : (P : View → Type 0) (opening value : Holder K S) (history : List AgentEntry) → HasTaken kind opening history value → IsSomeAnd opening.agent.view P → IsSomeAnd value.agent.view P
  asked_then P opening value history has some = subst (λ (o : Option View). IsSomeAnd o P) (sym (stays_in_view kind opening value history has)) some

  pub may_turn : (value : Holder K S) (asked : TurnRequest) → CanTake (HasTaken kind) MayAsk value asked → MayAsk value asked
  may_turn value asked can = record { batch = asked_then _ can.0 value can.1 can.2 can.3.batch; bounds = can.3.bounds; call = can.3.call }

  pub may_visit : (value : Holder K S) → CanVisit (HasTaken kind) MayVisit value → MayVisit value
  may_visit value can = asked_then (λ view. Unit {0}) can.0 value can.1 can.2 can.3

  -- ---- a turn

  in_its_view : (P : View → Type 0) (before after : Holder K S) (asked : TurnRequest) (result : Result Turned TurnFault) (o : Option View) → before.agent.view ≡ o → IsSomeAnd o P
      → IfSome o (λ view. TakesTurn kind.signs kind.IsWhole kind.saves view (refresh_of asked.refresh) (asked_of asked.asked) asked.now before result after) → TurnsInView kind before asked result after
  in_its_view P before after asked result (Some view) is some turn = record { view = view; in_view = is; turn = turn }
  in_its_view P before after asked result None is some turn = absurd some

  pub in_view : (before after : Holder K S) (asked : TurnRequest) (result : Result Turned TurnFault) → MayAsk before asked
      → IfSome before.agent.view (λ view. TakesTurn kind.signs kind.IsWhole kind.saves view (refresh_of asked.refresh) (asked_of asked.asked) asked.now before result after) → TurnsInView kind before asked result after
  in_view before after asked result may turn = in_its_view _ before after asked result before.agent.view refl may.batch turn

  pub goes_on : (before after : Holder K S) (asked : TurnRequest) (turned : Turned) → IsCall (asked_of asked.asked) asked.now → length turned.reply ≤ longest_result → TurnsInView kind before asked (Ok turned) after
      → GoesOn (HasTaken kind) before after (asked, turned)
  goes_on before after asked turned is_call short took opening history pass call has =
      let t : Taken = record { entry = entry pass call (asked, turned); fails = took.turn.fails } in
      record { taken = has.taken ++ t ∷ []; entries = entries_on has.taken t history has.entries; became = takes t has.became (record { took = took; saved = refl; call = is_call; short = short }) }

  pub stays : (before after : Holder K S) (asked : TurnRequest) (fault : TurnFault) → TurnsInView kind before asked (Err fault) after → Stays (HasTaken kind) before after
  stays before after asked fault refused opening history has = record { taken = has.taken; entries = has.entries; became = refuses asked fault has.became refused }

  -- by whether it answered

  pub it_goes_on : (before after : Holder K S) (asked : TurnRequest) (result : Result Turned TurnFault) → MayAsk before asked
      → IfSome before.agent.view (λ view. TakesTurn kind.signs kind.IsWhole kind.saves view (refresh_of asked.refresh) (asked_of asked.asked) asked.now before result after)
      → IfOk result (λ t. length t.reply ≤ longest_result) → IfOk result (λ t. GoesOn (HasTaken kind) before after (asked, t))
  it_goes_on before after asked (Ok t) may turn short = goes_on before after asked t may.call short (in_view before after asked (Ok t) may turn)
  it_goes_on before after asked (Err fault) may turn short = tt

  pub it_stays : (before after : Holder K S) (asked : TurnRequest) (result : Result Turned TurnFault) → MayAsk before asked
      → IfSome before.agent.view (λ view. TakesTurn kind.signs kind.IsWhole kind.saves view (refresh_of asked.refresh) (asked_of asked.asked) asked.now before result after)
      → OnErr result (Stays (HasTaken kind) before after)
  it_stays before after asked (Ok t) may turn = tt
  it_stays before after asked (Err fault) may turn = stays before after asked fault (in_view before after asked (Err fault) may turn)

  pub it_refuses : (before after : Holder K S) (asked : TurnRequest) (result : Result Turned TurnFault) → MayAsk before asked
      → IfSome before.agent.view (λ view. TakesTurn kind.signs kind.IsWhole kind.saves view (refresh_of asked.refresh) (asked_of asked.asked) asked.now before result after)
      → IfErr result (Refuses kind asked before)
  it_refuses before after asked (Ok t) may turn = tt
  it_refuses before after asked (Err fault) may turn = (after, in_view before after asked (Err fault) may turn)

  -- ---- a settling

  pub settled_stays : (before after : Holder K S) (acks : List Ack) → after ≡ record before { agent = settled before.agent acks } → Stays (HasTaken kind) before after
  settled_stays before after acks is opening history has =
      subst (HasTaken kind opening history) (sym is) (record { taken = has.taken; entries = has.entries; became = settles acks has.became })

  pub same_stays : (before after : Holder K S) → after ≡ before → Stays (HasTaken kind) before after
  same_stays before after is opening history has = subst (HasTaken kind opening history) (sym is) has
