-- A turn leaves an agent in its view.
use Rattle.std.proofs.Common.{◌≡◌, ℕ, Bool, List, Option, Some, None, Result, Ok, Err, refl, ap}
use Rattle.std.specs.Prelude.{IfSome, IsSomeAnd}
use Rattle.ivy_base.specs.declared.operation.Moment.{Moment}
use Rattle.log_model.specs.Record.{Record}
use Rattle.log_model.specs.View.{View}
use Rattle.log_records.specs.Batches.{Batch}
use Rattle.log_fetch.specs.declared.turned.Turned.{Turned}
use Rattle.log_fetch.specs.declared.turned.TurnFault.{TurnFault}
use Rattle.log_fetch.specs.declared.turned.TurnFault.TheVariants as fault
use Rattle.turn_model.specs.Basis.{Holding}
use Rattle.turn_model.specs.Turn.{Asked}
use Rattle.log_model.specs.Signing.{Signing}
use Rattle.agent_model.specs.Agent.{Agent, Kept}
use Rattle.agent_model.specs.Standing.{Refresh}
use Rattle.agent_model.specs.Turning.{Becomes, TurnEnd, Turns}
use Rattle.agent_model.specs.Turning.Becomes.{reads, saves, loses}
use Rattle.agent_model.specs.Turning.Turns.{behind, below, answers}
use Rattle.ivy_agent.specs.Holders.{Holder}
use Rattle.ivy_agent.specs.Turns.{IsFetchedIn, TakesTurn}

module _ {S : Type 0} (signs : Signing S) where
  becomes_view : (view : View) (a : Agent S) (h : Holding) (fails : Bool) (written : List Record) (after : Agent S) (saving : Option (Kept S)) → Becomes signs view a h fails written after saving → after.view ≡ a.view
  becomes_view view a h fails _ _ _ reads = refl
  becomes_view view a h fails _ _ _ (saves before last may works) = refl
  becomes_view view a h fails _ _ _ (loses before last may failing) = refl

  turns_view : (brought : Refresh) (a : Agent S) (view : View) (fails : Bool) (asked : Asked) (now : Moment) (end : TurnEnd) (after : Agent S) (saving : Option (Kept S))
      → Turns signs brought (record { agent = a; view = view; now = now; fails = fails }) asked end after saving → after.view ≡ a.view
  turns_view brought a view fails asked now _ _ _ (behind is) = refl
  turns_view brought a view fails asked now _ _ _ (below caught_up is) = refl
  turns_view brought a view fails asked now _ _ _ (answers h written reply after saving caught_up above base may becomes by) = becomes_view view a h fails written after saving becomes

module _ {K S : Type 0} (signs : Signing S) (IsWhole : S → Type 0) (keeps : K → List ℕ → Bool → K → Type 0) (brought : Refresh) (asked : Asked) (now : Moment) (before after : Holder K S) where
  takes_view : (view : View) (result : Result Turned TurnFault) → TakesTurn signs IsWhole keeps view brought asked now before result after → after.agent.view ≡ before.agent.view
  takes_view view (Ok t) is = turns_view signs brought before.agent view _ asked now _ after.agent _ is.turns.turns
  takes_view view (Err (fault.Behind standing)) is = turns_view signs brought before.agent view _ asked now _ after.agent _ is.turns.turns
  takes_view view (Err (fault.BelowTide standing)) is = turns_view signs brought before.agent view _ asked now _ after.agent _ is.turns.turns
  takes_view view (Err fault.Memory) is = ap (λ (h : Holder K S). h.agent.view) is

  pub turn_keeps_view : (b : Batch) (o : Option View) (result : Result Turned TurnFault) → IsSomeAnd o (λ view. IsFetchedIn view b) → IfSome o (λ view. TakesTurn signs IsWhole keeps view brought asked now before result after)
      → after.agent.view ≡ before.agent.view
  turn_keeps_view b (Some view) result some takes = takes_view view result takes
  turn_keeps_view b None result some takes = absurd some
