-- How a turn ends that is refused, and what a turn comes to by what it goes on from.
use Rattle.std.proofs.Common.{◌≡◌, ℕ, Bool, false, List, Option, Some, None, Ok, Err, Result, sym, ap, ◌∙◌, subst}
use Rattle.std.specs.Prelude.{IfSome, IsSomeAnd}
use Rattle.ivy_base.specs.declared.operation.Moment.{Moment}
use Rattle.log_model.specs.View.{View}
use Rattle.log_records.specs.Batches.{Batch}
use Rattle.turn_model.specs.Basis.{Basis, Holding}
use Rattle.turn_model.specs.Turn.{Asked}
use Rattle.log_fetch.specs.declared.standing.Standing.{Standing}
use Rattle.log_fetch.specs.Standings.{standing_of}
use Rattle.log_model.specs.Signing.{Signing}
use Rattle.agent_model.specs.Standing.{Refresh, begun_again_in, going_on}
use Rattle.turn_laws.specs.Taking.{refresh_with}
use Rattle.agent_model.specs.Turning.{TurnEnd, Turns}
use Rattle.agent_model.specs.Turning as turning
use Rattle.ivy_agent.specs.Holders.{Holder}
use Rattle.ivy_agent.specs.Turns.{ComesFrom, ComesTo, IsRefused, Refuses, TakesTurn}
use Rattle.log_fetch.specs.declared.turned.Turned.{Turned}
use Rattle.log_fetch.specs.declared.turned.TurnFault.{TurnFault}
use Rattle.log_fetch.specs.declared.turned.TurnFault.TheVariants as fault
use Rattle.ivy_agent.specs.declared.taking.Refusal.{Refusal}
use Rattle.ivy_agent.specs.declared.taking.Refusal.TheVariants as refusal

module _ {K S : Type 0} (signs : Signing S) (IsWhole : S → Type 0) (saves : K → List ℕ → Bool → K → Type 0) (asked : Asked) (now : Moment) (before : Holder K S) where
  -- what it comes to by what it goes on from
  pub comes : (batch : Batch) (basis : Option Basis) (h : Holding) (result : Result Turned Refusal) (after : Holder K S) → going_on before.agent basis ≡ h → (o : Option View)
      → IfSome o (λ view. ComesFrom signs IsWhole saves view batch asked now before h result after) → IfSome o (λ view. ComesTo signs IsWhole saves view (refresh_with batch basis) asked now before result after)
  comes batch basis h result after going None c = tt
  comes batch basis h result after going (Some view) c = c basis going

  module _ (brought : Refresh) (view : View) where
    abbrev Ends : TurnEnd → Holder K S → Type 0
    Ends end after = (fails : Bool) → Turns signs brought (record { agent = before.agent; view = view; now = now; fails = fails }) asked end after.agent None

    refused : (end : TurnEnd) (standing : Standing) (after : Holder K S) → Ends end after → after.keeper ≡ before.keeper → standing_of standing ≡ begun_again_in signs after.agent view
        → IsRefused signs IsWhole saves view brought asked now before end standing after
    refused end standing after turns keeper anew = record {
      turns = record { saving = None; turns = turns false; either = λ none other. turns other; keeper = keeper; kept = tt };
      anew = anew;
    }

    ends_as : (why : Refusal) (told : TurnFault) (after : Holder K S) → ComesTo signs IsWhole saves view brought asked now before (Err why) before → Refuses signs view before why told after
        → TakesTurn signs IsWhole saves view brought asked now before (Err told) after
    ends_as refusal.Behind (fault.Behind standing) after c r = refused turning.Behind standing after
        (subst (λ (x : Holder K S). Ends turning.Behind x) (sym r.0) (λ fails. turning.behind c.1)) (ap (λ (x : Holder K S). x.keeper) r.0)
        (r.1 ∙ ap (λ (x : Holder K S). begun_again_in signs x.agent view) (sym r.0))
    ends_as refusal.Behind (fault.BelowTide standing) after c r = absurd r
    ends_as refusal.Behind fault.Memory after c r = r
    ends_as refusal.BelowTide (fault.Behind standing) after c r = absurd r
    ends_as refusal.BelowTide (fault.BelowTide standing) after c r = refused turning.BelowTide standing after
        (subst (λ (x : Holder K S). Ends turning.BelowTide x) (sym r.0) (λ fails. turning.below c.1 c.2)) (ap (λ (x : Holder K S). x.keeper) r.0)
        (r.1 ∙ ap (λ (x : Holder K S). begun_again_in signs x.agent view) (sym r.0))
    ends_as refusal.BelowTide fault.Memory after c r = r
    ends_as refusal.Memory (fault.Behind standing) after c r = absurd r
    ends_as refusal.Memory (fault.BelowTide standing) after c r = absurd r
    ends_as refusal.Memory fault.Memory after c r = r

    -- before it was refused nothing had changed
    still : (why : Refusal) (mid : Holder K S) → ComesTo signs IsWhole saves view brought asked now before (Err why) mid → mid ≡ before
    still refusal.Behind mid c = c.0
    still refusal.BelowTide mid c = c.0
    still refusal.Memory mid c = c

  pub ends_refused : (brought : Refresh) (why : Refusal) (told : TurnFault) (mid after : Holder K S) (o : Option View) → before.agent.view ≡ o → IfSome o (λ view. ComesTo signs IsWhole saves view brought asked now before (Err why) mid)
      → IfSome mid.agent.view (λ view. Refuses signs view mid why told after) → IfSome o (λ view. TakesTurn signs IsWhole saves view brought asked now before (Err told) after)
  ends_refused brought why told mid after None is c r = tt
  ends_refused brought why told mid after (Some view) is c r =
      let same : mid ≡ before = still brought view why mid c in
      let here : IfSome before.agent.view (λ v. Refuses signs v before why told after) = subst (λ (x : Holder K S). IfSome x.agent.view (λ v. Refuses signs v x why told after)) same r in
      ends_as brought view why told after (subst (λ (x : Holder K S). ComesTo signs IsWhole saves view brought asked now before (Err why) x) same c)
      (subst (λ (p : Option View). IfSome p (λ v. Refuses signs v before why told after)) is here)

  pub ends_answered : (brought : Refresh) (t : Turned) (after : Holder K S) (o : Option View) → IfSome o (λ view. ComesTo signs IsWhole saves view brought asked now before (Ok t) after)
      → IfSome o (λ view. TakesTurn signs IsWhole saves view brought asked now before (Ok t) after)
  ends_answered brought t after None c = tt
  ends_answered brought t after (Some view) c = c

  -- what is given is pending
  pub gives_pending : (brought : Refresh) (t : Turned) (after : Holder K S) (Holds : View → Type 0) (o : Option View) → IsSomeAnd o Holds → IfSome o (λ view. ComesTo signs IsWhole saves view brought asked now before (Ok t) after)
      → t.posts ≡ after.agent.pending
  gives_pending brought t after Holds None h c = absurd h
  gives_pending brought t after Holds (Some view) h c = c.gives.posts
