-- How a turn ends.
use Rattle.std.specs.Prelude.{◌≡◌, ℕ, Bool, true, false, IfSome, List, Contains, Option, None, option_map, Result, Ok, Err}
use Rattle.std.specs.List.{AllByRecursion}
use Rattle.ivy_base.specs.declared.key.Key.{Key}
use Rattle.ivy_base.specs.declared.operation.Moment.{Moment}
use Rattle.log_model.specs.View.{View}
use Rattle.log_records.specs.Batches.{Batch, AreUnder}
use Rattle.nfs_model.specs.declared.replies.Reply.{Reply}
use Rattle.nfs_model.specs.Results.{result as bytes_of}
use Rattle.turn_model.specs.Basis.{Basis, Holding, nothing_held}
use Rattle.turn_model.specs.Turn.{Asked}
use Rattle.log_fetch.specs.declared.standing.Standing.{Standing}
use Rattle.log_fetch.specs.Standings.{standing_of}
use Rattle.log_model.specs.Signing.{Signing}
use Rattle.log_model.specs.Fetched.{Edge, owner_of}
use Rattle.agent_model.specs.Agent.{Agent, Kept, joined, own}
use Rattle.agent_model.specs.SavedBytes.{IsKept, kept_bytes}
use Rattle.agent_model.specs.Standing.{Refresh, begun_again_in, going_on}
use Rattle.turn_laws.specs.Taking.{refresh_with}
use Rattle.agent_model.specs.Turning.{TurnEnd, Behind, BelowTide, Answered, Turns, is_behind, is_below_tide}
use Rattle.ivy_agent.specs.Holders.{Holder}
use Rattle.ivy_agent.specs.Saves.{Saves}
use Rattle.log_fetch.specs.declared.turned.Turned.{Turned}
use Rattle.log_fetch.specs.declared.turned.TurnFault.{TurnFault}
use Rattle.log_fetch.specs.declared.turned.TurnFault.TheVariants as fault
use Rattle.ivy_agent.specs.declared.taking.Refusal.{Refusal}
use Rattle.ivy_agent.specs.declared.taking.Refusal.TheVariants as refusal

-- the batch was fetched under the view, of its members
pub record IsFetchedIn (view : View) (b : Batch) : Type 0 where
  pub under : (edges : Key → Option Edge) × AreUnder view edges b
  pub members : AllByRecursion (λ c. Contains view.members (owner_of c.1)) b.chains

-- the bytes of that reply are given, and of the agent what is pending and how far all goes that it holds
pub record Gives {S : Type 0} (reply : Reply) (after : Agent S) (t : Turned) : Type 0 where
  pub bytes : t.reply ≡ bytes_of reply
  pub posts : t.posts ≡ after.pending
  pub front : t.front ≡ joined after.holding

module _ {K S : Type 0} (signs : Signing S) (IsWhole : S → Type 0) (saves : K → List ℕ → Bool → K → Type 0) (view : View)
    (brought : Refresh) (asked : Asked) (now : Moment) (before : Holder K S) where
  -- By whether the save fails: how it ends, the agent, and the keeper; and what is saved may be. Where nothing is to be saved it is so
  -- whether or not a save would fail.
  pub record TurnsAs (fails : Bool) (end : TurnEnd) (after : Holder K S) : Type 0 where
    pub saving : Option (Kept S)
    pub turns : Turns signs brought (record { agent = before.agent; view = view; now = now; fails = fails }) asked end after.agent saving
    pub either : saving ≡ None → (other : Bool)
        → Turns signs brought (record { agent = before.agent; view = view; now = now; fails = other }) asked end after.agent saving
    pub keeper : Saves saves before.keeper (option_map (kept_bytes signs) saving) fails after.keeper
    pub kept : IfSome saving (IsKept signs IsWhole)

  -- it replies, and so many records were applied
  pub record IsAnswered (t : Turned) (after : Holder K S) : Type 0 where
    pub fails : Bool
    pub reply : Reply
    pub turns : TurnsAs fails (Answered reply t.applied) after
    pub gives : Gives reply after.agent t

  -- it is refused, and a session begins again with that standing
  pub record IsRefused (end : TurnEnd) (standing : Standing) (after : Holder K S) : Type 0 where
    pub turns : TurnsAs false end after
    pub anew : standing_of standing ≡ begun_again_in signs after.agent view

  -- Where memory runs out nothing changes.
  abbrev pub TakesTurn : Result Turned TurnFault → Holder K S → Type 0
  TakesTurn (Ok t) after = IsAnswered t after
  TakesTurn (Err (fault.Behind standing)) after = IsRefused Behind standing after
  TakesTurn (Err (fault.BelowTide standing)) after = IsRefused BelowTide standing after
  TakesTurn (Err fault.Memory) after = after ≡ before

  -- ---- the steps

  -- it replies, or it is to be refused, and nothing has changed
  abbrev pub ComesTo : Result Turned Refusal → Holder K S → Type 0
  ComesTo (Ok t) after = IsAnswered t after
  ComesTo (Err refusal.Behind) after =
      (after ≡ before) × (is_behind view (own signs before.agent) before.agent.floor (going_on before.agent brought.basis) brought ≡ true)
  ComesTo (Err refusal.BelowTide) after = (after ≡ before)
      × (is_behind view (own signs before.agent) before.agent.floor (going_on before.agent brought.basis) brought ≡ false)
      × (is_below_tide (own signs before.agent) before.agent.floor (going_on before.agent brought.basis) brought ≡ true)
  ComesTo (Err refusal.Memory) after = after ≡ before

-- what a turn comes to that goes on from this, whichever basis was brought
abbrev pub ComesFrom : {K S : Type 0} → Signing S → (S → Type 0) → (K → List ℕ → Bool → K → Type 0) → View → Batch → Asked → Moment
    → Holder K S → Holding → Result Turned Refusal → Holder K S → Type 0
ComesFrom signs IsWhole saves view batch asked now before h result after =
    (basis : Option Basis) → going_on before.agent basis ≡ h
    → ComesTo signs IsWhole saves view (refresh_with batch basis) asked now before result after

-- what it held is dropped, and a snapshot that was to be loaded
abbrev pub dropping : {S : Type 0} → Agent S → Agent S
dropping a = record a { holding = nothing_held; to_load = None }

-- what a refusal is told as, and what it changes
abbrev pub Refuses : {K S : Type 0} → Signing S → View → Holder K S → Refusal → TurnFault → Holder K S → Type 0
Refuses signs view before refusal.Behind (fault.Behind standing) after =
    (after ≡ before) × (standing_of standing ≡ begun_again_in signs before.agent view)
Refuses signs view before refusal.BelowTide (fault.BelowTide standing) after =
    (after ≡ record before { agent = dropping before.agent }) × (standing_of standing ≡ begun_again_in signs (dropping before.agent) view)
Refuses signs view before why fault.Memory after = after ≡ before
Refuses signs view before why told after = ⊥
