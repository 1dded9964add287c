-- How entering a view ends.
use Rattle.std.specs.Prelude.{◌≡◌, ℕ, Bool, true, false, IsTrue, IfSome, List, Contains, Some, None, option_map, Result, Ok, Err}
use Rattle.std.specs.List.{AllByRecursion}
use Rattle.log_model.specs.View.{View, IsView, is_named}
use Rattle.log_model.specs.Signing.{Signing}
use Rattle.log_model.specs.ViewKeys.{HasKeys}
use Rattle.agent_model.specs.Agent.{Agent, entered, failed, kept_of, own}
use Rattle.agent_model.specs.SavedBytes.{IsKept, kept_bytes}
use Rattle.agent_model.specs.Views.{Entering, entering}
use Rattle.agent_model.specs.Views.Entering.{Entered, NotMember, NotNamed, KeeperFailed}
use Rattle.ivy_agent.specs.Holders.{Holder}
use Rattle.ivy_agent.specs.Saves.{Saves}
use Rattle.ivy_agent.specs.declared.saving.Kept.{Kept}
use Rattle.ivy_agent.specs.declared.fault.EnterFault.{EnterFault}
use Rattle.ivy_agent.specs.declared.fault.EnterFault.TheVariants as fault

-- what is answered, and the agent afterwards
abbrev pub answer_of : {S : Type 0} → Entering S → Result Unit EnterFault
answer_of (Entered after) = Ok tt
answer_of NotMember = Err fault.NotMember
answer_of (NotNamed log) = Err (fault.NotNamed log)
answer_of (KeeperFailed after) = Err fault.Keeper

abbrev pub agent_after : {S : Type 0} → Agent S → Entering S → Agent S
agent_after before (Entered after) = after
agent_after before NotMember = before
agent_after before (NotNamed log) = before
agent_after before (KeeperFailed after) = after

module _ {K S : Type 0} (signs : Signing S) (IsWhole : S → Type 0) (saves : K → List ℕ → Bool → K → Type 0) (view : View)
    (before : Holder K S) where
  -- by whether the save fails: what is answered, the agent, and the keeper; and what is saved may be
  pub record EntersAs (fails : Bool) (answer : Result Unit EnterFault) (after : Holder K S) : Type 0 where
    pub answered : answer ≡ answer_of (entering signs before.agent view fails).0
    pub agent : after.agent ≡ agent_after before.agent (entering signs before.agent view fails).0
    pub keeper : Saves saves before.keeper (option_map (kept_bytes signs) (entering signs before.agent view fails).1) fails after.keeper
    pub kept : IfSome (entering signs before.agent view fails).1 (IsKept signs IsWhole)

  -- Where memory runs out nothing changes, whatever the view.
  abbrev pub Enters : Result Unit EnterFault → Holder K S → Type 0
  Enters (Err fault.Memory) after = after ≡ before
  Enters answer after = (fails : Bool) × EntersAs fails answer after

-- ---- the steps

module _ {S : Type 0} (signs : Signing S) (view : View) (a : Agent S) where
  -- the view takes in what the agent knows, and no save failed before
  pub record IsTakenIn : Type 0 where
    pub legal : IsView view
    pub keys : HasKeys view
    pub member : Contains view.members (own signs a)
    pub named : AllByRecursion (λ e. IsTrue (is_named view e.0)) a.floor
    pub unfailed : a.has_failed ≡ false
    pub enters : entering signs a view false ≡ (Entered (entered a view), Some (kept_of (entered a view)))
    pub fails : entering signs a view true ≡ (KeeperFailed (failed a), Some (kept_of (entered a view)))

  -- the view is refused, or the keeper isn't asked any more
  pub record IsRefused (why : EnterFault) : Type 0 where
    pub answered : Err why ≡ answer_of (entering signs a view false).0
    pub agent : a ≡ agent_after a (entering signs a view false).0
    pub unsaved : (entering signs a view false).1 ≡ None

  abbrev pub MayEnter : Result Unit EnterFault → Type 0
  MayEnter (Ok done) = IsTakenIn
  MayEnter (Err why) = IsRefused why

-- the agent in the view may be saved, and the save of it left the keeper so
pub record IsSavedIn {K S : Type 0} (signs : Signing S) (IsWhole : S → Type 0) (saves : K → List ℕ → Bool → K → Type 0) (view : View)
    (before : Holder K S) (fails : Bool) (after : K) : Type 0 where
  pub kept : IsKept signs IsWhole (kept_of (entered before.agent view))
  pub saved : saves before.keeper (kept_bytes signs (kept_of (entered before.agent view))) fails after

-- it is saved in the view and is in it, or the save failed, or memory runs out
abbrev pub GoesIn : {K S : Type 0} → Signing S → (S → Type 0) → (K → List ℕ → Bool → K → Type 0) → View → Holder K S
    → Result Unit EnterFault → Holder K S → Type 0
GoesIn signs IsWhole saves view before (Ok done) after =
    (after.agent ≡ entered before.agent view) × IsSavedIn signs IsWhole saves view before false after.keeper
GoesIn signs IsWhole saves view before (Err fault.Keeper) after =
    (after.agent ≡ failed before.agent) × IsSavedIn signs IsWhole saves view before true after.keeper
GoesIn signs IsWhole saves view before (Err fault.Memory) after = after ≡ before
GoesIn signs IsWhole saves view before (Err fault.NotMember) after = ⊥
GoesIn signs IsWhole saves view before (Err (fault.NotNamed log)) after = ⊥

-- what is kept, in the view
abbrev pub kept_in : {S : Type 0} → View → Kept S → Kept S
kept_in view k = record k { view = Some view; snapshot = None }
