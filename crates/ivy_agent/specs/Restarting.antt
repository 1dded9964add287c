-- How starting again from what was saved ends.
use Rattle.std.specs.Prelude.{◌≡◌, ℕ, List, Option, Some, None, IfSome, Result, Ok, Err}
use Rattle.ivy_io.specs.Causes.{counted}
use Rattle.ivy_io.specs.Keepers.{KeeperState}
use Rattle.log_model.specs.Signing.{Signing}
use Rattle.agent_model.specs.Agent.{Kept, restored}
use Rattle.agent_model.specs.SavedBytes.{IsKept, kept_bytes}
use Rattle.agent_saves.specs.Saves.{AreSavedOf, AreSavedOfNone, IsCounted}
use Rattle.ivy_agent.specs.Holders.{Holder}
use Rattle.ivy_agent.specs.declared.fault.RestartFault.{RestartFault}
use Rattle.ivy_agent.specs.declared.fault.RestartFault.TheVariants as fault

-- ---- keepers

-- where it is known what is kept, it is that
abbrev pub Keeps : Option (Option (List ℕ)) → Option (List ℕ) → Type 0
Keeps kept held = IfSome kept (λ known. known ≡ held)

-- where it is known, something is
abbrev pub KeepsSome : Option (Option (List ℕ)) → Type 0
KeepsSome kept = IfSome kept (λ known. known ≡ None → ⊥)

module _ {K : Type 0} (kept : K → Option (Option (List ℕ))) (faults : K → ℕ) (before : K) where
  -- it still keeps that, and hasn't failed
  pub record HasStayed (after : K) : Type 0 where
    pub kept_still : kept after ≡ kept before
    pub unfailed : faults after ≡ faults before

  -- it failed, and still keeps that
  pub record HasFailed (after : K) : Type 0 where
    pub kept_still : kept after ≡ kept before
    pub one_more : faults after ≡ counted (faults before)

-- ---- starting again

-- the bytes of nothing that may be saved; of keys, those count whose own bytes a word counts
abbrev pub AreNobodys : {S : Type 0} → Signing S → (S → Type 0) → List ℕ → Type 0
AreNobodys signs IsWhole bytes = AreSavedOfNone signs (IsCounted IsWhole signs.saved) bytes

module _ {K S : Type 0} (signs : Signing S) (IsWhole : S → Type 0) where
  -- From bytes: the agent that they were saved of starts again, or they are nobody's, or memory runs out. The keeper stays as it is.
  abbrev pub Restores : K → List ℕ → Result (Holder K S) (K × RestartFault) → Type 0
  Restores before bytes (Ok h) = (k : Kept S) × AreSavedOf signs IsWhole bytes k × (h ≡ record { agent = restored k; keeper = before })
  Restores before bytes (Err (after, fault.Malformed)) = AreNobodys signs IsWhole bytes × (after ≡ before)
  Restores before bytes (Err (after, fault.Memory)) = after ≡ before
  Restores before bytes (Err (after, fault.Nothing)) = ⊥
  Restores before bytes (Err (after, fault.Keeper)) = ⊥

  -- From a keeper: from the bytes that it keeps, where it keeps some and doesn't fail.
  abbrev pub Restarts : (K → Option (Option (List ℕ))) → (K → ℕ) → K → Result (Holder K S) (K × RestartFault) → Type 0
  Restarts kept faults before (Ok h) =
      (k : Kept S) × IsKept signs IsWhole k × Keeps (kept before) (Some (kept_bytes signs k)) × (h.agent ≡ restored k)
      × HasStayed kept faults before h.keeper
  Restarts kept faults before (Err (after, fault.Nothing)) = Keeps (kept before) None × HasStayed kept faults before after
  Restarts kept faults before (Err (after, fault.Malformed)) =
      (bytes : List ℕ) × AreNobodys signs IsWhole bytes × Keeps (kept before) (Some bytes) × HasStayed kept faults before after
  Restarts kept faults before (Err (after, fault.Keeper)) = HasFailed kept faults before after
  Restarts kept faults before (Err (after, fault.Memory)) = KeepsSome (kept before) × HasStayed kept faults before after

-- ---- in place

module _ {S : Type 0} (signs : Signing S) (IsWhole : S → Type 0) (before : Holder KeeperState S) where
  -- Over a keeper in memory, which stays as it is: the agent that it keeps starts again in the place of the one before; or nothing has
  -- changed.
  abbrev pub StartsAgain : Result Unit RestartFault → Holder KeeperState S → Type 0
  StartsAgain (Ok done) after = (k : Kept S) × IsKept signs IsWhole k × (before.keeper.kept ≡ Some (kept_bytes signs k))
      × (after ≡ record before { agent = restored k })
  StartsAgain (Err fault.Nothing) after = (before.keeper.kept ≡ None) × (after ≡ before)
  StartsAgain (Err fault.Malformed) after =
      (bytes : List ℕ) × (before.keeper.kept ≡ Some bytes) × AreNobodys signs IsWhole bytes × (after ≡ before)
  StartsAgain (Err fault.Memory) after = after ≡ before
  StartsAgain (Err fault.Keeper) after = ⊥
