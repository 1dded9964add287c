-- When it is told that the keeper failed.
use Rattle.std.specs.Prelude.{◌≡◌, ◌⊎◌, ℕ, Bool, true, Result, Err}
use Rattle.ivy_io.specs.Causes.{Rose}
use Rattle.nfs_model.specs.declared.replies.NfsStatus.TheVariants.{ServerFault}
use Rattle.nfs_model.specs.declared.replies.Reply.TheVariants.{Refused}
use Rattle.nfs_model.specs.declared.replies.Tail.{Tail}
use Rattle.nfs_model.specs.Results.{result as bytes_of}
use Rattle.log_fetch.specs.declared.turned.Turned.{Turned}
use Rattle.ivy_agent.specs.Holders.{Holder}
use Rattle.ivy_agent.specs.declared.fault.MakeFault.{MakeFault}
use Rattle.ivy_agent.specs.declared.fault.MakeFault.TheVariants as make
use Rattle.ivy_agent.specs.declared.fault.RestartFault.{RestartFault}
use Rattle.ivy_agent.specs.declared.fault.RestartFault.TheVariants as restart
use Rattle.ivy_agent.specs.declared.fault.EnterFault.{EnterFault}
use Rattle.ivy_agent.specs.declared.fault.EnterFault.TheVariants as enter
use Rattle.ivy_agent.specs.declared.fault.SnapFault.{SnapFault}
use Rattle.ivy_agent.specs.declared.fault.SnapFault.TheVariants as snap
use Rattle.ivy_agent.specs.declared.saving.SaveFault.{SaveFault}
use Rattle.ivy_agent.specs.declared.saving.SaveFault.TheVariants as save

-- the keeper's count rose, or the keeper had failed before
abbrev pub RoseOrHadFailed : ℕ → ℕ → Bool → Type 0
RoseOrHadFailed before now has_failed = Rose before now ⊎ (has_failed ≡ true)

-- a view may not be entered for want of the keeper only where it had failed before
abbrev pub MayEnterHasCause : Bool → Result Unit EnterFault → Type 0
MayEnterHasCause has_failed (Err enter.Keeper) = has_failed ≡ true
MayEnterHasCause has_failed result = Unit {0}

module _ {K : Type 0} (faults : K → ℕ) where
  -- a save failed only where the count rose
  abbrev pub SaveHasCause : {A : Type 0} → K → Result A SaveFault → K → Type 0
  SaveHasCause before (Err save.Keeper) after = Rose (faults before) (faults after)
  SaveHasCause before result after = Unit {0}

  -- no agent was made for want of a keeper only where its count rose
  abbrev pub MakeHasCause : {A : Type 0} → K → Result A (K × MakeFault) → Type 0
  MakeHasCause before (Err (after, make.Keeper)) = Rose (faults before) (faults after)
  MakeHasCause before result = Unit {0}

  -- so where none started again
  abbrev pub RestartHasCause : {A : Type 0} → K → Result A (K × RestartFault) → Type 0
  RestartHasCause before (Err (after, restart.Keeper)) = Rose (faults before) (faults after)
  RestartHasCause before result = Unit {0}

  -- a view wasn't entered for want of the keeper only where its count rose, or had before
  abbrev pub EnterHasCause : {S : Type 0} → Holder K S → Result Unit EnterFault → Holder K S → Type 0
  EnterHasCause before (Err enter.Keeper) after = RoseOrHadFailed (faults before.keeper) (faults after.keeper) before.agent.has_failed
  EnterHasCause before result after = Unit {0}

  -- so where there is no new snapshot
  abbrev pub SnapHasCause : {S A : Type 0} → Holder K S → Result A SnapFault → Holder K S → Type 0
  SnapHasCause before (Err snap.Keeper) after = RoseOrHadFailed (faults before.keeper) (faults after.keeper) before.agent.has_failed
  SnapHasCause before result after = Unit {0}

-- the reply is SERVERFAULT only where the count rose, or the keeper had failed before
abbrev pub ReplyHasCause : ℕ → ℕ → Bool → Turned → Type 0
ReplyHasCause before now has_failed turned =
    (tail : Tail) → turned.reply ≡ bytes_of (Refused ServerFault tail) → RoseOrHadFailed before now has_failed
