-- How the making of an agent ends.
use Rattle.std.specs.Prelude.{◌≡◌, ◌≢◌, ℕ, Bool, false, true, List, [], ◌∷◌, None, Result, Ok, Err}
use Rattle.ivy_base.specs.declared.operation.Moment.{Moment}
use Rattle.ivy_base.specs.Naming.{head_key_of}
use Rattle.log_model.specs.Rank.{own_entry}
use Rattle.log_model.specs.Chain.{opening}
use Rattle.log_model.specs.Signing.{Signing}
use Rattle.agent_model.specs.Agent.{own_key, opened, kept_of, record_post, head_post}
use Rattle.agent_model.specs.SavedBytes.{ArePostsSpelled, IsKept, kept_bytes}
use Rattle.turn_model.specs.Basis.{nothing_held}
use Rattle.replay_engine.specs.Engines.{holding}
use Rattle.ivy_agent.specs.Holders.{Holder}
use Rattle.ivy_agent.specs.declared.opening.Opened.{Opened}
use Rattle.ivy_agent.specs.declared.fault.MakeFault.{MakeFault}
use Rattle.ivy_agent.specs.declared.fault.MakeFault.TheVariants as fault

-- these are the parts of an agent that opens the signer's log at that moment
pub record IsOpening {S : Type 0} (signs : Signing S) (signer : S) (now : Moment) (o : Opened S) : Type 0 where
  pub next : o.kept.signer ≡ signs.next signer
  pub its_key : signs.key o.kept.signer ≡ signs.key signer
  pub its_log : o.kept.log ≡ head_key_of (own_key signs signer)
  pub outside : o.kept.view ≡ None
  pub its_floor : o.kept.floor ≡ own_entry (opening (own_key signs signer) now) ∷ []
  pub posts : o.kept.pending ≡ record_post (opening (own_key signs signer) now)
      ∷ head_post signs signer (own_entry (opening (own_key signs signer) now)).1 ∷ []
  pub spelled : ArePostsSpelled o.kept.pending
  pub no_snapshot : o.kept.snapshot ≡ None
  pub nothing : holding o.engine ≡ nothing_held
  pub its_front : o.front ≡ []

module _ {K S : Type 0} (signs : Signing S) (IsWhole : S → Type 0) (saves : K → List ℕ → Bool → K → Type 0) where
  -- the agent that opens its log may be saved, and the save of it left the keeper so
  pub record IsFirstSave (before : K) (signer : S) (now : Moment) (fails : Bool) (after : K) : Type 0 where
    pub left : signs.remaining signer ≢ 0
    pub kept : IsKept signs IsWhole (kept_of (opened signs signer now))
    pub saved : saves before (kept_bytes signs (kept_of (opened signs signer now))) fails after

  -- Spent is the answer exactly where nothing is left to sign with. Else the agent opens its log and is saved, or the save fails; or memory
  -- runs out, and the keeper stays as it is.
  abbrev pub Makes : K → S → Moment → Result (Holder K S) (K × MakeFault) → Type 0
  Makes before signer now (Ok h) = (h.agent ≡ opened signs signer now) × IsFirstSave before signer now false h.keeper
  Makes before signer now (Err (after, fault.Spent)) = (signs.remaining signer ≡ 0) × (after ≡ before)
  Makes before signer now (Err (after, fault.Keeper)) = IsFirstSave before signer now true after
  Makes before signer now (Err (after, fault.Memory)) = (signs.remaining signer ≢ 0) × (after ≡ before)
