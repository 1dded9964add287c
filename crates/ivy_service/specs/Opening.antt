-- The agent of a service, as it is opened.
use Rattle.std.specs.Prelude.{ℕ, Bool, List, [], ◌∷◌, Ok}
use Rattle.ivy_base.specs.declared.operation.Moment.{Moment}
use Rattle.hash_signature_model.specs.Saved.{IsSigner, hss}
use Rattle.hash_signature_model.specs.Signer.{Signer}
use Rattle.agent_model.specs.Agent.{own_key}
use Rattle.log_model.specs.View.{View}
use Rattle.ivy_base.specs.declared.key.PubKey.{PubKey}
use Rattle.ivy_agent.specs.Entering.{Enters}
use Rattle.ivy_agent.specs.Holders.{Holder}
use Rattle.ivy_agent.specs.Making.{Makes}

-- the view of one member alone
abbrev pub alone : PubKey → View
alone member = record { members = member ∷ []; former = [] }

module _ {K : Type 0} (saves : K → List ℕ → Bool → K → Type 0) where
  -- the agent entered the view of its log alone
  abbrev pub EntersAlone : Holder K Signer → Holder K Signer → Type 0
  EntersAlone before after = Enters hss IsSigner saves (alone (own_key hss before.agent.signer)) before (Ok tt) after

  -- An agent with this key was created at that moment over this keeper, and entered the view of its log alone.
  pub record IsOpened (keeper : K) (signer : Signer) (moment : Moment) (opening : Holder K Signer) : Type 0 where
    pub created : Holder K Signer
    pub makes : Makes hss IsSigner saves keeper signer moment (Ok created)
    pub enters : EntersAlone created opening
