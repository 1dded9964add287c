-- An agent that opens its log.
use Rattle.std.specs.Prelude.{◌≡◌, Some}
use Rattle.ivy_base.specs.declared.operation.Moment.{Moment}
use Rattle.hash_signature_model.specs.Signer.{Signer}
use Rattle.agent_model.specs.Agent.{kept_of}
use Rattle.world_model.specs.Agents.{HssAgent, hss_opened}
use Rattle.world_model.specs.Keepers.{Keeper, asked_to_save, fresh_keeper}

-- it opens the signer's log at that moment, and a fresh keeper has saved it
pub record IsOpened (signer : Signer) (now : Moment) (a : HssAgent) (keeper : Keeper) : Type 0 where
  pub opens : a ≡ hss_opened signer now
  pub saved : keeper ≡ asked_to_save fresh_keeper (Some (kept_of (hss_opened signer now)))
