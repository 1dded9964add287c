-- An agent that opens its log over a fresh keeper in memory.
use Rattle.std.proofs.Common.{◌≡◌, ℕ, Bool, List, [], fold, None, ap, ◌∙◌}
use Rattle.ivy_base.specs.declared.key.Key.{Key}
use Rattle.dht_ids.specs.declared.post.Post.{Post}
use Rattle.session_model.specs.Sessions.{Cache}
use Rattle.ivy_base.specs.declared.operation.Moment.{Moment}
use Rattle.hash_signature_model.specs.Signer.{Signer}
use Rattle.ivy_io.specs.Keepers.{after_save}
use Rattle.ivy_agent.specs.Holders.{Holder}
use Rattle.world_model.specs.Agents.{HssAgent, hss_opened as opened}
use Rattle.world_model.specs.Keepers.{Keeper, fails_next}
use Rattle.world_model.specs.Logs.{new_participant}
use Rattle.world_model.specs.Steps.{made_by, with_made}
use Rattle.script_participants.specs.Opening.{IsOpened}
use Rattle.script_participants.specs.ParticipantState.{state_of}

-- how a keeper in memory saves
abbrev pub saves : Keeper → List ℕ → Bool → Keeper → Type 0
saves k bytes failed next = (failed ≡ fails_next k) × (next ≡ after_save k bytes)

-- what such an agent's participant is
pub new_participant_is : (signer : Signer) (now : Moment) (name : List ℕ) (h : Holder Keeper Signer) → IsOpened signer now h.agent h.keeper → (cache : Cache) → cache ≡ [] → (made before : List (ℕ × Key)) (posts : List Post) → before ≡ []
    → made ≡ fold with_made before (made_by posts) → posts ≡ h.agent.pending
    → record { name = name; agent = h.agent; keeper = h.keeper; cache = cache; made = made; printed = None; work = 0 } ≡ state_of (new_participant name (opened signer now))
new_participant_is signer now name h is cache none made before posts empty counted pending =
    let all : made ≡ fold with_made [] (made_by (opened signer now).pending) = counted ∙ (λ i. fold with_made (empty i) (made_by (pending i))) ∙ ap (λ (a : HssAgent). fold with_made [] (made_by a.pending)) is.opens in
    λ i. record { name = name; agent = is.opens i; keeper = is.saved i; cache = none i; made = all i; printed = None; work = 0 }
