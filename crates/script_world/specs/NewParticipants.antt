-- How a log begins: all that its line does before what is pending is published.
use Rattle.std.specs.Prelude.{◌≡◌, ℕ, Bool, true, false, List, Option, Some, is_some}
use Rattle.ivy_base.specs.declared.key.Key.{Key}
use Rattle.hash_signature_model.specs.declared.set.Set.{Set}
use Rattle.dht_ids.specs.declared.judge.Judged.{Judged}
use Rattle.script_driver.specs.Run.{Refuses}
use Rattle.world_model.specs.Agents.{hss_opened}
use Rattle.world_model.specs.Logs.{LogLine, Played, fresh_signer, new_participant, with_new_participant}
use Rattle.world_model.specs.World.{Participant, participant}
use Rattle.script_world.specs.PartsState.{GoesOn, HasParts, PartsState}

-- a new participant of that name may come, and the world that it has come to has these parts: what the line of a log asks for, but that its
-- agent publishes then
pub record HasNewParticipant (w : Played) (name id seed : List ℕ) (sets : List Set) (after : PartsState) : Type 0 where
  pub replicas : ℕ
  pub one : Participant
  pub ring : w.0.replicas ≡ Some replicas
  pub unknown : is_some (participant w.0 name) ≡ false
  pub is_new : one ≡ new_participant name (hss_opened (fresh_signer id seed sets) w.0.now)
  pub goes_on : GoesOn w.0 after (with_new_participant w one).0

-- so in each world that has the parts before; or in each the line is refused
abbrev pub BeginsIn : List ℕ → List ℕ → List ℕ → List Set → PartsState → Bool → PartsState → Type 0
BeginsIn name id seed sets before true after = (w : Played) → HasParts w.0 before → HasNewParticipant w name id seed sets after
BeginsIn name id seed sets before false after =
    (w : Played) → HasParts w.0 before → (judged : Key → List ℕ → Option Judged) → LogLine judged w name id seed sets Refuses
