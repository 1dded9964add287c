-- Who takes the turns is one agent, which nobody shares.
use Rattle.std.specs.Prelude.{◌≡◌, ℕ, Bool, false, List, Option, Some, None, option_map}
use Rattle.log_model.specs.View.{View}
use Rattle.log_model.specs.Signing.{Signing}
use Rattle.nfs_model.specs.declared.replies.Reply.{Reply}
use Rattle.dht_ids.specs.declared.post.Ack.{Ack}
use Rattle.agent_model.specs.Agent.{Agent, Kept}
use Rattle.agent_model.specs.Others.{settled}
use Rattle.agent_model.specs.SavedBytes.{kept_bytes}
use Rattle.agent_model.specs.Standing.{Standing, begun_again_in, standing_in}
use Rattle.agent_model.specs.Turning.{TurnEnd, Answered, Turns}
use Rattle.session_model.specs.Executions.{IsRefusal}
use Rattle.server_model.specs.Acts.{Gave, Lacked, Refused, Replied, TurnAsked}
use Rattle.server_model.specs.Takers.{Taker}

-- an agent, and what keeps it
pub record Owner (K S : Type 0) : Type 0 where
  pub agent : Agent S
  pub keeper : K

-- the keeper is asked to save these bytes, where there are some, and fails or not
abbrev pub Saves : {K : Type 0} → (K → List ℕ → Bool → K → Type 0) → K → Option (List ℕ) → Bool → K → Type 0
Saves saves before None fails after = after ≡ before
Saves saves before (Some bytes) fails after = saves before bytes fails after

module _ {K S : Type 0} (signs : Signing S) (saves : K → List ℕ → Bool → K → Type 0) where
  -- its standing; it stays as it is
  pub record StandsAlone (o : Owner K S) (standing : Standing) (after : Owner K S) : Type 0 where
    pub view : View
    pub in_view : o.agent.view ≡ Some view
    pub stands : standing ≡ standing_in signs o.agent view
    pub same : after ≡ o

  -- Its turn by the definitions, for some answer to whether the save fails, which is the keeper's.
  pub data TurnsAlone (o : Owner K S) (turn : TurnAsked) : Gave → Owner K S → Type 0 where
    replies : (view : View) (fails : Bool) (reply : Reply) (applied : ℕ) (after : Owner K S) (saving : Option (Kept S))
        → o.agent.view ≡ Some view
        → Turns signs turn.brought (record { agent = o.agent; view = view; now = turn.now; fails = fails }) turn.asked
        (Answered reply applied) after.agent saving
        → Saves saves o.keeper (option_map (kept_bytes signs) saving) fails after.keeper
        → TurnsAlone o turn (Replied reply after.agent.pending) after
    refuses : (view : View) (end : TurnEnd) (after : Owner K S) (saving : Option (Kept S)) → o.agent.view ≡ Some view → IsRefusal end
        → Turns signs turn.brought (record { agent = o.agent; view = view; now = turn.now; fails = false })
        turn.asked end after.agent saving
        → Saves saves o.keeper (option_map (kept_bytes signs) saving) false after.keeper
        → TurnsAlone o turn (Refused (begun_again_in signs after.agent view)) after
    lacks_memory : TurnsAlone o turn Lacked o

  -- the posts that are acknowledged are dropped
  abbrev pub SettlesAlone : Owner K S → List Ack → Owner K S → Type 0
  SettlesAlone o acks after = after ≡ record o { agent = settled o.agent acks }

  -- One agent and its keeper: what each call comes to leaves them so.
  abbrev pub one_agent : Taker (Owner K S)
  one_agent = record { stands = StandsAlone; takes_turn = TurnsAlone; settles = SettlesAlone; looks = λ o after. after ≡ o }
