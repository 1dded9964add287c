-- Whoever takes turns by passes, as the definitions of a link have it.
use Rattle.std.specs.Prelude.{◌≡◌, ℕ, Bool, false, List, Some}
use Rattle.log_model.specs.View.{View}
use Rattle.log_model.specs.Signing.{Signing}
use Rattle.nfs_model.specs.declared.replies.Reply.{Reply}
use Rattle.dht_ids.specs.declared.post.Ack.{Ack}
use Rattle.log_fetch.specs.declared.turned.Turned.{Turned}
use Rattle.agent_model.specs.Standing.{Standing, begun_again_in, standing_in}
use Rattle.agent_model.specs.Turning.{TurnEnd, Answered}
use Rattle.session_model.specs.Executions.{IsRefusal}
use Rattle.ivy_agent.specs.Calls.{Settles}
use Rattle.ivy_agent.specs.Holders.{Holder}
use Rattle.ivy_agent.specs.Turns.{Gives, TurnsAs}
use Rattle.server_model.specs.Acts.{Gave, Lacked, Refused, Replied, TurnAsked}
use Rattle.server_model.specs.Takers.{Taker}

-- How agents sign and save, and which of them a pass may come to, and may have left.
pub record Passes (P K S : Type 0) : Type 1 where
  pub signs : Signing S
  pub is_whole : S → Type 0
  pub saves : K → List ℕ → Bool → K → Type 0
  pub comes : P → Holder K S → Type 0
  pub leaves : P → Holder K S → Type 0

abbrev pub passes : {P K S : Type 0} → Signing S → (S → Type 0) → (K → List ℕ → Bool → K → Type 0)
    → (P → Holder K S → Type 0) → (P → Holder K S → Type 0)
    → Passes P K S
passes signs is_whole saves comes leaves = record { signs = signs; is_whole = is_whole; saves = saves; comes = comes; leaves = leaves }

module _ {P K S : Type 0} (by : Passes P K S) where
  -- the standing of an agent to which the pass may come, and which it leaves as it is
  pub record GivesStanding (p : P) (standing : Standing) (q : P) : Type 0 where
    pub found : Holder K S
    pub came : by.comes p found
    pub left : by.leaves q found
    pub view : View
    pub in_view : found.agent.view ≡ Some view
    pub stands : standing ≡ standing_in by.signs found.agent view

  -- A turn of such an agent, for some answer to whether its save fails, and what it gave. Where memory runs out the agent stays as it is.
  pub data GivesTurn (p : P) (turn : TurnAsked) : Gave → P → Type 0 where
    replies : (found after : Holder K S) (view : View) (fails : Bool) (reply : Reply) (turned : Turned) (q : P) → by.comes p found
        → by.leaves q after → found.agent.view ≡ Some view
        → TurnsAs by.signs by.is_whole by.saves view turn.brought turn.asked turn.now found fails (Answered reply turned.applied) after
        → Gives reply after.agent turned → GivesTurn p turn (Replied reply turned.posts) q
    refuses : (found after : Holder K S) (view : View) (end : TurnEnd) (q : P) → by.comes p found → by.leaves q after
        → found.agent.view ≡ Some view → IsRefusal end
        → TurnsAs by.signs by.is_whole by.saves view turn.brought turn.asked turn.now found false end after
        → GivesTurn p turn (Refused (begun_again_in by.signs after.agent view)) q
    lacks_memory : (found : Holder K S) (q : P) → by.comes p found → by.leaves q found → GivesTurn p turn Lacked q

  -- the posts that are acknowledged are dropped
  abbrev pub GivesSettling : P → List Ack → P → Type 0
  GivesSettling p acks q = Settles (by.comes p) (by.leaves q) acks

  -- nothing came of it, and the agent stays as it is
  pub record GivesNothing (p q : P) : Type 0 where
    pub found : Holder K S
    pub came : by.comes p found
    pub left : by.leaves q found

  -- Whoever takes the turns, as a pass sees it.
  abbrev pub by_passes : Taker P
  by_passes = record { stands = GivesStanding; takes_turn = GivesTurn; settles = GivesSettling; looks = GivesNothing }
