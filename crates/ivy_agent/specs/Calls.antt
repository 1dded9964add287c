-- Calls of an agent by a pass, which may come to one of several agents.
use Rattle.std.specs.Prelude.{◌≡◌, ℕ, Bool, List, [], ◌∷◌, ◌++◌, Option, option_map, IfOk, IfSome, Result, Ok, Err}
use Rattle.ivy_base.specs.declared.memory.Memory.{Memory}
use Rattle.ivy_base.specs.declared.operation.Moment.{Moment}
use Rattle.dht_ids.specs.declared.post.Ack.{Ack}
use Rattle.log_model.specs.View.{View}
use Rattle.log_fetch.specs.declared.asked.Asked.{Asked as Asked_}
use Rattle.log_fetch.specs.declared.refresh.Refresh.{Refresh as Refresh_}
use Rattle.log_fetch.specs.declared.standing.Standing.{Standing}
use Rattle.log_fetch.specs.declared.turned.Turned.{Turned}
use Rattle.log_fetch.specs.declared.turned.TurnFault.{TurnFault}
use Rattle.log_fetch.specs.Standings.{standing_of}
use Rattle.turn_model.specs.Turn.{Asked}
use Rattle.log_model.specs.Signing.{Signing}
use Rattle.agent_model.specs.Others.{settled}
use Rattle.agent_model.specs.Standing.{Refresh, standing_in}
use Rattle.ivy_agent.specs.Holders.{Holder}
use Rattle.ivy_agent.specs.Turns.{TakesTurn}

-- a turn that was answered: with what the refresh brought, on which call, at which moment, and what it gave
pub record Made : Type 0 where
  pub refresh : Refresh_
  pub asked : Asked_
  pub now : Moment
  pub turned : Turned

-- Where the turns are told, one that was answered is the newest of them, and one that wasn't is none.
abbrev pub MadeThen : Option (List Made) → Option (List Made) → Refresh_ → Asked_ → Moment → Result Turned TurnFault → Type 0
MadeThen old new refresh asked now (Ok turned) =
    new ≡ option_map (λ made. made ++ record { refresh = refresh; asked = asked; now = now; turned = turned } ∷ []) old
MadeThen old new refresh asked now (Err fault) = new ≡ old

-- What a call is: that of an agent in its view to which it may come, and that it may leave so.

module _ {K S : Type 0} (signs : Signing S) where
  -- the agent's standing; the agent stays as it is
  pub record Stands (comes leaves : Holder K S → Type 0) (viewed : Option View) (result : Result Standing Memory) : Type 0 where
    pub found : Holder K S
    pub came : comes found
    pub left : leaves found
    pub in_view : found.agent.view ≡ viewed
    pub stands : IfOk result (λ s. IfSome viewed (λ view. standing_of s ≡ standing_in signs found.agent view))

  -- the agent's turn
  pub record Turns (IsWhole : S → Type 0) (saves : K → List ℕ → Bool → K → Type 0) (comes leaves : Holder K S → Type 0)
      (viewed : Option View) (brought : Refresh) (asked : Asked) (now : Moment) (result : Result Turned TurnFault) : Type 0 where
    pub found : Holder K S
    pub after : Holder K S
    pub came : comes found
    pub left : leaves after
    pub in_view : found.agent.view ≡ viewed
    pub turn : IfSome viewed (λ view. TakesTurn signs IsWhole saves view brought asked now found result after)

-- its posts that are acknowledged are dropped
pub record Settles {K S : Type 0} (comes leaves : Holder K S → Type 0) (acks : List Ack) : Type 0 where
  pub found : Holder K S
  pub came : comes found
  pub left : leaves (record found { agent = settled found.agent acks })
