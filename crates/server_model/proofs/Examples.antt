-- What the definitions come to on small links.
use Rattle.std.proofs.Common.{◌≡◌, List, [], ◌∷◌, refl}
use Rattle.ivy_base.specs.declared.key.Key.{Key}
use Rattle.dht_ids.specs.declared.ask.Answer.TheVariants as answer
use Rattle.dht_ids.specs.declared.ask.Ask.TheVariants as ask
use Rattle.dht_ids.specs.declared.peer.Peer.{Peer}
use Rattle.dht_ids.specs.declared.post.Ack.{Ack}
use Rattle.dht_ids.specs.Asked.{told}
use Rattle.agent_model.specs.Standing.{Standing}
use Rattle.server_model.specs.Acts.{Asking, Lacked, Refused, Settling, TakingTurn, TurnAsked, moments_of, trail_of, turns_of}
use Rattle.server_model.specs.Links.{sent}

-- two replies are two fragments
two_replies : sent ((1 ∷ []) ∷ (2 ∷ 3 ∷ []) ∷ []) ≡ 128 ∷ 0 ∷ 0 ∷ 1 ∷ 1 ∷ 128 ∷ 0 ∷ 0 ∷ 2 ∷ 2 ∷ 3 ∷ []
two_replies = refl

module _ (node : Peer) (key : Key) (acks : List Ack) (first again : TurnAsked) (standing : Standing) where
  -- of an ask, a turn that is refused, one that lacks memory, and a settling, a trail tells the ask
  one_ask : trail_of (Asking node (ask.Get key) answer.Silent ∷ TakingTurn first (Refused standing) ∷ TakingTurn again Lacked ∷ Settling acks ∷ [])
      ≡ told node (ask.Get key) answer.Silent
  one_ask = refl

  -- the clock gave two moments for these
  two_moments : moments_of (TakingTurn first (Refused standing) ∷ Settling acks ∷ TakingTurn again Lacked ∷ []) ≡ first.now ∷ again.now ∷ []
  two_moments = refl

  -- and neither turn was answered
  no_turns : turns_of (TakingTurn first (Refused standing) ∷ Settling acks ∷ TakingTurn again Lacked ∷ []) ≡ []
  no_turns = refl
