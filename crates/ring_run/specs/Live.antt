-- A live ring as contracts see it, and what an ask of one of its nodes gives.
use Rattle.std.specs.Prelude.{◌≡◌, ◌≢◌, [], ℕ, ◌≤◌, Bool, true, false, List, Option}
use Rattle.std.specs.List.{AllByRecursion}
use Rattle.ivy_base.specs.declared.key.Key.{Key}
use Rattle.ring_model.specs.Members.{IsAmong, HasAscendingPlaces}
use Rattle.dht_ids.specs.declared.ask.Answer.{Answer}
use Rattle.dht_ids.specs.declared.ask.Answer.TheVariants as answer
use Rattle.dht_ids.specs.declared.ask.Ask.{Ask}
use Rattle.dht_ids.specs.declared.judge.Judged.{Judged}
use Rattle.dht_ids.specs.declared.peer.Peer.{Peer}
use Rattle.round_laws.specs.RingOf.{AreNamed}
use Rattle.world_model.specs.Nodes.{Node, answered}
use Rattle.world_model.specs.Ring.{first_peers, is_known_id}

-- How many nodes own a key, the nodes that were made, by number, and those that live, in the order in which they came.
-- What they know and hold nobody says.
pub record LiveState : Type 0 where
  pub replicas : ℕ
  pub made : List Peer
  pub live : List Peer

-- What holds of every live ring: 1 to 8 nodes own a key; some were made, each with the identifier of its number, and no two with
-- one number; and those that live are among them.
pub record IsLiveRing (r : LiveState) : Type 0 where
  pub some : 1 ≤ r.replicas
  pub few : r.replicas ≤ 8
  pub nodes : r.made ≢ []
  pub named : AreNamed r.made
  pub ascending : HasAscendingPlaces (λ p. p.number) r.made
  pub living : AllByRecursion (λ p. IsAmong p r.made) r.live

-- a ring that is made: all of its nodes live
abbrev pub new_ring : ℕ → ℕ → LiveState
new_ring count replicas = record { replicas = replicas; made = first_peers count; live = first_peers count }

-- a node of the peer's identifier lives
abbrev pub lives : LiveState → Peer → Bool
lives r peer = is_known_id r.live peer

-- What an ask gives: silence where the peer doesn't live, and else what a live node answers, whatever it knows and holds.
pub data Gives (judged : Key → List ℕ → Option Judged) (r : LiveState) (to : Peer) (question : Ask) : Answer → Type 0 where
  silent : lives r to ≡ false → Gives judged r to question answer.Silent
  answers : (n : Node) → lives r to ≡ true → Gives judged r to question (answered judged n question).0
