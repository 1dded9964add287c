-- What a driver of posts cites: how they begin, and whom a put may ask.
use Rattle.std.proofs.Common.{◌≡◌, ◌⊎◌, ℕ, List, [], ◌∷◌, Option, Some, None, refl, subst}
use Rattle.dht_ids.specs.Asked.{IsForData}
use Rattle.dht_ids.specs.declared.ask.Ask.{Ask}
use Rattle.dht_ids.specs.declared.ask.Ask.TheVariants as ask
use Rattle.dht_ids.specs.declared.ask.Heard.{Heard}
use Rattle.dht_ids.specs.declared.peer.Peer.{Peer}
use Rattle.dht_ids.specs.declared.post.Post.{Post}
use Rattle.dhash_client.specs.Puts.{put_awaited}
use Rattle.dhash_client.proofs.DrivenGets.{post_asks, put_for_data}
use Rattle.ring_model.proofs.Lists.{none_some}
use Rattle.session_model.specs.Sessions.{Said, publishing, put_question}
use Rattle.ivy_session.specs.Putting.{Putting, PuttingIsAfter, post_of}
use Rattle.ivy_session.specs.Publishing.{PublishingState, PublishingIsAfter, PutIsBehind, publishing_begun, publishing_awaited, awaited_in, posts_of, posts_in, stage_of}
use Rattle.ivy_session.proofs.Putting.{asks_owners}

-- after no ask they begin, in the stage in which a session begins to publish them
pub publishing_begins : (r : ℕ) (entries : List Peer) (posts : List Post) → PublishingIsAfter [] (publishing_begun r entries posts)
publishing_begins r entries posts = refl

pub publishing_stage : (said : Option Said) (r : ℕ) (entries : List Peer) (posts : List Post) → stage_of said (publishing_begun r entries posts) ≡ publishing said posts
publishing_stage said r entries posts = refl

-- a put asks for the route to its post's key, or what its owners are asked
pub asked_for_post : (r : ℕ) (entries : List Peer) (trail : List Heard) (s : Putting) (node : Peer) (question : Ask) → PuttingIsAfter r entries trail s → put_awaited s.put ≡ Some (node, question)
    → (question ≡ ask.Route (post_of s).key) ⊎ (question ≡ put_question (post_of s))
asked_for_post r entries trail s node question after awaited =
    subst (λ (q : Ask). (question ≡ ask.Route (post_of s).key) ⊎ (question ≡ q)) (asks_owners s.kind s.put.bytes s.put.execution.look.key)
    (post_asks s.kind s.put node question after.what awaited)

-- the node to be heard is asked for the first post that is left
pub asked_for_first : (trail : List Heard) (s : PublishingState) (node : Peer) (question : Ask) → PublishingIsAfter trail s → publishing_awaited s ≡ Some (node, question)
    → (p : Post) × (posts : List Post) × (posts_of s ≡ p ∷ posts) × ((question ≡ ask.Route p.key) ⊎ (question ≡ put_question p))
asked_for_first trail s node question = by s.put
  where
    by : (put : Option Putting) → PutIsBehind s.replicas s.entries trail put → awaited_in put ≡ Some (node, question) → (p : Post) × (posts : List Post) × (posts_in put s.left ≡ p ∷ posts) × ((question ≡ ask.Route p.key) ⊎ (question ≡ put_question p))
    by None after awaited = absurd (none_some (node, question) awaited)
    by (Some p) after awaited = (post_of p, s.left, refl, asked_for_post s.replicas s.entries trail p node question after awaited)

-- and may be asked of a mesh
pub asks_for_data : (s : PublishingState) (node : Peer) (question : Ask) → publishing_awaited s ≡ Some (node, question) → IsForData question
asks_for_data s node question = by s.put
  where
    by : (put : Option Putting) → awaited_in put ≡ Some (node, question) → IsForData question
    by None awaited = absurd (none_some (node, question) awaited)
    by (Some p) awaited = put_for_data p.put.what p.put.bytes p.put.execution node question awaited
