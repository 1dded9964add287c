-- What a node does so that its blocks lie with their owners: it puts each at the owners of its key, and may drop those that others hold now
-- (DHash moves blocks to the nodes that own them: CFS, SOSP 2001, section 5.1; that it does so by puts, and when a block may go, are this
-- project's rules).
use Rattle.std.specs.Prelude.{◌≡◌, ℕ, Bool, true, false, ◌&&◌, not, List, [], ◌∷◌, ◌++◌, map, filter, Option, None, Ok, Err}
use Rattle.std.specs.List.{AllByRecursion, list_any}
use Rattle.std.specs.Ordering.{eq_by_cmp}
use Rattle.ivy_base.specs.Naming.{name, key_cmp}
use Rattle.ring_model.specs.Gets.{IsPutTrail}
use Rattle.ring_model.specs.Lookup.{IsLookup}
use Rattle.dht_ids.specs.Asked.{routes}
use Rattle.dht_ids.specs.declared.ask.Answer.{Answer}
use Rattle.dht_ids.specs.declared.ask.Answer.TheVariants as answer
use Rattle.dht_ids.specs.declared.ask.Ask.{Ask}
use Rattle.dht_ids.specs.declared.ask.Ask.TheVariants as ask
use Rattle.dht_ids.specs.declared.peer.Peer.{Peer}
use Rattle.dht_ids.specs.declared.post.Ack.{Ack}
use Rattle.dht_ids.specs.declared.post.Post.{Post}
use Rattle.dhash_client.specs.Puts.{put_kind, question_of}
use Rattle.dhash_model.specs.declared.miss.Miss.TheVariants as miss
use Rattle.dhash_model.specs.Execution.{Told, outcome}
use Rattle.dhash_model.specs.Puts.{is_of_put, holds}

-- ---- asks

-- a node that was asked, what it was asked, and what it answered
abbrev pub Asked : Type 0
Asked = Peer × (Ask × Answer)

-- all asked the same
abbrev pub asking : Ask → Told → List Asked
asking question asks = map (λ s. (s.0, (question, s.1))) asks

-- what owners are asked for a block
abbrev pub put_question : Post → Ask
put_question p = question_of (put_kind p.kind) p.bytes p.key

-- the peer is that node, whatever number it is given
abbrev pub is_node : Peer → Peer → Bool
is_node node peer = eq_by_cmp key_cmp node.id peer.id

-- ---- one block

-- those of the owners' asks that are made: the node doesn't ask itself
abbrev pub of_others : Peer → Told → Told
of_others node asks = filter (λ s. not (is_node node s.0)) asks

-- the node counts as having answered that it holds the block
abbrev pub OwnIsStored : Peer → Told → Type 0
OwnIsStored node asks = AllByRecursion (λ s. is_node node s.0 ≡ true → s.1 ≡ answer.Stored) asks

-- the block may go: its put was acknowledged, and the node is none of the owners that were asked or counted
abbrev pub may_go : Peer → Told → Bool → Bool
may_go node asks acknowledged = acknowledged && not (list_any (λ s. is_node node s.0) asks)

-- A put of the block by the node, which begins its look-up at itself, and counts, at its place among the owners, as having answered Stored:
-- these asks are made, and it is said whether the block may go.
pub data IsPutFrom (node : Peer) (r : ℕ) (p : Post) (trail : List Asked) (goes : Bool) : Type 0 where
  no_route : (looks : Told) (found : Option (List Peer)) → trail ≡ asking (ask.Route p.key) looks
      → IsLookup [] None (node ∷ []) (routes looks) found → outcome p.key found ≡ Err (miss.NoRoute p.key) → goes ≡ false
      → IsPutFrom node r p trail goes
  of_owners : (looks asks : Told) (found : Option (List Peer)) (owners : List Peer) (acknowledged : Bool)
      → trail ≡ asking (ask.Route p.key) looks ++ asking (put_question p) (of_others node asks)
      → IsLookup [] None (node ∷ []) (routes looks) found → outcome p.key found ≡ Ok owners
      → IsPutTrail is_of_put holds r owners asks acknowledged → OwnIsStored node asks → goes ≡ may_go node asks acknowledged
      → IsPutFrom node r p trail goes

-- ---- all blocks

-- what is said of a block that may go: its key, and the name of its bytes
abbrev pub ack_of : Post → Ack
ack_of p = record { key = p.key; name = name p.bytes }

-- The blocks are put one after the other by these asks, and these of them may go.
pub data IsRepair (node : Peer) (r : ℕ) : List Post → List Asked → List Ack → Type 0 where
  none : IsRepair node r [] [] []
  keeps : {p : Post} {posts : List Post} {asks trail : List Asked} {acks : List Ack} → IsPutFrom node r p asks false
      → IsRepair node r posts trail acks → IsRepair node r (p ∷ posts) (asks ++ trail) acks
  drops : {p : Post} {posts : List Post} {asks trail : List Asked} {acks : List Ack} → IsPutFrom node r p asks true
      → IsRepair node r posts trail acks → IsRepair node r (p ∷ posts) (asks ++ trail) (ack_of p ∷ acks)
