-- What else is done with an agent: its posts are settled, and a snapshot is made of what it holds.
use Rattle.std.specs.Prelude.{ℕ, Bool, true, false, ◌&&◌, not, List, ◌++◌, map, filter, Option, Some, None, if◌then◌else◌}
use Rattle.std.specs.List.{list_any, last_or}
use Rattle.std.specs.Str.{bytes_eq}
use Rattle.ivy_base.specs.declared.key.Key.{Key}
use Rattle.ivy_base.specs.Naming.{name}
use Rattle.tree_model.specs.Tree.{same_key}
use Rattle.log_model.specs.Rank.{rank}
use Rattle.turn_model.specs.Basis.{Basis, Holding, kept_tree}
use Rattle.dht_ids.specs.declared.post.Ack.{Ack}
use Rattle.dht_ids.specs.declared.post.Post.{Post}
use Rattle.dht_ids.specs.declared.post.PostKind.{PostKind}
use Rattle.dht_ids.specs.declared.post.PostKind.TheVariants as kind
use Rattle.agent_model.specs.Agent.{Agent, Kept, failed, joined, kept_of}

-- ---- settling

-- the acknowledgement is of that post
abbrev pub is_of : Ack → Post → Bool
is_of ack p = same_key ack.key p.key && same_key ack.name (name p.bytes)

-- acknowledged posts are dropped
abbrev pub settled : {S : Type 0} → Agent S → List Ack → Agent S
settled a acks = record a { pending = filter (λ p. not (list_any (λ ack. is_of ack p) acks)) a.pending }

-- ---- snapshots

-- what a snapshot is made of: all that the agent holds, as a basis
abbrev pub basis_of : Holding → Basis
basis_of h = record { front = joined h; tide = last_or h.basis.tide (map rank h.held); tree = kept_tree h }

abbrev pub is_block : PostKind → Bool
is_block kind.Block = true
is_block kind.Log = false
is_block kind.Head = false

abbrev pub block_post : List ℕ → Post
block_post bytes = record { key = name bytes; bytes = bytes; kind = kind.Block }

-- by its bytes: another block that has its name would stand in its place
abbrev pub is_pending_block : List Post → List ℕ → Bool
is_pending_block pending bytes = list_any (λ p. bytes_eq p.bytes bytes && is_block p.kind) pending

-- the agent with the blocks of a snapshot of that name to be published: those that aren't pending already
abbrev pub snapped : {S : Type 0} → Agent S → Key → List (List ℕ) → Agent S
snapped a root blocks = record a {
  snapshot = Some root;
  pending = a.pending
      ++ map block_post (filter (λ b. not (is_pending_block a.pending b)) blocks);
}

-- The agent after a snapshot was made of it, whether there is one, by whether a save would fail, and what is to be saved. Where an earlier
-- save failed none is tried; after a save that fails the agent has no new snapshot.
abbrev pub snapping : {S : Type 0} → Agent S → Key → List (List ℕ) → Bool → (Agent S × Bool) × Option (Kept S)
snapping a root blocks fails =
    if a.has_failed then ((a, false), None)
    else (if fails then (failed a, false) else (snapped a root blocks, true), Some (kept_of (snapped a root blocks)))
