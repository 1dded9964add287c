-- An agent, and what is saved of it, whatever it signs with.
use Rattle.std.specs.Prelude.{ℕ, Bool, true, false, not, List, [], ◌∷◌, ◌++◌, map, filter, fold, Option, Some, None}
use Rattle.ivy_base.specs.declared.key.Key.{Key}
use Rattle.ivy_base.specs.declared.key.PubKey.{PubKey}
use Rattle.ivy_base.specs.declared.operation.Moment.{Moment}
use Rattle.ivy_base.specs.Naming.{head_key_of}
use Rattle.log_model.specs.View.{View}
use Rattle.log_model.specs.Vector.{Stamp, Vector, join, seq_of}
use Rattle.log_model.specs.Record.{Record}
use Rattle.log_model.specs.Rank.{own_entry, full_vector}
use Rattle.log_model.specs.Chain.{opening}
use Rattle.log_model.specs.Signing.{Signing}
use Rattle.log_model.specs.Spelling.{record_block, head_message, head_block}
use Rattle.turn_model.specs.Basis.{Holding, nothing_held}
use Rattle.dht_ids.specs.declared.post.Post.{Post}
use Rattle.dht_ids.specs.declared.post.PostKind.{PostKind}
use Rattle.dht_ids.specs.declared.post.PostKind.TheVariants as kind

-- ---- agents

-- An agent: its signer, the view that it entered, its floor, what it holds, the snapshot still to be loaded and the newest one by their
-- names, the blocks that it has still to publish, and whether its keeper has failed since its start.
pub record Agent (S : Type 0) : Type 0 where
  pub signer : S
  pub view : Option View
  pub floor : Vector
  pub holding : Holding
  pub to_load : Option Key
  pub snapshot : Option Key
  pub pending : List Post
  pub has_failed : Bool

-- what is saved of an agent
pub record Kept (S : Type 0) : Type 0 where
  pub signer : S
  pub view : Option View
  pub floor : Vector
  pub pending : List Post
  pub snapshot : Option Key

abbrev pub kept_of : {S : Type 0} → Agent S → Kept S
kept_of a = record { signer = a.signer; view = a.view; floor = a.floor; pending = a.pending; snapshot = a.snapshot }

-- its keeper has failed: it writes and saves no more
abbrev pub failed : {S : Type 0} → Agent S → Agent S
failed a = record a { has_failed = true }

-- how far what it holds goes: the basis's front and the records above it
abbrev pub joined : Holding → Vector
joined h = fold join h.basis.front (map full_vector h.held)

-- ---- posts

abbrev pub record_post : Record → Post
record_post r = record { key = r.name; bytes = record_block r; kind = kind.Log }

abbrev pub is_head : PostKind → Bool
is_head kind.Block = false
is_head kind.Log = false
is_head kind.Head = true

-- a new head takes the place of a pending one
abbrev pub with_posts : List Post → List Record → Post → List Post
with_posts pending written head = filter (λ p. not (is_head p.kind)) pending ++ map record_post written ++ head ∷ []

module _ {S : Type 0} (signs : Signing S) where
  -- its public key
  abbrev pub own_key : S → PubKey
  own_key signer = record { 0 = signs.key signer }

  abbrev pub own : Agent S → PubKey
  own a = own_key a.signer

  -- how far its floor goes in its own log
  abbrev pub own_reach : Agent S → ℕ
  own_reach a = seq_of a.floor (head_key_of (own a))

  -- the head over a log's newest record, with the signer's next signature
  abbrev pub sealed : S → Stamp → List ℕ
  sealed signer newest = head_block (own_key signer) newest (signs.signature signer (head_message (own_key signer) newest))

  abbrev pub head_post : S → Stamp → Post
  head_post signer newest = record { key = head_key_of (own_key signer); bytes = sealed signer newest; kind = kind.Head }

  -- ---- making

  -- An agent that opens its log at a moment: its opening record is to be published with its head. It is saved before it is shown.
  abbrev pub opened : S → Moment → Agent S
  opened signer now = (let r = opening (own_key signer) now in record {
    signer = signs.next signer;
    view = None;
    floor = own_entry r ∷ [];
    holding = nothing_held;
    to_load = None;
    snapshot = None;
    pending = record_post r ∷ head_post signer (own_entry r).1 ∷ [];
    has_failed = false;
  })

-- ---- restoring, and entering a view

-- an agent that starts again from what was saved: it holds nothing
abbrev pub restored : {S : Type 0} → Kept S → Agent S
restored k = record {
  signer = k.signer;
  view = k.view;
  floor = k.floor;
  holding = nothing_held;
  to_load = k.snapshot;
  snapshot = k.snapshot;
  pending = k.pending;
  has_failed = false;
}

-- the agent in the view: what it held is dropped, its floor stays
abbrev pub entered : {S : Type 0} → Agent S → View → Agent S
entered a view = record a { view = Some view; holding = nothing_held; to_load = None; snapshot = None }
