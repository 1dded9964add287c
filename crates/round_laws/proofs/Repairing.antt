-- The fourth part of a round changes nothing that nodes know of each other.
use Rattle.std.proofs.Common.{◌≡◌, ℕ, ◌≤◌, Bool, true, false, List, [], ◌∷◌, filter, refl, sym, ◌∙◌, subst, Option, Some, None, arith, le_refl}
use Rattle.ivy_base.specs.declared.key.Key.{Key}
use Rattle.dht_ids.specs.declared.ask.Answer.{Answer}
use Rattle.dht_ids.specs.declared.ask.Ask.{Ask}
use Rattle.dht_ids.specs.declared.ask.Ask.TheVariants as ask
use Rattle.dht_ids.specs.declared.ask.StoreFault.{StoreFault}
use Rattle.dht_ids.specs.declared.judge.Judged.{Judged}
use Rattle.dht_ids.specs.declared.peer.Peer.{Peer}
use Rattle.dhash_model.specs.Execution.{Told}
use Rattle.dhash_model.specs.Stores.{Block, Blocks, content, content_fault, head, head_fault}
use Rattle.dhash_model.specs.declared.kind.BlockKind.{BlockKind}
use Rattle.dhash_model.specs.declared.kind.BlockKind.TheVariants.{Content, Head}
use Rattle.world_model.specs.Nodes.{Node, stored}
use Rattle.world_model.specs.World.{World, node_at, peer_of, with_node}
use Rattle.world_model.specs.Fates.{Fates, asking}
use Rattle.world_model.specs.Ring.{LooksUp}
use Rattle.world_model.specs.Rounds.{EachDoes, PutsAll, PutsAround, Repairs, is_other_peer, question_as}
use Rattle.world_model.specs.Rounds.EachDoes.{done, next as then_does}
use Rattle.world_model.specs.Rounds.PutsAround.{no_route, puts}
use Rattle.world_model.specs.Rounds.PutsAll.{done as all_put, keeps, drops}
use Rattle.round_laws.specs.RingOf.{links_in}
use Rattle.round_laws.proofs.Nodes.{Shape, at, at_id, made_by}
use Rattle.round_laws.proofs.Standing.{IsBase, IsWithin, KeepsRing, fate_grows, fated, from_knows, links_ring, set_within, still_asked, to_knows}
use Rattle.round_laws.proofs.Fixing.{fates_first, fates_none, route_keeps}

stored_keeps : (n : Node) (key : Key) (block : Block) (fault : Option StoreFault) → ((stored n key block fault).1.ring ≡ n.ring) × ((stored n key block fault).1.is_live ≡ n.is_live)
stored_keeps n key block (Some fault) = (refl, refl)
stored_keeps n key block None = (refl, refl)

pub put_keeps : (judged : Key → List ℕ → Option Judged) (kind : BlockKind) (key : Key) (bytes : List ℕ) → KeepsRing judged (question_as kind key bytes)
put_keeps judged Content key bytes n = stored_keeps n key (content bytes) (content_fault key bytes n.blocks)
put_keeps judged Head key bytes n = stored_keeps n key (head bytes) (head_fault judged key bytes n.blocks)

module _ (judged : Key → List ℕ → Option Judged) (r : ℕ) (base : List Shape) (planned : List ℕ) (start end : ℕ) (b : IsBase r base planned start end) where
  pub record Kept (w next : World) : Type 0 where
    pub within : IsWithin base planned start next
    pub grows : w.asked ≤ next.asked
    pub links : links_in next ≡ links_in w

  kept : (w : World) → IsWithin base planned start w → Kept w w
  kept w h = record { within = h; grows = le_refl w.asked; links = refl }

  kept_both : (w mid next : World) → Kept w mid → Kept mid next → Kept w next
  kept_both w mid next f g = record { within = g.within; grows = omega (arith, f.grows, g.grows); links = g.links ∙ f.links }

  -- the same ask of several
  kept_asks : (question : Ask) → KeepsRing judged question → (told : Told) (asks : List (Peer × (Ask × Answer))) (w next : World) → IsWithin base planned start w → asks ≡ asking question told → Fates judged w asks next → Kept w next
  kept_asks question keep [] asks w next h e fates = subst (Kept w) (fates_none judged w next asks e fates) (kept w h)
  kept_asks question keep (s ∷ told) asks w next h e fates =
      let one = fates_first judged w next asks s.0 question s.1 (asking question told) e fates in
      let a = still_asked judged r base planned start end b w one.mid s.0 question s.1 h keep (fated judged r base planned start end b w one.mid s.0 question s.1 h one.fate) in
      kept_both w one.mid next (record { within = a.within; grows = fate_grows judged w one.mid s.0 question s.1 one.fate; links = a.links })
      (kept_asks question keep told (asking question told) one.mid next a.within refl one.others)

  pub kept_look_up : (key : Key) (entries : List Peer) (found : Option (List Peer)) (w next : World) → IsWithin base planned start w → LooksUp judged w key entries found next → Kept w next
  kept_look_up key entries found w next h l = kept_asks (ask.Route key) (route_keeps judged key) l.looks (asking (ask.Route key) l.looks) w next h refl l.fates

  pub kept_put : (p : Peer) (key : Key) (block : Block) (w next : World) (dropped : Bool) → IsWithin base planned start w → PutsAround judged p r key block w dropped next → Kept w next
  kept_put p key block w next dropped h (no_route found last looks none) = kept_look_up key (p ∷ []) found w next h looks
  kept_put p key block w next dropped h (puts q qs asks mid last acknowledged dropping looks is_put own fates goes) =
      let l = kept_look_up key (p ∷ []) (Some (q ∷ qs)) w mid h looks in
      kept_both w mid next l (kept_asks (question_as block.kind key block.bytes) (put_keeps judged block.kind key block.bytes) (filter (λ s. is_other_peer judged p s.0) asks)
      (asking (question_as block.kind key block.bytes) (filter (λ s. is_other_peer judged p s.0) asks)) mid next l.within refl fates)

  pub kept_puts : (p : Peer) (blocks : Blocks) (w next : World) (dropped : List Key) → IsWithin base planned start w → PutsAll judged p r blocks w dropped next → Kept w next
  kept_puts p [] w next dropped h all_put = kept w h
  kept_puts p (e ∷ blocks) w next dropped h (keeps {key = key} {block = block} {mid = mid} one rest) =
      let f = kept_put p key block w mid false h one in kept_both w mid next f (kept_puts p blocks mid next dropped f.within rest)
  kept_puts p (e ∷ blocks) w next dropped h (drops {key = key} {block = block} {mid = mid} {dropped = others} one rest) =
      let f = kept_put p key block w mid true h one in kept_both w mid next f (kept_puts p blocks mid next others f.within rest)

  -- a node holds other blocks
  kept_blocks : (w : World) (id : Key) (n : Node) (blocks : Blocks) → IsWithin base planned start w → node_at w id ≡ Some n → Kept w (with_node w (record n { blocks = blocks }))
  kept_blocks w id n blocks h e =
      let now : Node = record n { blocks = blocks } in
      let here : node_at w (peer_of n).id ≡ Some n = subst (λ k. at w.nodes k ≡ Some n) (sym (at_id w.nodes id n e)) e in
      record {
        within = set_within judged r base planned start end b w now n h here refl (from_knows (made_by base) now (to_knows (made_by base) n (h.known id n e)));
        grows = le_refl w.asked;
        links = links_ring w id n now e refl;
      }

  pub kept_repairs : (w next : World) (p : Peer) → IsWithin base planned start w → Repairs judged r w p next → Kept w next
  kept_repairs w next p h x =
      let f = kept_puts p x.before.blocks w x.mid x.dropped h x.puts in
      subst (Kept w) (sym x.drops) (kept_both w x.mid (with_node x.mid (record x.after { blocks = _ })) f (kept_blocks x.mid p.id x.after _ f.within x.is_after))

  pub kept_all : (w next : World) (ps : List Peer) → IsWithin base planned start w → EachDoes (Repairs judged r) w ps next → Kept w next
  kept_all w next [] h done = kept w h
  kept_all w next (p ∷ ps) h (then_does {mid = mid} first rest) = let f = kept_repairs w mid p h first in kept_both w mid next f (kept_all mid next ps f.within rest)
