-- What a node holds is shown.
use Rattle.std.proofs.Common.{◌≡◌, ℕ, Bool, true, false, cond, List, [], ◌∷◌, ◌++◌, length, map, refl, sym, ap, ◌∙◌, Option, Some, None}
use Rattle.std.specs.Prelude.{codes}
use Rattle.std.specs.Fmt.{decimal}
use Rattle.std.specs.List.{flat_map}
use Rattle.std.proofs.lemmas.List.{length-map}
use Rattle.hex.specs.Hex.{encode_lower}
use Rattle.ivy_base.specs.declared.key.Key.{Key}
use Rattle.dht_ids.specs.declared.peer.Peer.{Peer}
use Rattle.dht_ids.specs.declared.post.Post.{Post}
use Rattle.dhash_model.specs.Stores.{Block, Blocks}
use Rattle.node_store.specs.Stores.{post_of}
use Rattle.ring_model.proofs.Lists.{none_some, some_same}
use Rattle.script_driver.specs.Run.{Goes}
use Rattle.world_model.specs.Shows.{Absent, Text, holds_text, of_live, shown_as}
use Rattle.world_model.specs.Nodes.{Node}
use Rattle.world_model.specs.World.{World, peer_of}
use Rattle.ring_nodes.specs.NodesState.{IsPeerOf, held_by, node_of}
use Rattle.script_world.specs.Held.{key_lines}
use Rattle.script_world.specs.PartsState.{GoesOn, HasParts, PartsState}

lines_are : (blocks : Blocks) → key_lines (map post_of blocks) ≡ flat_map (λ (e : Key × Block). encode_lower e.0.0 ++ 10 ∷ []) blocks
lines_are [] = refl
lines_are (b ∷ blocks) = ap (λ (rest : List ℕ). (encode_lower b.0.0 ++ 10 ∷ []) ++ rest) (lines_are blocks)

module _ (w : World) (s : PartsState) (has : HasParts w s) where
  pub shows_held : (named : Option Node) (peer : Peer) (held : List Post) (output : List ℕ) → IsPeerOf s.nodes named (Some peer) → Some held ≡ held_by (node_of s.nodes peer.id)
      → output ≡ codes "holds " ++ decimal peer.number ++ 32 ∷ decimal (length held) ++ 10 ∷ key_lines held → (next : World) × (Goes next output ≡ shown_as w (codes "holds") (of_live named)) × GoesOn w s next
  shows_held None peer held output is held_is text = absurd (none_some peer (sym is))
  shows_held (Some n) peer held output is held_is text = (w, by n.is_live refl, (has, refl))
    where
      same : peer ≡ peer_of n
      same = some_same peer (peer_of n) is.0

      at : node_of s.nodes peer.id ≡ Some n
      at = ap (λ (q : Peer). node_of s.nodes q.id) same ∙ is.1

      here : Some held ≡ held_by (Some n)
      here = held_is ∙ ap held_by at

      by : (live : Bool) → n.is_live ≡ live → Goes w output ≡ shown_as w (codes "holds") (cond live (Text (holds_text n)) Absent)
      by true lives =
          let are : held ≡ map post_of n.blocks = some_same held (map post_of n.blocks) (here ∙ ap (λ (b : Bool). cond b (Some (map post_of n.blocks)) None) lives) in
          ap (λ (o : List ℕ). Goes w o)
          (text ∙ (λ i. codes "holds " ++ decimal (same i).number ++ 32 ∷ decimal (length (are i)) ++ 10 ∷ key_lines (are i))
          ∙ (λ i. codes "holds " ++ decimal (peer_of n).number ++ 32 ∷ decimal (length-map n.blocks post_of i) ++ 10 ∷ lines_are n.blocks i))
      by false lives = absurd (none_some held (sym (here ∙ ap (λ (b : Bool). cond b (Some (map post_of n.blocks)) None) lives)))
