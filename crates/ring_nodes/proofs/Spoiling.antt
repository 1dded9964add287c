-- What a byte that is changed leaves.
use Rattle.std.proofs.Common.{◌≡◌, ℕ, ◌<◌, Bool, true, false, cond, List, [], length, map, set, get_or, refl, sym, ap, ◌∙◌, subst, Option, Some, None, option_map, Result, Ok, Err, IfOk}
use Rattle.std.specs.Prelude.{nat_lt, option_and_then}
use Rattle.std.specs.FinMap.Entries.{find as value_at, put}
use Rattle.std.specs.List.{position}
use Rattle.std.proofs.lemmas.Bool.{ltb-true}
use Rattle.ivy_base.specs.declared.key.Key.{Key}
use Rattle.ivy_base.specs.declared.memory.Memory.{Memory}
use Rattle.ivy_base.specs.Naming.{key_cmp}
use Rattle.ring_model.proofs.Lists.{some_same, none_some}
use Rattle.dhash_model.specs.Stores.{Block, Blocks, bytes_at, spoiled, with_byte}
use Rattle.node_store.proofs.Held.{put_is_held}
use Rattle.script_driver.specs.Run.{Goes, Refuses}
use Rattle.world_model.specs.Nodes.{Node}
use Rattle.world_model.specs.World.{World, peer_of, with_node}
use Rattle.world_model.specs.Faults.{damage_by, damaged_to, meets_some}
use Rattle.round_laws.specs.RingOf.{AreApart}
use Rattle.round_laws.proofs.Nodes.{replaced}
use Rattle.ring_nodes.specs.NodesState.{NodesState, IsNodesOf, node_of, with_nodes}
use Rattle.ring_nodes.specs.Spoiling.{IsSpoiled, damaged_world}
use Rattle.ring_nodes.proofs.Places.{found_at, found_within, has_id, none_found, set_replaces}

-- where nothing is held there is no byte
pub none_corrupted : (key : Key) (offset byte : ℕ) (blocks : Blocks) → bytes_at key blocks ≡ None → with_byte key offset byte blocks ≡ None
none_corrupted key offset byte blocks none = by (value_at key_cmp key blocks) none
  where
    by : (o : Option Block) → option_map (λ (b : Block). b.bytes) o ≡ None → option_and_then (λ (b : Block). cond (nat_lt offset (length b.bytes)) (Some (put key_cmp key (spoiled offset byte b) blocks)) None) o ≡ None
    by None e = refl
    by (Some b) e = absurd (none_some b.bytes (sym e))

-- what is held then under the key, and that the byte was one of the block
pub record Corrupted (key : Key) (offset byte : ℕ) (new : Blocks) (bytes : List ℕ) : Type 0 where
  pub within : offset < length bytes
  pub held : bytes_at key new ≡ Some (set bytes offset byte)

pub one_corrupted : (key : Key) (offset byte : ℕ) (old new : Blocks) (bytes : List ℕ) → bytes_at key old ≡ Some bytes → with_byte key offset byte old ≡ Some new → Corrupted key offset byte new bytes
one_corrupted key offset byte old new bytes held done = by (value_at key_cmp key old) held done
  where
    inner : (b : Block) → b.bytes ≡ bytes → (t : Bool) → nat_lt offset (length b.bytes) ≡ t → cond t (Some (put key_cmp key (spoiled offset byte b) old)) None ≡ Some new → Corrupted key offset byte new bytes
    inner b is true t e =
        record {
          within = subst (λ l. offset < length l) is (ltb-true offset (length b.bytes) t);
          held = subst (λ n. bytes_at key n ≡ Some (set bytes offset byte)) (some_same (put key_cmp key (spoiled offset byte b) old) new e) (put_is_held key (spoiled offset byte b) old ∙ ap (λ l. Some (set l offset byte)) is);
        }
    inner b is false t e = absurd (none_some new e)

    by : (o : Option Block) → option_map (λ (b : Block). b.bytes) o ≡ Some bytes → option_and_then (λ (b : Block). cond (nat_lt offset (length b.bytes)) (Some (put key_cmp key (spoiled offset byte b) old)) None) o ≡ Some new → Corrupted key offset byte new bytes
    by None h e = absurd (none_some bytes h)
    by (Some b) h e = inner b (some_same b.bytes bytes h) (nat_lt offset (length b.bytes)) refl e

-- the node that was spoiled is the same peer
pub corrupted_peer : (key : Key) (offset byte : ℕ) (old new : Node) (result : Option (List ℕ)) → IsSpoiled key offset byte old new result → peer_of new ≡ peer_of old
corrupted_peer key offset byte old new None is = ap peer_of is.1
corrupted_peer key offset byte old new (Some bytes) is = ap peer_of is.1

module _ (s : NodesState) (id key : Key) (offset byte : ℕ) where
  pub nobody_damaged : (w : World) → position (has_id id) s.nodes ≡ None → damage_by w (node_of s id) (Some key) offset byte ≡ Refuses
  nobody_damaged w none = ap (λ o. damage_by w o (Some key) offset byte) (none_found (has_id id) s.nodes none)

  pub one_damaged : (next : NodesState) (i : ℕ) (n d : Node) (result : Option (List ℕ)) → AreApart (map peer_of s.nodes) → position (has_id id) s.nodes ≡ Some i → IsSpoiled key offset byte (get_or s.nodes i d) n result
      → next.nodes ≡ set s.nodes i n → next.asked ≡ s.asked → next.lost ≡ s.lost
      → (w : World) → IsNodesOf w s → damage_by w (node_of s id) (Some key) offset byte ≡ damaged_world (with_nodes w next) result
  one_damaged next i n d None apart found is nodes asked lost w of =
      ap (λ o. damage_by w o (Some key) offset byte) (found_at (has_id id) s.nodes i d found) ∙ ap (damaged_to w (get_or s.nodes i d) key) is.0
  one_damaged next i n d (Some bytes) apart found is nodes asked lost w of =
      let old : Node = get_or s.nodes i d in
      let now : Node = record old { blocks = n.blocks } in
      let all : replaced now w.nodes ≡ next.nodes = ap (replaced now) of.0 ∙ sym (set_replaces s.nodes i now d apart (found_within (has_id id) s.nodes i found) refl) ∙ ap (set s.nodes i) (sym is.1) ∙ sym nodes in
      let world : with_node w now ≡ with_nodes w next = λ k. record w { nodes = all k; asked = (of.1 ∙ sym asked) k; lost = (of.2 ∙ sym lost) k } in
      ap (λ o. damage_by w o (Some key) offset byte) (found_at (has_id id) s.nodes i d found)
      ∙ ap (damaged_to w old key) is.0
      ∙ ap (λ o. Goes (record (with_node w now) { met = meets_some w.met o }) []) is.2
      ∙ ap (λ (v : World). damaged_world v (Some bytes)) world

  -- the same by what a walk and a call give
  pub damages_by : (next : NodesState) (i : ℕ) (old new : Node) (result : Result (Option (List ℕ)) Memory) → AreApart (map peer_of s.nodes) → position (has_id id) s.nodes ≡ Some i → old ≡ get_or s.nodes i old
      → IfOk result (IsSpoiled key offset byte old new) → next.nodes ≡ set s.nodes i new → next.asked ≡ s.asked → next.lost ≡ s.lost
      → IfOk result (λ bytes. (w : World) → IsNodesOf w s → damage_by w (node_of s id) (Some key) offset byte ≡ damaged_world (with_nodes w next) bytes)
  damages_by next i old new (Err e) apart found is corrupted nodes asked lost = tt
  damages_by next i old new (Ok bytes) apart found is corrupted nodes asked lost =
      one_damaged next i new old bytes apart found (subst (λ (n : Node). IsSpoiled key offset byte n new bytes) is corrupted) nodes asked lost
