-- Lines without sessions leave a world in which the invariant holds.
use Rattle.std.proofs.Common.{◌≡◌, inl, inr, ℕ, ◌+◌, ◌<◌, Bool, true, false, cond, ◌&&◌, List, [], ◌∷◌, ◌++◌, length, Option, Some, None, refl, sym, ap, ◌∙◌, subst, arith, Contains, nat_lt, nat_le}
use Rattle.std.specs.Prelude.{◌==◌, map, option_map, option_and_then, unwrap_or}
use Rattle.std.specs.List.{AllByRecursion, find, list_any}
use Rattle.std.specs.Map.{lookup}
use Rattle.std.specs.FinMap.Entries.{find as value_at, put}
use Rattle.std.specs.Ordering.{eq_by_cmp}
use Rattle.std.specs.Str.{bytes_eq}
use Rattle.std.proofs.Math.ListN.{length-set}
use Rattle.std.proofs.lemmas.Bool.{ltb-true}
use Rattle.std.proofs.lemmas.List.Elements.{Contains-append_left, Contains-append_right}
use Rattle.std.proofs.lemmas.Slice.Eq.{bytes_eq-Decides}
use Rattle.tree_model.proofs.Sound.{both_true}
use Rattle.ring_model.specs.Members.{IsAmong}
use Rattle.ring_model.proofs.Lists.{all-among, all_weaker}
use Rattle.ivy_base.specs.declared.key.Key.{Key}
use Rattle.ivy_base.specs.Naming.{key_cmp}
use Rattle.log_model.proofs.Lists.{each, here, who_passes}
use Rattle.dht_ids.specs.declared.peer.Peer.{Peer}
use Rattle.dhash_model.specs.State.{State}
use Rattle.dhash_model.specs.Stores.{Block, Blocks, bytes_at, spoiled, with_byte}
use Rattle.node_store.specs.Stores.{IsStore}
use Rattle.node_store.proofs.Held.{put_is_held}
use Rattle.node_store.proofs.Maps.{find-lookup}
use Rattle.node_store.proofs.Sums.{held_after_put, size}
use Rattle.round_laws.specs.RingOf.{KnowsOnly}
use Rattle.round_laws.proofs.Nodes.{at, at_among, mapped_kept, replaced}
use Rattle.round_laws.proofs.Standing.{from_knows, knows_of, to_knows}
use Rattle.round_laws.proofs.Rounding.{at_own}
use Rattle.script_driver.specs.Run.{Outcome, Goes, Ends, Refuses, Exceeds}
use Rattle.script_model.specs.declared.command.Command.TheVariants as command
use Rattle.script_model.specs.declared.command.NodeWord.{NodeWord}
use Rattle.script_model.specs.declared.command.NodeWord.TheVariants as node
use Rattle.script_model.specs.Words.{◌>>=◌}
use Rattle.ivy_io.specs.Keepers as memory
use Rattle.world_model.specs.Keepers.{with_fault}
use Rattle.world_model.specs.Nodes.{Node}
use Rattle.world_model.specs.World.{World, Participant, meets, node_at, participant, peer_of, with_node, with_participant}
use Rattle.world_model.specs.GhostState.{GhostState}
use Rattle.world_model.specs.Logs.{Played, at_line, beside, goes_if, keep_by, keep_line}
use Rattle.world_model.specs.Ring.{stop_line}
use Rattle.world_model.specs.Faults.{damage_by, damage_line, damaged_to, key_named, lose_line, meets_some, node_named, owner_of_key}
use Rattle.world_laws.specs.Invariant.{HasRing, Invariant}
use Rattle.world_laws.specs.Frames.{AreOfRing, Change, DamageLinesKeep, KeeperLinesKeep, StillLinesKeep, StopLinesKeep, unchanged}
use Rattle.world_laws.proofs.Bringing.{found_named}
use Rattle.world_laws.proofs.Frames.{held_more, made_still, no_changes, of_ring, participant_keeps, still_some, unchanged_within_frame, world_changes}
use Rattle.world_laws.proofs.NodeFates.{HoldsMet, each_replaced}
use Rattle.world_laws.proofs.Shows.{shows_are_still}
use Rattle.world_laws.proofs.StoredBlocks.{put_each, put_store}

-- ---- outcomes

-- where the outcome goes on, it goes to such a world
abbrev pub ToSuch : (Played → Type 0) → Outcome Played → Type 0
ToSuch P (Goes next output) = P next
ToSuch P Ends = Unit {0}
ToSuch P Refuses = Unit {0}
ToSuch P Exceeds = Unit {0}

abbrev pub Keeping : GhostState → Outcome World → Type 0
Keeping st (Goes next output) = Invariant (next, st)
Keeping st Ends = Unit {0}
Keeping st Refuses = Unit {0}
Keeping st Exceeds = Unit {0}

beside_keeps : (st : GhostState) (o : Outcome World) → Keeping st o → ToSuch Invariant (beside st o)
beside_keeps st (Goes next output) h = h
beside_keeps st Ends h = tt
beside_keeps st Refuses h = tt
beside_keeps st Exceeds h = tt

-- a line that is a function of the world
pub by_world : (st : GhostState) (o : Outcome World) (next : Played) (output : List ℕ) → Goes next output ≡ beside st o → Keeping st o → Invariant next
by_world st o next output does h = subst (λ (x : Outcome Played). ToSuch Invariant x) (sym does) (beside_keeps st o h)

goes_if_keeps : (st : GhostState) (t : Bool) (v : World) → (t ≡ true → Invariant (v, st)) → Keeping st (goes_if t v)
goes_if_keeps st true v h = h refl
goes_if_keeps st false v h = tt

-- ---- lines that show something, or set the moment or a loss

module _ (w : Played) (keeps : Invariant w) where
  -- another moment, and other losses
  later : (sec nsec : ℕ) (lost : List ℕ) → sec < 4294967296 → nsec < 1000000000 → Invariant (record w.0 { now = record { sec = sec; nsec = nsec }; lost = lost }, w.1)
  later sec nsec lost sec_fits nsec_fits = world_changes w (record (no_changes w) { now = record { sec = sec; nsec = nsec }; lost = lost }) keeps (record {
    peers = λ p h. h;
    made = keeps.peers;
    ring = of_ring w.0 w.0.replicas keeps.ring;
    held = keeps.met.held;
    views = keeps.met.views;
    moment = record { sec = sec_fits; nsec = nsec_fits };
    grows = λ b h. h;
    each = unchanged_within_frame w keeps w.0.met (λ b h. h);
  })

  at_keeps : (sec nsec : ℕ) → Keeping w.1 (at_line w.0 sec nsec)
  at_keeps sec nsec = goes_if_keeps w.1 (nat_lt sec 4294967296 && nat_lt nsec 1000000000) (record w.0 { now = record { sec = sec; nsec = nsec } })
      (λ t. let p = both_true (nat_lt sec 4294967296) (nat_lt nsec 1000000000) t in later sec nsec w.0.lost (ltb-true sec 4294967296 p.0) (ltb-true nsec 1000000000 p.1))

  lose_keeps : (count : ℕ) → Keeping w.1 (lose_line w.0 count)
  lose_keeps count = goes_if_keeps w.1 (nat_lt 0 count && nat_le count 1000000) (record w.0 { lost = (w.0.asked + count) ∷ w.0.lost }) (λ t. later w.0.now.sec w.0.now.nsec ((w.0.asked + count) ∷ w.0.lost) keeps.moment.sec keeps.moment.nsec)

pub still_lines_keep : StillLinesKeep
still_lines_keep (command.At sec nsec) still w next output keeps does = by_world w.1 (at_line w.0 sec nsec) next output does (at_keeps w keeps sec nsec)
still_lines_keep (command.Lose count) still w next output keeps does = by_world w.1 (lose_line w.0 count) next output does (lose_keeps w keeps count)
still_lines_keep (command.Show shown) still w next output keeps does = by_world w.1 does.0 next output does.2 (shows_are_still w.0 shown (Keeping w.1) (λ text. keeps) tt tt does.0 does.1)
still_lines_keep command.Nothing still w next output keeps does = subst (λ (x : Outcome Played). ToSuch Invariant x) (sym does) keeps
still_lines_keep _ still w next output keeps does = absurd still

-- ---- a node in its place

-- a node that a word names is one of the world's
found_among : (test : Node → Bool) (nodes : List Node) (n : Node) → find test nodes ≡ Some n → IsAmong n nodes
found_among test [] n is = cc is
found_among test (m ∷ nodes) n is = by (test m) is (λ h. found_among test nodes n h)
  where
    by : (b : Bool) → cond b (Some m) (find test nodes) ≡ Some n → (find test nodes ≡ Some n → IsAmong n nodes) → IsAmong n (m ∷ nodes)
    by true h later = let same : m ≡ n = cc h in inl same
    by false h later = inr (later h)

binds : {A B : Type 0} (o : Option A) (f : A → Option B) (b : B) → (o >>= f) ≡ Some b → (a : A) × (f a ≡ Some b)
binds None f b e = cc e
binds (Some a) f b e = (a, e)

pub named_among : (w : World) (word : NodeWord) (n : Node) → node_named w word ≡ Some n → IsAmong n w.nodes
named_among w (node.Numbered number) n is = found_among (λ m. (peer_of m).number == number) w.nodes n is
named_among w (node.OwnerOf count word) n is =
    let ringed = binds w.replicas (λ r. key_named w word >>= λ k. owner_of_key w r count k >>= λ p. node_at w p.id) n is in
    let keyed = binds (key_named w word) (λ k. owner_of_key w ringed.0 count k >>= λ p. node_at w p.id) n ringed.1 in
    let owned = binds (owner_of_key w ringed.0 count keyed.0) (λ p. node_at w p.id) n keyed.1 in
    at_among w.nodes owned.0.id n owned.1

-- A node in place of one of the same part of the ring, and more blocks that are met.
pub node_keeps : (w : Played) (met : List (List ℕ)) (n now : Node) → Invariant w → ((b : List ℕ) → Contains w.0.met b → Contains met b) → IsAmong n w.0.nodes → now.ring ≡ n.ring → HoldsMet met now
    → Invariant (record (with_node w.0 now) { met = met }, w.1)
node_keeps w met n now keeps grows among same_ring holds = world_changes w (record (no_changes w) { nodes = nodes; met = met }) keeps (record {
  peers = λ p h. subst (λ made. Contains made p) (sym same_peers) h;
  made = made_still w.0 nodes keeps.peers same_peers known;
  ring = ring w.0.replicas keeps.ring;
  held = each_replaced (HoldsMet met) now w.0.nodes holds (held_more w keeps met grows);
  views = keeps.met.views;
  moment = keeps.moment;
  grows = grows;
  each = unchanged_within_frame w keeps met grows;
})
  where
    nodes : List Node
    nodes = replaced now w.0.nodes

    same_me : peer_of now ≡ peer_of n
    same_me = ap (λ (g : State). g.me) same_ring

    own_place : at w.0.nodes (peer_of now).id ≡ Some n
    own_place = subst (λ (p : Peer). at w.0.nodes p.id ≡ Some n) (sym same_me) (at_own w.0.nodes n keeps.peers.apart among)

    same_peers : map peer_of nodes ≡ map peer_of w.0.nodes
    same_peers = mapped_kept peer_of w.0.nodes now n keeps.peers.apart own_place same_me

    knows : KnowsOnly (map peer_of w.0.nodes) n
    knows = all-among (KnowsOnly (map peer_of w.0.nodes)) n w.0.nodes keeps.peers.known among

    known : AllByRecursion (KnowsOnly (map peer_of nodes)) nodes
    known = subst (λ made. AllByRecursion (KnowsOnly made) nodes) (sym same_peers)
        (each_replaced (KnowsOnly (map peer_of w.0.nodes)) now w.0.nodes
        (from_knows (map peer_of w.0.nodes) now (subst (λ (g : State). knows_of (map peer_of w.0.nodes) g.links) (sym same_ring) (to_knows (map peer_of w.0.nodes) n knows))) keeps.peers.known)

    ring : (o : Option ℕ) → HasRing w.0 o → AreOfRing o nodes
    ring None h = ap (replaced now) h.0
    ring (Some r) h = (still_some w.0.nodes nodes same_peers h.1, each_replaced (λ (m : Node). m.ring.replicas ≡ r) now w.0.nodes (ap (λ (g : State). g.replicas) same_ring ∙ all-among (λ (m : Node). m.ring.replicas ≡ r) n w.0.nodes h.2 among) h.2)

-- ---- stop

stop_keeps : (w : Played) → Invariant w → (word : NodeWord) (o : Option Node) → node_named w.0 word ≡ o → Keeping w.1 (stop_line w.0 o)
stop_keeps w keeps word None is = tt
stop_keeps w keeps word (Some n) is = by n.is_live
  where
    among : IsAmong n w.0.nodes
    among = named_among w.0 word n is

    by : (t : Bool) → Keeping w.1 (cond t (Goes (with_node w.0 (record n { is_live = false })) []) Refuses)
    by true = node_keeps w w.0.met n (record n { is_live = false }) keeps (λ b h. h) among refl (all-among (HoldsMet w.0.met) n w.0.nodes keeps.met.held among)
    by false = tt

pub stop_lines_keep : StopLinesKeep
stop_lines_keep word w next output keeps does = by_world w.1 (stop_line w.0 (node_named w.0 word)) next output does (stop_keeps w keeps word (node_named w.0 word) refl)

-- ---- damage

pub meets_more : (met : List (List ℕ)) (block b : List ℕ) → Contains met b → Contains (meets met block) b
meets_more met block b h = by (list_any (bytes_eq block) met)
  where
    by : (t : Bool) → Contains (cond t met (met ++ block ∷ [])) b
    by true = h
    by false = Contains-append_left met (block ∷ []) b h

pub meets_it : (met : List (List ℕ)) (block : List ℕ) → Contains (meets met block) block
meets_it met block = by (list_any (bytes_eq block) met) refl
  where
    by : (t : Bool) → list_any (bytes_eq block) met ≡ t → Contains (cond t met (met ++ block ∷ [])) block
    by true some = let found = who_passes (bytes_eq block) met some in subst (Contains met) (sym ((bytes_eq-Decides block found.0).0 found.2)) found.1
    by false none = Contains-append_right met (block ∷ []) block (here block [])

-- a block with another byte has the same size
corrupted_fits : (key : Key) (offset byte : ℕ) (block : Block) (blocks : Blocks) → IsStore blocks → value_at key_cmp key blocks ≡ Some block → IsStore (put key_cmp key (spoiled offset byte block) blocks)
corrupted_fits key offset byte block blocks store is =
    let old : lookup (λ k. eq_by_cmp key_cmp key k) blocks ≡ Some block = sym (find-lookup key blocks) ∙ is in
    let sizes = held_after_put key blocks (spoiled offset byte block) store.ascending in
    let was : unwrap_or (option_map size (lookup (λ k. eq_by_cmp key_cmp key k) blocks)) 0 ≡ size block = ap (λ o. unwrap_or (option_map size o) 0) old in
    let same : size (spoiled offset byte block) ≡ size block = length-set block.bytes offset byte in
    put_store key (spoiled offset byte block) blocks store (omega (arith, sizes, was, same, store.within))

module _ (w : Played) (keeps : Invariant w) (n : Node) (among : IsAmong n w.0.nodes) (key : Key) (offset byte : ℕ) where
  holds_now : HoldsMet w.0.met n
  holds_now = all-among (HoldsMet w.0.met) n w.0.nodes keeps.met.held among

  -- the block is corrupted, and met
  module _ (block : Block) (is : value_at key_cmp key n.blocks ≡ Some block) where
    abbrev blocks : Blocks
    blocks = put key_cmp key (spoiled offset byte block) n.blocks

    abbrev new_met : List (List ℕ)
    new_met = meets w.0.met (spoiled offset byte block).bytes

    corrupted_met : meets_some w.0.met (bytes_at key blocks) ≡ new_met
    corrupted_met = ap (meets_some w.0.met) (put_is_held key (spoiled offset byte block) n.blocks)

    corrupted_keeps : Invariant (record (with_node w.0 (record n { blocks = blocks })) { met = meets_some w.0.met (bytes_at key blocks) }, w.1)
    corrupted_keeps = subst (λ met. Invariant (record (with_node w.0 (record n { blocks = blocks })) { met = met }, w.1)) (sym corrupted_met)
        (node_keeps w new_met n (record n { blocks = blocks }) keeps (meets_more w.0.met (spoiled offset byte block).bytes) among refl (
          corrupted_fits key offset byte block n.blocks holds_now.0 is,
          put_each (λ b. Contains new_met b.bytes) key (spoiled offset byte block) n.blocks (meets_it w.0.met (spoiled offset byte block).bytes)
              (all_weaker _ _ n.blocks (λ e h. meets_more w.0.met (spoiled offset byte block).bytes e.1.bytes h) holds_now.1),
        ))

  damaged_keeps : Keeping w.1 (damaged_to w.0 n key (with_byte key offset byte n.blocks))
  damaged_keeps = by (value_at key_cmp key n.blocks) refl
    where
      in_range : (block : Block) → value_at key_cmp key n.blocks ≡ Some block → (t : Bool) → Keeping w.1 (damaged_to w.0 n key (cond t (Some (put key_cmp key (spoiled offset byte block) n.blocks)) None))
      in_range block is true = corrupted_keeps block is
      in_range block is false = tt

      by : (o : Option Block) → value_at key_cmp key n.blocks ≡ o
          → Keeping w.1 (damaged_to w.0 n key (option_and_then (λ block. cond (nat_lt offset (length block.bytes)) (Some (put key_cmp key (spoiled offset byte block) n.blocks)) None) o))
      by None is = tt
      by (Some block) is = in_range block is (nat_lt offset (length block.bytes))

damage_keeps : (w : Played) → Invariant w → (word : NodeWord) (n : Option Node) → node_named w.0 word ≡ n → (key : Option Key) (offset byte : ℕ) → Keeping w.1 (damage_by w.0 n key offset byte)
damage_keeps w keeps word None is key offset byte = tt
damage_keeps w keeps word (Some n) is None offset byte = tt
damage_keeps w keeps word (Some n) is (Some key) offset byte = damaged_keeps w keeps n (named_among w.0 word n is) key offset byte

pub damage_lines_keep : DamageLinesKeep
damage_lines_keep word key offset byte w next output keeps does =
    by_world w.1 (damage_line w.0 word key offset byte) next output does (damage_keeps w keeps word (node_named w.0 word) refl (key_named w.0 key) offset byte)

-- ---- keep

keeper_keeps : (w : Played) → Invariant w → (log : List ℕ) (o : Option Participant) → participant w.0 log ≡ o → (count : ℕ) (new : Bool) → Keeping w.1 (keep_by w.0 o count new)
keeper_keeps w keeps log None is count new = tt
keeper_keeps w keeps log (Some p) is count new = goes_if_keeps w.1 (nat_lt 0 count) (with_participant w.0 (record p { keeper = with_fault p.keeper count new })) (λ t. participant_keeps w log p planned keeps is (record {
  kept = same_kept (count == 0);
  pending = λ post h. h;
  fewer = omega arith;
  cached = each _ w.0.participants p keeps.met.cached (found_named w.0.participants log p is).0;
}))
  where
    planned : Change
    planned = record (unchanged p) { keeper = with_fault p.keeper count new }

    same_kept : (b : Bool) → (cond b p.keeper (memory.with_planned_fault p.keeper (p.keeper.saves + count) new)).kept ≡ p.keeper.kept
    same_kept true = refl
    same_kept false = refl

pub keeper_lines_keep : KeeperLinesKeep
keeper_lines_keep log count new w next output keeps does = by_world w.1 (keep_line w.0 log count new) next output does (keeper_keeps w keeps log (participant w.0 log) refl count new)
