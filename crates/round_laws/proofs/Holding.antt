-- What nodes hold while look-ups and puts go on.
use Rattle.std.proofs.Common.{◌≡◌, inl, inr, ⊎_elim, ℕ, Bool, true, false, cond, not, List, [], ◌∷◌, fold, refl, sym, ap, ◌∙◌, subst, Option, Some, None, T, nat_eq, option_map, option_and_then}
use Rattle.std.specs.List.{AllByRecursion}
use Rattle.std.specs.Ordering.{eq_by_cmp, is_eq}
use Rattle.std.specs.FinMap.Entries.{find as value_at, find-where_key, is_sorted, is_sorted-put, is_sorted-where_key}
use Rattle.std.proofs.lemmas.Bool.{cond-true, cond-false, eq-eqb, eqb-true}
use Rattle.ivy_base.specs.declared.key.Key.{Key}
use Rattle.ivy_base.specs.Naming.{key_cmp}
use Rattle.ring_model.specs.Blocks.{raised}
use Rattle.ring_model.specs.Gets.{nodes}
use Rattle.ring_model.specs.Members.{IsAmong}
use Rattle.dht_ids.specs.declared.ask.Answer.{Answer}
use Rattle.dht_ids.specs.declared.ask.Ask.{Ask}
use Rattle.dht_ids.specs.declared.ask.Ask.TheVariants as ask
use Rattle.dht_ids.specs.declared.ask.StoreFault.{StoreFault}
use Rattle.dht_ids.specs.declared.judge.Judged.{Judged}
use Rattle.dht_ids.specs.declared.peer.Peer.{Peer}
use Rattle.dhash_model.specs.Execution.{Told}
use Rattle.dhash_model.specs.Puts.{holds}
use Rattle.dhash_model.specs.Stores.{Block, Blocks, content, content_fault, head, head_fault, without}
use Rattle.dhash_model.specs.declared.kind.BlockKind.{BlockKind}
use Rattle.dhash_model.specs.declared.kind.BlockKind.TheVariants.{Content, Head}
use Rattle.node_store.proofs.Maps.{keys_total}
use Rattle.world_model.specs.Nodes.{Node, answered, stored}
use Rattle.world_model.specs.World.{World, node_at, peer_of, with_node}
use Rattle.world_model.specs.Fates.{Fates, asking, ask_counted}
use Rattle.world_model.specs.Rounds.{question_as}
use Rattle.world_model.specs.RingOf.{node_of, own_node}
use Rattle.world_model.specs.Holding.{held_in, block_rank, rank_in}
use Rattle.round_laws.proofs.Nodes.{Shape, at, at_id, at_itself, at_other, at_same, made_by, not_tied, replaced, same_id, same_or_not, same_peer, ties}
use Rattle.round_laws.proofs.Standing.{Fated, IsBase, IsWithin, fated, peer_or_not, stands, still_asked}
use Rattle.round_laws.proofs.Standing.Fated.{silence, heard}
use Rattle.round_laws.proofs.Fixing.{fates_first, fates_none, route_keeps}
use Rattle.round_laws.proofs.Repairing.{put_keeps}
use Rattle.round_laws.proofs.Owning.{AreDistinct}
use Rattle.round_laws.proofs.Storing.{stores_at, under}

-- ---- the node of a peer

own_here : (p : Peer) (n : Node) → peer_of n ≡ p → own_node p (Some n) ≡ Some n
own_here p n e = cond-true (nat_eq (peer_of n).number p.number) (Some n) None (eq-eqb (peer_of n).number p.number (ap (λ (q : Peer). q.number) e))

own_none : (p : Peer) (n : Node) → ((peer_of n).number ≡ p.number → ⊥) → own_node p (Some n) ≡ None
own_none p n d = cond-false (nat_eq (peer_of n).number p.number) (Some n) None (by (nat_eq (peer_of n).number p.number) refl)
  where
    by : (b : Bool) → nat_eq (peer_of n).number p.number ≡ b → nat_eq (peer_of n).number p.number ≡ false
    by true e = absurd (d (eqb-true (peer_of n).number p.number e))
    by false e = e

pub node_is : (w : World) (p : Peer) (n : Node) → node_at w p.id ≡ Some n → peer_of n ≡ p → node_of w p ≡ Some n
node_is w p n e s = ap (own_node p) e ∙ own_here p n s

pub node_here : (w : World) (p : Peer) (old n : Node) → node_at w p.id ≡ Some old → peer_of n ≡ p → node_of (with_node w n) p ≡ Some n
node_here w p old n e s =
    let here : at (replaced n w.nodes) (peer_of n).id ≡ Some n = at_same w.nodes n old (subst (λ (x : Peer). at w.nodes x.id ≡ Some old) (sym s) e) in
    node_is (with_node w n) p n (subst (λ (x : Peer). at (replaced n w.nodes) x.id ≡ Some n) s here) s

pub node_other : (w : World) (p q : Peer) (old n : Node) → node_at w p.id ≡ Some old → peer_of old ≡ p → peer_of n ≡ p → (q ≡ p → ⊥) → node_of (with_node w n) q ≡ node_of w q
node_other w p q old n e s t d =
    ⊎_elim
    (λ same.
    let unlike : (x : Peer) → x ≡ p → x.number ≡ q.number → ⊥ = λ x is num. d (sym (same_peer x q num (ap (λ (y : Peer). y.id) is ∙ ap (λ (y : Peer). y.id) (sym t) ∙ same)) ∙ is) in
    let now : at (replaced n w.nodes) q.id ≡ Some n = subst (λ k. at (replaced n w.nodes) k ≡ Some n) same (at_same w.nodes n old (subst (λ (x : Peer). at w.nodes x.id ≡ Some old) (sym t) e)) in
    let was : at w.nodes q.id ≡ Some old = subst (λ k. at w.nodes k ≡ Some old) (ap (λ (y : Peer). y.id) (sym t) ∙ same) e in
    ap (own_node q) now ∙ own_none q n (unlike (peer_of n) t) ∙ sym (ap (own_node q) was ∙ own_none q old (unlike (peer_of old) s)))
    (λ other. ap (own_node q) (at_other w.nodes n q.id other))
    (same_or_not (peer_of n).id q.id)

abbrev pub held_at : Key → Option Node → Option Block
held_at key o = option_and_then (λ n. value_at key_cmp key n.blocks) o

-- ---- blocks in order

-- each node's blocks are in order
abbrev pub AreSorted : World → Type 0
AreSorted w = (id : Key) (n : Node) → node_at w id ≡ Some n → T (is_sorted key_cmp n.blocks)

stored_sorted : (n : Node) (key : Key) (block : Block) (fault : Option StoreFault) → T (is_sorted key_cmp n.blocks) → T (is_sorted key_cmp (stored n key block fault).1.blocks)
stored_sorted n key block (Some fault) s = s
stored_sorted n key block None s = is_sorted-put key_cmp keys_total key block n.blocks s

put_sorted : (judged : Key → List ℕ → Option Judged) (kind : BlockKind) (key : Key) (bytes : List ℕ) (n : Node) → T (is_sorted key_cmp n.blocks) → T (is_sorted key_cmp (answered judged n (question_as kind key bytes)).1.blocks)
put_sorted judged Content key bytes n s = stored_sorted n key (content bytes) (content_fault key bytes n.blocks) s
put_sorted judged Head key bytes n s = stored_sorted n key (head bytes) (head_fault judged key bytes n.blocks) s

pub sorted_with : (w : World) (old n : Node) → node_at w (peer_of n).id ≡ Some old → AreSorted w → T (is_sorted key_cmp n.blocks) → AreSorted (with_node w n)
sorted_with w old n e h s id m f = ⊎_elim
    (λ same. subst (λ (x : Node). T (is_sorted key_cmp x.blocks)) (known (sym (subst (λ x. at (replaced n w.nodes) x ≡ Some n) same (at_same w.nodes n old e)) ∙ f)) s)
    (λ other. h id m (sym (at_other w.nodes n id other) ∙ f))
    (same_or_not (peer_of n).id id)
  where
    known : Some n ≡ Some m → n ≡ m
    known e = ap (λ (o : Option Node). elim o as (λ x. Node) [ None ↦ n | Some x ↦ x ]) e

-- ---- dropped blocks

abbrev pub dropped_from : Blocks → List Key → Blocks
dropped_from blocks keys = fold (λ left key. without key left) blocks keys

value_without : (key other : Key) (blocks : Blocks) → value_at key_cmp other (without key blocks) ≡ cond (not (eq_by_cmp key_cmp key other)) (value_at key_cmp other blocks) None
value_without key other blocks = find-where_key key_cmp (λ k. not (eq_by_cmp key_cmp key k)) other (λ x tied. ap (λ (y : Key). not (eq_by_cmp key_cmp key y)) (sym (same_id other x (ap is_eq tied)))) blocks

none_dropped : (key : Key) (blocks : Blocks) (keys : List Key) → value_at key_cmp key blocks ≡ None → value_at key_cmp key (dropped_from blocks keys) ≡ None
none_dropped key blocks [] e = e
none_dropped key blocks (k ∷ keys) e = none_dropped key (without k blocks) keys (value_without k key blocks ∙ by (not (eq_by_cmp key_cmp k key)))
  where
    by : (b : Bool) → cond b (value_at key_cmp key blocks) None ≡ None
    by true = e
    by false = refl

pub is_gone : (key : Key) (blocks : Blocks) (keys : List Key) → IsAmong key keys → value_at key_cmp key (dropped_from blocks keys) ≡ None
is_gone key blocks [] h = elim h [ ]
is_gone key blocks (k ∷ keys) (inl e) = none_dropped key (without k blocks) keys (value_without k key blocks ∙ ap (λ b. cond (not b) (value_at key_cmp key blocks) None) (ties k key e))
is_gone key blocks (k ∷ keys) (inr h) = is_gone key (without k blocks) keys h

pub is_left : (key : Key) (blocks : Blocks) (keys : List Key) → (IsAmong key keys → ⊥) → value_at key_cmp key (dropped_from blocks keys) ≡ value_at key_cmp key blocks
is_left key blocks [] d = refl
is_left key blocks (k ∷ keys) d = is_left key (without k blocks) keys (λ i. d (inr i)) ∙ value_without k key blocks ∙ ap (λ b. cond (not b) (value_at key_cmp key blocks) None) (not_tied k key (λ e. d (inl e)))

pub sorted_left : (blocks : Blocks) (keys : List Key) → T (is_sorted key_cmp blocks) → T (is_sorted key_cmp (dropped_from blocks keys))
sorted_left blocks [] s = s
sorted_left blocks (k ∷ keys) s = sorted_left (without k blocks) keys (is_sorted-where_key key_cmp (λ x. not (eq_by_cmp key_cmp k x)) blocks s)

pub left_held : (key : Key) (blocks : Blocks) (keys : List Key) (b : Block) → value_at key_cmp key (dropped_from blocks keys) ≡ Some b → value_at key_cmp key blocks ≡ Some b
left_held key blocks [] b e = e
left_held key blocks (k ∷ keys) b e = by (not (eq_by_cmp key_cmp k key)) (sym (value_without k key blocks) ∙ left_held key (without k blocks) keys b e)
  where
    by : (t : Bool) → cond t (value_at key_cmp key blocks) None ≡ Some b → value_at key_cmp key blocks ≡ Some b
    by true f = f
    by false f = absurd cc

module _ (judged : Key → List ℕ → Option Judged) (r : ℕ) (base : List Shape) (planned : List ℕ) (start end : ℕ) (b : IsBase r base planned start end) where
  -- ---- a look-up changes no node

  route_same : (key : Key) (w next : World) (to : Peer) (given : Answer) → Fated judged r base planned start end b w to (ask.Route key) given next → (id : Key) → node_at next id ≡ node_at w id
  route_same key w next to given (silence g m l) id = ap (λ (v : World). node_at v id) m
  route_same key w next to given (heard n e t g m) id = ap (λ (v : World). node_at v id) m ∙ at_itself w.nodes n to.id id e

  pub routes_same : (key : Key) (looks : Told) (asks : List (Peer × (Ask × Answer))) (w next : World) → IsWithin base planned start w → asks ≡ asking (ask.Route key) looks → Fates judged w asks next → (id : Key) → node_at next id ≡ node_at w id
  routes_same key [] asks w next h e fates id = ap (λ (v : World). node_at v id) (sym (fates_none judged w next asks e fates))
  routes_same key (s ∷ looks) asks w next h e fates id =
      let one = fates_first judged w next asks s.0 (ask.Route key) s.1 (asking (ask.Route key) looks) e fates in
      let f = fated judged r base planned start end b w one.mid s.0 (ask.Route key) s.1 h one.fate in
      let a = still_asked judged r base planned start end b w one.mid s.0 (ask.Route key) s.1 h (route_keeps judged key) f in
      routes_same key looks (asking (ask.Route key) looks) one.mid next a.within refl one.others id ∙ route_same key w one.mid s.0 s.1 f id

  -- ---- a put to one that holds it then

  pub record PutAt (key : Key) (kind : BlockKind) (bytes : List ℕ) (to : Peer) (w next : World) : Type 0 where
    pub within : IsWithin base planned start next
    pub rank_then : rank_in judged next key to ≡ raised (block_rank judged key (record { kind = kind; bytes = bytes })) (rank_in judged w key to)
    pub kind_then : (c : Block) → held_in next key to ≡ Some c → c.kind ≡ kind
    pub other_keys : (k : Key) → (k ≡ key → ⊥) → held_in next k to ≡ held_in w k to
    pub others : (q : Peer) → (q ≡ to → ⊥) → (k : Key) → held_in next k q ≡ held_in w k q
    pub sorted : AreSorted w → AreSorted next

  put_at : (key : Key) (kind : BlockKind) (bytes : List ℕ) (to : Peer) (given : Answer) (w next : World) → IsWithin base planned start w → IsAmong to (made_by base) → ((c : Block) → held_in w key to ≡ Some c → c.kind ≡ kind)
      → holds given ≡ true → Fated judged r base planned start end b w to (question_as kind key bytes) given next → PutAt key kind bytes to w next
  put_at key kind bytes to given w next h made k held (silence g m l) = let t = subst (λ (x : Answer). holds x ≡ true) g held in absurd cc
  put_at key kind bytes to given w next h made k held (heard n e t g m) =
      let at_n = stands judged r base planned start end b w to n h made e in
      let now : Node = (answered judged n (question_as kind key bytes)).1 in
      let keep = put_keeps judged kind key bytes n in
      let me : peer_of now ≡ to = (λ i. (keep.0 i).me) ∙ at_n.me in
      let was : node_of w to ≡ Some n = node_is w to n e at_n.me in
      let here : (x : Key) → held_in next x to ≡ under x now = λ x. ap (λ (v : World). held_in v x to) m ∙ ap (held_at x) (node_here (ask_counted w) to n now e me) in
      let before : (x : Key) → held_in w x to ≡ under x n = λ x. ap (held_at x) was in
      let s = stores_at judged key kind bytes n (subst (λ (x : Answer). holds x ≡ true) g held) (λ c i. k c (before key ∙ i)) in
      let a = still_asked judged r base planned start end b w next to (question_as kind key bytes) given h (put_keeps judged kind key bytes) (heard n e t g m) in
      record {
        within = a.within;
        rank_then = ap (option_map (block_rank judged key)) (here key) ∙ s.rank_then ∙ ap (λ o. raised (block_rank judged key (record { kind = kind; bytes = bytes })) (option_map (block_rank judged key) o)) (sym (before key));
        kind_then = λ c i. s.kind_then c (sym (here key) ∙ i);
        other_keys = λ x d. here x ∙ s.others x d ∙ sym (before x);
        others = λ q d x. ap (λ (v : World). held_in v x q) m ∙ ap (held_at x) (node_other (ask_counted w) to q n now e at_n.me me d);
        sorted = λ sort. subst AreSorted (sym m) (sorted_with (ask_counted w) n now (subst (λ x. at w.nodes x ≡ Some n) (sym (at_id w.nodes to.id n e) ∙ sym (λ i. (keep.0 i).me.id)) e) sort (put_sorted judged kind key bytes n (sort to.id n e)));
      }

  -- ---- puts to several, each once

  pub record PutsAt (key : Key) (kind : BlockKind) (bytes : List ℕ) (told : Told) (w next : World) : Type 0 where
    pub within : IsWithin base planned start next
    pub ranks : (q : Peer) → IsAmong q (nodes told) → rank_in judged next key q ≡ raised (block_rank judged key (record { kind = kind; bytes = bytes })) (rank_in judged w key q)
    pub kinds : (q : Peer) (c : Block) → held_in next key q ≡ Some c → c.kind ≡ kind
    pub other_keys : (q : Peer) (k : Key) → (k ≡ key → ⊥) → held_in next k q ≡ held_in w k q
    pub others : (q : Peer) → (IsAmong q (nodes told) → ⊥) → (k : Key) → held_in next k q ≡ held_in w k q
    pub sorted : AreSorted w → AreSorted next

  pub puts_at : (key : Key) (kind : BlockKind) (bytes : List ℕ) (told : Told) (asks : List (Peer × (Ask × Answer))) (w next : World) → IsWithin base planned start w → AllByRecursion (λ q. IsAmong q (made_by base)) (nodes told) → AreDistinct (nodes told)
      → ((q : Peer) (c : Block) → held_in w key q ≡ Some c → c.kind ≡ kind) → AllByRecursion (λ s. holds s.1 ≡ true) told → asks ≡ asking (question_as kind key bytes) told → Fates judged w asks next → PutsAt key kind bytes told w next
  puts_at key kind bytes [] asks w next h made d k held e fates =
      subst (PutsAt key kind bytes [] w) (fates_none judged w next asks e fates) (record { within = h; ranks = λ q i. elim i [ ]; kinds = k; other_keys = λ q x n. refl; others = λ q n x. refl; sorted = λ s. s })
  puts_at key kind bytes (s ∷ told) asks w next h made d k held e fates =
      let one = fates_first judged w next asks s.0 (question_as kind key bytes) s.1 (asking (question_as kind key bytes) told) e fates in
      let f = put_at key kind bytes s.0 s.1 w one.mid h made.0 (k s.0) held.0 (fated judged r base planned start end b w one.mid s.0 (question_as kind key bytes) s.1 h one.fate) in
      let kinds_mid : (q : Peer) (c : Block) → held_in one.mid key q ≡ Some c → c.kind ≡ kind =
      λ q c i. ⊎_elim (λ same. f.kind_then c (subst (λ x. held_in one.mid key x ≡ Some c) same i)) (λ n. k q c (sym (f.others q n key) ∙ i)) (peer_or_not q s.0) in
      let g = puts_at key kind bytes told (asking (question_as kind key bytes) told) one.mid next f.within made.1 d.1 kinds_mid held.1 refl one.others in
      record {
        within = g.within;
        ranks = λ q i. ⊎_elim
            (λ same. subst (λ x. rank_in judged next key x ≡ raised (block_rank judged key (record { kind = kind; bytes = bytes })) (rank_in judged w key x)) same (ap (option_map (block_rank judged key)) (g.others s.0 d.0 key) ∙ f.rank_then))
            (λ j. g.ranks q j ∙ ap (λ o. raised (block_rank judged key (record { kind = kind; bytes = bytes })) (option_map (block_rank judged key) o)) (f.others q (λ same. d.0 (subst (λ x. IsAmong x (nodes told)) same j)) key))
            i;
        kinds = g.kinds;
        other_keys = λ q x n. g.other_keys q x n ∙ ⊎_elim (λ same. subst (λ y. held_in one.mid x y ≡ held_in w x y) (sym same) (f.other_keys x n)) (λ m. f.others q m x) (peer_or_not q s.0);
        others = λ q n x. g.others q (λ i. n (inr i)) x ∙ f.others q (λ same. n (inl (sym same))) x;
        sorted = λ sort. g.sorted (f.sorted sort);
      }
