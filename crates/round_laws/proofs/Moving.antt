-- The fourth part of a round: each block goes to its owners.
use Rattle.std.proofs.Common.{◌≡◌, ◌⊎◌, inl, inr, ⊎_elim, ℕ, ◌*◌, ◌≤◌, Bool, true, false, cond, not, ◌&&◌, T, List, [], ◌∷◌, ◌++◌, length, take, filter, refl, sym, ap, ◌∙◌, subst, Option, Some, None, MatchBool, arith, option_map}
use Rattle.std.specs.List.{AllByRecursion}
use Rattle.std.specs.Ordering.{eq_by_cmp, is_eq, is_lt}
use Rattle.std.specs.declared.cmp.Ordering.{Ordering}
use Rattle.std.specs.declared.cmp.Ordering.TheVariants.{Less, Equal, Greater}
use Rattle.std.specs.FinMap.Entries.{below_all, find as value_at, is_sorted}
use Rattle.ivy_base.specs.declared.key.Key.{Key}
use Rattle.ivy_base.specs.Naming.{key_cmp}
use Rattle.ring_model.specs.Blocks.{AreMoved, IsMoved, raised}
use Rattle.ring_model.specs.Blocks.IsMoved.{idle, puts as moves}
use Rattle.ring_model.specs.Blocks.AreMoved.{none as none_moved, next as then_moved}
use Rattle.ring_model.specs.Circle.{number}
use Rattle.ring_model.specs.Gets.{nodes}
use Rattle.ring_model.specs.Lookup.{AreNames}
use Rattle.ring_model.specs.Members.{IsAmong, from_place, owners}
use Rattle.ring_model.specs.Ring.{Links, IsSettledRing}
use Rattle.ring_model.proofs.Lists.{all-among, all-both, all_from, all_weaker, among_filter, among_filtered, among_take, none_some, some_same}
use Rattle.ring_model.proofs.Members.{from_place_live}
use Rattle.ring_model.proofs.Rounds.{lookup_right}
use Rattle.dht_ids.specs.Asked.{routes}
use Rattle.dht_ids.specs.declared.ask.Ask.TheVariants as ask
use Rattle.dht_ids.specs.declared.judge.Judged.{Judged}
use Rattle.dht_ids.specs.declared.peer.Peer.{Peer}
use Rattle.dht_ids.specs.Peers.{place}
use Rattle.dhash_model.specs.Execution.{Told}
use Rattle.dhash_model.specs.Stores.{Block, Blocks}
use Rattle.world_model.specs.Nodes.{Node}
use Rattle.world_model.specs.World.{World, node_at}
use Rattle.world_model.specs.Fates.{asking}
use Rattle.world_model.specs.Ring.{LooksUp}
use Rattle.world_model.specs.Rounds.{EachDoes, PutsAll, PutsAround, Repairs, is_other_peer, question_as}
use Rattle.world_model.specs.Rounds.EachDoes.{done, next as then_does}
use Rattle.world_model.specs.Rounds.PutsAround.{no_route, puts}
use Rattle.world_model.specs.Rounds.PutsAll.{done as all_put, keeps, drops}
use Rattle.world_model.specs.RingOf.{own_node}
use Rattle.world_model.specs.Holding.{held_in, block_rank, rank_in}
use Rattle.round_laws.specs.RingOf.{links_in}
use Rattle.round_laws.specs.Holding.{AllTaken, EachTaken, IsTaken, Tells}
use Rattle.round_laws.proofs.Nodes.{Shape, id_itself, lives_by, made_by, not_tied, order_by, same_or_not, same_place, ties}
use Rattle.round_laws.proofs.Order.{lives_made}
use Rattle.round_laws.proofs.Standing.{IsBase, IsWithin, node_made, peer_or_not, stands}
use Rattle.round_laws.proofs.Forgetting.{each}
use Rattle.round_laws.proofs.Fixing.{look_up, one_at_place}
use Rattle.round_laws.proofs.Repairing.{kept_look_up, kept_put, kept_repairs}
use Rattle.round_laws.proofs.Growing.{of_each, of_fates, of_puts, of_repairs}
use Rattle.round_laws.proofs.Owning.{AreDistinct, asked_are_owners, distinct_filter, distinct_from_place, distinct_take, held_filter, is_dropped, nodes_filter}
use Rattle.round_laws.proofs.Holding.{AreSorted, dropped_from, held_at, is_gone, is_left, left_held, node_here, node_is, node_other, puts_at, routes_same, sorted_left, sorted_with}

-- ---- blocks in order

and_first : (a b : Bool) → T (a && b) → T a
and_first true b h = tt
and_first false b h = h

and_second : (a b : Bool) → T (a && b) → T b
and_second true b h = h
and_second false b h = absurd h

below_none : (x : Key) (es : Blocks) → T (below_all key_cmp x es) → value_at key_cmp x es ≡ None
below_none x [] h = refl
below_none x (e ∷ es) h = by (key_cmp x e.0) h (below_none x es (and_second (is_lt (key_cmp x e.0)) (below_all key_cmp x es) h))
  where
    by : (o : Ordering) → T (is_lt o && below_all key_cmp x es) → value_at key_cmp x es ≡ None → cond (is_eq o) (Some e.1) (value_at key_cmp x es) ≡ None
    by Less t rest = rest
    by Equal t rest = absurd t
    by Greater t rest = rest

each_found : (es : Blocks) → T (is_sorted key_cmp es) → AllByRecursion (λ e. value_at key_cmp e.0 es ≡ Some e.1) es
each_found [] h = tt
each_found (e ∷ es) h =
    let alone = below_none e.0 es (and_first (below_all key_cmp e.0 es) (is_sorted key_cmp es) h) in (
      ap (λ b. cond b (Some e.1) (value_at key_cmp e.0 es)) (id_itself e.0),
      all_weaker (λ (f : Key × Block). value_at key_cmp f.0 es ≡ Some f.1) (λ f. value_at key_cmp f.0 (e ∷ es) ≡ Some f.1) es
          (λ f g. ⊎_elim
          (λ s. absurd (none_some f.1 (sym alone ∙ subst (λ k. value_at key_cmp k es ≡ Some f.1) s g)))
          (λ d. ap (λ b. cond b (Some e.1) (value_at key_cmp f.0 es)) (not_tied f.0 e.0 d) ∙ g)
          (same_or_not f.0 e.0))
          (each_found es (and_second (below_all key_cmp e.0 es) (is_sorted key_cmp es) h)),
    )

-- under one key there is one kind
abbrev pub OneKind : World → Type 0
OneKind w = (key : Key) (p q : Peer) (b c : Block) → held_in w key p ≡ Some b → held_in w key q ≡ Some c → b.kind ≡ c.kind

module _ (judged : Key → List ℕ → Option Judged) (r : ℕ) (base : List Shape) (planned : List ℕ) (start end : ℕ) (b : IsBase r base planned start end) (links : Peer → Links Peer)
    (settled : IsSettledRing place r 160 (order_by base) (lives_by base) links) (few : length (made_by base) ≤ 512) where
  -- the worlds within the fourth part
  pub record IsRepairing (w : World) : Type 0 where
    pub within : IsWithin base planned start w
    pub linked : links_in w ≡ links
    pub kinds : OneKind w
    pub sorted : AreSorted w

  abbrev own : Key → List Peer
  own key = owners place r (order_by base) (number key)

  own_lives : (key : Key) (m : Peer) → IsAmong m (own key) → lives_by base m ≡ true
  own_lives key m i = settled.lives_all m (from_place_live place (order_by base) (number key) m (among_take r m (from_place place (order_by base) (number key)) i))

  -- a look-up finds the next 2r members
  found_is : (key : Key) (p : Peer) (found : Option (List Peer)) (w mid : World) → IsRepairing w → lives_by base p ≡ true → LooksUp judged w key (p ∷ []) found mid → mid.asked ≤ end → found ≡ Some (take (2 * r) (from_place place (order_by base) (number key)))
  found_is key p found w mid h lives l q =
      let looked = look_up judged r base planned start end b key p found w mid h.within (lives_made base p lives) l in
      lookup_right place r settled.positive (lives_by base) (order_by base) (links_in w) (number key) (p ∷ []) (made_by base) (routes l.looks) found settled.ascending settled.living settled.lives_all
      (λ m i. (λ j. (h.linked j m).list) ∙ settled.lists m i) names (looked.fates q) p lives (inl refl) l.lookup
    where
      names : AreNames (order_by base) (links_in w) (p ∷ []) (made_by base)
      names = record {
        few = few;
        first = λ m i. ⊎_elim (λ e. subst (λ x. IsAmong x (made_by base)) e (lives_made base p lives)) (λ n. elim n [ ]) i;
        linked = λ n m i j.
            let made = lives_made base n (settled.lives_all n i) in
            let node = node_made judged r base planned start end b w n h.within made in
            let s = stands judged r base planned start end b w n node.0 h.within made node.1 in
            let k = h.within.known n.id node.0 node.1 in
            all-among (λ x. IsAmong x (made_by base)) m ((links_in w n).list ++ (links_in w n).fingers)
            (subst (λ (x : Links Peer). AllByRecursion (λ y. IsAmong y (made_by base)) (x.list ++ x.fingers)) (sym s.links) (all-both (λ x. IsAmong x (made_by base)) node.0.ring.links.list node.0.ring.links.fingers k.list k.fingers)) j;
      }

  -- ---- one block

  pub record Around (key : Key) (block : Block) (p : Peer) (w next : World) (dropped : Bool) : Type 0 where
    pub state : IsRepairing next
    pub ranks : (q : Peer) → IsAmong q (own key) → (q ≡ p → ⊥) → rank_in judged next key q ≡ raised (block_rank judged key block) (rank_in judged w key q)
    pub rest : (q : Peer) → (IsAmong q (own key) → ⊥) ⊎ (q ≡ p) → (k : Key) → held_in next k q ≡ held_in w k q
    pub other_keys : (q : Peer) (k : Key) → (k ≡ key → ⊥) → held_in next k q ≡ held_in w k q
    pub goes : MatchBool dropped (IsAmong p (own key) → ⊥) (IsAmong p (own key))

  around : (key : Key) (block : Block) (p : Peer) (w next : World) (dropped : Bool) → IsRepairing w → lives_by base p ≡ true → held_in w key p ≡ Some block → (x : PutsAround judged p r key block w dropped next) → IsTaken x → next.asked ≤ end
      → Around key block p w next dropped
  around key block p w next dropped h lives own_block (no_route found last looks none) taken quiet = absurd taken
  around key block p w next dropped h lives own_block (puts q qs asks mid last acknowledged dropping looks put stored fates goes) taken quiet =
      let question = question_as block.kind key block.bytes in
      let kept = kept_put judged r base planned start end b p key block w next dropped h.within (puts q qs asks mid last acknowledged dropping looks put stored fates goes) in
      let look = kept_look_up judged r base planned start end b key (p ∷ []) (Some (q ∷ qs)) w mid h.within looks in
      let grown = of_fates judged mid next (asking question (filter (λ s. is_other_peer judged p s.0) asks)) fates in
      let all : List Peer = from_place place (order_by base) (number key) in
      let distinct = distinct_from_place (order_by base) (number key) settled.ascending in
      let is : take (2 * r) all ≡ q ∷ qs = sym (some_same (q ∷ qs) (take (2 * r) all) (found_is key p (Some (q ∷ qs)) w mid h lives looks (omega (arith, quiet, grown.1)))) in
      let asked : nodes asks ≡ take r all = asked_are_owners r settled.positive all distinct q qs is asks taken put.asks in
      let told : Told = filter (λ s. is_other_peer judged p s.0) asks in
      let to : nodes told ≡ filter (is_other_peer judged p) (take r all) = nodes_filter (is_other_peer judged p) asks ∙ ap (filter (is_other_peer judged p)) asked in
      let same_held : (k : Key) (x : Peer) → held_in mid k x ≡ held_in w k x = λ k x. ap (λ (o : Option Node). held_at k (own_node x o)) (routes_same judged r base planned start end b key looks.looks (asking (ask.Route key) looks.looks) w mid h.within refl looks.fates x.id) in
      let made : AllByRecursion (λ x. IsAmong x (made_by base)) (nodes told) =
      subst (AllByRecursion (λ x. IsAmong x (made_by base))) (sym to) (all_from (λ x. IsAmong x (made_by base)) (filter (is_other_peer judged p) (take r all)) (λ x i. lives_made base x (own_lives key x (among_filtered (is_other_peer judged p) x (take r all) i)))) in
      let out = puts_at judged r base planned start end b key block.kind block.bytes told (asking question told) mid next look.within made
      (subst (λ l. AreDistinct l) (sym to) (distinct_filter (is_other_peer judged p) (take r all) (distinct_take r all distinct)))
      (λ x c e. h.kinds key x p c block (sym (same_held key x) ∙ e) own_block) (held_filter (is_other_peer judged p) asks taken) refl fates in
      let sort_mid : AreSorted mid = λ id n e. h.sorted id n (sym (routes_same judged r base planned start end b key looks.looks (asking (ask.Route key) looks.looks) w mid h.within refl looks.fates id) ∙ e) in
      let other_keys : (x : Peer) (k : Key) → (k ≡ key → ⊥) → held_in next k x ≡ held_in w k x = λ x k d. out.other_keys x k d ∙ same_held k x in
      record {
        state = record {
          within = kept.within;
          linked = kept.links ∙ h.linked;
          kinds = λ k x y c d e f. ⊎_elim
              (λ s. out.kinds x c (subst (λ z. held_in next z x ≡ Some c) s e) ∙ sym (out.kinds y d (subst (λ z. held_in next z y ≡ Some d) s f)))
              (λ n. h.kinds k x y c d (sym (other_keys x k n) ∙ e) (sym (other_keys y k n) ∙ f))
              (same_or_not k key);
          sorted = out.sorted sort_mid;
        };
        ranks = λ x i d. out.ranks x (subst (IsAmong x) (sym to) (among_filter (is_other_peer judged p) x (take r all) i (is_other x (own_lives key x i) d))) ∙ ap (λ o. raised (block_rank judged key block) (option_map (block_rank judged key) o)) (same_held key x);
        rest = λ x n k. out.others x (λ i. ⊎_elim (λ d. d (among_filtered (is_other_peer judged p) x (take r all) (subst (IsAmong x) to i))) (λ s. itself x s (subst (IsAmong x) to i)) n) k ∙ same_held k x;
        other_keys = other_keys;
        goes = is_dropped r settled.positive all distinct q qs is asks taken p acknowledged dropped put goes;
      }
    where
      is_other : (x : Peer) → lives_by base x ≡ true → (x ≡ p → ⊥) → is_other_peer judged p x ≡ true
      is_other x l d = ap not (not_tied p.id x.id (λ s. d (sym (one_at_place (made_by base) p x b.apart (lives_made base p lives) (lives_made base x l) (same_place p x s)))))

      itself : (x : Peer) → x ≡ p → IsAmong x (filter (is_other_peer judged p) (take r (from_place place (order_by base) (number key)))) → ⊥
      itself x s i =
          let passed = all-among (λ y. is_other_peer judged p y ≡ true) x (filter (is_other_peer judged p) (take r (from_place place (order_by base) (number key)))) (kept_by (is_other_peer judged p) (take r (from_place place (order_by base) (number key)))) i in
          let tied = ties p.id x.id (ap (λ (y : Peer). y.id) (sym s)) in
          never (eq_by_cmp key_cmp p.id x.id) tied passed
        where
          never : (t : Bool) → t ≡ true → not t ≡ true → ⊥
          never true e f = cc
          never false e f = cc

          kept_by : (t : Peer → Bool) (l : List Peer) → AllByRecursion (λ y. t y ≡ true) (filter t l)
          kept_by t [] = tt
          kept_by t (y ∷ l) = test (t y) refl (kept_by t l)
            where
              test : (z : Bool) → t y ≡ z → AllByRecursion (λ y. t y ≡ true) (filter t l) → AllByRecursion (λ y. t y ≡ true) (cond z (y ∷ filter t l) (filter t l))
              test true e rest = (e, rest)
              test false e rest = rest

  -- ---- all blocks of a node

  -- what becomes of a key's block that the node holds
  pub record Moves (key : Key) (c : Block) (p : Peer) (w next : World) (dropped : List Key) : Type 0 where
    pub ranks : (q : Peer) → IsAmong q (own key) → (q ≡ p → ⊥) → rank_in judged next key q ≡ raised (block_rank judged key c) (rank_in judged w key q)
    pub rest : (q : Peer) → (IsAmong q (own key) → ⊥) → held_in next key q ≡ held_in w key q
    pub stays : IsAmong p (own key) → IsAmong key dropped → ⊥
    pub goes : (IsAmong p (own key) → ⊥) → IsAmong key dropped

  pub record Through (key : Key) (p : Peer) (blocks : Blocks) (w next : World) (dropped : List Key) : Type 0 where
    pub state : IsRepairing next
    pub own_blocks : (k : Key) → held_in next k p ≡ held_in w k p
    pub none : value_at key_cmp key blocks ≡ None → ((q : Peer) → held_in next key q ≡ held_in w key q) × (IsAmong key dropped → ⊥)
    pub some : (c : Block) → value_at key_cmp key blocks ≡ Some c → Moves key c p w next dropped

  abbrev with_dropped : Bool → Key → List Key → List Key
  with_dropped true k dropped = k ∷ dropped
  with_dropped false k dropped = dropped

  -- one block, and then the others
  through_one : (key : Key) (p : Peer) (k : Key) (block : Block) (blocks : Blocks) (w mid next : World) (drop : Bool) (dropped : List Key) → T (is_sorted key_cmp ((k, block) ∷ blocks)) → Around k block p w mid drop → Through key p blocks mid next dropped
      → Through key p ((k, block) ∷ blocks) w next (with_dropped drop k dropped)
  through_one key p k block blocks w mid next drop dropped sorted f g = record {
    state = g.state;
    own_blocks = λ x. g.own_blocks x ∙ f.rest p (inr refl) x;
    none = λ e. ⊎_elim (λ s. absurd (none_some block (sym e ∙ here s))) (λ d. let n = g.none (sym (later d) ∙ e) in ((λ q. n.0 q ∙ f.other_keys q key d), not_added drop d n.1)) (same_or_not key k);
    some = λ c e. ⊎_elim
        (λ s. its c s (some_same block c (sym (here s) ∙ e)) (g.none (ap (λ x. value_at key_cmp x blocks) s ∙ below_none k blocks (and_first (below_all key_cmp k blocks) (is_sorted key_cmp blocks) sorted))))
        (λ d. other c d (g.some c (sym (later d) ∙ e)))
        (same_or_not key k);
  }
    where
      here : key ≡ k → value_at key_cmp key ((k, block) ∷ blocks) ≡ Some block
      here s = ap (λ t. cond t (Some block) (value_at key_cmp key blocks)) (ties key k s)

      later : (key ≡ k → ⊥) → value_at key_cmp key ((k, block) ∷ blocks) ≡ value_at key_cmp key blocks
      later d = ap (λ t. cond t (Some block) (value_at key_cmp key blocks)) (not_tied key k d)

      not_added : (t : Bool) → (key ≡ k → ⊥) → (IsAmong key dropped → ⊥) → IsAmong key (with_dropped t k dropped) → ⊥
      not_added true d n (inl e) = d (sym e)
      not_added true d n (inr i) = n i
      not_added false d n i = n i

      added : (t : Bool) → IsAmong key dropped → IsAmong key (with_dropped t k dropped)
      added true i = inr i
      added false i = i

      stays_if : (t : Bool) → MatchBool t (IsAmong p (own k) → ⊥) (IsAmong p (own k)) → key ≡ k → (IsAmong key dropped → ⊥) → IsAmong p (own k) → IsAmong key (with_dropped t k dropped) → ⊥
      stays_if true goes s n i j = goes i
      stays_if false goes s n i j = n j

      goes_if : (t : Bool) → MatchBool t (IsAmong p (own k) → ⊥) (IsAmong p (own k)) → key ≡ k → (IsAmong p (own k) → ⊥) → IsAmong key (with_dropped t k dropped)
      goes_if true goes s d = inl (sym s)
      goes_if false goes s d = absurd (d goes)

      its : (c : Block) → key ≡ k → block ≡ c → ((q : Peer) → held_in next key q ≡ held_in mid key q) × (IsAmong key dropped → ⊥) → Moves key c p w next (with_dropped drop k dropped)
      its c s is n = record {
        ranks = λ q i d. ap (option_map (block_rank judged key)) (n.0 q)
            ∙ subst (λ x. rank_in judged mid x q ≡ raised (block_rank judged x block) (rank_in judged w x q)) (sym s) (f.ranks q (subst (λ x. IsAmong q (own x)) s i) d)
            ∙ ap (λ (x : Block). raised (block_rank judged key x) (rank_in judged w key q)) is;
        rest = λ q d. n.0 q ∙ f.rest q (inl (λ i. d (subst (λ x. IsAmong q (own x)) (sym s) i))) key;
        stays = λ i. stays_if drop f.goes s n.1 (subst (λ x. IsAmong p (own x)) s i);
        goes = λ d. goes_if drop f.goes s (λ i. d (subst (λ x. IsAmong p (own x)) (sym s) i));
      }

      other : (c : Block) → (key ≡ k → ⊥) → Moves key c p mid next dropped → Moves key c p w next (with_dropped drop k dropped)
      other c d m = record {
        ranks = λ q i n. m.ranks q i n ∙ ap (λ o. raised (block_rank judged key c) (option_map (block_rank judged key) o)) (f.other_keys q key d);
        rest = λ q n. m.rest q n ∙ f.other_keys q key d;
        stays = λ i. not_added drop d (m.stays i);
        goes = λ n. added drop (m.goes n);
      }

  through : (key : Key) (p : Peer) (blocks : Blocks) (w next : World) (dropped : List Key) → IsRepairing w → lives_by base p ≡ true → T (is_sorted key_cmp blocks) → AllByRecursion (λ e. held_in w e.0 p ≡ Some e.1) blocks
      → (x : PutsAll judged p r blocks w dropped next) → AllTaken x → next.asked ≤ end → Through key p blocks w next dropped
  through key p [] w next dropped h lives sorted held all_put taken quiet = record { state = h; own_blocks = λ k. refl; none = λ e. ((λ q. refl), λ i. elim i [ ]); some = λ c e. absurd (none_some c e) }
  through key p (e ∷ blocks) w next dropped h lives sorted held (keeps {key = k} {block = block} {mid = mid} one rest) taken quiet =
      let grown = of_puts judged p r blocks mid next dropped rest in
      let f = around k block p w mid false h lives held.0 one taken.0 (omega (arith, quiet, grown.1)) in
      let g = through key p blocks mid next dropped f.state lives (and_second (below_all key_cmp k blocks) (is_sorted key_cmp blocks) sorted)
      (all_weaker (λ (x : Key × Block). held_in w x.0 p ≡ Some x.1) (λ x. held_in mid x.0 p ≡ Some x.1) blocks (λ x i. f.rest p (inr refl) x.0 ∙ i) held.1) rest taken.1 quiet in
      through_one key p k block blocks w mid next false dropped sorted f g
  through key p (e ∷ blocks) w next dropped h lives sorted held (drops {key = k} {block = block} {mid = mid} {dropped = others} one rest) taken quiet =
      let grown = of_puts judged p r blocks mid next others rest in
      let f = around k block p w mid true h lives held.0 one taken.0 (omega (arith, quiet, grown.1)) in
      let g = through key p blocks mid next others f.state lives (and_second (below_all key_cmp k blocks) (is_sorted key_cmp blocks) sorted)
      (all_weaker (λ (x : Key × Block). held_in w x.0 p ≡ Some x.1) (λ x. held_in mid x.0 p ≡ Some x.1) blocks (λ x i. f.rest p (inr refl) x.0 ∙ i) held.1) rest taken.1 quiet in
      through_one key p k block blocks w mid next true others sorted f g

  -- ---- a node's part

  pub record Moved (p : Peer) (key : Key) (w next : World) : Type 0 where
    pub state : IsRepairing next
    pub is : (owns : Peer → Bool) → Tells owns (own key) → IsMoved owns p (rank_in judged w key) (rank_in judged next key)

  moved : (key : Key) (p : Peer) (w next : World) → IsRepairing w → lives_by base p ≡ true → (x : Repairs judged r w p next) → AllTaken x.puts → next.asked ≤ end → Moved p key w next
  moved key p w next h lives x taken quiet =
      let made = lives_made base p lives in
      let before_at = stands judged r base planned start end b w p x.before h.within made x.is_before in
      let was : (k : Key) → held_in w k p ≡ value_at key_cmp k x.before.blocks = λ k. ap (held_at k) (node_is w p x.before x.is_before before_at.me) in
      let sorted = h.sorted p.id x.before x.is_before in
      let asked : next.asked ≡ x.mid.asked = ap (λ (v : World). v.asked) x.drops in
      let t = through key p x.before.blocks w x.mid x.dropped h lives sorted
      (all_weaker (λ (e : Key × Block). value_at key_cmp e.0 x.before.blocks ≡ Some e.1) (λ e. held_in w e.0 p ≡ Some e.1) x.before.blocks (λ e i. was e.0 ∙ i) (each_found x.before.blocks sorted)) x.puts taken (omega (arith, quiet, asked)) in
      let after_at = stands judged r base planned start end b x.mid p x.after t.state.within made x.is_after in
      let now : Node = record x.after { blocks = dropped_from x.after.blocks x.dropped } in
      let then_held : (k : Key) → held_in x.mid k p ≡ value_at key_cmp k x.after.blocks = λ k. ap (held_at k) (node_is x.mid p x.after x.is_after after_at.me) in
      let here : (k : Key) → held_in next k p ≡ value_at key_cmp k (dropped_from x.after.blocks x.dropped) =
      λ k. ap (λ (v : World). held_in v k p) x.drops ∙ ap (held_at k) (node_here x.mid p x.after now x.is_after after_at.me) in
      let others : (q : Peer) → (q ≡ p → ⊥) → (k : Key) → held_in next k q ≡ held_in x.mid k q =
      λ q d k. ap (λ (v : World). held_in v k q) x.drops ∙ ap (held_at k) (node_other x.mid p q x.after now x.is_after after_at.me after_at.me d) in
      let kept = kept_repairs judged r base planned start end b w next p h.within x in
      let held_mid : (q : Peer) (k : Key) (c : Block) → held_in next k q ≡ Some c → held_in x.mid k q ≡ Some c =
      λ q k c e. ⊎_elim
      (λ s. subst (λ y. held_in x.mid k y ≡ Some c) (sym s) (then_held k ∙ left_held k x.after.blocks x.dropped c (sym (here k) ∙ subst (λ y. held_in next k y ≡ Some c) s e)))
      (λ d. sym (others q d k) ∙ e)
      (peer_or_not q p) in
      record {
        state = record {
          within = kept.within;
          linked = kept.links ∙ h.linked;
          kinds = λ k y z c d e f. t.state.kinds k y z c d (held_mid y k c e) (held_mid z k d f);
          sorted = subst AreSorted (sym x.drops) (sorted_with x.mid x.after now (subst (λ (y : Peer). node_at x.mid y.id ≡ Some x.after) (sym after_at.me) x.is_after) t.state.sorted (sorted_left x.after.blocks x.dropped (t.state.sorted p.id x.after x.is_after)));
        };
        is = λ owns tells. by owns tells t was then_held here others (value_at key_cmp key x.before.blocks) refl;
      }
    where
      by : (owns : Peer → Bool) → Tells owns (own key) → Through key p x.before.blocks w x.mid x.dropped → ((k : Key) → held_in w k p ≡ value_at key_cmp k x.before.blocks) → ((k : Key) → held_in x.mid k p ≡ value_at key_cmp k x.after.blocks)
          → ((k : Key) → held_in next k p ≡ value_at key_cmp k (dropped_from x.after.blocks x.dropped)) → ((q : Peer) → (q ≡ p → ⊥) → (k : Key) → held_in next k q ≡ held_in x.mid k q)
          → (o : Option Block) → value_at key_cmp key x.before.blocks ≡ o → IsMoved owns p (rank_in judged w key) (rank_in judged next key)
      by owns tells t was then_held here others None e =
          let n = t.none e in
          idle (ap (option_map (block_rank judged key)) (was key ∙ e))
          (λ m. ap (option_map (block_rank judged key)) (each (λ q. held_in next key q ≡ held_in w key q) p
          (here key ∙ is_left key x.after.blocks x.dropped n.1 ∙ sym (then_held key) ∙ t.own_blocks key)
          (λ q d. others q d key ∙ n.0 q) m))
      by owns tells t was then_held here others (Some c) e =
          let s = t.some c e in
          moves (block_rank judged key c) (ap (option_map (block_rank judged key)) (was key ∙ e))
          (λ m d o. ap (option_map (block_rank judged key)) (others m d key) ∙ s.ranks m ((tells m).0 o) d)
          (λ m d o. ap (option_map (block_rank judged key)) (others m d key ∙ s.rest m (λ i. let u = (tells m).1 i in cc)))
          (λ o. ap (option_map (block_rank judged key)) (here key ∙ is_left key x.after.blocks x.dropped (s.stays ((tells p).0 o)) ∙ sym (then_held key) ∙ t.own_blocks key))
          (λ o. ap (option_map (block_rank judged key)) (here key ∙ is_gone key x.after.blocks x.dropped (s.goes (λ i. let u = (tells p).1 i in cc))))

  -- ---- all nodes

  pub all_moved : (key : Key) (owns : Peer → Bool) → Tells owns (own key) → (w next : World) (ps : List Peer) → IsRepairing w → ((p : Peer) → IsAmong p ps → lives_by base p ≡ true) → (x : EachDoes (Repairs judged r) w ps next) → EachTaken x
      → next.asked ≤ end → AreMoved owns ps (rank_in judged w key) (rank_in judged next key)
  all_moved key owns tells w next [] h lives done taken quiet = none_moved
  all_moved key owns tells w next (p ∷ ps) h lives (then_does {mid = mid} first rest) taken quiet =
      let grown = of_each judged (Repairs judged r) (λ v u q f. of_repairs judged r v u q f) mid next ps rest in
      let f = moved key p w mid h (lives p (inl refl)) first taken.0 (omega (arith, quiet, grown.1)) in
      then_moved (f.is owns tells) (all_moved key owns tells mid next ps f.state (λ q i. lives q (inr i)) rest taken.1 quiet)
