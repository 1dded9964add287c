-- What nodes hold through asks, whoever lives: only what may stand there is taken, in order of keys, and what is held stays, or something newer of its kind.
use Rattle.std.proofs.Common.{◌≡◌, ⊎_elim, ℕ, ◌≤◌, Bool, true, false, cond, List, Option, Some, None, T, refl, sym, ap, ◌∙◌, subst, arith, nat_le, nat_lt, option_map}
use Rattle.std.specs.Prelude.{is_some}
use Rattle.std.specs.Option.{option_or}
use Rattle.std.specs.Ordering.{eq_by_cmp}
use Rattle.std.specs.FinMap.Entries.{find as value_at, find-put, is_sorted, is_sorted-put, put}
use Rattle.std.proofs.lemmas.Bool.{le-ltb}
use Rattle.ivy_base.specs.declared.key.Key.{Key}
use Rattle.ivy_base.specs.Naming.{key_cmp, name}
use Rattle.ring_model.specs.Blocks.{raised}
use Rattle.ring_model.proofs.Lists.{none_some, some_same}
use Rattle.dht_ids.specs.Asked.{IsForData}
use Rattle.dht_ids.specs.declared.ask.Answer.{Answer}
use Rattle.dht_ids.specs.declared.ask.Ask.{Ask}
use Rattle.dht_ids.specs.declared.ask.Ask.TheVariants as ask
use Rattle.dht_ids.specs.declared.ask.StoreFault.{StoreFault}
use Rattle.dht_ids.specs.declared.ask.StoreFault.TheVariants.{WrongName, Older, Full}
use Rattle.dht_ids.specs.declared.judge.Judged.{Judged}
use Rattle.dht_ids.specs.declared.peer.Peer.{Peer}
use Rattle.dhash_model.specs.Puts.{holds}
use Rattle.dhash_model.specs.Signed.{hss_judged}
use Rattle.dhash_model.specs.Stores.{Block, Blocks, bytes_held, store_capacity as capacity, content, content_fault, full, head, head_fault, not_judged, number_at, older}
use Rattle.dhash_model.specs.declared.kind.BlockKind.{BlockKind}
use Rattle.dhash_model.specs.declared.kind.BlockKind.TheVariants.{Content, Head}
use Rattle.node_store.proofs.Maps.{keys_total}
use Rattle.world_model.specs.Nodes.{Node, answered, stored}
use Rattle.world_model.specs.World.{World, node_at, peer_of, with_node}
use Rattle.world_model.specs.Fates.{FateOf, ask_counted as counted}
use Rattle.world_model.specs.Fates.FateOf.{lost, stopped, answers}
use Rattle.world_model.specs.Rounds.{question_as}
use Rattle.world_model.specs.RingOf.{own_node}
use Rattle.world_model.specs.Holding.{held_in, block_rank as rank}
use Rattle.round_laws.proofs.Nodes.{at, at_id, at_other, at_same, replaced, same_id, same_or_not, ties}
use Rattle.round_laws.proofs.Standing.{peer_or_not}
use Rattle.round_laws.proofs.Holding.{held_at, node_here, node_is, node_other}
use Rattle.round_laws.proofs.Storing.{StoresAt, stores_at, under}
use Rattle.round_laws.proofs.Untouched.{Untouched, store}
use Rattle.calm_laws.proofs.CalmNodes.{HeldStays, IsHeld, IsIn, keeps_ring, raised_from, raised_to}
use Rattle.calm_laws.proofs.BlockKinds.{AreApart, FitsIn, HoldsOf, IsOf, one_kind}
use Rattle.calm_laws.specs.Laws.{IsWithinLimit}
use Rattle.calm_laws.proofs.Rooms.{fits}

-- ---- what nodes know stays in asks for data

-- ---- a block that is taken, and one that is refused

stored_same : (n : Node) (key : Key) (block : Block) (fault : Option StoreFault) → holds (stored n key block fault).0 ≡ false → (stored n key block fault).1 ≡ n
stored_same n key block (Some f) e = refl
stored_same n key block None e = absurd cc

put_refused : (kind : BlockKind) (key : Key) (bytes : List ℕ) (n : Node) → holds (answered hss_judged n (question_as kind key bytes)).0 ≡ false → (answered hss_judged n (question_as kind key bytes)).1 ≡ n
put_refused Content key bytes n e = stored_same n key (content bytes) (content_fault key bytes n.blocks) e
put_refused Head key bytes n e = stored_same n key (head bytes) (head_fault hss_judged key bytes n.blocks) e

content_named : (n : Node) (key : Key) (bytes : List ℕ) → holds (stored n key (content bytes) (content_fault key bytes n.blocks)).0 ≡ true → name bytes ≡ key
content_named n key bytes h = by (eq_by_cmp key_cmp key (name bytes)) refl h
  where
    by : (b : Bool) → eq_by_cmp key_cmp key (name bytes) ≡ b → holds (stored n key (content bytes) (option_or (cond b None (Some WrongName)) (full key (content bytes) n.blocks))).0 ≡ true → name bytes ≡ key
    by true e g = sym (same_id key (name bytes) e)
    by false e g = absurd cc

head_judged : (n : Node) (key : Key) (bytes : List ℕ) → holds (stored n key (head bytes) (head_fault hss_judged key bytes n.blocks)).0 ≡ true → is_some (hss_judged key bytes) ≡ true
head_judged n key bytes h = by (hss_judged key bytes) h
  where
    by : (o : Option Judged) → holds (stored n key (head bytes) (option_or (not_judged o) (option_or (older (number_at hss_judged key n.blocks) o) (full key (head bytes) n.blocks)))).0 ≡ true → is_some o ≡ true
    by None g = absurd cc
    by (Some j) g = refl

no_fault_holds : (n : Node) (key : Key) (block : Block) (fault : Option StoreFault) → fault ≡ None → holds (stored n key block fault).0 ≡ true
no_fault_holds n key block fault e = subst (λ o. holds (stored n key block o).0 ≡ true) (sym e) refl

module _ (end : World) where
  pub taken_of : (kind : BlockKind) (key : Key) (bytes : List ℕ) (n : Node) → FitsIn end (question_as kind key bytes) → holds (answered hss_judged n (question_as kind key bytes)).0 ≡ true → IsOf end key kind bytes
  taken_of Content key bytes n f h = f (content_named n key bytes h)
  taken_of Head key bytes n f h = f (head_judged n key bytes h)

  -- what a node holds may stand there, in order of keys
  pub record IsOrderly (n : Node) : Type 0 where
    pub kinds : HoldsOf end n
    pub sorted : T (is_sorted key_cmp n.blocks)

  abbrev pub AreOrderly : World → Type 0
  AreOrderly w = (id : Key) (n : Node) → node_at w id ≡ Some n → IsOrderly n

  put_of : (n : Node) (key : Key) (block : Block) → IsOf end key block.kind block.bytes → HoldsOf end n → (other : Key) (c : Block) → value_at key_cmp other (put key_cmp key block n.blocks) ≡ Some c → IsOf end other c.kind c.bytes
  put_of n key block new h other c e = by (eq_by_cmp key_cmp other key) refl (sym (find-put key_cmp keys_total other key block n.blocks) ∙ e)
    where
      by : (b : Bool) → eq_by_cmp key_cmp other key ≡ b → cond b (Some block) (value_at key_cmp other n.blocks) ≡ Some c → IsOf end other c.kind c.bytes
      by true same f =
          let is : block ≡ c = some_same block c f in
          subst (λ k. IsOf end k c.kind c.bytes) (sym (same_id other key same)) (subst (λ (x : Block). IsOf end key x.kind x.bytes) is new)
      by false differ f = h other c f

  stored_orderly : (n : Node) (key : Key) (block : Block) (fault : Option StoreFault) → (fault ≡ None → IsOf end key block.kind block.bytes) → IsOrderly n → IsOrderly (stored n key block fault).1
  stored_orderly n key block (Some f) new h = h
  stored_orderly n key block None new h = record { kinds = put_of n key block (new refl) h.kinds; sorted = is_sorted-put key_cmp keys_total key block n.blocks h.sorted }

  put_orderly : (kind : BlockKind) (key : Key) (bytes : List ℕ) (n : Node) → FitsIn end (question_as kind key bytes) → IsOrderly n → IsOrderly (answered hss_judged n (question_as kind key bytes)).1
  put_orderly Content key bytes n f h = stored_orderly n key (content bytes) (content_fault key bytes n.blocks) (λ e. taken_of Content key bytes n f (no_fault_holds n key (content bytes) (content_fault key bytes n.blocks) e)) h
  put_orderly Head key bytes n f h = stored_orderly n key (head bytes) (head_fault hss_judged key bytes n.blocks) (λ e. taken_of Head key bytes n f (no_fault_holds n key (head bytes) (head_fault hss_judged key bytes n.blocks) e)) h

  -- a node in its own place
  pub orderly_with : (w : World) (old new : Node) → node_at w (peer_of new).id ≡ Some old → AreOrderly w → IsOrderly new → AreOrderly (with_node w new)
  orderly_with w old new here h now id n e = ⊎_elim
      (λ same. subst IsOrderly (some_same new n (sym (subst (λ x. at (replaced new w.nodes) x ≡ Some new) same (at_same w.nodes new old here)) ∙ e)) now)
      (λ other. h id n (sym (at_other w.nodes new id other) ∙ e))
      (same_or_not (peer_of new).id id)

  abbrev BlocksSo : Blocks → Type 0
  BlocksSo blocks = ((key : Key) (c : Block) → value_at key_cmp key blocks ≡ Some c → IsOf end key c.kind c.bytes) × T (is_sorted key_cmp blocks)

  -- what hangs on peers and blocks alone
  pub orderly_untouched : (w next : World) → Untouched w next → AreOrderly w → AreOrderly next
  orderly_untouched w next u h id n e = by (node_at w id) refl (sym (ap (option_map store) e) ∙ u id)
    where
      by : (o : Option Node) → node_at w id ≡ o → Some (store n) ≡ option_map store (node_at w id) → IsOrderly n
      by None f s = absurd (none_some (store n) (sym (s ∙ ap (option_map store) f)))
      by (Some m) f s =
          let same : store n ≡ store m = some_same (store n) (store m) (s ∙ ap (option_map store) f) in
          let was = h id m f in
          let now : BlocksSo n.blocks = subst (λ (x : Peer × Blocks). BlocksSo x.1) (sym same) (was.kinds, was.sorted) in
          record { kinds = now.0; sorted = now.1 }

  -- ---- where there is room, what may stand there is taken, but for an older head

  never_full : IsWithinLimit end → (n : Node) (key : Key) (block : Block) → IsOrderly n → IsOf end key block.kind block.bytes → full key block n.blocks ≡ None
  never_full room n key block h new =
      let within = fits end room (put key_cmp key block n.blocks) (is_sorted-put key_cmp keys_total key block n.blocks h.sorted) (put_of n key block new h.kinds) in
      let less : nat_lt capacity (bytes_held (put key_cmp key block n.blocks)) ≡ false = le-ltb capacity (bytes_held (put key_cmp key block n.blocks)) within in
      ap (λ b. cond b (Some Full) None) less

  pub put_held : IsWithinLimit end → (kind : BlockKind) (key : Key) (bytes : List ℕ) (n : Node) → IsOrderly n → IsOf end key kind bytes → holds (answered hss_judged n (question_as kind key bytes)).0 ≡ true
  put_held room Content key bytes n h of =
      let none = never_full room n key (content bytes) h of in
      let named : eq_by_cmp key_cmp key (name bytes) ≡ true = ties key (name bytes) (sym of.1) in
      no_fault_holds n key (content bytes) (content_fault key bytes n.blocks) (ap (λ b. option_or (cond b None (Some WrongName)) (full key (content bytes) n.blocks)) named ∙ none)
  put_held room Head key bytes n h of = by (hss_judged key bytes) refl of.2
    where
      none : full key (head bytes) n.blocks ≡ None
      none = never_full room n key (head bytes) h of

      of_older : (o : Option ℕ) (j : Judged) → holds (stored n key (head bytes) (option_or (older o (Some j)) (full key (head bytes) n.blocks))).0 ≡ true
      of_older None j = no_fault_holds n key (head bytes) (full key (head bytes) n.blocks) none
      of_older (Some seq) j = test (nat_le j.seq seq)
        where
          test : (b : Bool) → holds (stored n key (head bytes) (option_or (cond b (Some (Older seq)) None) (full key (head bytes) n.blocks))).0 ≡ true
          test true = refl
          test false = no_fault_holds n key (head bytes) (full key (head bytes) n.blocks) none

      by : (o : Option Judged) → hss_judged key bytes ≡ o → is_some o ≡ true → holds (answered hss_judged n (question_as Head key bytes)).0 ≡ true
      by None e some = absurd cc
      by (Some j) e some = subst (λ (o : Option Judged). holds (stored n key (head bytes) (option_or (not_judged o) (option_or (older (number_at hss_judged key n.blocks) o) (full key (head bytes) n.blocks)))).0 ≡ true) (sym e) (of_older (number_at hss_judged key n.blocks) j)

  -- ---- what a node makes of an ask

  pub record NodeGoesOn (n next : Node) : Type 0 where
    pub orderly : IsOrderly next
    pub held : (key : Key) (kind : BlockKind) (least : ℕ) → IsIn key kind least (under key n) → IsIn key kind least (under key next)

  module _ (apart : AreApart end) where
    stays_so : (n next : Node) → next ≡ n → IsOrderly n → NodeGoesOn n next
    stays_so n next e h = subst (NodeGoesOn n) (sym e) (record { orderly = h; held = λ key kind least i. i })

    -- a put that is taken
    put_taken : (kind : BlockKind) (key : Key) (bytes : List ℕ) (n : Node) → IsOrderly n → FitsIn end (question_as kind key bytes) → holds (answered hss_judged n (question_as kind key bytes)).0 ≡ true
        → NodeGoesOn n (answered hss_judged n (question_as kind key bytes)).1 × IsIn key kind (rank hss_judged key (record { kind = kind; bytes = bytes })) (under key (answered hss_judged n (question_as kind key bytes)).1)
    put_taken kind key bytes n h fit taken = (record { orderly = put_orderly kind key bytes n fit h; held = held }, (fresh.0, fresh.1, s.kind_then fresh.0 fresh.1, fresh.2))
      where
        next : Node
        next = (answered hss_judged n (question_as kind key bytes)).1

        of : IsOf end key kind bytes
        of = taken_of kind key bytes n fit taken

        s : StoresAt hss_judged key kind bytes n next
        s = stores_at hss_judged key kind bytes n taken (λ c e. one_kind end apart key c.kind kind c.bytes bytes (h.kinds key c e) of)

        fresh : (c : Block) × (under key next ≡ Some c) × (rank hss_judged key (record { kind = kind; bytes = bytes }) ≤ rank hss_judged key c)
        fresh = raised_from (rank hss_judged key) (under key next) (under key n) (rank hss_judged key (record { kind = kind; bytes = bytes })) s.rank_then

        held_here : (k : BlockKind) (least : ℕ) → IsIn key k least (under key n) → IsIn key k least (under key next)
        held_here k least i =
            let found = raised_to (rank hss_judged key) (under key next) (rank hss_judged key (record { kind = kind; bytes = bytes })) (rank hss_judged key i.0) (s.rank_then ∙ ap (λ (o : Option Block). raised (rank hss_judged key (record { kind = kind; bytes = bytes })) (option_map (rank hss_judged key) o)) i.1) in
            (found.0, found.1, s.kind_then found.0 found.1 ∙ sym (one_kind end apart key i.0.kind kind i.0.bytes bytes (h.kinds key i.0 i.1) of) ∙ i.2, omega (arith, i.3, found.3))

        held : (other : Key) (k : BlockKind) (least : ℕ) → IsIn other k least (under other n) → IsIn other k least (under other next)
        held other k least i = ⊎_elim
            (λ same. subst (λ x. IsIn x k least (under x next)) (sym same) (held_here k least (subst (λ x. IsIn x k least (under x n)) same i)))
            (λ d. subst (IsIn other k least) (sym (s.others other d)) i)
            (same_or_not other key)

    put_goes_on : (kind : BlockKind) (key : Key) (bytes : List ℕ) (n : Node) → IsOrderly n → FitsIn end (question_as kind key bytes) → NodeGoesOn n (answered hss_judged n (question_as kind key bytes)).1
    put_goes_on kind key bytes n h fit = by (holds (answered hss_judged n (question_as kind key bytes)).0) refl
      where
        by : (b : Bool) → holds (answered hss_judged n (question_as kind key bytes)).0 ≡ b → NodeGoesOn n (answered hss_judged n (question_as kind key bytes)).1
        by true e = (put_taken kind key bytes n h fit e).0
        by false e = stays_so n (answered hss_judged n (question_as kind key bytes)).1 (put_refused kind key bytes n e) h

    node_goes_on : (question : Ask) (n : Node) → IsForData question → IsOrderly n → FitsIn end question → NodeGoesOn n (answered hss_judged n question).1
    node_goes_on (ask.Route key) n for_data h fit = stays_so n n refl h
    node_goes_on ask.Near n for_data h fit = absurd for_data
    node_goes_on (ask.Notify peer) n for_data h fit = absurd for_data
    node_goes_on (ask.Get key) n for_data h fit = stays_so n n refl h
    node_goes_on (ask.PutBlock key bytes) n for_data h fit = put_goes_on Content key bytes n h fit
    node_goes_on (ask.PutHead key bytes) n for_data h fit = put_goes_on Head key bytes n h fit

    -- ---- all nodes

    -- an ask by which what is put fits
    pub asked_holds : {w next : World} {to : Peer} {question : Ask} {given : Answer} → IsForData question → FitsIn end question → AreOrderly w → FateOf hss_judged w to question given next → AreOrderly next × HeldStays w next
    asked_holds for_data fit h (lost l) = (λ id n e. h id n e, λ key kind least p i. i)
    asked_holds for_data fit h (stopped n l is dead) = (λ id n e. h id n e, λ key kind least p i. i)
    asked_holds {w = w} {to = to} {question = question} for_data fit h (answers old l is live) = (orderly_then, λ key kind least p i. held_then key kind least p i)
      where
        new : Node
        new = (answered hss_judged old question).1

        on : NodeGoesOn old new
        on = node_goes_on question old for_data (h to.id old is) fit

        me : peer_of new ≡ peer_of old
        me = λ i. ((keeps_ring question for_data old).0 i).me

        here : node_at w (peer_of old).id ≡ Some old
        here = subst (λ id. node_at w id ≡ Some old) (sym (at_id w.nodes to.id old is)) is

        orderly_then : AreOrderly (with_node (counted w) new)
        orderly_then = orderly_with (counted w) old new (subst (λ (q : Peer). at w.nodes q.id ≡ Some old) (sym me) here) (λ id n e. h id n e) on.orderly

        held_then : (key : Key) (kind : BlockKind) (least : ℕ) (p : Peer) → IsHeld w key kind least p → IsHeld (with_node (counted w) new) key kind least p
        held_then key kind least p i = ⊎_elim
            (λ same.
            let was : held_in w key p ≡ under key old = ap (held_at key) (subst (λ (q : Peer). own_node q (node_at w q.id) ≡ Some old) (sym same) (node_is w (peer_of old) old here refl)) in
            let now : held_in (with_node (counted w) new) key p ≡ under key new = ap (held_at key) (subst (λ (q : Peer). own_node q (node_at (with_node (counted w) new) q.id) ≡ Some new) (sym same) (node_here (counted w) (peer_of old) old new here me)) in
            subst (IsIn key kind least) (sym now) (on.held key kind least (subst (IsIn key kind least) was i)))
            (λ d. subst (IsIn key kind least) (sym (ap (held_at key) (node_other (counted w) (peer_of old) p old new here refl me d))) i)
            (peer_or_not p (peer_of old))

    -- a put that was taken is held where it was
    pub put_is_held : (w : World) (to : Peer) (kind : BlockKind) (key : Key) (bytes : List ℕ) (old : Node) → FitsIn end (question_as kind key bytes) → AreOrderly w → node_at w to.id ≡ Some old → peer_of old ≡ to → holds (answered hss_judged old (question_as kind key bytes)).0 ≡ true
        → IsHeld (with_node (counted w) (answered hss_judged old (question_as kind key bytes)).1) key kind (rank hss_judged key (record { kind = kind; bytes = bytes })) to
    put_is_held w to kind key bytes old fit h is mine taken =
        let new : Node = (answered hss_judged old (question_as kind key bytes)).1 in
        let me : peer_of new ≡ to = (λ i. ((keeps_ring (question_as kind key bytes) (put_data kind) old).0 i).me) ∙ mine in
        let now : held_in (with_node (counted w) new) key to ≡ under key new = ap (held_at key) (node_here (counted w) to old new is me) in
        subst (IsIn key kind (rank hss_judged key (record { kind = kind; bytes = bytes }))) (sym now) (put_taken kind key bytes old (h to.id old is) fit taken).1
      where
        put_data : (kind : BlockKind) → IsForData (question_as kind key bytes)
        put_data Content = tt
        put_data Head = tt
