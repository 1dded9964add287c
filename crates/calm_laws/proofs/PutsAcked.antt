-- A whole put of a post that was met, and that fits its key, is acknowledged: it finds owners, and each of them that lives takes it.
use Rattle.std.proofs.Common.{◌≡◌, inl, inr, ⊎_elim, ℕ, zero, suc, ◌≤◌, Bool, true, false, cond, List, [], ◌∷◌, ◌++◌, length, filter, Option, Some, None, Result, Err, refl, sym, ap, ◌∙◌, subst, arith, Contains}
use Rattle.std.specs.Prelude.{take}
use Rattle.std.proofs.lemmas.List.{append-nil}
use Rattle.std.proofs.lemmas.List.Sums.{length-filter}
use Rattle.std.specs.List.{AllByRecursion}
use Rattle.std.specs.Ordering.{eq_by_cmp}
use Rattle.std.specs.FinMap.Entries.{find as value_at, find-put, put}
use Rattle.ivy_base.specs.declared.key.Key.{Key}
use Rattle.ivy_base.specs.Naming.{key_cmp}
use Rattle.ring_model.specs.Gets.{IsAcknowledged, IsPutTrail, answered_in}
use Rattle.ring_model.specs.Circle.{number}
use Rattle.ring_model.specs.Members.{IsAmong, from_place}
use Rattle.ring_model.proofs.Members.{all_from_place}
use Rattle.ring_model.proofs.Lists.{all-among, all-left, all-right, all_from, all_weaker, among_filter, cons_head, cons_tail, nil_cons, some_same}
use Rattle.round_laws.proofs.Nodes.{at, at_id, at_other, at_same, order_by, replaced, same_id, same_or_not}
use Rattle.round_laws.proofs.Repairing.{put_keeps}
use Rattle.dhash_model.specs.Signed.{hss_judged}
use Rattle.log_model.proofs.Lists.{each, each_append}
use Rattle.dht_ids.specs.Asked.{IsForData, told}
use Rattle.dht_ids.specs.Peers.{place}
use Rattle.dht_ids.specs.declared.ask.Answer.{Answer}
use Rattle.dht_ids.specs.declared.ask.Answer.TheVariants as answer
use Rattle.dht_ids.specs.declared.ask.Ask.{Ask}
use Rattle.dht_ids.specs.declared.ask.Ask.TheVariants as ask
use Rattle.dht_ids.specs.declared.ask.AskKind.{AskKind}
use Rattle.dht_ids.specs.declared.ask.AskKind.TheVariants as kind
use Rattle.dht_ids.specs.declared.ask.Heard.{Heard}
use Rattle.dht_ids.specs.declared.ask.StoreFault.{StoreFault}
use Rattle.dht_ids.specs.declared.peer.Peer.{Peer}
use Rattle.dht_ids.specs.declared.post.Post.{Post}
use Rattle.dhash_model.specs.declared.miss.Miss.TheVariants as miss
use Rattle.dhash_model.specs.Execution.{Told, told_all, outcome}
use Rattle.dhash_model.specs.Execution.IsExecution.{no_route, of_owners}
use Rattle.dhash_model.specs.Puts.{holds, is_of_put}
use Rattle.dhash_model.specs.declared.miss.Miss.{Miss}
use Rattle.dhash_model.specs.Stores.{Block, bytes_held, store_capacity, content, content_fault, head, head_fault}
use Rattle.dhash_model.specs.declared.kind.BlockKind.TheVariants.{Content, Head}
use Rattle.agent_model.specs.Agent.{is_head}
use Rattle.node_store.specs.Stores.{IsStore}
use Rattle.node_store.proofs.Maps.{keys_total}
use Rattle.session_model.specs.Sessions.{IsPutOfPost, acknowledged, put_question}
use Rattle.world_model.specs.Fates.{FateOf, Fates, asking}
use Rattle.world_model.specs.Fates.FateOf.{answers, lost, stopped}
use Rattle.world_model.specs.Fates.Fates.{none as no_fates, more as more_fates}
use Rattle.world_model.specs.Nodes.{Node, answered, stored}
use Rattle.world_model.specs.Step.{most_bytes}
use Rattle.world_model.specs.Logs.{Played}
use Rattle.world_model.specs.World.{World, node_at, peer_of}
use Rattle.world_laws.specs.Invariant.{Invariant}
use Rattle.calm_laws.proofs.CalmNodes.{asked_rings}
use Rattle.calm_laws.proofs.CalmPuts.{entries_by}
use Rattle.world_laws.proofs.StoredBlocks.{put_each, put_store, room_for_content, room_for_head}
use Rattle.calm_laws.proofs.Asking.{among_asks, asked_found, owner_asked}
use Rattle.calm_laws.proofs.BlockKinds.{IsFit}
use Rattle.calm_laws.proofs.Holding.{AreOrderly}
use Rattle.calm_laws.proofs.Lines.{entries_are}
use Rattle.calm_laws.proofs.Rooms.{total}
use Rattle.calm_laws.proofs.States.{kept_ring}
use Rattle.calm_laws.proofs.Stretches.{Answers, IsMade, IsRingOf, IsRouted, Stretch, finds, is_routed, lives, own, own_distinct, owned_is, owner_lives, who_answers}
use Rattle.calm_laws.proofs.Stretches.Answers.{gives, is_silent}
use Rattle.calm_laws.specs.Completeness.{FitsItsKey, PutsAreAcknowledged}
use Rattle.calm_laws.proofs.HeldHeads.{found_in}
use Rattle.calm_laws.proofs.PutsTaken.{post_taken}
use Rattle.calm_laws.proofs.Standing.{calm_world, ring_of}
use Rattle.calm_laws.proofs.StoreRoom.{has_room, kinds_of}

no_yes : false ≡ true → ⊥
no_yes e = cc e

holds_of_put : (a : Answer) → holds a ≡ true → is_of_put a ≡ true
holds_of_put (answer.Route nearer owners) h = absurd (no_yes h)
holds_of_put (answer.Near before list) h = absurd (no_yes h)
holds_of_put (answer.Found bytes) h = absurd (no_yes h)
holds_of_put answer.Nothing h = absurd (no_yes h)
holds_of_put answer.Stored h = refl
holds_of_put (answer.Refused why) h = refl
holds_of_put answer.Noted h = absurd (no_yes h)
holds_of_put answer.Silent h = absurd (no_yes h)

-- ---- nodes

-- its blocks are met, and are under the keys that they fit
pub record IsFine (met : List (List ℕ)) (n : Node) : Type 0 where
  pub store : IsStore n.blocks
  pub among : AllByRecursion (λ e. Contains met e.1.bytes) n.blocks
  pub kinds : (k : Key) (c : Block) → value_at key_cmp k n.blocks ≡ Some c → IsFit c.kind k c.bytes

stored_fine : (met : List (List ℕ)) (n : Node) (key : Key) (block : Block) (fault : Option StoreFault) → (fault ≡ None → bytes_held (put key_cmp key block n.blocks) ≤ store_capacity) → Contains met block.bytes → IsFit block.kind key block.bytes
    → IsFine met n → IsFine met (stored n key block fault).1
stored_fine met n key block (Some f) room in_met of h = h
stored_fine met n key block None room in_met of h = record {
  store = put_store key block n.blocks h.store (room refl);
  among = put_each (λ (b : Block). Contains met b.bytes) key block n.blocks in_met h.among;
  kinds = λ k c f. by k c (eq_by_cmp key_cmp k key) refl (sym (find-put key_cmp keys_total k key block n.blocks) ∙ f);
}
  where
    by : (k : Key) (c : Block) (b : Bool) → eq_by_cmp key_cmp k key ≡ b → cond b (Some block) (value_at key_cmp k n.blocks) ≡ Some c → IsFit c.kind k c.bytes
    by k c true e g = subst (λ x. IsFit c.kind x c.bytes) (sym (same_id k key e)) (subst (λ (x : Block). IsFit x.kind key x.bytes) (some_same block c g) of)
    by k c false e g = h.kinds k c g

module _ (met : List (List ℕ)) (p : Post) (in_met : Contains met p.bytes) (good : FitsItsKey p) where
  put_fine : (n : Node) → IsFine met n → IsFine met (answered hss_judged n (put_question p)).1
  put_fine n h = by (is_head p.kind) refl
    where
      by : (b : Bool) → is_head p.kind ≡ b → IsFine met (answered hss_judged n (cond b (ask.PutHead p.key p.bytes) (ask.PutBlock p.key p.bytes))).1
      by true e = stored_fine met n p.key (head p.bytes) (head_fault hss_judged p.key p.bytes n.blocks) (room_for_head hss_judged p.key p.bytes n.blocks) in_met (good.head e) h
      by false e = stored_fine met n p.key (content p.bytes) (content_fault p.key p.bytes n.blocks) (room_for_content p.key p.bytes n.blocks) in_met (good.content e) h

  put_me : (n : Node) → peer_of (answered hss_judged n (put_question p)).1 ≡ peer_of n
  put_me n = by (is_head p.kind)
    where
      by : (b : Bool) → peer_of (answered hss_judged n (cond b (ask.PutHead p.key p.bytes) (ask.PutBlock p.key p.bytes))).1 ≡ peer_of n
      by true = λ i. ((put_keeps hss_judged Head p.key p.bytes n).0 i).me
      by false = λ i. ((put_keeps hss_judged Content p.key p.bytes n).0 i).me

  put_for_data : IsForData (put_question p)
  put_for_data = by (is_head p.kind)
    where
      by : (b : Bool) → IsForData (cond b (ask.PutHead p.key p.bytes) (ask.PutBlock p.key p.bytes))
      by true = tt
      by false = tt

-- ---- worlds

abbrev pub AreFine : List (List ℕ) → World → Type 0
AreFine met w = (id : Key) (n : Node) → node_at w id ≡ Some n → IsFine met n

pub fate_fine : (met : List (List ℕ)) {w next : World} {to : Peer} {question : Ask} {given : Answer} → FateOf hss_judged w to question given next → ((n : Node) → peer_of (answered hss_judged n question).1 ≡ peer_of n) → ((n : Node) → IsFine met n → IsFine met (answered hss_judged n question).1) → AreFine met w → AreFine met next
fate_fine met (lost l) me fine h id n e = h id n e
fate_fine met (stopped old l is dead) me fine h id n e = h id n e
fate_fine met {w = w} {to = to} {question = question} (answers old l here live) me fine h id n e = ⊎_elim
    (λ same. subst (IsFine met) (some_same new n (sym (subst (λ x. at (replaced new w.nodes) x ≡ Some new) same (at_same w.nodes new old (subst (λ (q : Peer). at w.nodes q.id ≡ Some old) (sym (me old)) itself))) ∙ e)) (fine old (h to.id old here)))
    (λ other. h id n (sym (at_other w.nodes new id other) ∙ e))
    (same_or_not (peer_of new).id id)
  where
    new : Node
    new = (answered hss_judged old question).1

    itself : node_at w (peer_of old).id ≡ Some old
    itself = subst (λ k. node_at w k ≡ Some old) (sym (at_id w.nodes to.id old here)) here

module _ (ring : Stretch) (met : List (List ℕ)) (fits : total met ≤ most_bytes) (p : Post) (in_met : Contains met p.bytes) (good : FitsItsKey p) where
  -- exactly those that live answer, and hold it then
  abbrev pub IsPutTaken : Peer → Answer → Type 0
  IsPutTaken node given = (is_of_put given ≡ lives ring node) × (holds given ≡ lives ring node)

  -- so is what was heard of a put, and an answer to a route is the ring's
  abbrev pub IsTaken : AskKind → Heard → Type 0
  IsTaken kind.Route h = IsMade ring h.node → IsRouted ring h.key h.node h.got
  IsTaken kind.Get h = Unit {0}
  IsTaken kind.PutBlock h = IsMade ring h.node → IsPutTaken h.node h.got
  IsTaken kind.PutHead h = IsMade ring h.node → IsPutTaken h.node h.got

  abbrev pub AreTaken : List Heard → Type 0
  AreTaken trail = AllByRecursion (λ h. IsTaken h.kind h) trail

  abbrev pub IsWell : World → Type 0
  IsWell v = IsRingOf ring v × AreFine met v

  abbrev pub StepsWell : Ask → Type 0
  StepsWell question = (v mid : World) (to : Peer) (given : Answer) → FateOf hss_judged v to question given mid → IsWell v → IsWell mid × AreTaken (told to question given)

  pub route_step : StepsWell (ask.Route p.key)
  route_step v mid to given fate h = (
    (kept_ring ring v mid (asked_rings v mid to (ask.Route p.key) given tt fate) h.0, fate_fine met fate (λ n. refl) (λ n so. so) h.1),
    ((λ made. is_routed ring v mid to p.key given h.0 fate made), tt),
  )

  pub put_step : StepsWell (put_question p)
  put_step v mid to given fate h = (
    (kept_ring ring v mid (asked_rings v mid to (put_question p) given (put_for_data met p in_met good) fate) h.0, fate_fine met fate (put_me met p in_met good) (put_fine met p in_met good) h.1),
    by (is_head p.kind) (λ made. taken (who_answers ring v mid to (put_question p) given h.0 made fate)),
  )
    where
      taken : Answers ring v to (put_question p) given mid → IsPutTaken to given
      taken (is_silent s l) = (ap is_of_put s ∙ sym l, ap holds s ∙ sym l)
      taken (gives n at me l same next_is) =
          let its = h.1 to.id n at in
          let yes : holds given ≡ true = ap holds same ∙ post_taken n p good (has_room met n.blocks its.store its.among its.kinds p.key (content p.bytes) in_met fits) (has_room met n.blocks its.store its.among its.kinds p.key (head p.bytes) in_met fits) in
          (holds_of_put given yes ∙ sym l, yes ∙ sym l)

      by : (b : Bool) → (IsMade ring to → IsPutTaken to given) → AreTaken (told to (cond b (ask.PutHead p.key p.bytes) (ask.PutBlock p.key p.bytes)) given)
      by true t = (t, tt)
      by false t = (t, tt)

  -- the asks of one question, and others after them
  asks_go : (question : Ask) → StepsWell question → (asks : Told) (tail all : List (Peer × (Ask × Answer))) (v next : World) → all ≡ asking question asks ++ tail → Fates hss_judged v all next → IsWell v
      → (mid : World) × IsWell mid × AreTaken (told_all question asks) × Fates hss_judged mid tail next
  asks_go question step [] tail all v next e fates h = (v, h, tt, subst (λ l. Fates hss_judged v l next) e fates)
  asks_go question step (s ∷ asks) tail all v next e no_fates h = absurd (nil_cons {X = Peer × (Ask × Answer)} (s.0, (question, s.1)) (asking question asks ++ tail) e)
  asks_go question step (s ∷ asks) tail all v next e (more_fates {mid = mid} {rest = rest} to q given fate later) h =
      let same = cons_head {X = Peer × (Ask × Answer)} (to, (q, given)) rest (s.0, (question, s.1)) (asking question asks ++ tail) e in
      let one = step v mid s.0 s.1 (subst (λ (x : Peer × (Ask × Answer)). FateOf hss_judged v x.0 x.1.0 x.1.1 mid) same fate) h in
      let others = asks_go question step asks tail rest mid next (cons_tail {X = Peer × (Ask × Answer)} (to, (q, given)) rest (s.0, (question, s.1)) (asking question asks ++ tail) e) later one.0 in
      (others.0, others.1, each_append (λ (x : Heard). IsTaken x.kind x) (told s.0 question s.1) (told_all question asks) one.1 others.2, others.3)

  pub trail_taken : (looks asks : Told) (v next : World) → Fates hss_judged v (asking (ask.Route p.key) looks ++ asking (put_question p) asks) next → IsWell v → AreTaken (told_all (ask.Route p.key) looks ++ told_all (put_question p) asks)
  trail_taken looks asks v next fates h =
      let one = asks_go (ask.Route p.key) route_step looks (asking (put_question p) asks) (asking (ask.Route p.key) looks ++ asking (put_question p) asks) v next refl fates h in
      let two = asks_go (put_question p) put_step asks [] (asking (put_question p) asks) one.0 next (sym (append-nil (asking (put_question p) asks))) one.3 one.1 in
      each_append (λ (x : Heard). IsTaken x.kind x) (told_all (ask.Route p.key) looks) (told_all (put_question p) asks) one.2 two.2

-- ---- puts

-- a node owns the key
some_first : (k : ℕ) (all : List Peer) (e : Peer) → 1 ≤ k → IsAmong e all → (m : Peer) × IsAmong m (take k all)
some_first zero all e some i = absurd (omega (arith, some))
some_first (suc k) [] e some i = absurd i
some_first (suc k) (q ∷ all) e some i = (q, inl refl)

own_some : (ring : Stretch) (key : Key) → (m : Peer) × IsAmong m (own ring key)
own_some ring key = some_first ring.r (from_place place (order_by ring.base) (number key)) ring.stands.someone ring.stands.covered.positive
    (all_from_place place (order_by ring.base) (number key) ring.stands.someone (ring.stands.covered.living ring.stands.someone ring.stands.lives))

not_missed : (key : Key) (k : ℕ) (t : Peer → Bool) (list : List Peer) (m : Peer) (missed : Miss) → IsAmong m (take k (filter t list)) → outcome key (Some list) ≡ Err missed → ⊥
not_missed key zero t list m missed i e = i
not_missed key (suc k) t [] m missed i e = i
not_missed key (suc k) t (q ∷ list) m missed i e = cc e

-- as many hold it as answer
same_count : (asks : Told) → AllByRecursion (λ s. holds s.1 ≡ is_of_put s.1) asks → answered_in holds asks ≡ answered_in is_of_put asks
same_count asks all = sym (length-filter (λ (s : Peer × Answer). holds s.1) asks) ∙ by asks all ∙ length-filter (λ (s : Peer × Answer). is_of_put s.1) asks
  where
    by : (asks : Told) → AllByRecursion (λ s. holds s.1 ≡ is_of_put s.1) asks → length (filter (λ (s : Peer × Answer). holds s.1) asks) ≡ length (filter (λ (s : Peer × Answer). is_of_put s.1) asks)
    by [] all = refl
    by (s ∷ asks) all = ap (λ b. length (cond b (s ∷ filter (λ (s : Peer × Answer). holds s.1) asks) (filter (λ (s : Peer × Answer). holds s.1) asks))) all.0 ∙ test (is_of_put s.1) (by asks all.1)
      where
        test : (b : Bool) → length (filter (λ (s : Peer × Answer). holds s.1) asks) ≡ length (filter (λ (s : Peer × Answer). is_of_put s.1) asks)
            → length (cond b (s ∷ filter (λ (s : Peer × Answer). holds s.1) asks) (filter (λ (s : Peer × Answer). holds s.1) asks)) ≡ length (cond b (s ∷ filter (λ (s : Peer × Answer). is_of_put s.1) asks) (filter (λ (s : Peer × Answer). is_of_put s.1) asks))
        test true e = ap suc e
        test false e = e

one_holds : (asks : Told) (s : Peer × Answer) → IsAmong s asks → holds s.1 ≡ true → 1 ≤ answered_in holds asks
one_holds asks s i t = let count = length-filter (λ (s : Peer × Answer). holds s.1) asks in let some = long (filter (λ (s : Peer × Answer). holds s.1) asks) (among_filter (λ (s : Peer × Answer). holds s.1) s asks i t) in omega (arith, count, some)
  where
    long : (xs : Told) → IsAmong s xs → 1 ≤ length xs
    long [] i = absurd i
    long (x ∷ xs) i = omega arith

module _ (ring : Stretch) (met : List (List ℕ)) (fits : total met ≤ most_bytes) (p : Post) (in_met : Contains met p.bytes) (good : FitsItsKey p) where
  abbrev Taken : List Heard → Type 0
  Taken trail = AreTaken ring met fits p in_met good trail

  asks_taken : (asks : Told) → Taken (told_all (put_question p) asks) → AllByRecursion (λ s. IsMade ring s.0 → IsPutTaken ring met fits p in_met good s.0 s.1) asks
  asks_taken asks h = by (is_head p.kind) asks h
    where
      by : (b : Bool) (asks : Told) → Taken (told_all (cond b (ask.PutHead p.key p.bytes) (ask.PutBlock p.key p.bytes)) asks) → AllByRecursion (λ s. IsMade ring s.0 → IsPutTaken ring met fits p in_met good s.0 s.1) asks
      by b [] h = tt
      by true (s ∷ asks) h = (h.0, by true asks h.1)
      by false (s ∷ asks) h = (h.0, by false asks h.1)

  looks_routed : (looks : Told) → Taken (told_all (ask.Route p.key) looks) → AllByRecursion (λ s. IsMade ring s.0 → IsRouted ring p.key s.0 s.1) looks
  looks_routed [] h = tt
  looks_routed (s ∷ looks) h = (h.0, looks_routed looks h.1)

  -- of those that were found all owners that live take it, where too few have answered before
  all_taken : (found : List Peer) (asks : Told) (acked : Bool) → take ring.r (filter (λ m. lives ring m) found) ≡ own ring p.key → ((m : Peer) → IsAmong m found → IsMade ring m) → AllByRecursion (λ s. IsMade ring s.0 → IsPutTaken ring met fits p in_met good s.0 s.1) asks
      → IsPutTrail is_of_put holds ring.r found asks acked → acked ≡ true
  all_taken found asks true is made h put = refl
  all_taken found asks false is made h put = absurd (put.ends enough)
    where
      taken_of : (s : Peer × Answer) → IsAmong s asks → IsPutTaken ring met fits p in_met good s.0 s.1
      taken_of s i = all-among (λ (x : Peer × Answer). IsMade ring x.0 → IsPutTaken ring met fits p in_met good x.0 x.1) s asks h i (made s.0 (asked_found found asks put.asks.once put.asks.firsts put.asks.order s i))

      answering : AllByRecursion (λ s. is_of_put s.1 ≡ lives ring s.0) asks
      answering = all_from (λ (s : Peer × Answer). is_of_put s.1 ≡ lives ring s.0) asks (λ s i. (taken_of s i).0)

      counts : answered_in holds asks ≡ answered_in is_of_put asks
      counts = same_count asks (all_from (λ (s : Peer × Answer). holds s.1 ≡ is_of_put s.1) asks (λ s i. let t = taken_of s i in t.1 ∙ sym t.0))

      enough : IsAcknowledged holds ring.r put.asks.once asks
      enough = ⊎_elim
          (λ many. inl (omega (arith, many, counts)))
          (λ whole.
          let m = own_some ring p.key in
          let asked = owner_asked (λ m. lives ring m) is_of_put ring.r ring.stands.covered.positive found (own ring p.key) is (own_distinct ring p.key) asks answering (λ t. ring.r ≤ answered_in is_of_put t) (λ e. e) put.asks m.0 m.1 in
          let s = among_asks m.0 asks asked in
          inr (whole, one_holds asks s.0 s.1 ((taken_of s.0 s.1).1 ∙ subst (λ x. lives ring x ≡ true) (sym s.2) (owner_lives ring p.key m.0 m.1))))
          put.asks.over

  pub put_acked : (w : World) → IsRingOf ring w → (trail : List Heard) (came : Result Bool Miss) → Taken trail → IsPutOfPost ring.r (entries_by ring.base) p trail came → acknowledged came ≡ true
  put_acked w h trail came taken (no_route looks found is l nobody result_is) =
      let so = finds ring w p.key looks found h (looks_routed looks (subst Taken is taken)) l in
      let m = own_some ring p.key in
      absurd (not_missed p.key ring.r (λ x. lives ring x) so.list m.0 (miss.NoRoute p.key) (subst (IsAmong m.0) (sym so.owners_are) m.1) (subst (λ o. outcome p.key o ≡ Err (miss.NoRoute p.key)) so.found_is nobody))
  put_acked w h trail came taken (of_owners looks asks found owned is l some ends) =
      let parts : Taken (told_all (ask.Route p.key) looks ++ told_all (put_question p) asks) = subst Taken is taken in
      let so = finds ring w p.key looks found h (looks_routed looks (all-left (λ (x : Heard). IsTaken ring met fits p in_met good x.kind x) (told_all (ask.Route p.key) looks) (told_all (put_question p) asks) parts)) l in
      let same = owned_is p.key found owned so.list so.found_is some in
      ap acknowledged ends.2 ∙ all_taken owned asks ends.0 (ap (λ (x : List Peer). take ring.r (filter (λ m. lives ring m) x)) same ∙ so.owners_are) (λ m i. so.made m (subst (IsAmong m) same i))
      (asks_taken asks (all-right (λ (x : Heard). IsTaken ring met fits p in_met good x.kind x) (told_all (ask.Route p.key) looks) (told_all (put_question p) asks) parts)) ends.1

-- what nodes hold, up to what is met later
pub all_fine : (met : List (List ℕ)) (v : Played) → Invariant v → AreOrderly v.0 v.0 → ((b : List ℕ) → Contains v.0.met b → Contains met b) → AreFine met v.0
all_fine met v keeps orderly more id n at =
    let its = each _ v.0.nodes n keeps.met.held (found_in (λ (m : Node). eq_by_cmp key_cmp (peer_of m).id id) v.0.nodes n at) in
    record {
      store = its.0;
      among = all_weaker (λ (x : Key × Block). Contains v.0.met x.1.bytes) (λ (x : Key × Block). Contains met x.1.bytes) n.blocks (λ x c. more x.1.bytes c) its.1;
      kinds = kinds_of v.0 orderly id n at;
    }

pub puts_are_acknowledged : PutsAreAcknowledged
puts_are_acknowledged r w next count lines p looks asks came calm fits in_met good fates whole =
    let world = calm_world r w count lines calm in
    let ring = ring_of r w world in
    put_acked ring w.0.met fits p in_met good w.0 world.state.still (told_all (ask.Route p.key) looks ++ told_all (put_question p) asks) came
    (trail_taken ring w.0.met fits p in_met good looks asks w.0 next fates (world.state.still, all_fine w.0.met w world.keeps world.state.good.orderly (λ b m. m)))
    (subst (λ es. IsPutOfPost r es p (told_all (ask.Route p.key) looks ++ told_all (put_question p) asks) came) (entries_are ring w.0 world.state.still) whole)
