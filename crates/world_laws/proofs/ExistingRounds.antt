-- The first three parts of a round can be done in each ring: a silent predecessor is forgotten, lists are renewed, and fingers are fixed.
use Rattle.std.proofs.Common.{◌≡◌, ◌≢◌, ◌⊎◌, inl, inr, ℕ, zero, suc, ◌+◌, ◌*◌, ◌/◌, ◌%◌, ◌^◌, ◌<◌, List, [], ◌∷◌, length, map, Option, Some, None, refl, sym, ap, ◌∙◌, subst, arith, Contains, nat_lt}
use Rattle.std.specs.Prelude.{IfSome, IsTrue}
use Rattle.std.specs.List.{AllByRecursion, list_all}
use Rattle.std.proofs.Math.Nat.{div-lt_iff_lt-mul, mod-lt}
use Rattle.std.proofs.lemmas.Bool.{lt-ltb}
use Rattle.std.proofs.lemmas.Nat.{div-add-mod'}
use Rattle.ivy_base.specs.declared.key.Key.{Key}
use Rattle.dhash_model.specs.Signed.{hss_judged}
use Rattle.log_model.proofs.Lists.{both}
use Rattle.log_model.specs.Spelling.{IsKey}
use Rattle.ring_model.specs.Circle.{be_number, number}
use Rattle.ring_model.specs.Members.{IsAmong}
use Rattle.ring_model.specs.Ring.{Links, start as finger_start}
use Rattle.ring_model.specs.Round.{with_finger}
use Rattle.dht_ids.proofs.Numbers.{pow_more, pow_pos}
use Rattle.dht_ids.specs.Peers.{place}
use Rattle.dht_ids.specs.declared.ask.Answer.{Answer}
use Rattle.dht_ids.specs.declared.ask.Answer.TheVariants as answer
use Rattle.dht_ids.specs.declared.ask.Ask.{Ask}
use Rattle.dht_ids.specs.declared.ask.Ask.TheVariants as ask
use Rattle.dht_ids.specs.declared.peer.Peer.{Peer}
use Rattle.dhash_model.specs.State.{State, stabilised, with_links}
use Rattle.world_model.specs.Fates.{FateOf}
use Rattle.world_model.specs.Fates.FateOf.{lost, stopped, answers}
use Rattle.world_model.specs.Nodes.{Node}
use Rattle.world_model.specs.Rounds.{EachDoes, FixesFinger, FixesFrom, Forgets, ManyDo, Notifies, Stabilises, listing_now}
use Rattle.world_model.specs.Rounds.EachDoes.{done as each_done, next as each_next}
use Rattle.world_model.specs.Rounds.FixesFrom.{done as fixes_done, next as fixes_next}
use Rattle.world_model.specs.Rounds.Forgets.{has_none, keeps, forgets}
use Rattle.world_model.specs.Rounds.ManyDo.{none as many_none, again as many_again}
use Rattle.world_model.specs.Rounds.Notifies.{nobody, notifies}
use Rattle.world_model.specs.Rounds.Stabilises.{alone, drops, hears}
use Rattle.world_model.specs.World.{World, node_at, peer_of, with_node}
use Rattle.round_laws.proofs.Fixing.{fixed_finger}
use Rattle.round_laws.proofs.Forgetting.{near_keeps}
use Rattle.round_laws.proofs.Nodes.{Shape, at, at_id, at_same, made_by, made_shape, replaced}
use Rattle.round_laws.proofs.Passing.{noticed}
use Rattle.round_laws.proofs.Renewing.{all_renewed}
use Rattle.round_laws.proofs.Repairing.{kept_look_up}
use Rattle.round_laws.proofs.Rounding.{nodes_of}
use Rattle.round_laws.proofs.Standing.{IsBase, IsWithin, KeepsRing, fated, knows_of, node_made, relinked, still_asked}
use Rattle.world_laws.proofs.ExistingAsks.{HasFound, looks_up}
use Rattle.world_laws.proofs.ExistingFates.{Serves, some_fate}
use Rattle.world_laws.proofs.NodeFates.{PutsMet, fate_met, fate_rest, from_among}
use Rattle.world_laws.proofs.RoundBlocks.{AllHold, placed_hold}

-- ---- the identifier of each place

-- a number in so many digits
digits : (k x : ℕ) → x < 256 ^ k → (bs : List ℕ) × (length bs ≡ k) × IsTrue (list_all (λ b. nat_lt b 256) bs) × (be_number bs ≡ x)
digits zero x h = ([], refl, refl, omega (arith, h))
digits (suc k) x h =
    let pos = pow_pos k in
    let few : x / 256 ^ k < 256 = (div-lt_iff_lt-mul {k = 256 ^ k} {x = x} {y = 256} pos).1 (subst (λ (n : ℕ). x < n) (one_more k) h) in
    let rest = digits k (x % 256 ^ k) (mod-lt x pos) in (
      x / 256 ^ k ∷ rest.0,
      ap suc rest.1,
      both (nat_lt (x / 256 ^ k) 256) (list_all (λ b. nat_lt b 256) rest.0) (lt-ltb (x / 256 ^ k) 256 few) rest.2,
      ap (λ (n : ℕ). x / 256 ^ k * 256 ^ n + be_number rest.0) rest.1 ∙ ap (λ (n : ℕ). x / 256 ^ k * 256 ^ k + n) rest.3 ∙ div-add-mod' x (256 ^ k),
    )
  where
    one_more : (n : ℕ) → 256 ^ suc n ≡ 256 * 256 ^ n
    one_more n = ap (λ (m : ℕ). 256 ^ m) (omega arith) ∙ pow_more n

pub some_key : (x : ℕ) → x < 2 ^ 160 → (key : Key) × IsKey key × (number key ≡ x)
some_key x h = (let bs = digits 20 x h in (record { 0 = bs.0 }, record { size = bs.1; each = bs.2 }, bs.3))

-- ---- worlds of a round

decide_silent : (given : Answer) → (given ≡ answer.Silent) ⊎ (given ≢ answer.Silent)
decide_silent answer.Silent = inl refl
decide_silent given = inr (λ e. cc e)

-- what a live node answers of its predecessor and its list
abbrev NearIs : (Peer → Type 0) → Answer → Type 0
NearIs P (answer.Near before list) = IfSome before P × AllByRecursion P list
NearIs P _ = Unit {0}

new_list : (P : Peer → Type 0) (node : State) (f : Peer) (rest : List Peer) (given : Answer) → NearIs P given → P f → AllByRecursion P rest → AllByRecursion P (stabilised node (f ∷ rest) given)
new_list P node f rest (answer.Near before list) near first others = all_renewed P node.replicas node.me f before list first near.0 near.1
new_list P node f rest answer.Silent near first others = others
new_list P node f rest (answer.Route nearer owners) near first others = (first, others)
new_list P node f rest (answer.Found bytes) near first others = (first, others)
new_list P node f rest answer.Nothing near first others = (first, others)
new_list P node f rest answer.Stored near first others = (first, others)
new_list P node f rest (answer.Refused why) near first others = (first, others)
new_list P node f rest answer.Noted near first others = (first, others)

module _ (r : ℕ) (base : List Shape) (planned : List ℕ) (start end : ℕ) (b : IsBase r base planned start end) (met : List (List ℕ)) where
  abbrev pub IsMade : Peer → Type 0
  IsMade p = IsAmong p (made_by base)

  -- of the same nodes, which hold what was met
  pub record Fine (w : World) : Type 0 where
    pub within : IsWithin base planned start w
    pub holds : AllHold met w
    pub same_met : w.met ≡ met

  pub same_peers : (w : World) → Fine w → map peer_of w.nodes ≡ made_by base
  same_peers w fine = made_shape w.nodes ∙ ap made_by fine.within.shapes

  made_in : (w : World) → Fine w → (p : Peer) → IsMade p → Contains (map peer_of w.nodes) p
  made_in w fine p made = from_among p (map peer_of w.nodes) (subst (IsAmong p) (sym (same_peers w fine)) made)

  pub serves_in : (w : World) → Fine w → Serves r (made_by base) met w
  serves_in w fine = record { ring = nodes_of r base planned start end w b fine.within; held = fine.holds; same_peers = same_peers w fine; same_met = fine.same_met }

  -- an ask that changes nothing of the ring
  pub record IsAskedIn (w : World) (to : Peer) (question : Ask) : Type 0 where
    pub given : Answer
    pub next : World
    pub fate : FateOf hss_judged w to question given next
    pub fine : Fine next

  pub ask_in : (w : World) → Fine w → (to : Peer) → IsMade to → (question : Ask) → KeepsRing hss_judged question → PutsMet met question → IsAskedIn w to question
  ask_in w fine to made question keep puts_met =
      let f = some_fate w to question (made_in w fine to made) in
      record {
        given = f.given;
        next = f.next;
        fate = f.fate;
        fine = record {
          within = (still_asked hss_judged r base planned start end b w f.next to question f.given fine.within keep (fated hss_judged r base planned start end b w f.next to question f.given fine.within f.fate)).within;
          holds = fate_met hss_judged met w f.next to question f.given puts_met fine.holds f.fate;
          same_met = ap (λ (v : World). v.met) (fate_rest f.fate) ∙ fine.same_met;
        };
      }

  -- one node's links are changed
  relink : (w : World) → Fine w → (p : Peer) → IsMade p → (n : Node) → node_at w p.id ≡ Some n → (links : Links Peer) → knows_of (made_by base) links → Fine (with_node w (record n { ring = with_links n.ring links }))
  relink w fine p made n is links knows = record {
    within = (relinked hss_judged r base planned start end b w p n links fine.within made is knows).within;
    holds = placed_hold met w p.id n (record n { ring = with_links n.ring links }) is refl fine.holds;
    same_met = fine.same_met;
  }

  pub own : (w : World) → Fine w → (p : Peer) → IsMade p → (n : Node) × (node_at w p.id ≡ Some n)
  own w fine p made = node_made hss_judged r base planned start end b w p fine.within made

  -- what is done by a node, from such a world to such a world
  abbrev pub MayDoAt : (World → Peer → World → Type 0) → Type 0
  MayDoAt Does = (w : World) → Fine w → (p : Peer) → IsMade p → (next : World) × Does w p next × Fine next

  pub by_each : (Does : World → Peer → World → Type 0) → MayDoAt Does → (ps : List Peer) → AllByRecursion IsMade ps → (w : World) → Fine w → (next : World) × EachDoes Does w ps next × Fine next
  by_each Does may [] made w fine = (w, each_done, fine)
  by_each Does may (p ∷ ps) made w fine = (let one = may w fine p made.0 in let others = by_each Does may ps made.1 one.0 one.2 in (others.0, each_next one.1 others.1, others.2))

  pub many_times : (Does : World → List Peer → World → Type 0) (ps : List Peer) → ((w : World) → Fine w → (next : World) × Does w ps next × Fine next) → (k : ℕ) (w : World) → Fine w → (next : World) × ManyDo Does ps k w next × Fine next
  many_times Does ps may zero w fine = (w, many_none, fine)
  many_times Does ps may (suc k) w fine = (let one = may w fine in let others = many_times Does ps may k one.0 one.2 in (others.0, many_again one.1 others.1, others.2))

  -- ---- 1

  forgets_by : (w : World) → Fine w → (p : Peer) → IsMade p → (n : Node) → node_at w p.id ≡ Some n → (o : Option Peer) → n.ring.links.before ≡ o → (next : World) × Forgets hss_judged w p next × Fine next
  forgets_by w fine p made n is None none = (w, has_none n is none, fine)
  forgets_by w fine p made n is (Some q) before =
      let made_q : IsMade q = subst (λ (o : Option Peer). IfSome o IsMade) before (fine.within.known p.id n is).before in
      by_answer q before (ask_in w fine q made_q ask.Near (near_keeps hss_judged) tt)
    where
      by_silence : (q : Peer) → n.ring.links.before ≡ Some q → (a : IsAskedIn w q ask.Near) → (a.given ≡ answer.Silent) ⊎ (a.given ≢ answer.Silent) → (next : World) × Forgets hss_judged w p next × Fine next
      by_silence q before a (inr heard) = (a.next, keeps n q a.given a.next is before a.fate heard, a.fine)
      by_silence q before a (inl silent) =
          let m = own a.next a.fine p made in
          let known = a.fine.within.known p.id m.0 m.1 in (
            with_node a.next (record m.0 { ring = with_links m.0.ring (record m.0.ring.links { before = None }) }),
            forgets n m.0 q a.next is before (subst (λ (x : Answer). FateOf hss_judged w q ask.Near x a.next) silent a.fate) m.1,
            relink a.next a.fine p made m.0 m.1 (record m.0.ring.links { before = None }) (known.list, known.fingers, tt),
          )

      by_answer : (q : Peer) → n.ring.links.before ≡ Some q → IsAskedIn w q ask.Near → (next : World) × Forgets hss_judged w p next × Fine next
      by_answer q before a = by_silence q before a (decide_silent a.given)

  pub forgets_some : MayDoAt (Forgets hss_judged)
  forgets_some w fine p made = (let n = own w fine p made in forgets_by w fine p made n.0 n.1 n.0.ring.links.before refl)

  -- ---- 2

  near_is : (w mid : World) (to : Peer) (given : Answer) → Fine w → FateOf hss_judged w to ask.Near given mid → NearIs IsMade given
  near_is w _ to _ fine (lost l) = tt
  near_is w _ to _ fine (stopped n l is dead) = tt
  near_is w _ to _ fine (answers n l is live) = (let known = fine.within.known to.id n is in (known.before, known.list))

  notifies_some : (p : Peer) → IsMade p → (w : World) → Fine w → (list : List Peer) → AllByRecursion IsMade list → (next : World) × Notifies hss_judged p w list next × Fine next
  notifies_some p made w fine [] all = (w, nobody, fine)
  notifies_some p made w fine (f ∷ rest) all =
      let a = some_fate w f (ask.Notify p) (made_in w fine f all.0) in
      let does : Notifies hss_judged p w (f ∷ rest) a.next = notifies f rest a.given a.next a.fate in (
        a.next,
        does,
        record {
          within = (noticed hss_judged r base planned start end b w a.next p (f ∷ rest) fine.within made all does).within;
          holds = fate_met hss_judged met w a.next f (ask.Notify p) a.given tt fine.holds a.fate;
          same_met = ap (λ (v : World). v.met) (fate_rest a.fate) ∙ fine.same_met;
        },
      )

  -- a node in its place lists others
  relist : (w : World) → Fine w → (p : Peer) → IsMade p → (m : Node) → node_at w p.id ≡ Some m → (list : List Peer) → AllByRecursion IsMade list → Fine (with_node w (listing_now m list)) × (node_at (with_node w (listing_now m list)) p.id ≡ Some (listing_now m list))
  relist w fine p made m is list all =
      let known = fine.within.known p.id m is in
      let here : at w.nodes (peer_of m).id ≡ Some m = subst (λ (id : Key). at w.nodes id ≡ Some m) (sym (at_id w.nodes p.id m is)) is in (
        relink w fine p made m is (record m.ring.links { list = list }) (all, known.fingers, known.before),
        subst (λ (id : Key). at (replaced (listing_now m list) w.nodes) id ≡ Some (listing_now m list)) (at_id w.nodes p.id m is) (at_same w.nodes (listing_now m list) m here),
      )

  stabilises_from : (p : Peer) → IsMade p → (list : List Peer) → AllByRecursion IsMade list → (w : World) → Fine w → (n : Node) → node_at w p.id ≡ Some n → n.ring.links.list ≡ list → (next : World) × Stabilises hss_judged p w next × Fine next
  stabilises_from p made [] all w fine n is listed = (w, alone n is listed, fine)
  stabilises_from p made (f ∷ rest) all w fine n is listed =
      let a = ask_in w fine f all.0 ask.Near (near_keeps hss_judged) tt in
      let m = own a.next a.fine p made in
      by_answer a m.0 m.1 (λ fine_v at_v. stabilises_from p made rest all.1 (with_node a.next (listing_now m.0 rest)) fine_v (listing_now m.0 rest) at_v refl) (decide_silent a.given)
    where
      by_answer : (a : IsAskedIn w f ask.Near) (m : Node) → node_at a.next p.id ≡ Some m
          → (Fine (with_node a.next (listing_now m rest)) → node_at (with_node a.next (listing_now m rest)) p.id ≡ Some (listing_now m rest) → (next : World) × Stabilises hss_judged p (with_node a.next (listing_now m rest)) next × Fine next)
          → (a.given ≡ answer.Silent) ⊎ (a.given ≢ answer.Silent) → (next : World) × Stabilises hss_judged p w next × Fine next
      by_answer a m is_m later (inl silent) =
          let v = relist a.next a.fine p made m is_m rest all.1 in
          let others = later v.0 v.1 in
          (others.0, drops n m f rest a.next is listed (subst (λ (x : Answer). FateOf hss_judged w f ask.Near x a.next) silent a.fate) is_m others.1, others.2)
      by_answer a m is_m later (inr heard) =
          let listing = new_list IsMade m.ring f rest a.given (near_is w a.next f a.given fine a.fate) all.0 all.1 in
          let v = relist a.next a.fine p made m is_m (stabilised m.ring (f ∷ rest) a.given) listing in
          let tells = notifies_some p made (with_node a.next (listing_now m (stabilised m.ring (f ∷ rest) a.given))) v.0 (stabilised m.ring (f ∷ rest) a.given) listing in
          (tells.0, hears n m f rest a.given a.next is listed a.fate heard is_m tells.1, tells.2)

  pub stabilises_some : MayDoAt (λ v p. Stabilises hss_judged p v)
  stabilises_some w fine p made = (let n = own w fine p made in stabilises_from p made n.0.ring.links.list (fine.within.known p.id n.0 n.1).list w fine n.0 n.1 refl)

  -- ---- 3

  -- after a look-up the worlds are as before
  pub looked_fine : (w : World) → Fine w → (key : Key) (p : Peer) (h : HasFound r (made_by base) met w key (p ∷ [])) → Fine h.next
  looked_fine w fine key p h = record {
    within = (kept_look_up hss_judged r base planned start end b key (p ∷ []) h.found w h.next fine.within h.looks).within;
    holds = h.serves.held;
    same_met = h.serves.same_met;
  }

  fixes_by : (k : ℕ) (w : World) → Fine w → (p : Peer) → IsMade p → (key : Key) → IsKey key → number key ≡ finger_start place 160 p k → HasFound r (made_by base) met w key (p ∷ []) → (next : World) × FixesFinger hss_judged p k w next × Fine next
  fixes_by k w fine p made key is_key starts h =
      let mid : Fine h.next = looked_fine w fine key p h in
      let n = own h.next mid p made in
      let next : World = with_node h.next (record n.0 { ring = with_links n.0.ring (with_finger k h.found n.0.ring.links) }) in
      let fixes : FixesFinger hss_judged p k w next = record { key = key; is_key = is_key; starts = starts; found = h.found; mid = h.next; looks = h.looks; node = n.0; is_node = n.1; fixed = refl } in (
        next,
        fixes,
        record {
          within = (fixed_finger hss_judged r base planned start end b p k w next fine.within made fixes).within;
          holds = placed_hold met h.next p.id n.0 (record n.0 { ring = with_links n.0.ring (with_finger k h.found n.0.ring.links) }) n.1 refl mid.holds;
          same_met = mid.same_met;
        },
      )

  fixes_finger : (k : ℕ) → MayDoAt (λ v p. FixesFinger hss_judged p k v)
  fixes_finger k w fine p made =
      let key = some_key (finger_start place 160 p k) (mod-lt (place p + 2 ^ k) (omega arith)) in
      fixes_by k w fine p made key.0 key.1 key.2 (looks_up r (made_by base) met w (serves_in w fine) key.0 (p ∷ []) (from_among p (made_by base) made, tt))

  fixes_from : (k count : ℕ) → MayDoAt (λ v p. FixesFrom hss_judged p k count v)
  fixes_from k zero w fine p made = (w, fixes_done, fine)
  fixes_from k (suc count) w fine p made = (let one = fixes_finger k w fine p made in let others = fixes_from (suc k) count one.0 one.2 p made in (others.0, fixes_next one.1 others.1, others.2))

  pub fixes_all : MayDoAt (λ v p. FixesFrom hss_judged p 0 160 v)
  fixes_all w fine p made = fixes_from 0 160 w fine p made
