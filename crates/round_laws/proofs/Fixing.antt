-- The third part of a round: the fingers, each by a look-up.
use Rattle.std.proofs.Common.{◌≡◌, inl, inr, ⊎_elim, ℕ, zero, suc, ◌+◌, ◌*◌, ◌<◌, ◌≤◌, Bool, true, false, cond, List, [], ◌∷◌, ◌++◌, set, filter, length, refl, sym, ap, ◌∙◌, subst, Option, Some, None, IfSome, arith, le_refl, not, nat_lt}
use Rattle.std.specs.List.{AllByRecursion}
use Rattle.std.proofs.lemmas.Bool.{cases_lt}
use Rattle.ivy_base.specs.declared.key.Key.{Key}
use Rattle.ring_model.specs.Arc.{is_strictly_between}
use Rattle.ring_model.specs.Circle.{number}
use Rattle.ring_model.specs.Members.{IsAmong}
use Rattle.ring_model.specs.Ring.{Links}
use Rattle.ring_model.specs.Route.{Route, HasOneAtEach, IsRoute, nearer_part, owners_part}
use Rattle.ring_model.specs.Lookup.{IsLookup, IsFate}
use Rattle.ring_model.specs.Lookup.IsLookup.{over, spent, known as asked_before, silent as was_silent, answered as has_answered}
use Rattle.ring_model.specs.Round.{AreFingersFixed, AreFixed, IsFingerFixed, with_finger}
use Rattle.ring_model.specs.Round.AreFixed.{fixed as all_fixed, fixes as one_fixed}
use Rattle.ring_model.proofs.Lists.{all-among, all-both, all_from, among-cases, among-left, among-right, cons_head, cons_tail, nil_cons, filter_gives, all_weaker}
use Rattle.ring_model.proofs.Routes.{route_is}
use Rattle.dht_ids.specs.Asked.{route_in, routes}
use Rattle.dht_ids.specs.declared.ask.Answer.{Answer}
use Rattle.dht_ids.specs.declared.ask.Ask.{Ask}
use Rattle.dht_ids.specs.declared.ask.Ask.TheVariants as ask
use Rattle.dht_ids.specs.declared.judge.Judged.{Judged}
use Rattle.dht_ids.specs.declared.peer.Peer.{Peer}
use Rattle.dht_ids.specs.Peers.{place}
use Rattle.dhash_model.specs.Execution.{Told}
use Rattle.world_model.specs.World.{World}
use Rattle.world_model.specs.Fates.{FateOf, Fates, asking}
use Rattle.world_model.specs.Fates.Fates.{none as no_asks, more as one_ask}
use Rattle.world_model.specs.Ring.{LooksUp}
use Rattle.world_model.specs.Rounds.{EachDoes, FixesFinger, FixesFrom}
use Rattle.world_model.specs.Rounds.EachDoes.{done, next as then_does}
use Rattle.world_model.specs.Rounds.FixesFrom.{done as no_more, next as then_fixes}
use Rattle.round_laws.specs.RingOf.{AreApart, links_in}
use Rattle.round_laws.proofs.Nodes.{Shape, lives_by, made_by}
use Rattle.round_laws.proofs.Standing.{Fated, IsBase, IsWithin, KeepsRing, fate_grows, fated, relinked, stands, still_asked}
use Rattle.round_laws.proofs.Standing.Fated.{silence, heard}

pub route_keeps : (judged : Key → List ℕ → Option Judged) (key : Key) → KeepsRing judged (ask.Route key)
route_keeps judged key n = (refl, refl)

-- ---- asks one after the other

pub fates_none : (judged : Key → List ℕ → Option Judged) (w next : World) (asks : List (Peer × (Ask × Answer))) → asks ≡ [] → Fates judged w asks next → w ≡ next
fates_none judged w next asks e no_asks = refl
fates_none judged w next asks e (one_ask {rest = rest} to question given fate others) = absurd (nil_cons {X = Peer × (Ask × Answer)} (to, (question, given)) rest (sym e))

pub record First (judged : Key → List ℕ → Option Judged) (w next : World) (to : Peer) (question : Ask) (given : Answer) (rest : List (Peer × (Ask × Answer))) : Type 0 where
  pub mid : World
  pub fate : FateOf judged w to question given mid
  pub others : Fates judged mid rest next

pub fates_first : (judged : Key → List ℕ → Option Judged) (w next : World) (asks : List (Peer × (Ask × Answer))) (to : Peer) (question : Ask) (given : Answer) (rest : List (Peer × (Ask × Answer)))
    → asks ≡ (to, (question, given)) ∷ rest → Fates judged w asks next → First judged w next to question given rest
fates_first judged w next asks to question given rest e no_asks = absurd (nil_cons {X = Peer × (Ask × Answer)} (to, (question, given)) rest e)
fates_first judged w next asks to question given rest e (one_ask {mid = mid} {rest = others} to2 question2 given2 fate later) = record {
  mid = mid;
  fate = subst (λ (t : Peer × (Ask × Answer)). FateOf judged w t.0 t.1.0 t.1.1 mid) (cons_head {X = Peer × (Ask × Answer)} (to2, (question2, given2)) others (to, (question, given)) rest e) fate;
  others = subst (λ l. Fates judged mid l next) (cons_tail {X = Peer × (Ask × Answer)} (to2, (question2, given2)) others (to, (question, given)) rest e) later;
}

-- ---- peers that stand apart

pub one_at_place : (ps : List Peer) (x y : Peer) → AreApart ps → IsAmong x ps → IsAmong y ps → place x ≡ place y → x ≡ y
one_at_place [] x y a i j s = elim i [ ]
one_at_place (p ∷ ps) x y a (inl e) (inl f) s = sym e ∙ f
one_at_place (p ∷ ps) x y a (inl e) (inr j) s = absurd (all-among (λ z. place p ≡ place z → ⊥) y ps a.0 j (ap place e ∙ s))
one_at_place (p ∷ ps) x y a (inr i) (inl f) s = absurd (all-among (λ z. place p ≡ place z → ⊥) x ps a.0 i (ap place f ∙ sym s))
one_at_place (p ∷ ps) x y a (inr i) (inr j) s = one_at_place ps x y a.1 i j s

-- ---- turns

pub turns : Peer → ℕ → ℕ → List (Peer × ℕ)
turns p k zero = []
turns p k (suc count) = (p, k) ∷ turns p (suc k) count

turns_all : (p : Peer) (k count j : ℕ) → k ≤ j → j < k + count → IsAmong (p, j) (turns p k count)
unfolding turns
turns_all p k zero j l h = absurd (omega (arith, l, h))
turns_all p k (suc count) j l h =
    ⊎_elim
    (λ m. inr (turns_all p (suc k) count j (omega (arith, m)) (omega (arith, h))))
    (λ m. let e : k ≡ j = omega (arith, l, m) in inl (ap (λ (x : ℕ). (p, x)) e))
    (cases_lt k j)

turns_only : (p n : Peer) (k count j : ℕ) → IsAmong (n, j) (turns p k count) → (p ≡ n) × (k ≤ j) × (j < k + count)
unfolding turns
turns_only p n k zero j h = elim h [ ]
turns_only p n k (suc count) j (inl e) = let s : k ≡ j = ap (λ (t : Peer × ℕ). t.1) e in (ap (λ (t : Peer × ℕ). t.0) e, omega (arith, s), omega (arith, s))
turns_only p n k (suc count) j (inr h) = let r = turns_only p n (suc k) count j h in (r.0, omega (arith, r.1), omega (arith, r.2))

pub all_turns : ℕ → List Peer → List (Peer × ℕ)
all_turns count [] = []
all_turns count (p ∷ ps) = turns p 0 count ++ all_turns count ps

pub each_turn : (count : ℕ) (ps : List Peer) (n : Peer) (k : ℕ) → IsAmong n ps → k < count → IsAmong (n, k) (all_turns count ps)
unfolding all_turns
each_turn count [] n k h l = elim h [ ]
each_turn count (p ∷ ps) n k (inl e) l = subst (λ (x : Peer). IsAmong {X = Peer × ℕ} (x, k) (turns p 0 count ++ all_turns count ps)) e (among-left {X = Peer × ℕ} (p, k) (turns p 0 count) (all_turns count ps) (turns_all p 0 count k (omega arith) (omega (arith, l))))
each_turn count (p ∷ ps) n k (inr h) l = among-right {X = Peer × ℕ} (n, k) (turns p 0 count) (all_turns count ps) (each_turn count ps n k h l)

pub only_turns : (count : ℕ) (ps : List Peer) (n : Peer) (k : ℕ) → IsAmong (n, k) (all_turns count ps) → IsAmong n ps × (k < count)
unfolding all_turns
only_turns count [] n k h = elim h [ ]
only_turns count (p ∷ ps) n k h =
    ⊎_elim
    (λ i. let t = turns_only p n 0 count k i in (inl t.0, omega (arith, t.2)))
    (λ i. let t = only_turns count ps n k i in (inr t.0, t.1))
    (among-cases {X = Peer × ℕ} (n, k) (turns p 0 count) (all_turns count ps) h)

fixed_both : (r : ℕ) (lives : Peer → Bool) {xs : List (Peer × ℕ)} (ys : List (Peer × ℕ)) {old mid : Peer → Links Peer} (new : Peer → Links Peer) → AreFixed place r 160 lives xs old mid → AreFixed place r 160 lives ys mid new → AreFixed place r 160 lives (xs ++ ys) old new
fixed_both r lives ys new all_fixed g = g
fixed_both r lives ys new (one_fixed h rest) g = one_fixed h (fixed_both r lives ys new rest g)

all_set : (P : Peer → Type 0) (xs : List Peer) (k : ℕ) (f : Peer) → AllByRecursion P xs → P f → AllByRecursion P (set xs k f)
all_set P [] k f a h = tt
all_set P (x ∷ xs) zero f a h = (h, a.1)
all_set P (x ∷ xs) (suc k) f a h = (a.0, all_set P xs k f a.1 h)

module _ (judged : Key → List ℕ → Option Judged) (r : ℕ) (base : List Shape) (planned : List ℕ) (start end : ℕ) (b : IsBase r base planned start end) where
  abbrev AllMade : List Peer → Type 0
  AllMade ps = AllByRecursion (λ q. IsAmong q (made_by base)) ps

  -- ---- one ask for a route

  pub record Routed (key : Key) (s : Peer × Answer) (w next : World) : Type 0 where
    pub within : IsWithin base planned start next
    pub grows : w.asked ≤ next.asked
    pub links : links_in next ≡ links_in w
    pub fate : next.asked ≤ end → IsFate place r (lives_by base) (links_in w) (number key) (s.0, route_in s.1)
    pub made : IfSome (route_in s.1) (λ route. AllMade route.nearer × AllMade route.owners)

  computed : (replicas : ℕ) (p me : Peer) (links now : Links Peer) (key : ℕ) → me ≡ p → replicas ≡ r → now ≡ links → HasOneAtEach place now
      → IsRoute place r p now key (record { nearer = nearer_part place me links key; owners = owners_part place replicas me links.list key })
  computed replicas p me links now key m s e one =
      subst (λ (n : Peer). IsRoute place r p now key (record { nearer = nearer_part place n links key; owners = owners_part place replicas n links.list key })) (sym m)
      (subst (λ k. IsRoute place r p now key (record { nearer = nearer_part place p links key; owners = owners_part place k p links.list key })) (sym s)
      (subst (λ (l : Links Peer). IsRoute place r p now key (record { nearer = nearer_part place p l key; owners = owners_part place r p l.list key })) e
      (route_is place r p now key one)))

  owners_made : (replicas : ℕ) (n : Peer) (list : List Peer) (key : ℕ) → IsAmong n (made_by base) → AllMade list → AllMade (owners_part place replicas n list key)
  owners_made replicas n list key made all =
      all-both (λ q. IsAmong q (made_by base)) (filter (λ m. not (is_strictly_between (place n) (place m) key)) list) (cond (nat_lt (length list) (2 * replicas)) (n ∷ []) [])
      (filter_gives (λ m. not (is_strictly_between (place n) (place m) key)) (λ q. IsAmong q (made_by base)) list (all_weaker (λ q. IsAmong q (made_by base)) (λ q. not (is_strictly_between (place n) (place q) key) ≡ true → IsAmong q (made_by base)) list (λ q i t. i) all))
      (by (nat_lt (length list) (2 * replicas)))
    where
      by : (t : Bool) → AllMade (cond t (n ∷ []) [])
      by true = (made, tt)
      by false = tt

  pub routed : (key : Key) (s : Peer × Answer) (w next : World) → IsWithin base planned start w → IsAmong s.0 (made_by base) → FateOf judged w s.0 (ask.Route key) s.1 next → Routed key s w next
  routed key s w next h made fate = by (fated judged r base planned start end b w next s.0 (ask.Route key) s.1 h fate)
    where
      by : Fated judged r base planned start end b w s.0 (ask.Route key) s.1 next → Routed key s w next
      by (silence g m l) =
          let a = still_asked judged r base planned start end b w next s.0 (ask.Route key) s.1 h (route_keeps judged key) (silence g m l) in
          record {
            within = a.within;
            grows = fate_grows judged w next s.0 (ask.Route key) s.1 fate;
            links = a.links;
            fate = λ q. subst (λ (x : Answer). IsFate place r (lives_by base) (links_in w) (number key) (s.0, route_in x)) (sym g) (l q);
            made = subst (λ (x : Answer). IfSome (route_in x) (λ route. AllMade route.nearer × AllMade route.owners)) (sym g) tt;
          }
      by (heard n e t g m) =
          let a = still_asked judged r base planned start end b w next s.0 (ask.Route key) s.1 h (route_keeps judged key) (heard n e t g m) in
          let at = stands judged r base planned start end b w s.0 n h made e in
          let k = h.known s.0.id n e in
          let all_list : AllMade (links_in w s.0).list = subst (λ (l : Links Peer). AllMade l.list) (sym at.links) k.list in
          let all_fingers : AllMade (links_in w s.0).fingers = subst (λ (l : Links Peer). AllMade l.fingers) (sym at.links) k.fingers in
          let all : AllMade ((links_in w s.0).list ++ (links_in w s.0).fingers) = all-both (λ q. IsAmong q (made_by base)) (links_in w s.0).list (links_in w s.0).fingers all_list all_fingers in
          let member : (x : Peer) → IsAmong x ((links_in w s.0).list ++ (links_in w s.0).fingers) → IsAmong x (made_by base) =
          λ x i. all-among (λ q. IsAmong q (made_by base)) x ((links_in w s.0).list ++ (links_in w s.0).fingers) all i in
          let one : HasOneAtEach place (links_in w s.0) = λ x y i j same. one_at_place (made_by base) x y b.apart (member x i) (member y j) same in
          let route = computed n.ring.replicas s.0 n.ring.me n.ring.links (links_in w s.0) (number key) at.me at.replicas at.links one in
          record {
            within = a.within;
            grows = fate_grows judged w next s.0 (ask.Route key) s.1 fate;
            links = a.links;
            fate = λ q. subst (λ (x : Answer). IsFate place r (lives_by base) (links_in w) (number key) (s.0, route_in x)) (sym g) (at.live ∙ t, route);
            made = subst (λ (x : Answer). IfSome (route_in x) (λ route. AllMade route.nearer × AllMade route.owners)) (sym g) (
              all_from (λ q. IsAmong q (made_by base)) (nearer_part place n.ring.me n.ring.links (number key)) (λ x i. member x (route.from x i)),
              owners_made n.ring.replicas n.ring.me n.ring.links.list (number key) (subst (λ x. IsAmong x (made_by base)) (sym at.me) made) k.list,
            );
          }

  -- ---- a look-up

  pub record Looked (key : Key) (trail : List (Peer × Option (Route Peer))) (found : Option (List Peer)) (w next : World) : Type 0 where
    pub within : IsWithin base planned start next
    pub grows : w.asked ≤ next.asked
    pub links : links_in next ≡ links_in w
    pub made : IfSome found AllMade
    pub fates : next.asked ≤ end → AllByRecursion (IsFate place r (lives_by base) (links_in w) (number key)) trail

  none_looked : (key : Key) (found : Option (List Peer)) (looks : Told) (asks : List (Peer × (Ask × Answer))) (w next : World) → IsWithin base planned start w → IfSome found AllMade
      → [] ≡ routes looks → asks ≡ asking (ask.Route key) looks → Fates judged w asks next → Looked key [] found w next
  none_looked key found [] asks w next h made e f fates =
      subst (λ (v : World). Looked key [] found w v) (fates_none judged w next asks f fates) (record { within = h; grows = le_refl w.asked; links = refl; made = made; fates = λ q. tt })
  none_looked key found (s ∷ looks) asks w next h made e f fates = absurd (nil_cons {X = Peer × Option (Route Peer)} (s.0, route_in s.1) (routes looks) e)

  -- one ask, and then the rest
  more_looked : (key : Key) (p : Peer) (o : Option (Route Peer)) (trail : List (Peer × Option (Route Peer))) (found : Option (List Peer)) (looks : Told) (asks : List (Peer × (Ask × Answer))) (w next : World) → IsWithin base planned start w
      → IsAmong p (made_by base) → (p, o) ∷ trail ≡ routes looks → asks ≡ asking (ask.Route key) looks → Fates judged w asks next
      → ((rest : Told) (mid : World) → IsWithin base planned start mid → IfSome o (λ route. AllMade route.nearer × AllMade route.owners) → trail ≡ routes rest → Fates judged mid (asking (ask.Route key) rest) next → Looked key trail found mid next)
      → Looked key ((p, o) ∷ trail) found w next
  more_looked key p o trail found [] asks w next h made e f fates later = absurd (nil_cons {X = Peer × Option (Route Peer)} (p, o) trail (sym e))
  more_looked key p o trail found (s ∷ looks) asks w next h made e f fates later =
      let one = fates_first judged w next asks s.0 (ask.Route key) s.1 (asking (ask.Route key) looks) f fates in
      let same = cons_head {X = Peer × Option (Route Peer)} (p, o) trail (s.0, route_in s.1) (routes looks) e in
      let tail : trail ≡ routes looks = cons_tail {X = Peer × Option (Route Peer)} (p, o) trail (s.0, route_in s.1) (routes looks) e in
      let is_p : p ≡ s.0 = ap (λ (t : Peer × Option (Route Peer)). t.0) same in
      let is_o : o ≡ route_in s.1 = ap (λ (t : Peer × Option (Route Peer)). t.1) same in
      let a = routed key s w one.mid h (subst (λ x. IsAmong x (made_by base)) is_p made) one.fate in
      let l = later looks one.mid a.within (subst (λ (x : Option (Route Peer)). IfSome x (λ route. AllMade route.nearer × AllMade route.owners)) (sym is_o) a.made) tail one.others in
      record {
        within = l.within;
        grows = omega (arith, a.grows, l.grows);
        links = l.links ∙ a.links;
        made = l.made;
        fates = λ q. (
          subst (λ (t : Peer × Option (Route Peer)). IsFate place r (lives_by base) (links_in w) (number key) t) (sym same) (a.fate (omega (arith, q, l.grows))),
          subst (λ (x : Peer → Links Peer). AllByRecursion (IsFate place r (lives_by base) x (number key)) trail) a.links (l.fates q),
        );
      }

  looked : (key : Key) {asked : List Peer} {last : Option (List Peer)} {ps : List Peer} {trail : List (Peer × Option (Route Peer))} {found : Option (List Peer)} → IsLookup asked last ps trail found
      → (looks : Told) (asks : List (Peer × (Ask × Answer))) (w next : World) → IsWithin base planned start w → AllMade ps → IfSome last AllMade
      → trail ≡ routes looks → asks ≡ asking (ask.Route key) looks → Fates judged w asks next → Looked key trail found w next
  looked key (over {last = last}) looks asks w next h made found e f fates = none_looked key last looks asks w next h found e f fates
  looked key (spent {last = last} many) looks asks w next h made found e f fates = none_looked key last looks asks w next h found e f fates
  looked key (asked_before i more) looks asks w next h made found e f fates = looked key more looks asks w next h made.1 found e f fates
  looked key (was_silent {p = p} {trail = trail} {found = out} few not_yet more) looks asks w next h made found e f fates =
      more_looked key p None trail out looks asks w next h made.0 e f fates (λ rest mid k m t g. looked key more rest (asking (ask.Route key) rest) mid next k made.1 found t refl g)
  looked key (has_answered {p = p} {route = route} {trail = trail} {found = out} few not_yet more) looks asks w next h made found e f fates =
      more_looked key p (Some route) trail out looks asks w next h made.0 e f fates (λ rest mid k m t g. looked key more rest (asking (ask.Route key) rest) mid next k m.0 m.1 t refl g)

  pub look_up : (key : Key) (p : Peer) (found : Option (List Peer)) (w next : World) → IsWithin base planned start w → IsAmong p (made_by base) → (l : LooksUp judged w key (p ∷ []) found next) → Looked key (routes l.looks) found w next
  look_up key p found w next h made l = looked key l.lookup l.looks (asking (ask.Route key) l.looks) w next h (made, tt) tt refl refl l.fates

  -- ---- a finger

  pub record FixedFinger (p : Peer) (k : ℕ) (w next : World) : Type 0 where
    pub within : IsWithin base planned start next
    pub grows : w.asked ≤ next.asked
    pub is : next.asked ≤ end → IsFingerFixed place r 160 (lives_by base) p k (links_in w) (links_in next)

  finger_made : (k : ℕ) (found : Option (List Peer)) (links : Links Peer) → IfSome found AllMade → AllMade links.list → AllMade links.fingers → IfSome links.before (λ q. IsAmong q (made_by base))
      → AllMade (with_finger k found links).list × AllMade (with_finger k found links).fingers × IfSome (with_finger k found links).before (λ q. IsAmong q (made_by base))
  finger_made k None links made list fingers before = (list, fingers, before)
  finger_made k (Some []) links made list fingers before = (list, fingers, before)
  finger_made k (Some (f ∷ fs)) links made list fingers before = (list, all_set (λ q. IsAmong q (made_by base)) links.fingers k f fingers made.0, before)

  pub fixed_finger : (p : Peer) (k : ℕ) (w next : World) → IsWithin base planned start w → IsAmong p (made_by base) → FixesFinger judged p k w next → FixedFinger p k w next
  fixed_finger p k w next h made x =
      let l = look_up x.key p x.found w x.mid h made x.looks in
      let s = stands judged r base planned start end b x.mid p x.node l.within made x.is_node in
      let knows = l.within.known p.id x.node x.is_node in
      let c = relinked judged r base planned start end b x.mid p x.node (with_finger k x.found x.node.ring.links) l.within made x.is_node (finger_made k x.found x.node.ring.links l.made knows.list knows.fingers knows.before) in
      subst (λ (v : World). FixedFinger p k w v) (sym x.fixed) (record {
        within = c.within;
        grows = l.grows;
        is = λ q. record {
          trail = routes x.looks.looks;
          found = x.found;
          fates = subst (λ n. AllByRecursion (IsFate place r (lives_by base) (links_in w) n) (routes x.looks.looks)) x.starts (l.fates q);
          lookup = x.looks.lookup;
          fixed = c.at ∙ ap (with_finger k x.found) (sym s.links ∙ (λ i. l.links i p));
          others = λ m d. c.others m d ∙ (λ i. l.links i m);
        };
      })

  -- ---- fingers one after the other

  pub record AllFixed (ts : List (Peer × ℕ)) (w next : World) : Type 0 where
    pub within : IsWithin base planned start next
    pub grows : w.asked ≤ next.asked
    pub is : next.asked ≤ end → AreFixed place r 160 (lives_by base) ts (links_in w) (links_in next)

  fixed_from : (p : Peer) (k count : ℕ) (w next : World) → IsWithin base planned start w → IsAmong p (made_by base) → FixesFrom judged p k count w next → AllFixed (turns p k count) w next
  unfolding turns
  fixed_from p k zero w next h made no_more = record { within = h; grows = le_refl w.asked; is = λ q. all_fixed }
  fixed_from p k (suc count) w next h made (then_fixes {mid = mid} first rest) =
      let f = fixed_finger p k w mid h made first in
      let g = fixed_from p (suc k) count mid next f.within made rest in
      record { within = g.within; grows = omega (arith, f.grows, g.grows); is = λ q. one_fixed (f.is (omega (arith, q, g.grows))) (g.is q) }

  pub each_fixed : (count : ℕ) (w next : World) (ps : List Peer) → IsWithin base planned start w → ((p : Peer) → IsAmong p ps → IsAmong p (made_by base)) → EachDoes (λ v p. FixesFrom judged p 0 count v) w ps next
      → AllFixed (all_turns count ps) w next
  unfolding all_turns
  each_fixed count w next [] h made done = record { within = h; grows = le_refl w.asked; is = λ q. all_fixed }
  each_fixed count w next (p ∷ ps) h made (then_does {mid = mid} first rest) =
      let f = fixed_from p 0 count w mid h (made p (inl refl)) first in
      let g = each_fixed count mid next ps f.within (λ q i. made q (inr i)) rest in
      record {
        within = g.within;
        grows = omega (arith, f.grows, g.grows);
        is = λ q. fixed_both r (lives_by base) (all_turns count ps) (links_in next) (f.is (omega (arith, q, g.grows))) (g.is q);
      }

  pub are_fingers_fixed : (w next : World) (ps : List Peer) → AllFixed (all_turns 160 ps) w next → next.asked ≤ end → AreFingersFixed place r 160 (lives_by base) ps (links_in w) (links_in next)
  are_fingers_fixed w next ps a q = record { turns = all_turns 160 ps; each = each_turn 160 ps; only = only_turns 160 ps; fixed = a.is q }
