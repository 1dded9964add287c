-- The worlds within a round: who lives and who was made is as at its beginning, nodes know of those alone, and asks only grow.
use Rattle.std.proofs.Common.{◌≡◌, ◌⊎◌, inl, inr, ⊎_elim, ℕ, ◌+◌, ◌<◌, ◌≤◌, Bool, true, false, cond, List, [], ◌∷◌, map, refl, sym, ap, ◌∙◌, subst, Option, Some, None, IfSome, Contains, arith, nat_eq}
use Rattle.std.specs.List.{AllByRecursion}
use Rattle.std.specs.Option.{option_map_or}
use Rattle.std.proofs.lemmas.Bool.{eqb-true, eq-eqb, cond-true}
use Rattle.ivy_base.specs.declared.key.Key.{Key}
use Rattle.ring_model.specs.Members.{IsAmong}
use Rattle.ring_model.specs.Ring.{Links}
use Rattle.ring_model.proofs.Lists.{some_same, all-among}
use Rattle.dht_ids.specs.declared.ask.Answer.{Answer}
use Rattle.dht_ids.specs.declared.ask.Answer.TheVariants.{Silent}
use Rattle.dht_ids.specs.declared.ask.Ask.{Ask}
use Rattle.dht_ids.specs.declared.judge.Judged.{Judged}
use Rattle.dht_ids.specs.declared.peer.Peer.{Peer}
use Rattle.dhash_model.specs.State.{State, with_links}
use Rattle.world_model.specs.Nodes.{Node, answered}
use Rattle.world_model.specs.World.{World, node_at, peer_of, with_node}
use Rattle.world_model.specs.Fates.{FateOf, ask_counted as counted}
use Rattle.world_model.specs.Fates.FateOf.{lost as was_lost, stopped as was_stopped, answers as was_answered}
use Rattle.world_model.specs.RingOf.{lives_in, own_node}
use Rattle.round_laws.specs.RingOf.{AreApart, KnowsOnly, links_in, no_links}
use Rattle.round_laws.proofs.Nodes.{Shape, at, at_among, at_id, at_made, at_other, at_same, links_at, links_other, lives_by, lives_shape, made_by, made_shape, replaced, same_or_not, same_peer, shape, mapped_kept}

pub peer_or_not : (p q : Peer) → (p ≡ q) ⊎ (p ≡ q → ⊥)
peer_or_not p q = ⊎_elim (λ i. by i (nat_eq p.number q.number) refl) (λ d. inr (λ s. d (ap (λ (x : Peer). x.id) s))) (same_or_not p.id q.id)
  where
    by : p.id ≡ q.id → (b : Bool) → nat_eq p.number q.number ≡ b → (p ≡ q) ⊎ (p ≡ q → ⊥)
    by i true e = inl (same_peer p q (eqb-true p.number q.number e) i)
    by i false e = inr (λ s. let t = eq-eqb p.number q.number (ap (λ (x : Peer). x.number) s) in cc)

among_map : {X Y : Type 0} (f : X → Y) (x : X) (xs : List X) → IsAmong x xs → IsAmong (f x) (map f xs)
among_map f x [] h = elim h [ ]
among_map f x (y ∷ ys) (inl e) = inl (ap f e)
among_map f x (y ∷ ys) (inr h) = inr (among_map f x ys h)

-- what holds of the nodes at the beginning of a round, and that no ask of it is lost up to that number
pub record IsBase (r : ℕ) (base : List Shape) (planned : List ℕ) (start end : ℕ) : Type 0 where
  pub apart : AreApart (made_by base)
  pub replicas : AllByRecursion (λ s. s.2 ≡ r) base
  pub quiet : (k : ℕ) → start < k → k ≤ end → Contains planned k → ⊥

pub record IsWithin (base : List Shape) (planned : List ℕ) (start : ℕ) (w : World) : Type 0 where
  pub shapes : map shape w.nodes ≡ base
  pub known : (id : Key) (n : Node) → node_at w id ≡ Some n → KnowsOnly (made_by base) n
  pub losses : w.lost ≡ planned
  pub asked : start ≤ w.asked

-- the node that a peer is
pub record Stands (r : ℕ) (base : List Shape) (w : World) (p : Peer) (n : Node) : Type 0 where
  pub me : peer_of n ≡ p
  pub links : links_in w p ≡ n.ring.links
  pub replicas : n.ring.replicas ≡ r
  pub live : lives_by base p ≡ n.is_live

-- what a node knows hangs on its part of the ring alone
abbrev pub knows_of : List Peer → Links Peer → Type 0
knows_of made links = AllByRecursion (λ q. IsAmong q made) links.list × AllByRecursion (λ q. IsAmong q made) links.fingers × IfSome links.before (λ q. IsAmong q made)

pub to_knows : (made : List Peer) (n : Node) → KnowsOnly made n → knows_of made n.ring.links
to_knows made n h = (h.list, h.fingers, h.before)

pub from_knows : (made : List Peer) (n : Node) → knows_of made n.ring.links → KnowsOnly made n
from_knows made n h = record { list = h.0; fingers = h.1; before = h.2 }

abbrev own_ring : Peer → Option Node → Links Peer
own_ring p o = option_map_or (λ n. n.ring.links) (own_node p o) no_links

own_cond : (p : Peer) (n : Node) → own_ring p (Some n) ≡ cond (nat_eq n.ring.me.number p.number) n.ring.links no_links
own_cond p n = by (nat_eq n.ring.me.number p.number)
  where
    by : (b : Bool) → option_map_or (λ (n : Node). n.ring.links) (cond b (Some n) None) no_links ≡ cond b n.ring.links no_links
    by true = refl
    by false = refl

-- a node in its own place, with the same part of the ring
pub links_ring : (w : World) (id : Key) (old n : Node) → node_at w id ≡ Some old → n.ring ≡ old.ring → links_in (with_node w n) ≡ links_in w
links_ring w id old n e s = λ i p. (by p) i
  where
    here : at w.nodes (peer_of n).id ≡ Some old
    here = subst (λ k. at w.nodes k ≡ Some old) (sym (at_id w.nodes id old e) ∙ ap (λ (g : State). g.me.id) (sym s)) e

    by : (p : Peer) → links_in (with_node w n) p ≡ links_in w p
    by p = ⊎_elim
        (λ same.
        let now : at (replaced n w.nodes) p.id ≡ Some n = subst (λ k. at (replaced n w.nodes) k ≡ Some n) same (at_same w.nodes n old here) in
        let was : at w.nodes p.id ≡ Some old = subst (λ k. at w.nodes k ≡ Some old) same here in
        ap (own_ring p) now ∙ own_cond p n ∙ ap (λ (g : State). cond (nat_eq g.me.number p.number) g.links no_links) s ∙ sym (own_cond p old) ∙ sym (ap (own_ring p) was))
        (λ other. ap (own_ring p) (at_other w.nodes n p.id other))
        (same_or_not (peer_of n).id p.id)

-- an ask that changes no node's part of the ring
abbrev pub KeepsRing : (Key → List ℕ → Option Judged) → Ask → Type 0
KeepsRing judged question = (n : Node) → ((answered judged n question).1.ring ≡ n.ring) × ((answered judged n question).1.is_live ≡ n.is_live)

pub fate_grows : (judged : Key → List ℕ → Option Judged) (w next : World) (to : Peer) (question : Ask) (given : Answer) → FateOf judged w to question given next → w.asked ≤ next.asked
fate_grows judged w next to question given (was_lost l) = omega arith
fate_grows judged w next to question given (was_stopped n l e s) = omega arith
fate_grows judged w next to question given (was_answered n l e s) = omega arith

module _ (judged : Key → List ℕ → Option Judged) (r : ℕ) (base : List Shape) (planned : List ℕ) (start end : ℕ) (b : IsBase r base planned start end) where
  pub apart_in : (w : World) → IsWithin base planned start w → AreApart (map peer_of w.nodes)
  apart_in w h = subst AreApart (sym (made_shape w.nodes ∙ ap made_by h.shapes)) b.apart

  pub lives_are : (w : World) → IsWithin base planned start w → lives_in w ≡ lives_by base
  lives_are w h = lives_shape w ∙ ap lives_by h.shapes

  live_at : (w : World) (p : Peer) (n : Node) → node_at w p.id ≡ Some n → peer_of n ≡ p → lives_in w p ≡ n.is_live
  live_at w p n e s =
      ap (λ (o : Option Node). option_map_or (λ n. n.is_live) (own_node p o) false) e
      ∙ ap (λ (o : Option Node). option_map_or (λ n. n.is_live) o false) (cond-true (nat_eq (peer_of n).number p.number) (Some n) None (eq-eqb (peer_of n).number p.number (ap (λ (q : Peer). q.number) s)))

  -- a peer whose identifier is that of a stopped node doesn't live
  stopped_at : (w : World) (p : Peer) (n : Node) → node_at w p.id ≡ Some n → n.is_live ≡ false → lives_in w p ≡ false
  stopped_at w p n e s = ap (λ (o : Option Node). option_map_or (λ n. n.is_live) (own_node p o) false) e ∙ by (nat_eq (peer_of n).number p.number)
    where
      by : (t : Bool) → option_map_or (λ (n : Node). n.is_live) (cond t (Some n) None) false ≡ false
      by true = s
      by false = refl

  pub stands : (w : World) (p : Peer) (n : Node) → IsWithin base planned start w → IsAmong p (made_by base) → node_at w p.id ≡ Some n → Stands r base w p n
  stands w p n h made e =
      let found = at_made w.nodes p (apart_in w h) (subst (IsAmong p) (sym (made_shape w.nodes ∙ ap made_by h.shapes)) made) in
      let is : peer_of n ≡ p = ap peer_of (some_same n found.0 (sym e ∙ found.1)) ∙ found.2 in
      let member : IsAmong (shape n) base = subst (IsAmong (shape n)) h.shapes (among_map shape n w.nodes (at_among w.nodes p.id n e)) in
      record {
        me = is;
        links = links_at w p n e is;
        replicas = all-among (λ (s : Shape). s.2 ≡ r) (shape n) base b.replicas member;
        live = sym (λ i. lives_are w h i p) ∙ live_at w p n e is;
      }

  -- a peer that was made has a node
  pub node_made : (w : World) (p : Peer) → IsWithin base planned start w → IsAmong p (made_by base) → (n : Node) × (node_at w p.id ≡ Some n)
  node_made w p h made = let found = at_made w.nodes p (apart_in w h) (subst (IsAmong p) (sym (made_shape w.nodes ∙ ap made_by h.shapes)) made) in (found.0, found.1)

  pub set_within : (w : World) (n old : Node) → IsWithin base planned start w → node_at w (peer_of n).id ≡ Some old → shape n ≡ shape old → KnowsOnly (made_by base) n → IsWithin base planned start (with_node w n)
  set_within w n old h e s k = record {
    shapes = mapped_kept shape w.nodes n old (apart_in w h) e s ∙ h.shapes;
    known = λ id m f. ⊎_elim
        (λ same. subst (KnowsOnly (made_by base)) (some_same n m (sym (subst (λ x. at (replaced n w.nodes) x ≡ Some n) same (at_same w.nodes n old e)) ∙ f)) k)
        (λ other. h.known id m (sym (at_other w.nodes n id other) ∙ f))
        (same_or_not (peer_of n).id id);
    losses = h.losses;
    asked = h.asked;
  }

  pub counted_within : (w : World) → IsWithin base planned start w → IsWithin base planned start (counted w)
  counted_within w h = record { shapes = h.shapes; known = h.known; losses = h.losses; asked = omega (arith, h.asked) }

  -- the fate of an ask: silence, as of one that doesn't live where no ask is lost, or the answer of a live node
  pub data Fated (w : World) (to : Peer) (question : Ask) (given : Answer) (mid : World) : Type 0 where
    silence : given ≡ Silent → mid ≡ counted w → (mid.asked ≤ end → lives_by base to ≡ false) → Fated w to question given mid
    heard : (n : Node) → node_at w to.id ≡ Some n → n.is_live ≡ true → given ≡ (answered judged n question).0 → mid ≡ with_node (counted w) (answered judged n question).1 → Fated w to question given mid

  pub fated : (w mid : World) (to : Peer) (question : Ask) (given : Answer) → IsWithin base planned start w → FateOf judged w to question given mid → Fated w to question given mid
  fated w mid to question given h (was_lost l) = silence refl refl (λ e. absurd (b.quiet (w.asked + 1) (omega (arith, h.asked)) e (subst (λ k. Contains k (w.asked + 1)) h.losses l)))
  fated w mid to question given h (was_stopped n l e s) = silence refl refl (λ f. sym (λ i. lives_are w h i to) ∙ stopped_at w to n e s)
  fated w mid to question given h (was_answered n l e s) = heard n e s refl refl

  -- after an ask nothing of the ring has changed
  pub record AfterAsk (w mid : World) : Type 0 where
    pub within : IsWithin base planned start mid
    pub links : links_in mid ≡ links_in w

  pub still_asked : (w mid : World) (to : Peer) (question : Ask) (given : Answer) → IsWithin base planned start w → KeepsRing judged question → Fated w to question given mid → AfterAsk w mid
  still_asked w mid to question given h keeps (silence g m l) = subst (AfterAsk w) (sym m) (record { within = counted_within w h; links = refl })
  still_asked w mid to question given h keeps (heard n e s g m) =
      let k = keeps n in
      let now : Node = (answered judged n question).1 in
      let same : now.ring ≡ n.ring = k.0 in
      let here : node_at (counted w) (peer_of now).id ≡ Some n = subst (λ x. at w.nodes x ≡ Some n) (sym (at_id w.nodes to.id n e) ∙ ap (λ (g : State). g.me.id) (sym same)) e in
      subst (AfterAsk w) (sym m) (record {
        within = set_within (counted w) now n (counted_within w h) here (λ i. ((same i).me, k.1 i, (same i).replicas)) (from_knows (made_by base) now (subst (λ (g : State). knows_of (made_by base) g.links) (sym same) (to_knows (made_by base) n (h.known to.id n e))));
        links = links_ring (counted w) to.id n now e same;
      })

  -- one peer's links were changed
  pub record Relinks (p : Peer) (links : Links Peer) (w next : World) : Type 0 where
    pub within : IsWithin base planned start next
    pub at : links_in next p ≡ links
    pub others : (q : Peer) → (q ≡ p → ⊥) → links_in next q ≡ links_in w q

  pub relinked : (w : World) (p : Peer) (n : Node) (links : Links Peer) → IsWithin base planned start w → IsAmong p (made_by base) → node_at w p.id ≡ Some n → knows_of (made_by base) links
      → Relinks p links w (with_node w (record n { ring = with_links n.ring links }))
  relinked w p n links h made e k =
      let is : peer_of n ≡ p = (stands w p n h made e).me in
      let now : Node = record n { ring = with_links n.ring links } in
      let here : node_at w (peer_of n).id ≡ Some n = subst (λ (x : Peer). at w.nodes x.id ≡ Some n) (sym is) e in
      let after = set_within w now n h here refl (from_knows (made_by base) now k) in
      record {
        within = after;
        at = links_at (with_node w now) p now (subst (λ (x : Peer). at (replaced now w.nodes) x.id ≡ Some now) is (at_same w.nodes now n here)) is;
        others = λ q d. links_other w p q n now e is is d;
      }
