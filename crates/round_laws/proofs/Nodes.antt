-- Lists of nodes: the node of an identifier, and what a node in another's place changes.
use Rattle.std.proofs.Common.{◌≡◌, ◌⊎◌, inl, inr, ⊎_elim, ℕ, Bool, true, false, cond, List, [], ◌∷◌, map, filter, find, refl, sym, ap, ◌∙◌, subst, Option, Some, None, nat_eq, option_map}
use Rattle.std.specs.List.{AllByRecursion}
use Rattle.std.specs.Option.{option_map_or}
use Rattle.std.specs.Cmp.{tied_itself}
use Rattle.std.specs.Ordering.{eq_by_cmp, is_eq}
use Rattle.std.specs.Cmp.Lexicographic.{nat_list_cmp_total}
use Rattle.std.proofs.lemmas.Cmp.{on_total}
use Rattle.std.proofs.lemmas.Bool.{cond-true, cond-false, eqb-true, eq-eqb, cases_Bool}
use Rattle.std.proofs.lemmas.Map.Lookups.{exact_bytes}
use Rattle.std.proofs.lemmas.Map.Views.{tells_apart}
use Rattle.ivy_base.specs.declared.key.Key.{Key}
use Rattle.ivy_base.specs.Naming.{key_cmp}
use Rattle.ring_model.specs.Members.{IsAmong}
use Rattle.ring_model.specs.Ring.{Links}
use Rattle.ring_model.proofs.Lists.{some_same, none_some}
use Rattle.dht_ids.specs.declared.peer.Peer.{Peer}
use Rattle.dht_ids.specs.Peers.{place}
use Rattle.world_model.specs.Nodes.{Node}
use Rattle.world_model.specs.World.{World, node_at, peer_of, with_node}
use Rattle.world_model.specs.Ring.{in_ring_order, live_in_order}
use Rattle.world_model.specs.RingOf.{lives_in, own_node}
use Rattle.round_laws.specs.RingOf.{AreApart, links_in, no_links}

-- ---- identifiers and peers

pub same_id : (a b : Key) → eq_by_cmp key_cmp a b ≡ true → a ≡ b
same_id a b h = tells_apart (λ x y e. ap (λ (bytes : List ℕ). record { 0 = bytes }) (exact_bytes x.0 y.0 e)) a b h

pub id_itself : (a : Key) → eq_by_cmp key_cmp a a ≡ true
id_itself a = ap is_eq (tied_itself (on_total (λ k. k.0) nat_list_cmp_total) a)

pub ties : (a b : Key) → a ≡ b → eq_by_cmp key_cmp a b ≡ true
ties a b e = subst (λ x. eq_by_cmp key_cmp a x ≡ true) e (id_itself a)

pub not_tied : (a b : Key) → (a ≡ b → ⊥) → eq_by_cmp key_cmp a b ≡ false
not_tied a b d = ⊎_elim (λ t. absurd (d (same_id a b t))) (λ f. f) (cases_Bool (eq_by_cmp key_cmp a b))

pub same_or_not : (a b : Key) → (a ≡ b) ⊎ (a ≡ b → ⊥)
same_or_not a b = by (eq_by_cmp key_cmp a b) refl
  where
    by : (t : Bool) → eq_by_cmp key_cmp a b ≡ t → (a ≡ b) ⊎ (a ≡ b → ⊥)
    by true e = inl (same_id a b e)
    by false e = inr (λ s. let t = ties a b s in cc)

pub same_peer : (p q : Peer) → p.number ≡ q.number → p.id ≡ q.id → p ≡ q
same_peer p q n i = λ k. record { number = n k; id = i k }

-- ---- the node of an identifier

abbrev pub at : List Node → Key → Option Node
at nodes id = find (λ n. eq_by_cmp key_cmp (peer_of n).id id) nodes

abbrev pub replaced : Node → List Node → List Node
replaced n nodes = map (λ m. cond (eq_by_cmp key_cmp (peer_of m).id (peer_of n).id) n m) nodes

pub at_here : (m : Node) (nodes : List Node) (id : Key) → (peer_of m).id ≡ id → at (m ∷ nodes) id ≡ Some m
at_here m nodes id e = cond-true (eq_by_cmp key_cmp (peer_of m).id id) (Some m) (at nodes id) (ties (peer_of m).id id e)

pub at_later : (m : Node) (nodes : List Node) (id : Key) → ((peer_of m).id ≡ id → ⊥) → at (m ∷ nodes) id ≡ at nodes id
at_later m nodes id d = cond-false (eq_by_cmp key_cmp (peer_of m).id id) (Some m) (at nodes id) (not_tied (peer_of m).id id d)

pub at_id : (nodes : List Node) (id : Key) (n : Node) → at nodes id ≡ Some n → (peer_of n).id ≡ id
at_id [] id n e = absurd (none_some n e)
at_id (m ∷ nodes) id n e =
    ⊎_elim
    (λ s. subst (λ (x : Node). (peer_of x).id ≡ id) (some_same m n (sym (at_here m nodes id s) ∙ e)) s)
    (λ d. at_id nodes id n (sym (at_later m nodes id d) ∙ e))
    (same_or_not (peer_of m).id id)

pub at_among : (nodes : List Node) (id : Key) (n : Node) → at nodes id ≡ Some n → IsAmong n nodes
at_among [] id n e = absurd (none_some n e)
at_among (m ∷ nodes) id n e =
    ⊎_elim
    (λ s. inl (some_same m n (sym (at_here m nodes id s) ∙ e)))
    (λ d. inr (at_among nodes id n (sym (at_later m nodes id d) ∙ e)))
    (same_or_not (peer_of m).id id)

pub at_other : (nodes : List Node) (n : Node) (id : Key) → ((peer_of n).id ≡ id → ⊥) → at (replaced n nodes) id ≡ at nodes id
at_other [] n id d = refl
at_other (m ∷ nodes) n id d = by (eq_by_cmp key_cmp (peer_of m).id (peer_of n).id) refl (at_other nodes n id d)
  where
    by : (t : Bool) → eq_by_cmp key_cmp (peer_of m).id (peer_of n).id ≡ t → at (replaced n nodes) id ≡ at nodes id → at (cond t n m ∷ replaced n nodes) id ≡ at (m ∷ nodes) id
    by true e rest = at_later n (replaced n nodes) id d ∙ rest ∙ sym (at_later m nodes id (λ s. d (sym (same_id (peer_of m).id (peer_of n).id e) ∙ s)))
    by false e rest = ap (λ o. cond (eq_by_cmp key_cmp (peer_of m).id id) (Some m) o) rest

pub at_same : (nodes : List Node) (n old : Node) → at nodes (peer_of n).id ≡ Some old → at (replaced n nodes) (peer_of n).id ≡ Some n
at_same [] n old e = absurd (none_some old e)
at_same (m ∷ nodes) n old e = by (eq_by_cmp key_cmp (peer_of m).id (peer_of n).id) refl (λ f. at_same nodes n old f)
  where
    by : (t : Bool) → eq_by_cmp key_cmp (peer_of m).id (peer_of n).id ≡ t → (at nodes (peer_of n).id ≡ Some old → at (replaced n nodes) (peer_of n).id ≡ Some n) → at (cond t n m ∷ replaced n nodes) (peer_of n).id ≡ Some n
    by true tied later = at_here n (replaced n nodes) (peer_of n).id refl
    by false tied later =
        let d : (peer_of m).id ≡ (peer_of n).id → ⊥ = λ s. let t = ties (peer_of m).id (peer_of n).id s in cc in
        at_later m (replaced n nodes) (peer_of n).id d ∙ later (sym (at_later m nodes (peer_of n).id d) ∙ e)

-- a node in its own place
pub at_itself : (nodes : List Node) (n : Node) (id other : Key) → at nodes id ≡ Some n → at (replaced n nodes) other ≡ at nodes other
at_itself nodes n id other e =
    let here : at nodes (peer_of n).id ≡ Some n = subst (λ k. at nodes k ≡ Some n) (sym (at_id nodes id n e)) e in
    ⊎_elim
    (λ s. subst (λ k. at (replaced n nodes) k ≡ at nodes k) s (at_same nodes n n here ∙ sym here))
    (λ d. at_other nodes n other d)
    (same_or_not (peer_of n).id other)

-- ---- what stays of nodes in a round: the peer, whether it lives, and by how many nodes a key is owned

abbrev pub Shape : Type 0
Shape = Peer × Bool × ℕ

abbrev pub shape : Node → Shape
shape n = (peer_of n, n.is_live, n.ring.replicas)

abbrev pub shape_at : List Shape → Key → Option Shape
shape_at shapes id = find (λ s. eq_by_cmp key_cmp s.0.id id) shapes

pub at_shape : (nodes : List Node) (id : Key) → option_map shape (at nodes id) ≡ shape_at (map shape nodes) id
at_shape [] id = refl
at_shape (m ∷ nodes) id = by (eq_by_cmp key_cmp (peer_of m).id id) (at_shape nodes id)
  where
    by : (t : Bool) → option_map shape (at nodes id) ≡ shape_at (map shape nodes) id → option_map shape (cond t (Some m) (at nodes id)) ≡ cond t (Some (shape m)) (shape_at (map shape nodes) id)
    by true rest = refl
    by false rest = rest

abbrev pub own_shape : Peer → Option Shape → Bool
own_shape p None = false
own_shape p (Some s) = cond (nat_eq s.0.number p.number) s.1 false

-- who lives, by the shapes
abbrev pub lives_by : List Shape → Peer → Bool
lives_by shapes p = own_shape p (shape_at shapes p.id)

pub lives_shape : (w : World) → lives_in w ≡ lives_by (map shape w.nodes)
lives_shape w = λ i p. (by p (at w.nodes p.id) ∙ ap (own_shape p) (at_shape w.nodes p.id)) i
  where
    by : (p : Peer) (o : Option Node) → option_map_or (λ n. n.is_live) (own_node p o) false ≡ own_shape p (option_map shape o)
    by p None = refl
    by p (Some n) = test (nat_eq (peer_of n).number p.number)
      where
        test : (b : Bool) → option_map_or (λ (n : Node). n.is_live) (cond b (Some n) None) false ≡ cond b n.is_live false
        test true = refl
        test false = refl

abbrev pub order_by : List Shape → List Peer
order_by shapes = in_ring_order (map (λ s. s.0) (filter (λ s. s.1) shapes))

pub order_shape : (w : World) → live_in_order w ≡ order_by (map shape w.nodes)
order_shape w = ap in_ring_order (by w.nodes)
  where
    by : (nodes : List Node) → map peer_of (filter (λ n. n.is_live) nodes) ≡ map (λ (s : Shape). s.0) (filter (λ (s : Shape). s.1) (map shape nodes))
    by [] = refl
    by (n ∷ nodes) = test n.is_live (by nodes)
      where
        test : (b : Bool) → map peer_of (filter (λ n. n.is_live) nodes) ≡ map (λ (s : Shape). s.0) (filter (λ (s : Shape). s.1) (map shape nodes))
            → map peer_of (cond b (n ∷ filter (λ n. n.is_live) nodes) (filter (λ n. n.is_live) nodes)) ≡ map (λ (s : Shape). s.0) (cond b (shape n ∷ filter (λ (s : Shape). s.1) (map shape nodes)) (filter (λ (s : Shape). s.1) (map shape nodes)))
        test true rest = ap (λ (l : List Peer). peer_of n ∷ l) rest
        test false rest = rest

abbrev pub made_by : List Shape → List Peer
made_by shapes = map (λ s. s.0) shapes

pub made_shape : (nodes : List Node) → map peer_of nodes ≡ made_by (map shape nodes)
made_shape [] = refl
made_shape (n ∷ nodes) = ap (λ (l : List Peer). peer_of n ∷ l) (made_shape nodes)

-- ---- nodes that stand apart

pub same_place : (p q : Peer) → p.id ≡ q.id → place p ≡ place q
same_place p q e = ap (λ (k : Key). place (record { number = p.number; id = k })) e

-- the node of a peer that was made
pub at_made : (nodes : List Node) (p : Peer) → AreApart (map peer_of nodes) → IsAmong p (map peer_of nodes) → (n : Node) × (at nodes p.id ≡ Some n) × (peer_of n ≡ p)
at_made [] p apart h = elim h [ ]
at_made (m ∷ nodes) p apart (inl e) = (m, at_here m nodes p.id (ap (λ (q : Peer). q.id) e), e)
at_made (m ∷ nodes) p apart (inr h) =
    let r = at_made nodes p apart.1 h in
    (r.0, at_later m nodes p.id (λ s. far (map peer_of nodes) apart.0 h (same_place (peer_of m) p s)) ∙ r.1, r.2)
  where
    far : (ps : List Peer) → AllByRecursion (λ q. place (peer_of m) ≡ place q → ⊥) ps → IsAmong p ps → place (peer_of m) ≡ place p → ⊥
    far [] a h e = elim h [ ]
    far (q ∷ ps) a (inl s) e = a.0 (e ∙ ap place (sym s))
    far (q ∷ ps) a (inr h) e = far ps a.1 h e

-- a node of the same shape in another's place
none_replaced : (nodes : List Node) (n m : Node) → (peer_of m).id ≡ (peer_of n).id → AllByRecursion (λ q. place (peer_of m) ≡ place q → ⊥) (map peer_of nodes) → replaced n nodes ≡ nodes
none_replaced [] n m e a = refl
none_replaced (k ∷ nodes) n m e a =
    (λ i. cond-false (eq_by_cmp key_cmp (peer_of k).id (peer_of n).id) n k (not_tied (peer_of k).id (peer_of n).id (λ s. a.0 (same_place (peer_of m) (peer_of k) (e ∙ sym s)))) i ∷ none_replaced nodes n m e a.1 i)

-- what a new node has as the old one had, all have as before
pub mapped_kept : {X : Type 0} (f : Node → X) (nodes : List Node) (n old : Node) → AreApart (map peer_of nodes) → at nodes (peer_of n).id ≡ Some old → f n ≡ f old → map f (replaced n nodes) ≡ map f nodes
mapped_kept f [] n old apart e s = refl
mapped_kept {X = X} f (m ∷ nodes) n old apart e s = by (eq_by_cmp key_cmp (peer_of m).id (peer_of n).id) refl (λ g. mapped_kept f nodes n old apart.1 g s)
  where
    by : (t : Bool) → eq_by_cmp key_cmp (peer_of m).id (peer_of n).id ≡ t → (at nodes (peer_of n).id ≡ Some old → map f (replaced n nodes) ≡ map f nodes) → map f (cond t n m ∷ replaced n nodes) ≡ map f (m ∷ nodes)
    by true tied later =
        let same = same_id (peer_of m).id (peer_of n).id tied in
        let is : m ≡ old = some_same m old (sym (at_here m nodes (peer_of n).id same) ∙ e) in
        λ i. (s ∙ ap f (sym is)) i ∷ map f (none_replaced nodes n m same apart.0 i)
    by false tied later =
        let d : (peer_of m).id ≡ (peer_of n).id → ⊥ = λ x. let t = ties (peer_of m).id (peer_of n).id x in cc in
        ap (λ (l : List X). f m ∷ l) (later (sym (at_later m nodes (peer_of n).id d) ∙ e))

-- ---- what nodes know

abbrev own_links : Peer → Option Node → Links Peer
own_links p o = option_map_or (λ n. n.ring.links) (own_node p o) no_links

own_is : (p : Peer) (n : Node) → peer_of n ≡ p → own_links p (Some n) ≡ n.ring.links
own_is p n e = ap (λ (o : Option Node). option_map_or (λ n. n.ring.links) o no_links) (cond-true (nat_eq (peer_of n).number p.number) (Some n) None (eq-eqb (peer_of n).number p.number (ap (λ (q : Peer). q.number) e)))

own_none : (p : Peer) (n : Node) → ((peer_of n).number ≡ p.number → ⊥) → own_links p (Some n) ≡ no_links
own_none p n d = ap (λ (o : Option Node). option_map_or (λ n. n.ring.links) o no_links) (cond-false (nat_eq (peer_of n).number p.number) (Some n) None (by (nat_eq (peer_of n).number p.number) refl))
  where
    by : (b : Bool) → nat_eq (peer_of n).number p.number ≡ b → nat_eq (peer_of n).number p.number ≡ false
    by true e = absurd (d (eqb-true (peer_of n).number p.number e))
    by false e = e

pub links_at : (w : World) (p : Peer) (n : Node) → node_at w p.id ≡ Some n → peer_of n ≡ p → links_in w p ≡ n.ring.links
links_at w p n e s = ap (own_links p) e ∙ own_is p n s

-- the peer's links are the new node's, and those of others stay
pub links_other : (w : World) (p q : Peer) (old n : Node) → node_at w p.id ≡ Some old → peer_of old ≡ p → peer_of n ≡ p → (q ≡ p → ⊥) → links_in (with_node w n) q ≡ links_in w q
links_other w p q old n e s t d =
    ⊎_elim
    (λ same.
    let unlike : (x : Peer) → x ≡ p → x.number ≡ q.number → ⊥ = λ x is num. d (sym (same_peer x q num (ap (λ (y : Peer). y.id) is ∙ ap (λ (y : Peer). y.id) (sym t) ∙ same)) ∙ is) in
    let now : at (replaced n w.nodes) q.id ≡ Some n = subst (λ k. at (replaced n w.nodes) k ≡ Some n) same (at_same w.nodes n old (subst (λ (x : Peer). at w.nodes x.id ≡ Some old) (sym t) e)) in
    let was : at w.nodes q.id ≡ Some old = subst (λ k. at w.nodes k ≡ Some old) (ap (λ (y : Peer). y.id) (sym t) ∙ same) e in
    ap (own_links q) now ∙ own_none q n (unlike (peer_of n) t) ∙ sym (ap (own_links q) was ∙ own_none q old (unlike (peer_of old) s)))
    (λ other. ap (own_links q) (at_other w.nodes n q.id other))
    (same_or_not (peer_of n).id q.id)

pub links_itself : (w : World) (id : Key) (n : Node) → node_at w id ≡ Some n → links_in (with_node w n) ≡ links_in w
links_itself w id n e = λ i p. ap (own_links p) (at_itself w.nodes n id p.id e) i
