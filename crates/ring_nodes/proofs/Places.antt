-- Where a node is among nodes that stand apart.
use Rattle.std.proofs.Common.{◌≡◌, ℕ, zero, suc, ◌<◌, Bool, true, false, cond, List, [], ◌∷◌, length, map, find, set, get_or, refl, sym, ap, ◌∙◌, Option, Some, None, arith}
use Rattle.std.specs.Prelude.{nat_lt}
use Rattle.std.specs.List.{AllByRecursion, position, position_or_len}
use Rattle.std.specs.Ordering.{eq_by_cmp}
use Rattle.std.proofs.lemmas.Bool.{cond-true, cond-false, ltb-true}
use Rattle.std.proofs.lemmas.List.Folds.{find_at}
use Rattle.std.proofs.Math.Seq.{map-set_same}
use Rattle.std.proofs.lemmas.Option.{slice_get-get_or, slice_get_within}
use Rattle.std.proofs.lemmas.Bool.{lt-ltb}
use Rattle.ivy_base.specs.declared.key.Key.{Key}
use Rattle.ivy_base.specs.Naming.{key_cmp}
use Rattle.ring_model.specs.Members.{IsAmong}
use Rattle.ring_model.proofs.Lists.{none_some}
use Rattle.dht_ids.specs.declared.peer.Peer.{Peer}
use Rattle.dht_ids.specs.Peers.{place}
use Rattle.world_model.specs.Nodes.{Node}
use Rattle.world_model.specs.World.{peer_of}
use Rattle.round_laws.specs.RingOf.{AreApart}
use Rattle.round_laws.proofs.Nodes.{at_made, replaced, not_tied, same_place, ties}

-- whether the node has that identifier
abbrev pub has_id : Key → Node → Bool
has_id id n = eq_by_cmp key_cmp (peer_of n).id id

index_of : (k l i : ℕ) → cond (nat_lt k l) (Some k) None ≡ Some i → (k ≡ i) × (k < l)
index_of k l i e = by (nat_lt k l) refl e
  where
    by : (t : Bool) → nat_lt k l ≡ t → cond t (Some k) None ≡ Some i → (k ≡ i) × (k < l)
    by true t e = (cc, ltb-true k l t)
    by false t e = absurd cc

past_end : (k l : ℕ) → cond (nat_lt k l) (Some k) None ≡ None → k < l → ⊥
past_end k l e less = let t = lt-ltb k l less in cc

-- the node at the place that a walk finds
pub found_at : {X : Type 0} (p : X → Bool) (xs : List X) (i : ℕ) (d : X) → position p xs ≡ Some i → find p xs ≡ Some (get_or xs i d)
found_at p xs i d e =
    let is = index_of (position_or_len p xs) (length xs) i e in
    find_at p xs ∙ slice_get-get_or xs (position_or_len p xs) d is.1 ∙ ap (λ k. Some (get_or xs k d)) is.0

pub found_within : {X : Type 0} (p : X → Bool) (xs : List X) (i : ℕ) → position p xs ≡ Some i → i < length xs
found_within p xs i e = let is = index_of (position_or_len p xs) (length xs) i e in omega (arith, is)

pub none_found : {X : Type 0} (p : X → Bool) (xs : List X) → position p xs ≡ None → find p xs ≡ None
none_found {X = X} p xs e = by (find p xs) refl
  where
    by : (o : Option X) → find p xs ≡ o → o ≡ None
    by None f = refl
    by (Some x) f = absurd (past_end (position_or_len p xs) (length xs) e (slice_get_within xs (position_or_len p xs) x (sym (find_at p xs) ∙ f)))

-- a peer that was made has a place
pub made_has_place : (nodes : List Node) (to : Peer) → AreApart (map peer_of nodes) → IsAmong to (map peer_of nodes) → position (has_id to.id) nodes ≡ None → ⊥
made_has_place nodes to apart made none =
    let found = at_made nodes to apart made in
    none_some found.0 (sym (none_found (has_id to.id) nodes none) ∙ found.1)

-- ---- a node in another's place

none_has_it : (nodes : List Node) (n m : Node) → (peer_of m).id ≡ (peer_of n).id → AllByRecursion (λ q. place (peer_of m) ≡ place q → ⊥) (map peer_of nodes) → nodes ≡ replaced n nodes
none_has_it [] n m e apart = refl
none_has_it (k ∷ nodes) n m e apart =
    λ i. sym (cond-false (has_id (peer_of n).id k) n k (not_tied (peer_of k).id (peer_of n).id (λ s. apart.0 (same_place (peer_of m) (peer_of k) (e ∙ sym s))))) i ∷ none_has_it nodes n m e apart.1 i

all_at : (P : Peer → Type 0) (nodes : List Node) (i : ℕ) (d : Node) → AllByRecursion P (map peer_of nodes) → i < length nodes → P (peer_of (get_or nodes i d))
all_at P [] i d all within = absurd (omega (arith, within))
all_at P (m ∷ nodes) zero d all within = all.0
all_at P (m ∷ nodes) (suc i) d all within = all_at P nodes i d all.1 (omega (arith, within))

pub set_replaces : (nodes : List Node) (i : ℕ) (n d : Node) → AreApart (map peer_of nodes) → i < length nodes → peer_of n ≡ peer_of (get_or nodes i d) → set nodes i n ≡ replaced n nodes
set_replaces [] i n d apart within same = absurd (omega (arith, within))
set_replaces (m ∷ nodes) zero n d apart within same =
    let one : (peer_of m).id ≡ (peer_of n).id = ap (λ (p : Peer). p.id) (sym same) in
    λ k. sym (cond-true (has_id (peer_of n).id m) n m (ties (peer_of m).id (peer_of n).id one)) k ∷ none_has_it nodes n m one apart.0 k
set_replaces (m ∷ nodes) (suc i) n d apart within same =
    let inside : i < length nodes = omega (arith, within) in
    let far : place (peer_of m) ≡ place (peer_of (get_or nodes i d)) → ⊥ = all_at (λ q. place (peer_of m) ≡ place q → ⊥) nodes i d apart.0 inside in
    λ k. sym (cond-false (has_id (peer_of n).id m) n m (not_tied (peer_of m).id (peer_of n).id (λ s. far (same_place (peer_of m) (peer_of (get_or nodes i d)) (s ∙ ap (λ (p : Peer). p.id) same))))) k ∷ set_replaces nodes i n d apart.1 inside same k

pub peers_set : (nodes : List Node) (i : ℕ) (n old : Node) → old ≡ get_or nodes i old → peer_of n ≡ peer_of old → map peer_of (set nodes i n) ≡ map peer_of nodes
peers_set nodes i n old is same = map-set_same peer_of nodes i n old (same ∙ ap peer_of is)
