-- Seats, and the nodes of a settled ring.
use Rattle.std.proofs.Common.{◌≡◌, ℕ, Bool, true, false, cond, ◌||◌, List, [], ◌∷◌, ◌++◌, map, filter, find, is_some, refl, sym, ap, ◌∙◌, Option, Some, None}
use Rattle.std.specs.List.{list_any}
use Rattle.std.proofs.lemmas.List.{map-append}
use Rattle.std.specs.Ordering.{eq_by_cmp}
use Rattle.std.specs.Prelude.{option_map}
use Rattle.ivy_base.specs.Naming.{key_cmp}
use Rattle.dht_ids.specs.declared.peer.Peer.{Peer}
use Rattle.world_model.specs.Nodes.{Node}
use Rattle.world_model.specs.Ring.{AreSettled, first_peers, joined_node}
use Rattle.world_model.specs.Ring.AreSettled.{none as nobody, more as one_more}
use Rattle.world_model.specs.World.{peer_of}
use Rattle.ring_run.specs.Live.{LiveState, lives}

-- the nodes of a settled ring are those of its peers
pub settled_peers : (live : List Peer) (r : ℕ) (ps : List Peer) (ns : List Node) → AreSettled live r ps ns → map peer_of ns ≡ ps
settled_peers live r [] [] nobody = refl
settled_peers live r [] (n ∷ ns) made = elim made [ ]
settled_peers live r (p ∷ ps) [] made = elim made [ ]
settled_peers live r (p ∷ ps) all (one_more {nodes = ns} state is rest) = λ i. is.itself i ∷ settled_peers live r ps ns rest i

-- what passes a test is found where something passes it
module _ {X : Type 0} where
  pub found_any : (test : X → Bool) (xs : List X) → is_some (find test xs) ≡ list_any test xs
  found_any test [] = refl
  found_any test (x ∷ xs) = by (test x) (found_any test xs)
    where
      by : (t : Bool) → is_some (find test xs) ≡ list_any test xs → is_some (cond t (Some x) (find test xs)) ≡ (t || list_any test xs)
      by true rest = refl
      by false rest = rest

  pub any_mapped : {Y : Type 0} (f : X → Y) (test : Y → Bool) (xs : List X) → list_any test (map f xs) ≡ list_any (λ x. test (f x)) xs
  any_mapped f test [] = refl
  any_mapped f test (x ∷ xs) = ap (λ t. test (f x) || t) (any_mapped f test xs)

  pub filter_mapped : {Y : Type 0} (f : X → Y) (test : Y → Bool) (xs : List X) → filter test (map f xs) ≡ map f (filter (λ x. test (f x)) xs)
  filter_mapped f test [] = refl
  filter_mapped {Y = Y} f test (x ∷ xs) = by (test (f x)) (filter_mapped f test xs)
    where
      by : (t : Bool) → filter test (map f xs) ≡ map f (filter (λ x. test (f x)) xs) → cond t (f x ∷ filter test (map f xs)) (filter test (map f xs)) ≡ map f (cond t (x ∷ filter (λ x. test (f x)) xs) (filter (λ x. test (f x)) xs))
      by true rest = ap (λ (l : List Y). f x ∷ l) rest
      by false rest = rest

-- ---- who lives

-- whether a walk over the seats meets the peer's identifier
module _ {X Y : Type 0} (f : X → Peer) (g : Y → X) (o : Option Y) where
  some_mapped : (found : Option X) → option_map g o ≡ found → is_some o ≡ is_some found
  some_mapped found e = by o ∙ ap is_some e
    where
      by : (p : Option Y) → is_some p ≡ is_some (option_map g p)
      by None = refl
      by (Some y) = refl

  pub met_is : (r : LiveState) (to : Peer) (xs read : List X) → option_map g o ≡ find (λ x. eq_by_cmp key_cmp (f x).id to.id) read → read ≡ xs → map f xs ≡ r.live → is_some o ≡ lives r to
  met_is r to xs read e same view =
      some_mapped (find (λ x. eq_by_cmp key_cmp (f x).id to.id) read) e
      ∙ found_any (λ x. eq_by_cmp key_cmp (f x).id to.id) read
      ∙ ap (list_any (λ x. eq_by_cmp key_cmp (f x).id to.id)) same
      ∙ sym (any_mapped f (λ q. eq_by_cmp key_cmp q.id to.id) xs)
      ∙ ap (list_any (λ q. eq_by_cmp key_cmp q.id to.id)) view

-- ---- a ring that is made

-- the nodes made are the first peers, and so are those that live
pub made_first : {X : Type 0} (f : X → Peer) (live : List Peer) (r count : ℕ) (nodes : List Node) (seats read : List X) (made : List Peer) → AreSettled live r (first_peers count) nodes → map f seats ≡ map peer_of nodes → read ≡ seats → made ≡ map f read
    → (made ≡ first_peers count) × (map f seats ≡ first_peers count)
made_first f live r count nodes seats read made settled peers same e =
    let all : map f seats ≡ first_peers count = peers ∙ settled_peers live r (first_peers count) nodes settled in
    (e ∙ ap (map f) same ∙ all, all)

-- one seat more, of a node that joined
pub live_more : {X : Type 0} (f : X → Peer) (old new : List X) (s : X) (n : Node) (p q : Peer) (r : ℕ) (list : List Peer) → new ≡ old ++ s ∷ [] → f s ≡ peer_of n → n ≡ joined_node p r list → p ≡ q → map f new ≡ map f old ++ q ∷ []
live_more f old new s n p q r list pushed seat joined named =
    ap (map f) pushed ∙ map-append f old (s ∷ []) ∙ ap (λ (m : Peer). map f old ++ m ∷ []) (seat ∙ ap peer_of joined ∙ named)
