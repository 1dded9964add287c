-- The nodes ever made, by number.
use Rattle.std.proofs.Common.{◌≡◌, ℕ, zero, suc, ◌+◌, ◌<◌, ◌≤◌, Bool, true, false, cond, List, [], ◌∷◌, length, map, fold, refl, sym, ap, ◌∙◌, subst, arith, Result, Ok, Err, IfOk}
use Rattle.ivy_base.specs.declared.memory.Memory.{Memory}
use Rattle.std.specs.List.{AllByRecursion}
use Rattle.std.specs.List.Sorted.{IsStrictlyIncreasing}
use Rattle.std.specs.Prelude.{◌≢◌, nat_lt, slice_index, ⊤}
use Rattle.std.proofs.lemmas.Bool.{ltb-true, ltb-false}
use Rattle.ring_model.specs.Members.{HasAscendingPlaces}
use Rattle.ring_model.proofs.Lists.{all_weaker}
use Rattle.dht_ids.specs.NodeIds.{node_id_of}
use Rattle.dht_ids.specs.Peers.{place}
use Rattle.dht_ids.specs.declared.peer.Peer.{Peer}
use Rattle.world_model.specs.Nodes.{Node}
use Rattle.world_model.specs.World.{World, empty_world, entries, peer_of, with_numbered}
use Rattle.round_laws.specs.RingOf.{AreApart, AreNamed}
use Rattle.ring_nodes.specs.NodesState.{AreSound, IsNodesOf, NodesState, made_peers, with_nodes}
use Rattle.world_mesh.specs.Trails.{entries_of}

abbrev number_of : Peer → ℕ
number_of p = p.number

-- ---- numbers that ascend, place by place

step_ascends : (ps : List Peer) → HasAscendingPlaces number_of ps → (k : ℕ) → suc k < length (map number_of ps)
    → slice_index (map number_of ps) k < slice_index (map number_of ps) (suc k)
step_ascends [] a k l = absurd (omega (arith, l))
step_ascends (p ∷ []) a k l = absurd (omega (arith, l))
step_ascends (p ∷ q ∷ ps) a zero l = a.0.0
step_ascends (p ∷ q ∷ ps) a (suc k) l = step_ascends (q ∷ ps) a.1 k (omega (arith, l))

numbers_ascend : (ps : List Peer) → HasAscendingPlaces number_of ps → IsStrictlyIncreasing (map number_of ps)
numbers_ascend ps a k l =
    let one : k + 1 ≡ suc k = omega arith in
    subst (λ m. slice_index (map number_of ps) k < slice_index (map number_of ps) m) (sym one)
    (step_ascends ps a k (subst (λ m. m < length (map number_of ps)) one l))

-- ---- one in its place

numbered_all : (P : Peer → Type 0) (ps : List Peer) (p : Peer) → AllByRecursion P ps → P p → AllByRecursion P (with_numbered ps p)
numbered_all P [] p a h = (h, tt)
numbered_all P (q ∷ ps) p a h = by (nat_lt p.number q.number) (numbered_all P ps p a.1 h)
  where
    by : (t : Bool) → AllByRecursion P (with_numbered ps p) → AllByRecursion P (cond t (p ∷ q ∷ ps) (q ∷ with_numbered ps p))
    by true rest = (h, a)
    by false rest = (a.0, rest)

above : (m n : ℕ) → n ≤ m → (n ≡ m → ⊥) → n < m
above m n l d = omega (arith, l, d)

-- of another number than each of these
abbrev IsNew : List Peer → Peer → Type 0
IsNew ps p = AllByRecursion (λ q. q.number ≡ p.number → ⊥) ps

numbered_ascends : (ps : List Peer) (p : Peer) → HasAscendingPlaces number_of ps → IsNew ps p → HasAscendingPlaces number_of (with_numbered ps p)
numbered_ascends [] p a d = (tt, tt)
numbered_ascends (q ∷ ps) p a d = by (nat_lt p.number q.number) refl (numbered_ascends ps p a.1 d.1)
  where
    by : (t : Bool) → nat_lt p.number q.number ≡ t → HasAscendingPlaces number_of (with_numbered ps p)
        → HasAscendingPlaces number_of (cond t (p ∷ q ∷ ps) (q ∷ with_numbered ps p))
    by true t rest =
        let less : p.number < q.number = ltb-true p.number q.number t in
        ((less, all_weaker (λ y. q.number < y.number) (λ y. p.number < y.number) ps (λ y l. omega (arith, less, l)) a.0), a)
    by false t rest =
        let most : q.number ≤ p.number = ltb-false p.number q.number t in
        (numbered_all (λ y. q.number < y.number) ps p a.0 (above p.number q.number most d.0), rest)

-- ---- all in their places

-- no two of one number
abbrev AreDistinct : List Peer → Type 0
AreDistinct [] = ⊤
AreDistinct (p ∷ ps) = AllByRecursion (λ q. p.number ≡ q.number → ⊥) ps × AreDistinct ps

new_behind : (acc ps : List Peer) (p : Peer) → AllByRecursion (IsNew acc) ps → AllByRecursion (λ q. p.number ≡ q.number → ⊥) ps
    → AllByRecursion (IsNew (with_numbered acc p)) ps
new_behind acc [] p new differ = tt
new_behind acc (q ∷ ps) p new differ = (numbered_all (λ x. x.number ≡ q.number → ⊥) acc p new.0 differ.0, new_behind acc ps p new.1 differ.1)

all_ascend : (acc ps : List Peer) → HasAscendingPlaces number_of acc → AllByRecursion (IsNew acc) ps → AreDistinct ps → HasAscendingPlaces number_of (fold with_numbered acc ps)
all_ascend acc [] a new distinct = a
all_ascend acc (p ∷ ps) a new distinct =
    all_ascend (with_numbered acc p) ps (numbered_ascends acc p a new.0) (new_behind acc ps p new.1 distinct.0) distinct.1

all_new : (ps : List Peer) → AllByRecursion (IsNew []) ps
all_new [] = tt
all_new (p ∷ ps) = (tt, all_new ps)

differ : (p : Peer) (ps : List Peer) → p.id ≡ node_id_of p.number → AreNamed ps → AllByRecursion (λ q. place p ≡ place q → ⊥) ps
    → AllByRecursion (λ q. p.number ≡ q.number → ⊥) ps
differ p [] is named apart = tt
differ p (q ∷ ps) is named apart =
    (λ e. apart.0 (ap (λ k. place (record { number = q.number; id = k })) (is ∙ ap node_id_of e ∙ sym named.0)), differ p ps is named.1 apart.1)

distinct : (ps : List Peer) → AreNamed ps → AreApart ps → AreDistinct ps
distinct [] named apart = tt
distinct (p ∷ ps) named apart = (differ p ps named.0 named.1 apart.0, distinct ps named.1 apart.1)

pub entries_ascend : (s : NodesState) → AreSound s.nodes → IsStrictlyIncreasing (map (λ (p : Peer). p.number) (entries_of s))
entries_ascend s sound =
    numbers_ascend (entries_of s) (all_ascend [] (made_peers s) tt (all_new (made_peers s)) (distinct (made_peers s) sound.named sound.apart))

-- ---- some

some_numbered : (ps : List Peer) (p : Peer) → with_numbered ps p ≢ []
some_numbered [] p e = absurd cc
some_numbered (q ∷ ps) p e = by (nat_lt p.number q.number) e
  where
    by : (t : Bool) → cond t (p ∷ q ∷ ps) (q ∷ with_numbered ps p) ≢ []
    by true e = absurd cc
    by false e = absurd cc

some_folded : (acc ps : List Peer) → acc ≢ [] → fold with_numbered acc ps ≢ []
some_folded acc [] some e = some e
some_folded acc (p ∷ ps) some e = some_folded (with_numbered acc p) ps (some_numbered acc p) e

pub some_entries : (s : NodesState) → s.nodes ≢ [] → entries_of s ≢ []
some_entries s some = by s.nodes some
  where
    by : (nodes : List Node) → nodes ≢ [] → fold with_numbered [] (map peer_of nodes) ≢ []
    by [] some e = some refl
    by (n ∷ nodes) some e = some_folded (with_numbered [] (peer_of n)) (map peer_of nodes) (some_numbered [] (peer_of n)) e

-- ---- what a call gives

pub entries_are : (s t : NodesState) (result : Result (List Peer) Memory) → s ≡ t
    → IfOk result (λ peers. (w : World) → IsNodesOf w s → peers ≡ entries w) → IfOk result (λ peers. peers ≡ entries_of t)
entries_are s t (Ok peers) same given = given (with_nodes empty_world s) (refl, refl, refl) ∙ ap entries_of same
entries_are s t (Err lacks) same given = tt

pub all_ascend_in : (s : NodesState) (result : Result (List Peer) Memory) → AreSound s.nodes
    → IfOk result (λ peers. (w : World) → IsNodesOf w s → peers ≡ entries w) → IfOk result (λ peers. IsStrictlyIncreasing (map (λ (p : Peer). p.number) peers))
all_ascend_in s (Ok peers) sound given =
    subst (λ (l : List Peer). IsStrictlyIncreasing (map number_of l)) (sym (given (with_nodes empty_world s) (refl, refl, refl))) (entries_ascend s sound)
all_ascend_in s (Err lacks) sound given = tt
