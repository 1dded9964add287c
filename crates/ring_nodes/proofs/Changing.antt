-- A node that a round changes in its place.
use Rattle.std.proofs.Common.{◌≡◌, refl, ℕ, zero, suc, ◌<◌, List, [], ◌∷◌, length, map, set, get_or, sym, ap, ◌∙◌, subst, Some, IfSome, Result, Ok, Err, IfOk, ◌++◌, ◌+◌, fold, take}
use Rattle.std.specs.Prelude.{OnErr, OnOk}
use Rattle.std.specs.List.{position}
use Rattle.std.proofs.lemmas.List.{take_more}
use Rattle.ivy_base.specs.declared.key.Key.{Key}
use Rattle.ivy_base.specs.declared.memory.Memory.{Memory}
use Rattle.ring_model.specs.Members.{IsAmong, first}
use Rattle.dht_ids.specs.declared.ask.Answer.{Answer}
use Rattle.dht_ids.specs.declared.ask.Answer.TheVariants as answer
use Rattle.dht_ids.specs.declared.peer.Peer.{Peer}
use Rattle.dhash_model.specs.State.{stabilised}
use Rattle.chord_core.specs.State.{IsOfNear}
use Rattle.world_model.specs.Nodes.{Node}
use Rattle.world_model.specs.World.{peer_of}
use Rattle.round_laws.specs.RingOf.{AreApart, KnowsOnly}
use Rattle.round_laws.proofs.Nodes.{replaced}
use Rattle.round_laws.proofs.Renewing.{all_renewed}
use Rattle.ring_nodes.specs.NodesState.{AreAllAmong, AreSound, NamesOnly, NodesState, made_peers}
use Rattle.ring_nodes.specs.Upkeep.{Changes, HasNode, fingered, forgotten, renewed_by}
use Rattle.ring_nodes.proofs.Places.{found_at, found_within, has_id, set_replaces}
use Rattle.ring_nodes.proofs.Sound.{old_knows}

-- ---- what a node knows then

module _ (made : List Peer) (n : Node) (h : KnowsOnly made n) where
  pub forgotten_knows : KnowsOnly made (forgotten n)
  forgotten_knows = record { list = h.list; fingers = h.fingers; before = tt }

  all_stabilised : (list : List Peer) (heard : Answer) → IsOfNear heard → NamesOnly made heard → AreAllAmong made list → AreAllAmong made (stabilised n.ring list heard)
  all_stabilised [] heard near names all = tt
  all_stabilised (f ∷ rest) (answer.Near before list) near names all = all_renewed (λ q. IsAmong q made) n.ring.replicas n.ring.me f before list all.0 names.0 names.1
  all_stabilised (f ∷ rest) answer.Silent near names all = all.1
  all_stabilised (f ∷ rest) (answer.Route nearer owners) near names all = absurd near
  all_stabilised (f ∷ rest) (answer.Found bytes) near names all = absurd near
  all_stabilised (f ∷ rest) answer.Nothing near names all = absurd near
  all_stabilised (f ∷ rest) answer.Stored near names all = absurd near
  all_stabilised (f ∷ rest) (answer.Refused fault) near names all = absurd near
  all_stabilised (f ∷ rest) answer.Noted near names all = absurd near

  pub renewed_knows : (heard : Answer) → IsOfNear heard → NamesOnly made heard → KnowsOnly made (renewed_by heard n)
  renewed_knows heard near names = record { list = all_stabilised n.ring.links.list heard near names h.list; fingers = h.fingers; before = h.before }

  all_set_peer : (k : ℕ) (f : Peer) (ps : List Peer) → IsAmong f made → AreAllAmong made ps → AreAllAmong made (set ps k f)
  all_set_peer k f [] i all = tt
  all_set_peer zero f (p ∷ ps) i all = (i, all.1)
  all_set_peer (suc k) f (p ∷ ps) i all = (all.0, all_set_peer k f ps i all.1)

  pub fingered_knows : (k : ℕ) (f : Peer) → IsAmong f made → KnowsOnly made (fingered k f n)
  fingered_knows k f i = record { list = h.list; fingers = all_set_peer k f n.ring.links.fingers i h.fingers; before = h.before }

-- the first of a list of made peers was made
pub first_made : (made ps : List Peer) → AreAllAmong made ps → IfSome (first ps) (λ q. IsAmong q made)
first_made made [] all = tt
first_made made (p ∷ ps) all = all.0

pub knows_at : (s : NodesState) (nodes : List Node) (id : Key) (i : ℕ) (old : Node) → nodes ≡ s.nodes → position (has_id id) s.nodes ≡ Some i → old ≡ get_or nodes i old → AreSound nodes → KnowsOnly (made_peers s) old
knows_at s nodes id i old same found is sound =
    let within : i < length nodes = subst (λ l. i < length l) (sym same) (found_within (has_id id) s.nodes i found) in
    subst (λ l. KnowsOnly (map peer_of l) old) same (old_knows nodes i old sound within is)

-- ---- a walk that folds

fold_behind : {X Y : Type 0} (f : Y → X → Y) (z : Y) (xs : List X) (x : X) → fold f z (xs ++ x ∷ []) ≡ f (fold f z xs) x
fold_behind f z [] x = refl
fold_behind f z (y ∷ xs) x = fold_behind f (f z y) xs x

pub fold_step : {X Y : Type 0} (f : Y → X → Y) (z : Y) (xs : List X) (i : ℕ) (d : X) → i < length xs → fold f z (take (i + 1) xs) ≡ f (fold f z (take i xs)) (get_or xs i d)
fold_step f z xs i d within = ap (fold f z) (take_more xs i d within) ∙ fold_behind f z (take i xs) (get_or xs i d)

-- ---- the nodes then

pub has_node : (Is : Node → Type 0) (s : NodesState) (id : Key) (i : ℕ) (old : Node) → position (has_id id) s.nodes ≡ Some i → old ≡ get_or s.nodes i old → Is old → HasNode Is s id
has_node Is s id i old found is h = (old, found_at (has_id id) s.nodes i old found ∙ ap (λ (n : Node). Some n) (sym is), h)

pub call_has_node : {T : Type 0} (Is : T → Node → Type 0) (s : NodesState) (id : Key) (i : ℕ) (old : Node) (result : Result T Memory) → position (has_id id) s.nodes ≡ Some i → old ≡ get_or s.nodes i old → IfOk result (λ t. Is t old) → IfOk result (λ t. HasNode (Is t) s id)
call_has_node Is s id i old (Err e) found is h = tt
call_has_node Is s id i old (Ok t) found is h = has_node (Is t) s id i old found is h

pub changed : (change : Node → Node) (s next : NodesState) (id : Key) (i : ℕ) (old new : Node) → AreApart (made_peers s) → position (has_id id) s.nodes ≡ Some i → old ≡ get_or s.nodes i old → new ≡ change old → peer_of (change old) ≡ peer_of old
    → next.nodes ≡ set s.nodes i new → next.asked ≡ s.asked → next.lost ≡ s.lost → Changes change id s next
changed change s next id i old new apart found is after same nodes asked lost = record {
  node = old;
  at = found_at (has_id id) s.nodes i old found ∙ ap (λ (n : Node). Some n) (sym is);
  is = λ w of.
      let all : next.nodes ≡ replaced (change old) w.nodes = nodes ∙ ap (set s.nodes i) after ∙ set_replaces s.nodes i (change old) old apart (found_within (has_id id) s.nodes i found) (same ∙ ap peer_of is) ∙ ap (replaced (change old)) (sym of.0) in
      λ k. record w { nodes = all k; asked = (asked ∙ sym of.1) k; lost = (lost ∙ sym of.2) k };
}

-- the same where a call may have failed
pub call_changed : (change : Node → Node) (s next : NodesState) (id : Key) (i : ℕ) (old new : Node) (result : Result Unit Memory) → AreApart (made_peers s) → position (has_id id) s.nodes ≡ Some i → old ≡ get_or s.nodes i old → OnOk result (new ≡ change old)
    → peer_of (change old) ≡ peer_of old → next.nodes ≡ set s.nodes i new → next.asked ≡ s.asked → next.lost ≡ s.lost → OnOk result (Changes change id s next)
call_changed change s next id i old new (Err e) apart found is after same nodes asked lost = tt
call_changed change s next id i old new (Ok done) apart found is after same nodes asked lost = changed change s next id i old new apart found is after same nodes asked lost

pub call_kept : (Is : Node → Type 0) (change : Node → Node) (old new : Node) (result : Result Unit Memory) → OnOk result (new ≡ change old) → OnErr result (new ≡ old) → Is old → Is (change old) → Is new
call_kept Is change old new (Ok done) after kept was then = subst Is (sym after) then
call_kept Is change old new (Err e) after kept was then = subst Is (sym kept) was
