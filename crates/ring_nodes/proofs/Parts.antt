-- The parts of nodes, one after the other.
use Rattle.std.proofs.Common.{◌≡◌, ℕ, suc, ◌+◌, ◌<◌, ◌≤◌, List, [], ◌∷◌, ◌++◌, length, take, get_or, map, refl, sym, ap, ◌∙◌, subst, Some, arith}
use Rattle.std.proofs.Math.Seq.{take-suc}
use Rattle.std.proofs.lemmas.List.{take_all}
use Rattle.ivy_base.specs.declared.key.Key.{Key}
use Rattle.dht_ids.specs.declared.peer.Peer.{Peer}
use Rattle.world_model.specs.Nodes.{Node}
use Rattle.world_model.specs.World.{World, peer_of}
use Rattle.world_model.specs.Rounds.{EachDoes, ManyDo}
use Rattle.world_model.specs.Rounds.EachDoes.{done, next as then_does}
use Rattle.world_model.specs.Rounds.ManyDo.{none as not_once, again as once_more}
use Rattle.round_laws.specs.RingOf.{AreApart}
use Rattle.round_laws.proofs.Nodes.{at, at_id, mapped_kept, replaced}
use Rattle.ring_nodes.specs.NodesState.{IsNodesOf, NodesState, made_peers, with_nodes}
use Rattle.ring_nodes.proofs.Reaching.{same_world}

-- ---- one after the other

each_more : (Does : World → Peer → World → Type 0) {w mid : World} {ps : List Peer} → EachDoes Does w ps mid → (after : World) (p : Peer) → Does mid p after → EachDoes Does w (ps ++ p ∷ []) after
each_more Does done after p d = then_does d done
each_more Does (then_does first rest) after p d = then_does first (each_more Does rest after p d)

many_more : (Does : World → List Peer → World → Type 0) {ps : List Peer} {k : ℕ} {w mid : World} → ManyDo Does ps k w mid → (after : World) → Does mid ps after → ManyDo Does ps (suc k) w after
many_more Does not_once after d = once_more d not_once
many_more Does (once_more first rest) after d = once_more first (many_more Does rest after d)

-- these peers' parts were done, and who was made stays
pub record HasDone (Does : World → Peer → World → Type 0) (start now : NodesState) (ps : List Peer) : Type 0 where
  pub does : (w : World) → IsNodesOf w start → EachDoes Does w ps (with_nodes w now)
  pub made : made_peers now ≡ made_peers start

pub done_none : (Does : World → Peer → World → Type 0) (s : NodesState) → HasDone Does s s []
done_none Does s = record { does = λ w is. subst (λ v. EachDoes Does w [] v) (same_world w s is) done; made = refl }

pub done_more : (Does : World → Peer → World → Type 0) (start now after : NodesState) (ps read : List Peer) (i : ℕ) (d p : Peer) → HasDone Does start now (take i ps) → ((w : World) → IsNodesOf w now → Does w p (with_nodes w after)) → made_peers after ≡ made_peers now
    → read ≡ ps → i < length read → p ≡ get_or read i d → HasDone Does start after (take (i + 1) ps)
done_more Does start now after ps read i d p h does still same within is = record {
  does = λ w of. subst (λ l. EachDoes Does w l (with_nodes w after)) (sym taken) (each_more Does (h.does w of) (with_nodes w after) p (does (with_nodes w now) (refl, refl, refl)));
  made = still ∙ h.made;
}
  where
    taken : take (i + 1) ps ≡ take i ps ++ p ∷ []
    taken =
        let one : i + 1 ≡ suc i = omega arith in
        ap (λ l. take (i + 1) l) (sym same) ∙ ap (λ k. take k read) one ∙ take-suc read i d within ∙ ap (λ x. take i read ++ x ∷ []) (sym is) ∙ ap (λ l. take i l ++ p ∷ []) same

-- the same of the place where the walk is
pub done_next : (Does : World → Peer → World → Type 0) (start now after : NodesState) (ps : List Peer) (i : ℕ) (d : Peer) → HasDone Does start now (take i ps) → ((w : World) → IsNodesOf w now → Does w (get_or ps i d) (with_nodes w after)) → made_peers after ≡ made_peers now → i < length ps
    → HasDone Does start after (take (i + 1) ps)
done_next Does start now after ps i d h does still within = done_more Does start now after ps ps i d (get_or ps i d) h does still refl within refl

-- at the end of the walk
pub done_all : (Does : World → Peer → World → Type 0) (start now : NodesState) (ps : List Peer) (i : ℕ) → HasDone Does start now (take i ps) → length ps ≤ i → (w : World) → IsNodesOf w start → EachDoes Does w ps (with_nodes w now)
done_all Does start now ps i h past w is = subst (λ l. EachDoes Does w l (with_nodes w now)) (take_all i ps past) (h.does w is)

-- so many times
pub record HasPassed (Does : World → List Peer → World → Type 0) (start now : NodesState) (ps : List Peer) (k : ℕ) : Type 0 where
  pub does : (w : World) → IsNodesOf w start → ManyDo Does ps k w (with_nodes w now)
  pub made : made_peers now ≡ made_peers start

pub passed_none : (Does : World → List Peer → World → Type 0) (s : NodesState) (ps : List Peer) → HasPassed Does s s ps 0
passed_none Does s ps = record { does = λ w is. subst (λ v. ManyDo Does ps 0 w v) (same_world w s is) not_once; made = refl }

pub passed_more : (Does : World → List Peer → World → Type 0) (start now after : NodesState) (ps : List Peer) (k : ℕ) → HasPassed Does start now ps k → ((w : World) → IsNodesOf w now → Does w ps (with_nodes w after)) → made_peers after ≡ made_peers now
    → HasPassed Does start after ps (k + 1)
passed_more Does start now after ps k h does still = record {
  does = λ w of. let one : suc k ≡ k + 1 = omega arith in subst (λ n. ManyDo Does ps n w (with_nodes w after)) one (many_more Does (h.does w of) (with_nodes w after) (does (with_nodes w now) (refl, refl, refl)));
  made = still ∙ h.made;
}

pub passed_all : (Does : World → List Peer → World → Type 0) (start now : NodesState) (ps : List Peer) (k n : ℕ) → HasPassed Does start now ps k → k ≡ suc n → (w : World) → IsNodesOf w start → ManyDo Does ps (suc n) w (with_nodes w now)
passed_all Does start now ps k n h is w of = subst (λ i. ManyDo Does ps i w (with_nodes w now)) is (h.does w of)

-- ---- a node in its own place

map_itself : (nodes : List Node) → map (λ (n : Node). n) nodes ≡ nodes
map_itself [] = refl
map_itself (n ∷ nodes) = ap (λ (l : List Node). n ∷ l) (map_itself nodes)

pub replaced_itself : (nodes : List Node) (n : Node) (id : Key) → AreApart (map peer_of nodes) → at nodes id ≡ Some n → replaced n nodes ≡ nodes
replaced_itself nodes n id apart found =
    let here : at nodes (peer_of n).id ≡ Some n = subst (λ k. at nodes k ≡ Some n) (sym (at_id nodes id n found)) found in
    sym (map_itself (replaced n nodes)) ∙ mapped_kept (λ (m : Node). m) nodes n n apart here refl ∙ map_itself nodes
