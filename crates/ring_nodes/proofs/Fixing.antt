-- A finger that is fixed.
use Rattle.std.proofs.Common.{◌≡◌, ℕ, suc, ◌+◌, List, [], ◌∷◌, set, refl, sym, ap, ◌∙◌, subst, Option, Some, None, Result, arith}
use Rattle.ivy_base.specs.declared.key.Key.{Key}
use Rattle.log_model.specs.Spelling.{IsKey}
use Rattle.ring_model.specs.Circle.{number}
use Rattle.ring_model.specs.Members.{IsAmong}
use Rattle.ring_model.specs.Ring.{Links, start as finger_start}
use Rattle.ring_model.specs.Round.{with_finger}
use Rattle.ring_model.proofs.Lists.{none_some, some_same}
use Rattle.dht_ids.specs.Peers.{place}
use Rattle.dht_ids.specs.declared.judge.Judged.{Judged}
use Rattle.dht_ids.specs.declared.peer.Peer.{Peer}
use Rattle.dhash_model.specs.Execution.{outcome}
use Rattle.dhash_model.specs.declared.miss.Miss.{Miss}
use Rattle.dhash_model.specs.State.{with_links}
use Rattle.world_model.specs.Nodes.{Node}
use Rattle.world_model.specs.Rounds.{FixesFinger, FixesFrom}
use Rattle.world_model.specs.Rounds.FixesFrom.{done as no_more, next as then_fixes}
use Rattle.world_model.specs.World.{World, with_node}
use Rattle.round_laws.proofs.Nodes.{at_made}
use Rattle.ring_nodes.specs.Joining.{Finds}
use Rattle.ring_nodes.specs.NodesState.{AreSound, IsNodesOf, NodesState, made_peers, with_nodes}
use Rattle.ring_nodes.specs.Upkeep.{Changes, fingered}
use Rattle.ring_nodes.proofs.Reaching.{same_world}
use Rattle.ring_nodes.specs.Parts.{first_found}
use Rattle.ring_nodes.proofs.Parts.{replaced_itself}

-- ---- what is found

finger_found : (k : ℕ) (key : Key) (found : Option (List Peer)) (f : Peer) (links : Links Peer) → first_found (outcome key found) ≡ Some f → record links { fingers = set links.fingers k f } ≡ with_finger k found links
finger_found k key None f links e = absurd (none_some f e)
finger_found k key (Some []) f links e = absurd (none_some f e)
finger_found k key (Some (p ∷ ps)) f links e = ap (λ q. record links { fingers = set links.fingers k q }) (sym (some_same p f e))

nobody_found : (k : ℕ) (key : Key) (found : Option (List Peer)) (links : Links Peer) → first_found (outcome key found) ≡ None → links ≡ with_finger k found links
nobody_found k key None links e = refl
nobody_found k key (Some []) links e = refl
nobody_found k key (Some (p ∷ ps)) links e = absurd (none_some p (sym e))

-- ---- one finger

module _ (judged : Key → List ℕ → Option Judged) (p : Peer) (k : ℕ) (s mid : NodesState) (key : Key) (is_key : IsKey key) (starts : number key ≡ finger_start place 160 p k) (result : Result (List Peer) Miss)
    (finds : (w : World) → IsNodesOf w s → Finds judged w key p result (with_nodes w mid)) where
  pub fixes_some : (next : NodesState) (f : Peer) → first_found result ≡ Some f → Changes (fingered k f) p.id mid next → (w : World) → IsNodesOf w s → FixesFinger judged p k w (with_nodes w next)
  fixes_some next f e c w is =
      let found = finds w is in
      record {
        key = key;
        is_key = is_key;
        starts = starts;
        found = found.0;
        mid = with_nodes w mid;
        looks = found.2;
        node = c.node;
        is_node = c.at;
        fixed = c.is (with_nodes w mid) (refl, refl, refl) ∙ ap (λ l. with_node (with_nodes w mid) (record c.node { ring = with_links c.node.ring l })) (finger_found k key found.0 f c.node.ring.links (ap first_found found.1 ∙ e));
      }

  pub fixes_none : AreSound mid.nodes → IsAmong p (made_peers mid) → first_found result ≡ None → (w : World) → IsNodesOf w s → FixesFinger judged p k w (with_nodes w mid)
  fixes_none sound made e w is =
      let found = finds w is in
      let own = at_made mid.nodes p sound.apart made in
      let node : Node = own.0 in
      let same : with_nodes w mid ≡ with_node (with_nodes w mid) node = λ i. record (with_nodes w mid) { nodes = sym (replaced_itself mid.nodes node p.id sound.apart own.1) i } in
      record {
        key = key;
        is_key = is_key;
        starts = starts;
        found = found.0;
        mid = with_nodes w mid;
        looks = found.2;
        node = node;
        is_node = own.1;
        fixed = same ∙ ap (λ l. with_node (with_nodes w mid) (record node { ring = with_links node.ring l })) (nobody_found k key found.0 node.ring.links (ap first_found found.1 ∙ e));
      }

-- ---- fingers one after the other

fixes_more : (judged : Key → List ℕ → Option Judged) (p : Peer) {k n : ℕ} {w mid : World} → FixesFrom judged p k n w mid → (after : World) → FixesFinger judged p (k + n) mid after → FixesFrom judged p k (suc n) w after
fixes_more judged p (no_more {k = k} {w = w}) after f = let none : k + 0 ≡ k = omega arith in then_fixes (subst (λ i. FixesFinger judged p i w after) none f) no_more
fixes_more judged p (then_fixes {k = k} {count = n} {mid = middle} {after = last} first rest) after f =
    let same : k + suc n ≡ suc k + n = omega arith in
    then_fixes first (fixes_more judged p rest after (subst (λ i. FixesFinger judged p i last after) same f))

-- the first fingers were fixed, and who was made stays
pub record HasFixed (judged : Key → List ℕ → Option Judged) (p : Peer) (start now : NodesState) (n : ℕ) : Type 0 where
  pub fixes : (w : World) → IsNodesOf w start → FixesFrom judged p 0 n w (with_nodes w now)
  pub made : made_peers now ≡ made_peers start

pub fixed_none : (judged : Key → List ℕ → Option Judged) (p : Peer) (s : NodesState) → HasFixed judged p s s 0
fixed_none judged p s = record { fixes = λ w is. subst (λ v. FixesFrom judged p 0 0 w v) (same_world w s is) no_more; made = refl }

pub fixed_more : (judged : Key → List ℕ → Option Judged) (p : Peer) (start now after : NodesState) (n : ℕ) → HasFixed judged p start now n → ((w : World) → IsNodesOf w now → FixesFinger judged p n w (with_nodes w after)) → made_peers after ≡ made_peers now
    → HasFixed judged p start after (n + 1)
fixed_more judged p start now after n h fixes still =
    let same : n ≡ 0 + n = omega arith in
    let one : suc n ≡ n + 1 = omega arith in record {
      fixes = λ w of. subst (λ i. FixesFrom judged p 0 i w (with_nodes w after)) one
          (fixes_more judged p (h.fixes w of) (with_nodes w after) (subst (λ i. FixesFinger judged p i (with_nodes w now) (with_nodes w after)) same (fixes (with_nodes w now) (refl, refl, refl))));
      made = still ∙ h.made;
    }
