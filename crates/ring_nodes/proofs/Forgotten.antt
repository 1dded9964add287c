-- A predecessor that is forgotten, or isn't.
use Rattle.std.proofs.Common.{◌≡◌, ℕ, List, refl, sym, subst, Option, Some, None}
use Rattle.std.specs.Prelude.{◌≢◌}
use Rattle.ivy_base.specs.declared.key.Key.{Key}
use Rattle.dht_ids.specs.declared.ask.Answer.{Answer}
use Rattle.dht_ids.specs.declared.ask.Answer.TheVariants as answer
use Rattle.dht_ids.specs.declared.ask.Ask.TheVariants as ask
use Rattle.dht_ids.specs.declared.judge.Judged.{Judged}
use Rattle.dht_ids.specs.declared.peer.Peer.{Peer}
use Rattle.world_model.specs.Fates.{FateOf}
use Rattle.world_model.specs.Rounds.{Forgets}
use Rattle.world_model.specs.Rounds.Forgets.{has_none, keeps, forgets}
use Rattle.world_model.specs.World.{World}
use Rattle.ring_nodes.specs.NodesState.{IsNodesOf, NodesState, with_nodes}
use Rattle.ring_nodes.specs.Upkeep.{Changes, HasNode, forgotten}
use Rattle.ring_nodes.proofs.Reaching.{same_world}

module _ (judged : Key → List ℕ → Option Judged) (p : Peer) (s : NodesState) where
  from_state : (next : World → World) → ((w : World) → Forgets judged (with_nodes w s) p (next w)) → (w : World) → IsNodesOf w s → Forgets judged w p (next w)
  from_state next does w is = subst (λ v. Forgets judged v p (next w)) (sym (same_world w s is)) (does w)

  pub forgets_none : (before : Option Peer) → HasNode (λ n. before ≡ n.ring.links.before) s p.id → before ≡ None → (w : World) → IsNodesOf w s → Forgets judged w p (with_nodes w s)
  forgets_none before h none = from_state (λ w. with_nodes w s) (λ w. has_none h.0 h.1 (subst (λ o. h.0.ring.links.before ≡ o) none (sym h.2)))

  module _ (before : Option Peer) (b : Peer) (h : HasNode (λ n. before ≡ n.ring.links.before) s p.id) (some : before ≡ Some b) (mid : NodesState) (given : Answer) (fate : (w : World) → IsNodesOf w s → FateOf judged w b ask.Near given (with_nodes w mid)) where
    pub forgets_not : given ≢ answer.Silent → (w : World) → IsNodesOf w s → Forgets judged w p (with_nodes w mid)
    forgets_not heard = from_state (λ w. with_nodes w mid) (λ w. keeps h.0 b given (with_nodes w mid) h.1 (subst (λ o. h.0.ring.links.before ≡ o) some (sym h.2)) (fate (with_nodes w s) (refl, refl, refl)) heard)

    pub forgets_so : (next : NodesState) → given ≡ answer.Silent → Changes forgotten p.id mid next → (w : World) → IsNodesOf w s → Forgets judged w p (with_nodes w next)
    forgets_so next silent c = from_state (λ w. with_nodes w next) (λ w.
        subst (λ v. Forgets judged (with_nodes w s) p v) (sym (c.is (with_nodes w mid) (refl, refl, refl)))
        (forgets h.0 c.node b (with_nodes w mid) h.1 (subst (λ o. h.0.ring.links.before ≡ o) some (sym h.2))
        (subst (λ g. FateOf judged (with_nodes w s) b ask.Near g (with_nodes w mid)) silent (fate (with_nodes w s) (refl, refl, refl))) c.at))
