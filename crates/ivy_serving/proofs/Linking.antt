-- A session over a mesh that is the ring, with a pass that is that one.
use Rattle.std.proofs.Common.{◌≡◌, ℕ, List, subst}
use Rattle.dht_ids.specs.declared.peer.Peer.{Peer}
use Rattle.dhash_model.specs.Signed.{hss_judged}
use Rattle.agent_gate.specs.Sharing.{Comes, Leaves}
use Rattle.server_model.specs.declared.ended.Ended.{Ended}
use Rattle.ivy_server.specs.Passes.{by_passes, passes}
use Rattle.ivy_server.specs.Served.{IsServed, Server, Surroundings}
use Rattle.ring_run.specs.Live.{LiveState}
use Rattle.ivy_serving.specs.Jobs.{CameOf, Gate, Pass, ServingKind, server_over}

module _ {K S Q W C : Type 0} (serving : ServingKind K S Q W C) (gate : Gate K S) where
  -- who serves, over a mesh with so many owners of a key and these nodes
  abbrev pub server_with : ℕ → List Peer → Server (Pass K S) C
  server_with replicas entries = record {
    taker = by_passes (passes serving.agents.signs serving.agents.IsWhole serving.agents.saves (Comes serving.agents gate)
        (Leaves serving.agents gate));
    ring = record { judged = hss_judged; replicas = replicas; entries = entries };
    gives = serving.moments;
  }

  pub on_ring : (ring : LiveState) (replicas : ℕ) (entries : List Peer) (before after : Surroundings (Pass K S) C) (how : Ended)
      → replicas ≡ ring.replicas → entries ≡ ring.made → IsServed (server_with replicas entries) before after how
      → IsServed (server_over serving gate ring) before after how
  on_ring ring replicas entries before after how p q h =
      subst (λ e. IsServed (server_with ring.replicas e) before after how) q (subst (λ r. IsServed (server_with r entries) before after how) p h)

pub of_pass : {K S : Type 0} (gate : Gate K S) (first pass p : Pass K S) → first ≡ pass → CameOf gate first p → CameOf gate pass p
of_pass gate first pass p same h = subst (λ f. CameOf gate f p) same h
