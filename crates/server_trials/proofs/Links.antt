-- Links over the nodes of a world, and of a gate's pass.
use Rattle.std.proofs.Common.{◌≡◌, ℕ, List, [], ◌++◌, sym, ap, ◌∙◌, subst, Some, option_map}
use Rattle.dht_ids.specs.Asked.{longer}
use Rattle.dht_ids.specs.declared.ask.Heard.{Heard}
use Rattle.dht_ids.specs.declared.peer.Peer.{Peer}
use Rattle.dhash_model.specs.Signed.{hss_judged}
use Rattle.ring_nodes.specs.NodesState.{NodesState}
use Rattle.agent_gate.specs.Sharing.{AgentGate, AgentPass, made_by}
use Rattle.agent_gate.specs.Taking.{AgentKind}
use Rattle.ivy_agent.specs.Calls.{Made}
use Rattle.server_model.specs.Acts.{trail_of, turns_of}
use Rattle.server_model.specs.Links.{Execution, Link}
use Rattle.server_model.specs.Takers.{Taker}
use Rattle.server_model.specs.declared.ended.Ended.{Ended}
use Rattle.ivy_server.specs.Served.{AreTurns}
use Rattle.ring_run.specs.Live.{LiveState}
use Rattle.world_mesh.specs.Trails.{LeadsTo, MeshState}
use Rattle.server_trials.specs.Gated.{HasServedBy, by_gate}
use Rattle.server_trials.specs.Worlds.{HasServedOver, ring_over}

some_same : {X : Type 0} (x y : X) → Some x ≡ Some y → x ≡ y
some_same x y e = cc

pub served_over : {P : Type 0} (taker : Taker P) (replicas : ℕ) (p q : P) (how : Ended) (start nodes there : NodesState) (m : MeshState) (trail : List Heard)
    (execution : Execution) → nodes ≡ start → m ≡ record { replicas = replicas; nodes = nodes; trail = []; silences = 0 }
    → Link taker (ring_over m.replicas m.nodes) p execution how q → Some trail ≡ longer (Some m.trail) (trail_of execution.acts)
    → LeadsTo hss_judged start trail there
    → HasServedOver taker replicas (record { pass = p; nodes = nodes }) how (record { pass = q; nodes = there })
served_over taker replicas p q how start nodes there m trail execution begun made link told leads =
    let all : trail ≡ trail_of execution.acts =
    some_same trail (trail_of execution.acts) (told ∙ ap (λ (n : MeshState). longer (Some n.trail) (trail_of execution.acts)) made) in
    record {
      execution = execution;
      link = subst (λ (n : MeshState). Link taker (ring_over n.replicas n.nodes) p execution how q) made link;
      leads = subst (λ (s : NodesState). LeadsTo hss_judged s (trail_of execution.acts) there) (sym begun)
          (subst (λ (l : List Heard). LeadsTo hss_judged start l there) all leads);
    }

pub served_by : {K S : Type 0} (kind : AgentKind K S) (gate : AgentGate kind) (ring : LiveState) (replicas : ℕ) (entries : List Peer) (p q : AgentPass kind)
    (how : Ended) (execution : Execution) (made : List Made) → replicas ≡ ring.replicas → entries ≡ ring.made
    → Link (by_gate kind gate) (record { judged = hss_judged; replicas = replicas; entries = entries }) p execution how q
    → AreTurns made (turns_of execution.acts) → Some (made_by q) ≡ option_map (λ ms. ms ++ made) (Some (made_by p))
    → HasServedBy kind gate (record { judged = hss_judged; replicas = ring.replicas; entries = ring.made }) p how q
served_by kind gate ring replicas entries p q how execution made owners nodes link are told = record {
  execution = execution;
  link = subst (λ (n : ℕ). Link (by_gate kind gate) (record { judged = hss_judged; replicas = n; entries = ring.made }) p execution how q) owners
      (subst (λ (l : List Peer). Link (by_gate kind gate) (record { judged = hss_judged; replicas = replicas; entries = l }) p execution how q) nodes link);
  made = made;
  are_turns = are;
  calls = some_same (made_by q) (made_by p ++ made) told;
}
