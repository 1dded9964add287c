-- What the trail of a mesh tells of the nodes of a world.
use Rattle.std.specs.Prelude.{ℕ, ◌+◌, ◌≤◌, List, [], ◌++◌, Option}
use Rattle.ivy_base.specs.declared.key.Key.{Key}
use Rattle.ring_model.specs.Members.{IsAmong}
use Rattle.dht_ids.specs.Asked.{IsForData, told}
use Rattle.dht_ids.specs.declared.ask.Answer.{Answer}
use Rattle.dht_ids.specs.declared.ask.Answer.TheVariants as answer
use Rattle.dht_ids.specs.declared.ask.Ask.{Ask}
use Rattle.dht_ids.specs.declared.ask.Heard.{Heard}
use Rattle.dht_ids.specs.declared.judge.Judged.{Judged}
use Rattle.dht_ids.specs.declared.peer.Peer.{Peer}
use Rattle.world_model.specs.Fates.{FateOf}
use Rattle.world_model.specs.World.{World, empty_world, entries}
use Rattle.ring_nodes.specs.NodesState.{IsNodesOf, NodesState, made_peers, with_nodes}

-- A mesh as contracts see it: how many nodes own a key, the nodes, the asks so far with their answers, and how often no answer came.
pub record MeshState : Type 0 where
  pub replicas : ℕ
  pub nodes : NodesState
  pub trail : List Heard
  pub silences : ℕ

-- the nodes ever made, by number: those of each world that has these nodes
abbrev pub entries_of : NodesState → List Peer
entries_of s = entries (with_nodes empty_world s)

-- one ask more was counted, and nothing else is new
abbrev pub one_more : NodesState → NodesState
one_more s = record s { asked = s.asked + 1 }

module _ (judged : Key → List ℕ → Option Judged) where
  -- What becomes of an ask: it has its fate, the same in each world with these nodes; and a peer that was never made is silent, and no
  -- node is changed.
  pub data Becomes (here : NodesState) (node : Peer) (question : Ask) : Answer → NodesState → Type 0 where
    fated : {given : Answer} {there : NodesState}
        → ((w : World) → IsNodesOf w here → FateOf judged w node question given (with_nodes w there))
        → Becomes here node question given there
    nobody : (IsAmong node (made_peers here) → ⊥) → Becomes here node question answer.Silent here

  -- The asks of a trail, one after the other, lead from the nodes at the start to those after them. Where there is no memory to tell of a
  -- Route or a Get, that ask is counted, and nobody hears of it.
  pub data LeadsTo (start : NodesState) : List Heard → NodesState → Type 0 where
    none : LeadsTo start [] start
    asked : {trail : List Heard} {here there : NodesState} (node : Peer) (question : Ask) (given : Answer) → LeadsTo start trail here
        → IsForData question → Becomes here node question given there → LeadsTo start (trail ++ told node question given) there
    untold : {trail : List Heard} {here : NodesState} → LeadsTo start trail here → LeadsTo start trail (one_more here)

-- What holds of every mesh: 1 to 8 nodes own a key, and its trail leads from the nodes at the start to its nodes.
pub record IsMesh (judged : Key → List ℕ → Option Judged) (start : NodesState) (m : MeshState) : Type 0 where
  pub some : 1 ≤ m.replicas
  pub few : m.replicas ≤ 8
  pub leads : LeadsTo judged start m.trail m.nodes
