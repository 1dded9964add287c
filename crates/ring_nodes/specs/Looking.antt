-- Look-ups and puts among the nodes, ask by ask.
use Rattle.std.specs.Prelude.{◌≡◌, ℕ, Bool, List, Option, Result}
use Rattle.ivy_base.specs.declared.key.Key.{Key}
use Rattle.dht_ids.specs.declared.ask.Answer.{Answer}
use Rattle.dht_ids.specs.declared.ask.Ask.{Ask}
use Rattle.dht_ids.specs.declared.judge.Judged.{Judged}
use Rattle.dht_ids.specs.declared.peer.Peer.{Peer}
use Rattle.dhash_client.specs.Machine.{HasHeard, State}
use Rattle.dhash_client.specs.Puts.{PutHasHeard, PutState}
use Rattle.dhash_model.specs.declared.miss.Miss.{Miss}
use Rattle.world_model.specs.Fates.{FateOf, Puts}
use Rattle.world_model.specs.World.{World}
use Rattle.ring_nodes.specs.NodesState.{IsNodesOf, NamesOnly, NodesState, made_peers, with_nodes}

-- the ask has its fate, its answer names made peers alone, and the machine heard it
pub record IsHeard {S : Type 0} (Hears : S → S → Answer → Type 0) (judged : Key → List ℕ → Option Judged) (node : Peer) (question : Ask)
    (old new : NodesState) (before after : S) : Type 0 where
  pub given : Answer
  pub fate : (w : World) → IsNodesOf w old → FateOf judged w node question given (with_nodes w new)
  pub named : NamesOnly (made_peers old) given
  pub heard : Hears before after given

-- so it is with a look-up
abbrev pub Steps : (Key → List ℕ → Option Judged) → Peer → Ask → NodesState → NodesState → State → State → Type 0
Steps = IsHeard HasHeard

-- and with a put
abbrev pub PutSteps : (Key → List ℕ → Option Judged) → Peer → Ask → NodesState → NodesState → PutState → PutState → Type 0
PutSteps = IsHeard PutHasHeard

-- a whole put, of which this came
abbrev pub PutsSo : (Key → List ℕ → Option Judged) → World → ℕ → Key → Ask → Result Bool Miss → World → Type 0
PutsSo judged w r key question came next = (puts : Puts judged w r key question next) × (puts.came ≡ came)
