-- Two chains to one head are one chain, where no names collide.
use Rattle.std.proofs.Common.{◌≡◌, List, Some}
use Rattle.ivy_base.specs.declared.key.PubKey.{PubKey}
use Rattle.ivy_base.specs.Naming.{IsCollisionFree}
use Rattle.log_model.specs.Vector.{Stamp}
use Rattle.log_model.specs.Record.{Record}
use Rattle.turn_model.specs.Candidates.{MakeChain, Reading}
use Rattle.turn_laws.proofs.LinkedLogs.{chain_linked, one_linked}

pub one_chain : (reading : Reading) → IsCollisionFree reading.blocks → (owner : PubKey) (head : Stamp) (chain other : List Record)
    → MakeChain reading owner head chain → MakeChain reading owner head other → chain ≡ other
one_chain reading apart owner head chain other m n =
    one_linked reading.blocks apart owner (Some head) chain other (chain_linked reading.view owner chain m.chain_of_log) (chain_linked reading.view owner other n.chain_of_log) m.stand n.stand m.ends n.ends
