-- What a driver of a repair cites: what may be asked of a mesh.
use Rattle.std.proofs.Common.{◌≡◌, Option, Some, None}
use Rattle.ring_model.proofs.Lists.{none_some}
use Rattle.dht_ids.specs.Asked.{IsForData}
use Rattle.dht_ids.specs.declared.ask.Ask.{Ask}
use Rattle.dht_ids.specs.declared.peer.Peer.{Peer}
use Rattle.dhash_client.proofs.DrivenGets.{put_for_data}
use Rattle.dhash_repair.specs.Putting.{Putting}
use Rattle.dhash_repair.specs.Repairing.{RepairState, awaited_in, repair_awaited}

pub asks_for_data : (s : RepairState) (node : Peer) (question : Ask) → repair_awaited s ≡ Some (node, question) → IsForData question
asks_for_data s node question = by s.put
  where
    by : (put : Option Putting) → awaited_in put ≡ Some (node, question) → IsForData question
    by None awaited = absurd (none_some (node, question) awaited)
    by (Some p) awaited = put_for_data p.put.what p.put.bytes p.put.execution node question awaited
