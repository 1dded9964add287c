use Rattle.std.proofs.Common.{◌≡◌, ◌≤◌, ◌*◌, ◌++◌, drop, take, length}
use Rattle.dht_ids.specs.Peers.{place}
use Rattle.ring_model.specs.Pass.{renewed, until}
use Rattle.chord_core.proofs.near.renew.Given as goal

abbrev pub invariant-loop-peer : goal.invariant-loop-peer
invariant-loop-peer l = record {
  short : length l.entries.items ≤ 2 * l.replicas;
  rest : take (2 * l.replicas) (l.entries.items ++ until place l.me (drop l.peer-index l.list)) ≡ renewed place l.replicas l.me l.fn.first l.fn.before l.list;
}
