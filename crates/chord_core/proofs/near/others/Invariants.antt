use Rattle.std.proofs.Common.{◌≡◌, ◌≤◌, ◌*◌, ◌++◌, drop, take, length, filter}
use Rattle.dht_ids.specs.Peers.{place}
use Rattle.ring_model.specs.Members.{is_other}
use Rattle.chord_core.proofs.near.others.Given as goal

abbrev pub invariant-loop-peer : goal.invariant-loop-peer
invariant-loop-peer l = record {
  short : length l.entries.items ≤ 2 * l.replicas;
  rest : take (2 * l.replicas) (l.entries.items ++ filter (is_other place l.me) (drop l.peer-index l.list)) ≡ take (2 * l.replicas) (filter (is_other place l.me) l.list);
}
