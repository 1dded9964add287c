use Rattle.std.proofs.Common.{rules, ltb}
use Rattle.std.proofs.lemmas.List.Sorted.{IsPartitionPoint-from_clause, IsPartitionedBy-ltb}
use Rattle.dht_ids.specs.Peers.{place}
use Rattle.ring_model.specs.Circle.{number}
use Rattle.chord_core.proofs.Settling.{parted}
use Rattle.chord_core.proofs.settle.count_before.Goals as goal

pub returns : goal.returns
returns c =
    let point = IsPartitionPoint-from_clause (λ m. ltb (place m) (number c.args.key.now)) _ _ c.partition_point.ensures.partitioned (IsPartitionedBy-ltb place _ (number c.args.key.now) c.requires) (λ a r q k. search rules) in
    let parts = parted place (number c.args.key.now) c.partition_point.result c.args.live.now c.partition_point.ensures.bound point in
    record { bound = c.partition_point.ensures.bound; front = parts.0; back = parts.1 }
