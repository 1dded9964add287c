use Rattle.std.proofs.Common.{◌≡◌, ◌-◌, length, take, drop, true, false, ltb, leb, rules, sym, subst}
use Rattle.std.specs.List.Sorted.{IsNonDecreasingBy, IsPartitionPoint}
use Rattle.std.proofs.lemmas.List.{take_rest}
use Rattle.std.proofs.lemmas.List.Sorted.{IsNonDecreasingBy-drop, IsNonDecreasingBy-take, IsPartitionPoint-from_clause, IsPartitionedBy-leb, IsPartitionedBy-ltb}
use Rattle.conflict_list.specs.Order.{order}
use Rattle.conflict_list.proofs.MarkedLemmas.{part_has, part_is}
use Rattle.conflict_list.proofs.marked.between.Goals as goal

pub returns : goal.returns
returns c =
    let from = c.partition_point-from.result in
    let rest = take (length c.args.list.now - c.partition_point-from.result) (drop c.partition_point-from.result c.args.list.now) in
    let same : rest ≡ drop c.partition_point-from.result c.args.list.now = take_rest c.args.list.now c.partition_point-from.result in
    let up : IsNonDecreasingBy order rest = subst (IsNonDecreasingBy order) (sym same) (IsNonDecreasingBy-drop order c.partition_point-from.result c.args.list.now c.requires) in
    let lower : IsPartitionPoint (λ m. ltb (order m) c.args.low ≡ true) (λ m. ltb (order m) c.args.low ≡ false) c.args.list.now c.partition_point-from.result =
    IsPartitionPoint-from_clause (λ m. ltb (order m) c.args.low) _ _ c.partition_point-from.ensures.partitioned (IsPartitionedBy-ltb order c.args.list.now c.args.low c.requires) (λ a r q k. search rules) in
    let upper : IsPartitionPoint (λ m. leb (order m) c.args.high ≡ true) (λ m. leb (order m) c.args.high ≡ false) rest c.partition_point-count.result =
    IsPartitionPoint-from_clause (λ m. leb (order m) c.args.high) _ _ c.partition_point-count.ensures.partitioned (IsPartitionedBy-leb order rest c.args.high up) (λ a r q k. search rules) in
    record {
      found = λ m inside low high. part_has order c.args.list.now rest c.partition_point-from.result c.partition_point-count.result c.args.low c.args.high m same lower upper inside low high;
      only = part_is order c.args.list.now rest c.partition_point-from.result c.partition_point-count.result c.args.low c.args.high same lower upper;
      ascending = IsNonDecreasingBy-take order c.partition_point-count.result rest up;
    }
