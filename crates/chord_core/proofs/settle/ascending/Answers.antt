use Rattle.std.proofs.Common.{rules}
use Rattle.dht_ids.specs.Peers.{place}
use Rattle.std.proofs.lemmas.List.Sorted.{IsNonDecreasingBy-from_sort_by}
use Rattle.chord_core.proofs.settle.ascending.Goals as goal

pub returns : goal.returns
returns c = record {
  same = search rules;
  rising = IsNonDecreasingBy-from_sort_by place _ c.sort_unstable_by.ensures.sorted (λ a r q k. search rules);
}
