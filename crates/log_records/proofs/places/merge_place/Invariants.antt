use Rattle.std.proofs.Common.{◌≡◌, ◌≤◌, ◌-◌, true, false, length, take, drop}
use Rattle.std.specs.List.{AllByRecursion}
use Rattle.version_vectors.specs.Ranks.{rank_of}
use Rattle.log_records.specs.Records.{records_of}
use Rattle.log_records.proofs.PlaceLemmas.{is_under}
use Rattle.log_records.proofs.places.merge_place.Given as goal

abbrev pub invariant-search : goal.invariant-search
invariant-search l = record {
  order : l.low ≤ l.high;
  within : l.high ≤ length l.held;
  under : AllByRecursion (λ q. is_under (rank_of l.first) q ≡ true) (take l.low (records_of l.held));
  rest : AllByRecursion (λ q. is_under (rank_of l.first) q ≡ false) (drop l.high (records_of l.held));
}

abbrev pub decreases-search : goal.decreases-search
decreases-search l = l.high - l.low
