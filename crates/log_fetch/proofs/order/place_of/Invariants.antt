use Rattle.std.proofs.Common.{◌-◌, ◌≤◌, length, map, take}
use Rattle.std.specs.List.{AllByRecursion}
use Rattle.turn_model.specs.Candidates.{IsTriedBefore}
use Rattle.session_model.specs.Brought.{stamp_of}
use Rattle.log_fetch.proofs.order.place_of.Given as goal

-- those that were passed are tried before the head
abbrev pub invariant-before-2 : goal.invariant-before-2
invariant-before-2 l = record {
  within : l.place ≤ length l.tried;
  passed : AllByRecursion (λ t. IsTriedBefore t (stamp_of l.head)) (take l.place (map stamp_of l.tried));
}

abbrev pub decreases-before-2 : goal.decreases-before-2
decreases-before-2 l = length l.tried - l.place
