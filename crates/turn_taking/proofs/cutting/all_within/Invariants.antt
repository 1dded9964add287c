use Rattle.std.proofs.Common.{◌≡◌, ◌++◌}
use Rattle.std.specs.List.{AllByRecursion}
use Rattle.turn_taking.specs.Chains.{IsWhole, all_within, chains_in}
use Rattle.turn_taking.proofs.cutting.all_within.Given as goal

-- what is left of the chains so far
abbrev pub invariant-chains : goal.invariant-chains
invariant-chains l = record {
  items : l.fn.chains.items ≡ l.yielded ++ l.chain-iterator.rest.items;
  within : chains_in l.left.items ≡ all_within l.held.own.now l.held.floor.now (chains_in l.yielded);
  whole : AllByRecursion (IsWhole l.held.view.now) l.left.items;
}
