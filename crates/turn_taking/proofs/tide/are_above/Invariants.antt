use Rattle.std.proofs.Common.{◌≡◌, true, take}
use Rattle.std.specs.List.{list_all}
use Rattle.turn_taking.proofs.Loops.{are_over}
use Rattle.turn_taking.proofs.tide.are_above.Given as goal

-- what is new of the chains so far is above
abbrev pub invariant-chains : goal.invariant-chains
invariant-chains l = list_all (are_over l.held.front.now l.held.base.now) (take l.chain-index l.chains) ≡ true
