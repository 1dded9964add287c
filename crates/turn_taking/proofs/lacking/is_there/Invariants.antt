use Rattle.std.proofs.Common.{◌≡◌, false, take}
use Rattle.std.specs.List.{list_any}
use Rattle.version_vectors.specs.Entries.{stamped}
use Rattle.turn_taking.proofs.Loops.{has_it}
use Rattle.turn_taking.proofs.lacking.is_there.Given as goal

-- none of the chains so far has it
abbrev pub invariant-chains : goal.invariant-chains
invariant-chains l = list_any (has_it l.held.front.now l.entry.log (stamped l.entry).1) (take l.chain-index l.chains) ≡ false
