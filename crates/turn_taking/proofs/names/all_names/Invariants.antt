use Rattle.std.proofs.Common.{take}
use Rattle.turn_taking.specs.Chains.{chains_in}
use Rattle.turn_taking.specs.Naming.{AllNamesOf}
use Rattle.turn_taking.proofs.names.all_names.Given as goal

-- the names of the chains so far
abbrev pub invariant-chains : goal.invariant-chains
invariant-chains l = AllNamesOf l.all.items (chains_in (take l.chain-index l.chains))
