use Rattle.std.proofs.Common.{◌≡◌, false, take}
use Rattle.std.specs.List.{list_any}
use Rattle.ivy_base.specs.Naming.{head_key_of}
use Rattle.agent_model.specs.Turning.{lacks}
use Rattle.turn_taking.specs.Chains.{chains_in, new_of}
use Rattle.turn_taking.proofs.lacking.lacks_one.Given as goal

-- of the members so far none is lacking
abbrev pub invariant-members : goal.invariant-members
invariant-members l = list_any (λ owner. lacks l.held.floor.now l.held.front.now (new_of l.held.front.now (chains_in l.chains)) (head_key_of owner)) (take l.owner-index l.owner-items) ≡ false
