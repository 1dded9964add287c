use Rattle.std.proofs.Common.{rules, ◌≡◌, ◌+◌, refl}
use Rattle.gate_trials.proofs.Turns.{goes_on}
use Rattle.gate_trials.proofs.tally.AddingTurnTally.take.Goals as goal

pub returns-in-Some-clause-taken : goal.returns-in-Some-clause-taken
returns-in-Some-clause-taken c =
    let sum : c.in-Some.sum ≡ c.args.value.now.sum + c.args.self.0.now = search rules in
    goes_on c.args.value.now (record { sum = c.in-Some.sum; refused = c.args.value.now.refused }) c.args.self.0.now c.in-Some.sum sum refl
