use Rattle.std.proofs.Common.{◌≡◌, [], ◌∷◌, ◌++◌, ap, ◌∙◌, arith}
use Rattle.value_gate.specs.Passes.{calls_of}
use Rattle.value_gate.proofs.Same.{same_length}
use Rattle.gate_trials.proofs.Turns.{calls_of_two}
use Rattle.gate_trials.proofs.trials.close.Goals as goal

pub returns-clause-turns : goal.returns-clause-turns
returns-clause-turns g c =
    let mine = c.in_ok-gate.field-0.first in
    let theirs = c.in_ok-gate.field-0.second in
    let whole = c.in-Ok.ensures.closed.1 in
    let are : c.push-2.new.self.items ≡ mine ∷ theirs ∷ [] =
    c.in_ok-push-2.ensures.items ∙ ap (λ l. l ++ theirs ∷ []) (c.in-Err.ensures.unclosed.2 ∙ (c.in_ok-push.ensures.items ∙ ap (λ l. l ++ mine ∷ []) c.new-passes.ensures.items)) in
    omega (
      arith,
      whole.count,
      same_length whole.history (calls_of c.push-2.new.self.items) whole.no_others,
      calls_of_two c.push-2.new.self.items mine theirs are,
      c.in_ok-gate.ensures.taken,
    )
