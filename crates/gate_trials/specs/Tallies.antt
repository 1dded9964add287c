-- The tally's turns.
use Rattle.std.specs.Prelude.{◌≡◌, ℕ, ◌+◌, List, [], ◌∷◌}
use Rattle.value_gate.specs.declared.history.Entry.{Entry}
use Rattle.gate_trials.specs.declared.tally.Tally.{Tally}

-- the sum after these turns
abbrev pub sum_after : ℕ → List (Entry (ℕ × ℕ)) → ℕ
sum_after n [] = n
sum_after n (e ∷ es) = sum_after (n + e.turn.0) es

-- each turn replied the sum at its point
abbrev pub AreRight : ℕ → List (Entry (ℕ × ℕ)) → Type 0
AreRight n [] = Unit {0}
AreRight n (e ∷ es) = (e.turn.1 ≡ n + e.turn.0) × AreRight (n + e.turn.0) es

-- the tally has the sum after these turns, each of which replied the sum there
abbrev pub TallyStands : Tally → List (Entry (ℕ × ℕ)) → Tally → Type 0
TallyStands opening history t = AreRight opening.sum history × (t.sum ≡ sum_after opening.sum history)

-- anything may be asked
abbrev pub MayAsk : Tally → ℕ → Type 0
MayAsk opening asked = Unit {0}
