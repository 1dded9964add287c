use Rattle.std.proofs.Common.{◌+◌, [], ◌∷◌, length}
use Rattle.value_gate.specs.Histories.{entry}
use Rattle.value_gate.proofs.gate.Gate.take_turn.Given as goal

-- the turn that is put into the history
abbrev pub ghosts-leave : goal.ghosts-leave
ghosts-leave g a = record { entries = entry a.seat.now.me.0.number (length a.seat.now.me.0.calls + 1) (g.T.Turn.asks a.turn.now.value, a.reply.now) ∷ [] }
