use Rattle.std.proofs.Common.{◌≡◌, drop}
use Rattle.world_model.specs.Logs.{keys_of}
use Rattle.world_model.specs.World.{World}
use Rattle.script_participants.specs.ParticipantState.{HasParticipants}
use Rattle.script_participants.proofs.Named.{with_left}
use Rattle.script_participants.proofs.participants.Participants.keys_of.Given as goal

-- the keys so far, and those of the names that are left, are all
abbrev pub invariant-names : goal.invariant-names
invariant-names l = (w : World) → HasParticipants w l.self → with_left w l.keys.items (drop l.name-index l.names) ≡ keys_of w l.names
