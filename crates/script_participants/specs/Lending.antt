-- A participant that is lent to be changed, and a participant's cache.
use Rattle.std.specs.Prelude.{ℕ, List, set}
use Rattle.std.specs.Borrow.{Lends, MutBor, Fml}
use Rattle.session_model.specs.Sessions.{Cache}
use Rattle.block_cache.specs.contracts.cache.BlockCache.{the_row as blocks}
use Rattle.script_participants.specs.ParticipantState.{ParticipantState}
use Rattle.script_participants.specs.contracts.participant.Participant.{the_row as one}
use Rattle.script_participants.specs.contracts.participants.Participants.{the_row}

-- the participants end with that one as it is left
abbrev pub LendsOne : MutBor (List ParticipantState) → ℕ → MutBor ParticipantState → Fml
LendsOne ps place p = Lends the_row one ps p (λ q. set ps.now place q)

-- the participant ends with the cache as it is left
abbrev pub LendsCache : MutBor ParticipantState → MutBor Cache → Fml
LendsCache who cache = Lends one blocks who cache (λ c. record who.now { cache = c })
