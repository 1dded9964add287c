-- Turns that exist, and sessions that go to their ends with them.
use Rattle.std.specs.Prelude.{◌≡◌, ℕ, List, Option, Some, IsTrue, nat_lt, ◌⊎◌}
use Rattle.std.specs.List.{list_all}
use Rattle.ivy_base.specs.Naming.{HasClash, IsCollisionFree}
use Rattle.dhash_model.specs.Signed.{hss_judged}
use Rattle.turn_model.specs.Turn.{Asked}
use Rattle.agent_model.specs.Standing.{Refresh}
use Rattle.agent_model.specs.Turning.{TurnEnd}
use Rattle.turn_laws.specs.Laws.{HasRoom}
use Rattle.session_model.specs.Executions.{HasRefreshed}
use Rattle.session_model.specs.Refreshing.{Note}
use Rattle.session_model.specs.Replies.{Asks}
use Rattle.session_model.specs.Sessions.{Cache, Refreshing, Session, TakesAll}
use Rattle.world_model.specs.Agents.{HssAgent, HssKept}
use Rattle.world_model.specs.Steps.{RunsOut, Configuration, StepsOn}
use Rattle.world_model.specs.World.{Participant, named_bytes, participant}
use Rattle.world_laws.specs.Invariant.{IsInHand, Invariant}
use Rattle.world_laws.specs.Laws.{HasMemoryAt, TurnAt}

-- all of them are bytes
abbrev pub AreBytes : List ℕ → Type 0
AreBytes message = IsTrue (list_all (λ b. nat_lt b 256) message)

-- Where no names collide and the agent has room for what it may publish, a refresh of a message that is done has a turn.
abbrev pub TurnsExist : Type 0
TurnsExist = (c : Configuration) (r : ℕ) (p : Participant) (taken : Session) (cache : Cache) (notes : List Note) (given : Refresh) (xid : ℕ)
    (asked : Asked)
    → Invariant (c.world, c.ghost_state) → IsInHand c r → IsCollisionFree (named_bytes c.world) → participant c.world c.session.by ≡ Some p
    → TakesAll hss_judged r c.session p.cache taken cache
    → HasRefreshed taken notes given → Asks taken.standing.view taken.message xid asked → AreBytes c.session.message → HasRoom p.agent
    → (end : TurnEnd) × (after : HssAgent) × (saving : Option HssKept) × TurnAt c p taken given asked end after saving

-- A session goes to its end with memory there; or names clash on the way.
pub data GoesToItsEnd (r : ℕ) (name : List ℕ) : Configuration → Type 0 where
  ends : {c next : Configuration} → RunsOut hss_judged r name c next → HasMemoryAt next.session → GoesToItsEnd r name c
  clashes : {c : Configuration} → HasClash (named_bytes c.world) → GoesToItsEnd r name c
  goes_on : {c next : Configuration} (count : ℕ) → StepsOn hss_judged r name count c next → HasMemoryAt next.session
      → GoesToItsEnd r name next
      → GoesToItsEnd r name c

-- So does each session in hand that refreshes for a message, where its agent has room.
abbrev pub SessionsGoToTheirEnds : Type 0
SessionsGoToTheirEnds = (c : Configuration) (r : ℕ) (p : Participant) → Invariant (c.world, c.ghost_state) → IsInHand c r
    → c.world.replicas ≡ Some r
    → c.session.stage ≡ Refreshing
    → participant c.world c.session.by ≡ Some p → AreBytes c.session.message → HasRoom p.agent → GoesToItsEnd r c.session.by c

-- That is, it has an end in which memory was there, or there are steps to where names clash.
abbrev pub SessionsEndOrClash : Type 0
SessionsEndOrClash = (c : Configuration) (r : ℕ) (p : Participant) → Invariant (c.world, c.ghost_state) → IsInHand c r
    → c.world.replicas ≡ Some r
    → c.session.stage ≡ Refreshing
    → participant c.world c.session.by ≡ Some p → AreBytes c.session.message → HasRoom p.agent
    → ((next : Configuration) × RunsOut hss_judged r c.session.by c next × HasMemoryAt next.session)
    ⊎ ((count : ℕ) × (next : Configuration) × StepsOn hss_judged r c.session.by count c next × HasClash (named_bytes next.world))
