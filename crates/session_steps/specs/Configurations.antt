-- Configurations of a world that code represents, and the steps that its calls are: an ask of a node, a turn, a settling, or the end.
use Rattle.std.specs.Prelude.{◌≡◌, ◌≢◌, ℕ, ◌<◌, true, false, Bool, List, [], Option, Some, None, Result, Ok, Err, IfSome}
use Rattle.ivy_base.specs.declared.operation.Moment.{Moment}
use Rattle.hash_signature_model.specs.Signer.{Signer}
use Rattle.log_model.specs.View.{View}
use Rattle.dhash_model.specs.Signed.{hss_judged}
use Rattle.dhash_client.specs.GetHead.{Judges}
use Rattle.ivy_io.specs.Keepers.{after_save}
use Rattle.nfs_model.specs.declared.replies.Reply.{Reply}
use Rattle.agent_model.specs.Standing.{begun_again_in}
use Rattle.agent_model.specs.Turning.{Answered, Behind, BelowTide, TurnEnd, Turns}
use Rattle.script_model.specs.Messages.{Given}
use Rattle.session_model.specs.Replies.{handle_given, verifier_given}
use Rattle.session_model.specs.Sessions.{Cache, Over, Publishing, Refreshing, Said, Session, Stage}
use Rattle.session_model.specs.Executions.{LacksMemory}
use Rattle.log_fetch.specs.declared.asked.Asked.{Asked}
use Rattle.log_fetch.specs.declared.refresh.Refresh.{Refresh}
use Rattle.log_fetch.specs.declared.turned.Turned.{Turned}
use Rattle.log_fetch.specs.declared.turned.TurnFault.{TurnFault}
use Rattle.log_fetch.specs.declared.turned.TurnFault.TheVariants as fault
use Rattle.log_fetch.specs.Standings.{asked_of, notes_of, refresh_of, standing_of}
use Rattle.ivy_agent.specs.Holders.{Holder}
use Rattle.ivy_agent.specs.Turns.{Gives}
use Rattle.ivy_session.specs.declared.served.Served.{Served}
use Rattle.ivy_session.specs.States.{HasAsked, IsSession, SessionState, is_turning, served_of}
use Rattle.world_model.specs.Agents.{HssKept, hss_signing}
use Rattle.world_model.specs.Keepers.{Keeper, asked_to_save, fails_next}
use Rattle.world_model.specs.World.{World, Participant, participant, with_participant}
use Rattle.world_model.specs.Steps.{Configuration, Steps, having_made, world_after}

-- ---- a configuration

-- The configuration's session is that one in code, which knows some node, gets from as many owners as the ring puts to, and has heads
-- judged by their signatures; and it is that participant's.
pub record IsConfigurationOf {J : Type 0} (judges : Judges J) (c : Configuration) (r : ℕ) (p : Participant)
    (st : SessionState J) : Type 0 where
  pub is_by : participant c.world c.session.by ≡ Some p
  pub some_entry : c.session.entries ≢ []
  pub session : IsSession judges c.session st
  pub judge : judges st.judge ≡ hss_judged
  pub replicas : st.replicas ≡ r

-- ---- what is said

-- what is said gives this to later lines: nothing where nothing is said yet
abbrev pub given_of : Option Said → Given
given_of None = record { handle = None; verifier = None }
given_of (Some said) = record { handle = said.handle; verifier = said.verifier }

abbrev pub given_at : Stage → Given
given_at Refreshing = given_of None
given_at (Publishing said posts acks) = given_of said
given_at (Over said) = given_of said

-- so does a reply
abbrev pub given_by : Reply → Given
given_by reply = record { handle = handle_given reply; verifier = verifier_given reply }

-- ---- a step

-- The session in code is that one, waits for a node only where the get or put on its way has made asks, and no turn is awaited; or memory
-- ran out after it: where that may be it is over without a turn, or it publishes no more.
pub data IsLeft {J : Type 0} (judges : Judges J) (may_lack : Type 0) (s : Session) (st : SessionState J) : Type 0 where
  goes_on : IsSession judges s st → HasAsked st s → is_turning st.stage ≡ false → IsLeft judges may_lack s st
  lacks_memory : (t : Session) → may_lack → LacksMemory s t → IsSession judges t st → IsLeft judges may_lack s st
  is_cut : st.is_cut ≡ true → IsLeft judges may_lack s st

-- some step of the configuration's session leaves that world and that session in code, and what is said then gives that
pub record IsStep {J : Type 0} (judges : Judges J) (c : Configuration) (r : ℕ) (st : SessionState J) (may_lack : Type 0) (after : World)
    (given : Given) : Type 0 where
  pub next : Configuration
  pub steps : Steps hss_judged r c.session.by c next
  pub left : IsLeft judges may_lack next.session st
  pub world : next.world ≡ after
  pub gives : given_at next.session.stage ≡ given

-- It was over; or memory ran out, and it is over by a step; or it publishes no more.
pub data IsDone {J : Type 0} (c : Configuration) (r : ℕ) (p : Participant) (st : SessionState J) (after : Cache)
    (told : Served) : Type 0 where
  was_over : (said : Option Said) → c.session.stage ≡ Over said → told ≡ served_of said
      → st.notes ≡ notes_of c.session.notes c.session.missed → after ≡ p.cache → IsDone c r p st after told
  lacks_memory : (next : Configuration) (said : Said) → Steps hss_judged r c.session.by c next → next.session.stage ≡ Over (Some said)
      → told ≡ served_of (Some said)
      → given_at next.session.stage ≡ given_at c.session.stage → st.notes ≡ notes_of next.session.notes next.session.missed
      → next.world ≡ with_participant c.world (record p { cache = after }) → IsDone c r p st after told
  is_cut : st.is_cut ≡ true → IsDone c r p st after told

-- ---- a turn

-- the participant's agent and keeper, as a turn sees them
abbrev pub holder_of : Participant → Holder Keeper Signer
holder_of p = record { agent = p.agent; keeper = p.keeper }

-- how a save may leave a keeper in memory
abbrev pub memory_saves : Keeper → List ℕ → Bool → Keeper → Type 0
memory_saves k bytes failed new = (failed ≡ fails_next k) × (new ≡ after_save k bytes)

module _ (p : Participant) (view : View) (refresh : Refresh) (asked : Asked) (now : Moment) where
  -- The participant's agent had its turn, whose save fails exactly where the keeper plans it; and the keeper was asked to save, where it
  -- was.
  pub record HadTurn (end : TurnEnd) (after : Holder Keeper Signer) : Type 0 where
    pub saving : Option HssKept
    pub turns : Turns hss_signing (refresh_of refresh) (record { agent = p.agent; view = view; now = now; fails = fails_next p.keeper })
        (asked_of asked) end after.agent saving
    pub keeper : after.keeper ≡ asked_to_save p.keeper saving

  -- how it ended, and what was given; where memory runs out nothing changes
  abbrev pub GivesTurn : Result Turned TurnFault → Holder Keeper Signer → Type 0
  GivesTurn (Ok turned) after = (reply : Reply) × HadTurn (Answered reply turned.applied) after × Gives reply after.agent turned
  GivesTurn (Err fault.Memory) after = after ≡ holder_of p
  GivesTurn (Err (fault.Behind standing)) after =
      HadTurn Behind after × (standing_of standing ≡ begun_again_in hss_signing after.agent view)
  GivesTurn (Err (fault.BelowTide standing)) after =
      HadTurn BelowTide after × (standing_of standing ≡ begun_again_in hss_signing after.agent view)

-- in the view of its agent
abbrev pub GivesTurnThere : Participant → Refresh → Asked → Moment → Result Turned TurnFault → Holder Keeper Signer → Type 0
GivesTurnThere p refresh asked now turned after = IfSome p.agent.view (λ view. GivesTurn p view refresh asked now turned after)

-- memory may run out after it where it was refused, and the session hadn't begun again twice before
abbrev pub MayLack : ℕ → Result Turned TurnFault → Type 0
MayLack starts (Ok turned) = ⊥
MayLack starts (Err fault.Memory) = ⊥
MayLack starts (Err (fault.Behind standing)) = starts < 2
MayLack starts (Err (fault.BelowTide standing)) = starts < 2

-- the participant then: what its agent has to publish counts as made
abbrev pub turned_participant : Participant → Holder Keeper Signer → Participant
turned_participant p after = having_made (record p { agent = after.agent; keeper = after.keeper }) after.agent.pending

-- the world then; where memory ran out there was no turn
abbrev pub turned_world : World → Participant → Result Turned TurnFault → Holder Keeper Signer → World
turned_world w p (Ok turned) after = world_after w (record (turned_participant p after) { work = turned.applied })
turned_world w p (Err fault.Memory) after = with_participant w p
turned_world w p (Err (fault.Behind standing)) after = world_after w (turned_participant p after)
turned_world w p (Err (fault.BelowTide standing)) after = world_after w (turned_participant p after)
