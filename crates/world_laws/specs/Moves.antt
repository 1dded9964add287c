-- What a session's step leaves of a configuration: a few moves, one after the other.
use Rattle.std.specs.Prelude.{◌≡◌, ℕ, List, Option, Some}
use Rattle.ivy_base.specs.declared.key.Key.{Key}
use Rattle.ivy_base.specs.Naming.{IsCollisionFree}
use Rattle.log_model.specs.View.{View}
use Rattle.nfs_model.specs.declared.replies.Reply.{Reply}
use Rattle.turn_model.specs.Turn.{Turned}
use Rattle.dht_ids.specs.declared.ask.Answer.{Answer}
use Rattle.dht_ids.specs.declared.ask.Ask.{Ask}
use Rattle.dht_ids.specs.declared.judge.Judged.{Judged}
use Rattle.dht_ids.specs.declared.peer.Peer.{Peer}
use Rattle.agent_model.specs.Turning.{Answered, TurnEnd}
use Rattle.session_model.specs.Sessions.{Cache, Hears, Session, TakesSome}
use Rattle.session_model.specs.Executions.{Fails, IsRefusal, LacksMemory, Settles}
use Rattle.world_model.specs.Agents.{HssAgent, IsHssTurnIn, HssKept, TakesHssTurn}
use Rattle.world_model.specs.Fates.{FateOf}
use Rattle.world_model.specs.Steps.{Configuration, after_turn, ask_told, turn_told, turning_of, world_after}
use Rattle.world_model.specs.GhostState.{Began, GhostState, known_of}
use Rattle.world_model.specs.World.{Participant, World, named_bytes, participant, with_participant}

-- what a turn came to: how much it applied, what is told, and what the session has begun with
pub data Tells (c : Configuration) (p : Participant) (view : View) (after : HssAgent) : TurnEnd → ℕ → GhostState → Began → Type 0 where
  tells : (reply : Reply) (applied : ℕ) (turned : Turned) → turned.reply ≡ reply
      → (IsCollisionFree (named_bytes c.world)
      → IsHssTurnIn (named_bytes c.world) (turning_of c.world p view) c.session c.began.knew (known_of c.ghost_state p.name) turned)
      → Tells c p view after (Answered reply applied) applied (turn_told c p view after turned) c.began
  refuses : (end : TurnEnd) → IsRefusal end
      → Tells c p view after end p.work c.ghost_state (record c.began { knew = known_of c.ghost_state p.name })

module _ (judged : Key → List ℕ → Option Judged) (r : ℕ) (name : List ℕ) where
  pub data Move (c : Configuration) : Configuration → Type 0 where
    takes : (p : Participant) (taken : Session) (cache : Cache) → participant c.world name ≡ Some p
        → TakesSome judged r c.session p.cache taken cache
        → Move c (record c { world = with_participant c.world (record p { cache = cache }); session = taken })
    asks : (node : Peer) (question : Ask) (answer : Answer) (next : World) → FateOf judged c.world node question answer next
        → Move c (record c { world = next })
    hears : (p : Participant) (node : Peer) (question : Ask) (answer : Answer) (next : World) (heard t : Session) (cache : Cache)
        → participant c.world name ≡ Some p
        → FateOf judged c.world node question answer next → Hears judged r c.session p.cache node question answer heard cache
        → Fails heard t
        → Move c (record {
          world = with_participant next (record p { cache = cache });
          ghost_state = ask_told c.ghost_state p.name c.session t;
          session = t;
          began = c.began;
        })
    lacks : (t : Session) → LacksMemory c.session t → Move c (record c { session = t })
    turns : (p : Participant) (view : View) (end : TurnEnd) (after : HssAgent) (saving : Option HssKept) (t : Session) (work : ℕ)
        (ghost_state : GhostState)
        (began : Began) → participant c.world name ≡ Some p
        → p.agent.view ≡ Some view → TakesHssTurn (turning_of c.world p view) c.session end after saving t
        → Tells c p view after end work ghost_state began
        → Move c (record {
          world = world_after c.world (record (after_turn p after saving) { work = work });
          ghost_state = ghost_state;
          session = t;
          began = began;
        })
    settles : (p : Participant) (after : HssAgent) (t : Session) → participant c.world name ≡ Some p → Settles p.agent c.session after t
        → Move c (record c { world = with_participant c.world (record p { agent = after }); session = t })

  pub data Moves : Configuration → Configuration → Type 0 where
    here : {c : Configuration} → Moves c c
    further : {c between next : Configuration} → Move c between → Moves between next → Moves c next
