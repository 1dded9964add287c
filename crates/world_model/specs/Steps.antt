-- Steps of a session in the world: one ask, one turn or one settling each.
use Rattle.std.specs.Prelude.{◌≡◌, ℕ, zero, suc, nat_lt, ◌==◌, if◌then◌else◌, length, List, [], ◌∷◌, ◌++◌, map, filter, fold, drop, take}
use Rattle.std.specs.Prelude.{Option, Some, None}
use Rattle.std.specs.List.{list_any}
use Rattle.std.specs.Int.{w32, from_be_bytes}
use Rattle.ivy_base.specs.declared.key.Key.{Key}
use Rattle.ivy_base.specs.Naming.{IsCollisionFree}
use Rattle.log_model.specs.Record.{Record}
use Rattle.log_model.specs.View.{View}
use Rattle.nfs_model.specs.declared.replies.Reply.{Reply}
use Rattle.turn_model.specs.Turn.{Turned}
use Rattle.dht_ids.specs.declared.ask.Answer.{Answer}
use Rattle.dht_ids.specs.declared.ask.Ask.{Ask}
use Rattle.dht_ids.specs.declared.judge.Judged.{Judged}
use Rattle.dht_ids.specs.declared.peer.Peer.{Peer}
use Rattle.dht_ids.specs.declared.post.Post.{Post}
use Rattle.agent_model.specs.Agent.{is_head}
use Rattle.agent_model.specs.Turning.{TurnEnd, Answered}
use Rattle.session_model.specs.Brought.{brought_in, all_heads}
use Rattle.session_model.specs.Sessions.{Session, Cache, Stage, Publishing, Over, Said, TakesAll, TakesSome, Hears, is_log}
use Rattle.session_model.specs.Executions.{Fails, Settles, LacksMemory, IsRefusal}
use Rattle.world_model.specs.Agents.{HssAgent, HssKept, IsHssTurnIn, TakesHssTurn, HssTurning}
use Rattle.world_model.specs.Keepers.{asked_to_save, fails_next}
use Rattle.world_model.specs.World.{World, Participant, participant, with_participant, named_bytes, meets}
use Rattle.world_model.specs.GhostState.{GhostState, Began, HadTurn, knowing_of, known_of, knowing_now, receiving}
use Rattle.world_model.specs.Fates.{FateOf}

-- ---- what posts make known

-- their blocks are met
abbrev pub met_by : List (List ℕ) → List Post → List (List ℕ)
met_by met posts = fold meets met (map (λ p. p.bytes) posts)

-- the number of a record, which stands after its tag, kind, head key and the name of the record before
abbrev pub number_in : List ℕ → ℕ
number_in bytes = from_be_bytes w32 (take 4 (drop 48 bytes))

-- the records among them, by their numbers and names
abbrev pub made_by : List Post → List (ℕ × Key)
made_by posts = map (λ p. (number_in p.bytes, p.key)) (filter (λ p. is_log p.kind) posts)

-- a record's name stands under its number, where none did
abbrev pub with_made : List (ℕ × Key) → ℕ × Key → List (ℕ × Key)
with_made made m = if list_any (λ n. n.0 == m.0) made then made else made ++ m ∷ []

abbrev pub heads_by : List Post → List (List ℕ)
heads_by posts = map (λ p. p.bytes) (filter (λ p. is_head p.kind) posts)

-- the participant's agent now has these posts: its records count as made, and its heads have left, each once
abbrev pub having_made : Participant → List Post → Participant
having_made p posts = record p { made = fold with_made p.made (made_by posts); left = fold meets p.left (heads_by posts) }

-- ---- a session in the world

-- A world with its ghost state, and a session that goes on in it with what is told of it.
pub record Configuration : Type 0 where
  pub world : World
  pub ghost_state : GhostState
  pub session : Session
  pub began : Began

-- ---- a turn

-- a participant's turn in that world, over that view
abbrev pub turning_of : World → Participant → View → HssTurning
turning_of w p view = record { agent = p.agent; view = view; now = w.now; fails = fails_next p.keeper }

-- The participant after a turn: its keeper was asked to save, where it was, and what its agent has to publish then counts as made.
abbrev pub after_turn : Participant → HssAgent → Option HssKept → Participant
after_turn p a saving = having_made (record p { agent = a; keeper = asked_to_save p.keeper saving }) a.pending

abbrev pub world_after : World → Participant → World
world_after w p = record (with_participant w p) { met = met_by w.met p.agent.pending }

-- what is told after a turn that was answered: it, and what its agent knows then
abbrev pub turn_told : Configuration → Participant → View → HssAgent → Turned → GhostState
turn_told c p view after turned = record (knowing_now c.ghost_state p.name turned.set) {
  turns = c.ghost_state.turns ++ record {
    session = c.session;
    began = c.began;
    by = p;
    knowing = knowing_of c.ghost_state p.name;
    view = view;
    met = named_bytes c.world;
    now = c.world.now;
    after = after;
    turned = turned;
  } ∷ [];
}

-- the post of which a put was acknowledged between two stages
abbrev pub acked_by : Stage → Stage → List Post
acked_by (Publishing said (p ∷ posts) acks) (Publishing also rest more) = if nat_lt (length acks) (length more) then p ∷ [] else []
acked_by _ _ = []

-- what is told after an ask by which the session became this one: the verified heads among what it was brought, and a post that was
-- acknowledged
abbrev pub ask_told : GhostState → List ℕ → Session → Session → GhostState
ask_told st name s t = record (receiving st name (all_heads (brought_in (drop (length s.parts) t.parts)))) {
  acked = st.acked
      ++ acked_by s.stage t.stage;
}

-- ---- steps

module _ (judged : Key → List ℕ → Option Judged) (replicas : ℕ) where
  -- What the session does in one step, of which others see something: it asks, has a turn, or settles. Where memory runs out an answer may
  -- not be heard.
  pub data Acts (p : Participant) (c : Configuration) : Configuration → Type 0 where
    asks : (node : Peer) (question : Ask) (answer : Answer) (next : World) (heard t : Session) (cache : Cache)
        → FateOf judged c.world node question answer next
        → Hears judged replicas c.session p.cache node question answer heard cache → Fails heard t
        → Acts p c (record {
          world = with_participant next (record p { cache = cache });
          ghost_state = ask_told c.ghost_state p.name c.session t;
          session = t;
          began = c.began;
        })
    asks_in_vain : (node : Peer) (question : Ask) (answer : Answer) (next : World) (heard t : Session) (cache : Cache)
        → FateOf judged c.world node question answer next
        → Hears judged replicas c.session p.cache node question answer heard cache → LacksMemory c.session t
        → Acts p c (record c { world = next; session = t })
    turns : (view : View) (reply : Reply) (applied : ℕ) (after : HssAgent) (saving : Option HssKept) (t : Session) (turned : Turned)
        → p.agent.view ≡ Some view
        → TakesHssTurn (turning_of c.world p view) c.session (Answered reply applied) after saving t → turned.reply ≡ reply
        → (IsCollisionFree (named_bytes c.world)
        → IsHssTurnIn (named_bytes c.world) (turning_of c.world p view) c.session c.began.knew (known_of c.ghost_state p.name) turned)
        → Acts p c (record {
          world = world_after c.world (record (after_turn p after saving) { work = applied });
          ghost_state = turn_told c p view after turned;
          session = t;
          began = c.began;
        })
    is_refused : (view : View) (end : TurnEnd) (after : HssAgent) (saving : Option HssKept) (t : Session) → p.agent.view ≡ Some view
        → IsRefusal end
        → TakesHssTurn (turning_of c.world p view) c.session end after saving t
        → Acts p c (record c {
          world = world_after c.world (after_turn p after saving);
          session = t;
          began = record c.began { knew = known_of c.ghost_state p.name };
        })
    settles : (after : HssAgent) (t : Session) → Settles p.agent c.session after t
        → Acts p c (record c { world = with_participant c.world (record p { agent = after }); session = t })

  -- with another cache of its participant
  abbrev pub with_cache : Configuration → Participant → Session → Cache → Configuration
  with_cache c p taken cache = record c { world = with_participant c.world (record p { cache = cache }); session = taken }

  -- A step of a participant's session: what is available is taken first; or memory runs out, and the session is over.
  pub data Steps (name : List ℕ) (c : Configuration) : Configuration → Type 0 where
    acts : (p : Participant) (taken : Session) (cache : Cache) (next : Configuration) → participant c.world name ≡ Some p
        → TakesAll judged replicas c.session p.cache taken cache
        → Acts (record p { cache = cache }) (with_cache c p taken cache) next → Steps name c next
    lacks_memory : (p : Participant) (taken t : Session) (cache : Cache) → participant c.world name ≡ Some p
        → TakesSome judged replicas c.session p.cache taken cache → LacksMemory taken t
        → Steps name c (with_cache c p t cache)

  -- so many steps; a session that is over stays
  pub data StepsOn (name : List ℕ) : ℕ → Configuration → Configuration → Type 0 where
    none : {c : Configuration} → StepsOn name zero c c
    is_over : {count : ℕ} {c : Configuration} (said : Option Said) → c.session.stage ≡ Over said → StepsOn name (suc count) c c
    more : {count : ℕ} {c between next : Configuration} → Steps name c between → StepsOn name count between next
        → StepsOn name (suc count) c next

  -- all steps up to the end
  pub data RunsOut (name : List ℕ) : Configuration → Configuration → Type 0 where
    is_over : {c : Configuration} (said : Option Said) → c.session.stage ≡ Over said → RunsOut name c c
    more : {c between next : Configuration} → Steps name c between → RunsOut name between next → RunsOut name c next
