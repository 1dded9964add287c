-- A session that doesn't refresh has no turn, so a participant that only publishes has none.
use Rattle.std.proofs.Common.{◌≡◌, ℕ, Bool, true, false, List, Option}
use Rattle.ivy_base.specs.declared.operation.Moment.{Moment}
use Rattle.dhash_model.specs.Signed.{hss_judged}
use Rattle.log_model.specs.View.{View}
use Rattle.dht_ids.specs.declared.ask.Answer.{Answer}
use Rattle.dht_ids.specs.declared.ask.Ask.{Ask}
use Rattle.dht_ids.specs.declared.peer.Peer.{Peer}
use Rattle.dht_ids.specs.declared.post.Ack.{Ack}
use Rattle.dht_ids.specs.declared.post.Post.{Post}
use Rattle.agent_model.specs.Turning.{TurnEnd}
use Rattle.session_model.specs.Executions.{Fails, LacksMemory, Settles, TakesTurn}
use Rattle.session_model.specs.Executions.Fails.{fails, goes_on}
use Rattle.session_model.specs.Executions.LacksMemory.{lacks}
use Rattle.session_model.specs.Executions.Settles.{settles as settles_all}
use Rattle.session_model.specs.Executions.TakesTurn.{answers as turn_answers, begins_again, gives_up}
use Rattle.script_model.specs.declared.command.Command.{Command}
use Rattle.session_model.specs.Sessions.{Cache, Hears, Publishing, Refreshing, Said, Session, TakesSome, acknowledged, after_put}
use Rattle.session_model.specs.Sessions.Takes.{cached, posted}
use Rattle.session_model.specs.Sessions.TakesSome.{more as some_more, none as some_none}
use Rattle.session_model.specs.Sessions.Hears.{gets_on, got, puts_on, puts}
use Rattle.world_model.specs.Agents.{HssAgent, HssKept, hss_signing}
use Rattle.world_model.specs.Logs.{Played}
use Rattle.world_model.specs.Steps.{Configuration}
use Rattle.world_model.specs.GhostState.{HadTurn}
use Rattle.world_laws.specs.Effects.{LaterEffect}
use Rattle.world_laws.specs.Effects.LaterEffect.{publishes, replies}
use Rattle.world_laws.specs.Moves.{Move}
use Rattle.world_laws.specs.Moves.Move.{asks, hears, lacks as move_lacks, settles as move_settles, takes, turns}
use Rattle.world_laws.proofs.Moves.{all_moves, runs_move}

-- it doesn't refresh
abbrev pub IsPast : Session → Type 0
IsPast s = s.stage ≡ Refreshing → ⊥

pub past_put : (said : Option Said) (p : Post) (posts : List Post) (acks : List Ack) (came : Bool) → after_put said p posts acks came ≡ Refreshing → ⊥
past_put said p posts acks true e = cc e
past_put said p posts acks false e = cc e

past_publishing : (said : Option Said) (posts : List Post) (acks : List Ack) → Publishing said posts acks ≡ Refreshing → ⊥
past_publishing said posts acks e = cc e

pub hears_past : {r : ℕ} {s heard : Session} {cache after : Cache} {node : Peer} {question : Ask} {answer : Answer} → IsPast s → Hears hss_judged r s cache node question answer heard after → IsPast heard
hears_past past (gets_on want wants next part) = absurd (past wants.0)
hears_past past (got want brought wants next whole) = absurd (past wants.0)
hears_past past (puts_on said p posts acks at next part) = past
hears_past past (puts said p posts acks came at next whole) = past_put said p posts acks (acknowledged came)

takes_past : {r : ℕ} {s t : Session} {cache after : Cache} → TakesSome hss_judged r s cache t after → IsPast s → IsPast t
takes_past some_none past = past
takes_past (some_more (posted key bytes wants none pending) rest) past = absurd (past wants.0)
takes_past (some_more (cached key bytes wants none pending kept) rest) past = absurd (past wants.0)

pub fails_past : {s t : Session} → IsPast s → Fails s t → IsPast t
fails_past past (fails notes given miss xid asked at refreshed asks_it) = absurd (past at)
fails_past past (goes_on none) = past

pub lacks_past : {s t : Session} → LacksMemory s t → IsPast t
lacks_past (lacks notes shown given end xid asked at refreshed asks_it rest front) = λ e. cc e

pub settles_past : {a after : HssAgent} {s t : Session} → Settles a s after t → IsPast t
settles_past (settles_all said acks at) = λ e. cc e

pub turn_refreshes : {now : Moment} {a : HssAgent} {view : View} {failing : Bool} {s : Session} {end : TurnEnd} {after : HssAgent} {saving : Option HssKept} {t : Session} → TakesTurn hss_signing (record { agent = a; view = view; now = now; fails = failing }) s end after saving t → s.stage ≡ Refreshing
turn_refreshes (turn_answers notes given xid asked reply applied after saving done asks_it turned) = done.0
turn_refreshes (begins_again notes given xid asked end after saving done asks_it turned refused few) = done.0
turn_refreshes (gives_up notes given xid asked end after saving done asks_it turned refused many) = done.0

module _ (had : List HadTurn) where
  -- these are the turns, and it doesn't refresh
  record HasNoMore (c : Configuration) : Type 0 where
    past : IsPast c.session
    same : c.ghost_state.turns ≡ had

  move_has_none : {r : ℕ} {name : List ℕ} (c next : Configuration) → Move hss_judged r name c next → HasNoMore c → HasNoMore next
  move_has_none c _ (takes p taken cache is taking) h = record { past = takes_past taking h.past; same = h.same }
  move_has_none c _ (asks node question answer next fate) h = record { past = h.past; same = h.same }
  move_has_none c _ (hears p node question answer next heard t cache is fate hearing goes) h = record { past = fails_past (hears_past h.past hearing) goes; same = h.same }
  move_has_none c _ (move_lacks t lacking) h = record { past = lacks_past lacking; same = h.same }
  move_has_none c _ (turns p view end after saving t work ghost_state began is in_view taking told) h = absurd (h.past (turn_refreshes taking))
  move_has_none c _ (move_settles p after t is settling) h = record { past = settles_past settling; same = h.same }

  -- a later effect has none
  pub later_has_none : {k : Command} (w next : Played) → LaterEffect hss_judged w k next → w.1.turns ≡ had → next.1.turns ≡ had
  later_has_none w _ (publishes k alone r p end ringed is over on) h = (all_moves HasNoMore move_has_none (runs_move on) (record { past = past_publishing _ _ _; same = h })).same
  later_has_none w _ (replies k whole said) h = h
