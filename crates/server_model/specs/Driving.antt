-- The way of one session on a link, act by act.
use Rattle.std.specs.Prelude.{◌≡◌, ◌<◌, ◌≤◌, ℕ, Bool, true, List, [], ◌∷◌, ◌++◌, Option, None}
use Rattle.nfs_model.specs.declared.replies.Reply.{Reply}
use Rattle.dht_ids.specs.declared.ask.Answer.{Answer}
use Rattle.dht_ids.specs.declared.ask.Ask.{Ask}
use Rattle.dht_ids.specs.declared.peer.Peer.{Peer}
use Rattle.dht_ids.specs.declared.post.Ack.{Ack}
use Rattle.dht_ids.specs.declared.post.Post.{Post}
use Rattle.agent_model.specs.Standing.{Standing}
use Rattle.session_model.specs.Refreshing.{Note}
use Rattle.session_model.specs.Replies.{Asks, said_no_memory, said_of}
use Rattle.session_model.specs.Sessions.{Session, Cache, Said, Publishing, Over, Hears, TakesAll, TakesSome}
use Rattle.session_model.specs.Executions.{Fails, HasRefreshed, LacksMemory, anew, answered_by_turn, ended}
use Rattle.server_model.specs.Acts.{Act, Asking, Gave, Lacked, Refused, Replied, Settling, TakingTurn, TurnAsked}
use Rattle.server_model.specs.Takers.{Ring}

-- A session that is driven: with the cache of its link, and whether its publishing was cut before all puts were made.
pub record Driven : Type 0 where
  pub session : Session
  pub cache : Cache
  pub is_cut : Bool

-- What a session makes of what its turn gave: it publishes, or begins again, at most twice, or memory runs out.
pub data Makes (s : Session) (notes : List Note) (xid : ℕ) : Gave → Session → Type 0 where
  answers : (reply : Reply) (posts : List Post)
      → Makes s notes xid (Replied reply posts) (answered_by_turn s (said_of xid reply) notes posts)
  begins_again : (standing : Standing) → s.starts < 2 → Makes s notes xid (Refused standing) (anew s standing)
  gives_up : (standing : Standing) → 2 ≤ s.starts → Makes s notes xid (Refused standing) (ended s (said_no_memory xid) notes None)
  lacks_memory : (t : Session) → LacksMemory s t → Makes s notes xid Lacked t

-- in another state, or with another cache too
abbrev pub as_session : Driven → Session → Driven
as_session here t = record here { session = t }

abbrev pub over_with : Driven → Option Said → Driven
over_with here said = as_session here (record here.session { stage = Over said })

module _ (ring : Ring) where
  -- what is available is taken: all of it, or some
  abbrev pub TakesAvailable : Driven → Driven → Type 0
  TakesAvailable here there =
      TakesAll ring.judged ring.replicas here.session here.cache there.session there.cache × (there.is_cut ≡ here.is_cut)

  abbrev pub TakesSomeAvailable : Driven → Driven → Type 0
  TakesSomeAvailable here there =
      TakesSome ring.judged ring.replicas here.session here.cache there.session there.cache × (there.is_cut ≡ here.is_cut)

  -- the node's answer is heard
  abbrev pub HearsAnswer : Driven → Peer → Ask → Answer → Driven → Type 0
  HearsAnswer here node question answer there =
      Hears ring.judged ring.replicas here.session here.cache node question answer there.session there.cache × (there.is_cut ≡ here.is_cut)

  -- One act of a session: what is available is taken first. Where memory runs out, an answer may not be heard, and the session is over.
  pub data Does (here : Driven) : Act → Driven → Type 0 where
    asks : (taken heard : Driven) (t : Session) (node : Peer) (question : Ask) (answer : Answer) → TakesAvailable here taken
        → HearsAnswer taken node question answer heard → Fails heard.session t
        → Does here (Asking node question answer) (as_session heard t)
    asks_in_vain : (taken heard : Driven) (t : Session) (node : Peer) (question : Ask) (answer : Answer) → TakesAvailable here taken
        → HearsAnswer taken node question answer heard → LacksMemory taken.session t
        → Does here (Asking node question answer) (as_session taken t)
    turns : (taken : Driven) (t : Session) (notes : List Note) (xid : ℕ) (turn : TurnAsked) (gave : Gave) → TakesAvailable here taken
        → HasRefreshed taken.session notes turn.brought → Asks taken.session.standing.view taken.session.message xid turn.asked
        → Makes taken.session notes xid gave t → Does here (TakingTurn turn gave) (as_session taken t)
    settles : (said : Option Said) (acks : List Ack) → here.session.stage ≡ Publishing said [] acks
        → Does here (Settling acks) (over_with here said)

  -- So many acts, one after the other. Where memory runs out, a session that refreshes is over at once, and one that publishes is cut: what
  -- is still to be put is left.
  pub data Went (start : Driven) : List Act → Driven → Type 0 where
    none : Went start [] start
    more : {acts : List Act} {here there : Driven} (act : Act) → Went start acts here → Does here act there
        → Went start (acts ++ act ∷ []) there
    lacks_memory : {acts : List Act} {here : Driven} (taken : Driven) (t : Session) → Went start acts here → TakesSomeAvailable here taken
        → LacksMemory taken.session t → Went start acts (as_session taken t)
    is_cut : {acts : List Act} {here : Driven} (said : Option Said) (posts : List Post) (acks : List Ack) → Went start acts here
        → here.session.stage ≡ Publishing said posts acks → Went start acts (record (over_with here said) { is_cut = true })
