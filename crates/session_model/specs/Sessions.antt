-- A session: one call of a participant, or the publishing of its posts alone. It refreshes, has one turn, and publishes.
use Rattle.std.specs.Prelude.{◌≡◌, ℕ, Bool, true, false, ◌&&◌, not, List, [], ◌∷◌, ◌++◌, filter, Option, Some, None, Result, Ok, Err}
use Rattle.std.specs.Prelude.{if◌then◌else◌}
use Rattle.std.specs.Option.{option_map_or}
use Rattle.std.specs.List.{find}
use Rattle.ivy_base.specs.declared.key.Key.{Key}
use Rattle.ivy_base.specs.declared.key.PubKey.{PubKey}
use Rattle.ivy_base.specs.Naming.{name, head_key_of}
use Rattle.tree_model.specs.Tree.{same_key}
use Rattle.dhash_model.specs.Cache.{block_of, kept, moved_to_front}
use Rattle.dhash_model.specs.declared.miss.Miss.{Miss}
use Rattle.dhash_model.specs.GetBlock.{IsGetOfBlock}
use Rattle.dhash_model.specs.GetHead.{IsGetOfHead}
use Rattle.dhash_model.specs.Execution.{IsExecution}
use Rattle.dhash_model.specs.Puts.{EndsPut}
use Rattle.dht_ids.specs.declared.ask.Answer.{Answer}
use Rattle.dht_ids.specs.declared.ask.Ask.{Ask}
use Rattle.dht_ids.specs.declared.ask.Ask.TheVariants as ask
use Rattle.dht_ids.specs.declared.ask.Heard.{Heard}
use Rattle.dht_ids.specs.declared.judge.Judged.{Judged}
use Rattle.dht_ids.specs.declared.peer.Peer.{Peer}
use Rattle.dht_ids.specs.declared.post.Ack.{Ack}
use Rattle.dht_ids.specs.declared.post.Post.{Post}
use Rattle.dht_ids.specs.declared.post.PostKind.{PostKind}
use Rattle.dht_ids.specs.declared.post.PostKind.TheVariants as kind
use Rattle.dht_ids.specs.Asked.{told}
use Rattle.agent_model.specs.Agent.{is_head}
use Rattle.agent_model.specs.Others.{is_block}
use Rattle.agent_model.specs.Standing.{Standing, Refresh}
use Rattle.session_model.specs.Brought.{Brought, HeadsOf, BlockOf, Part, WantedOfRing, Heads, Content, brought_in}
use Rattle.session_model.specs.Asking.{AsksNext}
use Rattle.session_model.specs.Refreshing.{Note, Refreshes, Needs}

-- what is said at the end: a reply message, or that there is none; and the file handle and the verifier that the reply gives
pub record Said : Type 0 where
  pub message : Option (List ℕ)
  pub handle : Option (List ℕ)
  pub verifier : Option (List ℕ)

-- how far a session has come. A session that only publishes says nothing.
pub data Stage : Type 0 where
  Refreshing : Stage
  Publishing : (said : Option Said) (posts : List Post) (acks : List Ack) → Stage
  Over : (said : Option Said) → Stage

-- A session: whose it is, its message, the nodes that it knows, the standing with which it last began, what it was brought since and by
-- which asks (its trail), the asks of the get or put on its way, how often it began again, how far it has come, what is noted, and why its
-- refresh failed, where it did.
pub record Session : Type 0 where
  pub by : List ℕ
  pub message : List ℕ
  pub entries : List Peer
  pub standing : Standing
  pub parts : List Part
  pub current : List Heard
  pub starts : ℕ
  pub stage : Stage
  pub notes : List Note
  pub missed : Option Miss

-- the blocks of its participant's cache, the most recently used first
abbrev pub Cache : Type 0
Cache = List (Key × List ℕ)

-- ---- publishing

abbrev pub is_log : PostKind → Bool
is_log kind.Block = false
is_log kind.Log = true
is_log kind.Head = false

-- records, then blocks of snapshots, then the head; within a kind as they stand
abbrev pub in_publishing_order : List Post → List Post
in_publishing_order posts = filter (λ p. is_log p.kind) posts ++ filter (λ p. is_block p.kind) posts ++ filter (λ p. is_head p.kind) posts

-- what the owners of a post's key are asked
abbrev pub put_question : Post → Ask
put_question p = if is_head p.kind then ask.PutHead p.key p.bytes else ask.PutBlock p.key p.bytes

-- a put of the post, over a whole trail
abbrev pub IsPutOfPost : ℕ → List Peer → Post → List Heard → Result Bool Miss → Type 0
IsPutOfPost r entries p = IsExecution p.key (put_question p) entries (EndsPut r)

abbrev pub ack_of : Post → Ack
ack_of p = record { key = p.key; name = name p.bytes }

-- the head isn't put once a record wasn't acknowledged
abbrev pub held_back : Post → List Post → List Post
held_back p posts = if is_log p.kind then filter (λ q. not (is_head q.kind)) posts else posts

-- the stage after a put of the first of the posts, that was acknowledged or not
abbrev pub after_put : Option Said → Post → List Post → List Ack → Bool → Stage
after_put said p posts acks true = Publishing said posts (acks ++ ack_of p ∷ [])
after_put said p posts acks false = Publishing said (held_back p posts) acks

abbrev pub acknowledged : Result Bool Miss → Bool
acknowledged (Ok held) = held
acknowledged (Err miss) = false

-- a session publishes an agent's posts
abbrev pub publishing : Option Said → List Post → Stage
publishing said pending = Publishing said (in_publishing_order pending) []

-- ---- what is available without asking

-- a post's block, where it is content
abbrev pub pending_block : Key → List Post → Option (List ℕ)
pending_block key posts = option_map_or (λ p. Some p.bytes) (find (λ p. not (is_head p.kind) && same_key p.key key) posts) None

abbrev pub with_part : Session → Brought → List Heard → Session
with_part s brought asks = record s { parts = s.parts ++ record { brought = brought; asks = asks } ∷ []; current = [] }

-- ---- steps that nobody sees, and asks

-- the key that it is under
abbrev pub wanted_key : WantedOfRing → Key
wanted_key (Heads owner) = head_key_of owner
wanted_key (Content key) = key

module _ (judged : Key → List ℕ → Option Judged) (replicas : ℕ) where
  -- the session's refresh wants this next
  abbrev pub Wants : Session → WantedOfRing → Type 0
  Wants s want = (s.stage ≡ Refreshing) × (notes : List Note) × (given : Refresh)
      × Refreshes s.standing (brought_in s.parts) notes given (Needs want)

  -- it is a block that the session's posts have, or else the cache
  pub data Takes (s : Session) (cache : Cache) : Session → Cache → Type 0 where
    posted : (key : Key) (bytes : List ℕ) → Wants s (Content key) → s.current ≡ [] → pending_block key s.standing.pending ≡ Some bytes
        → Takes s cache (with_part s (BlockOf key (Ok bytes)) []) cache
    cached : (key : Key) (bytes : List ℕ) → Wants s (Content key) → s.current ≡ [] → pending_block key s.standing.pending ≡ None
        → block_of key cache ≡ Some bytes
        → Takes s cache (with_part s (BlockOf key (Ok bytes)) []) (moved_to_front key cache)

  pub data TakesAll : Session → Cache → Session → Cache → Type 0 where
    none : {s : Session} {cache : Cache} → ((t : Session) (after : Cache) → Takes s cache t after → ⊥) → TakesAll s cache s cache
    more : {s mid t : Session} {cache between after : Cache} → Takes s cache mid between → TakesAll mid between t after
        → TakesAll s cache t after

  pub data TakesSome : Session → Cache → Session → Cache → Type 0 where
    none : {s : Session} {cache : Cache} → TakesSome s cache s cache
    more : {s mid t : Session} {cache between after : Cache} → Takes s cache mid between → TakesSome mid between t after
        → TakesSome s cache t after

  -- a get of what is wanted, over a whole part of the trail: what it brings
  pub data Gets (entries : List Peer) : WantedOfRing → List Heard → Brought → Type 0 where
    heads : {owner : PubKey} {asks : List Heard} (came : Result (List Judged) Miss)
        → IsGetOfHead (judged (head_key_of owner)) (head_key_of owner) replicas entries asks came
        → Gets entries (Heads owner) asks (HeadsOf owner came)
    content : {key : Key} {asks : List Heard} (came : Result (List ℕ) Miss) → IsGetOfBlock key replicas entries asks came
        → Gets entries (Content key) asks (BlockOf key came)

  abbrev pub IsGet : List Peer → WantedOfRing → List Heard → Type 0
  IsGet entries want asks = (brought : Brought) × Gets entries want asks brought

  -- a block that a get gave right is kept
  abbrev pub keeping : Brought → Cache → Cache
  keeping (BlockOf key (Ok bytes)) cache = kept key bytes cache
  keeping _ cache = cache

  abbrev pub IsPut : Session → Post → List Heard → Type 0
  IsPut s p asks = (came : Result Bool Miss) × IsPutOfPost replicas s.entries p asks came

  -- One ask of the session, and how it is once the answer is heard: its get or put goes on, or is over.
  pub data Hears (s : Session) (cache : Cache) (node : Peer) (question : Ask) (answer : Answer) : Session → Cache → Type 0 where
    gets_on : (want : WantedOfRing) → Wants s want
        → AsksNext (wanted_key want) (ask.Get (wanted_key want)) (IsGet s.entries want) s.current node question
        → (IsGet s.entries want (s.current ++ told node question answer) → ⊥)
        → Hears s cache node question answer (record s { current = s.current ++ told node question answer }) cache
    got : (want : WantedOfRing) (brought : Brought) → Wants s want
        → AsksNext (wanted_key want) (ask.Get (wanted_key want)) (IsGet s.entries want) s.current node question
        → Gets s.entries want (s.current ++ told node question answer) brought
        → Hears s cache node question answer (with_part s brought (s.current ++ told node question answer)) (keeping brought cache)
    puts_on : (said : Option Said) (p : Post) (posts : List Post) (acks : List Ack) → s.stage ≡ Publishing said (p ∷ posts) acks
        → AsksNext p.key (put_question p) (IsPut s p) s.current node question → (IsPut s p (s.current ++ told node question answer) → ⊥)
        → Hears s cache node question answer (record s { current = s.current ++ told node question answer }) cache
    puts : (said : Option Said) (p : Post) (posts : List Post) (acks : List Ack) (came : Result Bool Miss)
        → s.stage ≡ Publishing said (p ∷ posts) acks
        → AsksNext p.key (put_question p) (IsPut s p) s.current node question
        → IsPutOfPost replicas s.entries p (s.current ++ told node question answer) came
        → Hears s cache node question answer (record s { stage = after_put said p posts acks (acknowledged came); current = [] }) cache
