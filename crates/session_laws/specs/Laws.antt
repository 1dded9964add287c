-- Laws of gets and puts, ask by ask: each is deterministic, and what a machine is to ask is its next ask.
use Rattle.std.specs.Prelude.{◌≡◌, ◌≢◌, ℕ, Bool, if◌then◌else◌, List, [], Option, Some, Result}
use Rattle.ivy_base.specs.declared.key.Key.{Key}
use Rattle.ivy_base.specs.declared.key.PubKey.{PubKey}
use Rattle.ivy_base.specs.Naming.{head_key_of}
use Rattle.dht_ids.specs.declared.ask.Ask.{Ask}
use Rattle.dht_ids.specs.declared.ask.Ask.TheVariants as ask
use Rattle.dht_ids.specs.declared.ask.Heard.{Heard}
use Rattle.dht_ids.specs.declared.judge.Judged.{Judged}
use Rattle.dht_ids.specs.declared.peer.Peer.{Peer}
use Rattle.dht_ids.specs.declared.post.Post.{Post}
use Rattle.dhash_model.specs.declared.miss.Miss.{Miss}
use Rattle.dhash_model.specs.GetBlock.{IsGetOfBlock}
use Rattle.dhash_model.specs.GetHead.{IsGetOfHead}
use Rattle.dhash_client.specs.declared.put.PutKind.{PutKind}
use Rattle.dhash_client.specs.declared.put.PutKind.TheVariants as put
use Rattle.dhash_client.specs.GetBlock.{BlockState, BlockIsAfter, block_awaited}
use Rattle.dhash_client.specs.GetHead.{Judges, HeadState, HeadIsAfter, head_awaited}
use Rattle.dhash_client.specs.Puts.{IsPutOf, PutState, PutIsAfter, put_awaited, question_of}
use Rattle.agent_model.specs.Agent.{is_head}
use Rattle.session_model.specs.Brought.{WantedOfRing, Heads, Content}
use Rattle.session_model.specs.Sessions.{Session, IsGet, IsPut, IsPutOfPost, put_question, wanted_key}
use Rattle.session_model.specs.Asking.{IsBegun, AsksNext, AsksOneNext, BeginsNoOther, GoesOnAlways}

-- ---- they are one

-- of any entry nodes, some of which there are, whatever is asked for
abbrev pub GetsAreDeterministic : Type 0
GetsAreDeterministic = (judged : Key → List ℕ → Option Judged) (r : ℕ) (entries : List Peer) (want : WantedOfRing)
    → BeginsNoOther (IsGet judged r entries want) × AsksOneNext (wanted_key want) (ask.Get (wanted_key want)) (IsGet judged r entries want)
    × GoesOnAlways (wanted_key want) (ask.Get (wanted_key want)) (IsGet judged r entries want)
    × (entries ≢ [] → IsBegun (IsGet judged r entries want) [])

abbrev pub PutsAreDeterministic : Type 0
PutsAreDeterministic = (judged : Key → List ℕ → Option Judged) (r : ℕ) (s : Session) (p : Post)
    → BeginsNoOther (IsPut judged r s p) × AsksOneNext p.key (put_question p) (IsPut judged r s p)
    × GoesOnAlways p.key (put_question p) (IsPut judged r s p) × (s.entries ≢ [] → IsBegun (IsPut judged r s p) [])

-- ---- whole gets and puts, whatever comes of them

abbrev pub IsWholeGetOfHead : (List ℕ → Option Judged) → Key → ℕ → List Peer → List Heard → Type 0
IsWholeGetOfHead judge key r entries asks = (came : Result (List Judged) Miss) × IsGetOfHead judge key r entries asks came

abbrev pub IsWholeGetOfBlock : Key → ℕ → List Peer → List Heard → Type 0
IsWholeGetOfBlock key r entries asks = (came : Result (List ℕ) Miss) × IsGetOfBlock key r entries asks came

abbrev pub IsWholePutOf : PutKind → List ℕ → Key → ℕ → List Peer → List Heard → Type 0
IsWholePutOf what bytes key r entries asks = (came : Result Bool Miss) × IsPutOf what bytes key r entries asks came

abbrev pub IsWholePutOfPost : ℕ → List Peer → Post → List Heard → Type 0
IsWholePutOfPost r entries p asks = (came : Result Bool Miss) × IsPutOfPost r entries p asks came

-- ---- where they end

-- where some node is asked next, what was asked isn't whole
abbrev pub NextIsNotWhole : Key → Ask → (List Heard → Type 0) → Type 0
NextIsNotWhole key of_owners Whole =
    (trail : List Heard) (node : Peer) (question : Ask) → AsksNext key of_owners Whole trail node question → Whole trail → ⊥

abbrev pub HeadNextIsNotWhole : Type 0
HeadNextIsNotWhole = (judge : List ℕ → Option Judged) (key : Key) (r : ℕ) (entries : List Peer)
    → NextIsNotWhole key (ask.Get key) (IsWholeGetOfHead judge key r entries)

abbrev pub BlockNextIsNotWhole : Type 0
BlockNextIsNotWhole = (key : Key) (r : ℕ) (entries : List Peer) → NextIsNotWhole key (ask.Get key) (IsWholeGetOfBlock key r entries)

abbrev pub PutNextIsNotWhole : Type 0
PutNextIsNotWhole = (what : PutKind) (bytes : List ℕ) (key : Key) (r : ℕ) (entries : List Peer)
    → NextIsNotWhole key (question_of what bytes key) (IsWholePutOf what bytes key r entries)

abbrev pub GetNextIsNotWhole : Type 0
GetNextIsNotWhole = (judged : Key → List ℕ → Option Judged) (r : ℕ) (entries : List Peer) (want : WantedOfRing)
    → NextIsNotWhole (wanted_key want) (ask.Get (wanted_key want)) (IsGet judged r entries want)

abbrev pub PostNextIsNotWhole : Type 0
PostNextIsNotWhole = (r : ℕ) (entries : List Peer) (p : Post) → NextIsNotWhole p.key (put_question p) (IsWholePutOfPost r entries p)

-- where some node is known, a whole one asks some
abbrev pub NoneIsWhole : List Peer → (List Heard → Type 0) → Type 0
NoneIsWhole entries Whole = entries ≢ [] → Whole [] → ⊥

abbrev pub NoneIsWholeHead : Type 0
NoneIsWholeHead = (judge : List ℕ → Option Judged) (key : Key) (r : ℕ) (entries : List Peer)
    → NoneIsWhole entries (IsWholeGetOfHead judge key r entries)

abbrev pub NoneIsWholeBlock : Type 0
NoneIsWholeBlock = (key : Key) (r : ℕ) (entries : List Peer) → NoneIsWhole entries (IsWholeGetOfBlock key r entries)

abbrev pub NoneIsWholePut : Type 0
NoneIsWholePut = (what : PutKind) (bytes : List ℕ) (key : Key) (r : ℕ) (entries : List Peer)
    → NoneIsWhole entries (IsWholePutOf what bytes key r entries)

abbrev pub NoneIsWholeGet : Type 0
NoneIsWholeGet = (judged : Key → List ℕ → Option Judged) (r : ℕ) (entries : List Peer) (want : WantedOfRing)
    → NoneIsWhole entries (IsGet judged r entries want)

abbrev pub NoneIsWholePost : Type 0
NoneIsWholePost = (r : ℕ) (entries : List Peer) (p : Post) → NoneIsWhole entries (IsWholePutOfPost r entries p)

-- ---- what a machine is to ask

-- what a machine of a get of heads that are judged so is to ask is the next of its get
abbrev pub HeadAsksNext : Type 0 → Type 0
HeadAsksNext J = (judges : Judges J) (entries : List Peer) (trail : List Heard) (s : HeadState J) (node : Peer) (question : Ask)
    → HeadIsAfter judges entries trail s → head_awaited s ≡ Some (node, question)
    → AsksNext s.execution.look.key (ask.Get s.execution.look.key)
    (IsWholeGetOfHead (judges s.judge s.execution.look.key) s.execution.look.key s.execution.replicas entries) trail node question

abbrev pub BlockAsksNext : Type 0
BlockAsksNext = (entries : List Peer) (trail : List Heard) (s : BlockState) (node : Peer) (question : Ask) → BlockIsAfter entries trail s
    → block_awaited s ≡ Some (node, question)
    → AsksNext s.execution.look.key (ask.Get s.execution.look.key)
    (IsWholeGetOfBlock s.execution.look.key s.execution.replicas entries) trail node question

abbrev pub PutAsksNext : Type 0
PutAsksNext = (entries : List Peer) (trail : List Heard) (s : PutState) (node : Peer) (question : Ask) → PutIsAfter entries trail s
    → put_awaited s ≡ Some (node, question)
    → AsksNext s.execution.look.key (question_of s.what s.bytes s.execution.look.key)
    (IsWholePutOf s.what s.bytes s.execution.look.key s.execution.replicas entries) trail node question

-- ---- the same of a session's gets and puts

-- of the heads of an owner's log
abbrev pub HeadsAreAskedNext : Type 0 → Type 0
HeadsAreAskedNext J = (judges : Judges J) (entries : List Peer) (trail : List Heard) (s : HeadState J) (owner : PubKey) (node : Peer)
    (question : Ask) → HeadIsAfter judges entries trail s
    → s.execution.look.key ≡ head_key_of owner → head_awaited s ≡ Some (node, question)
    → AsksNext (head_key_of owner) (ask.Get (head_key_of owner))
    (IsGet (judges s.judge) s.execution.replicas entries (Heads owner)) trail node question

-- of a content block, whatever judges heads
abbrev pub ContentIsAskedNext : Type 0
ContentIsAskedNext = (judged : Key → List ℕ → Option Judged) (entries : List Peer) (trail : List Heard) (s : BlockState) (node : Peer)
    (question : Ask) → BlockIsAfter entries trail s → block_awaited s ≡ Some (node, question)
    → AsksNext s.execution.look.key (ask.Get s.execution.look.key)
    (IsGet judged s.execution.replicas entries (Content s.execution.look.key)) trail node question

-- the machine puts this post
pub record PutsPost (s : PutState) (p : Post) : Type 0 where
  pub key : s.execution.look.key ≡ p.key
  pub bytes : s.bytes ≡ p.bytes
  pub what : s.what ≡ (if is_head p.kind then put.Head else put.Block)

abbrev pub PostIsAskedNext : Type 0
PostIsAskedNext = (entries : List Peer) (trail : List Heard) (s : PutState) (p : Post) (node : Peer) (question : Ask)
    → PutIsAfter entries trail s → PutsPost s p → put_awaited s ≡ Some (node, question)
    → AsksNext p.key (put_question p) (IsWholePutOfPost s.execution.replicas entries p) trail node question
