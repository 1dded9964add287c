-- What holds of each world that a script reaches, with its ghost state: whether or not names of blocks collide, and where they don't.
use Rattle.std.specs.Prelude.{◌≡◌, ◌≢◌, ◌⊎◌, is_some, ℕ, ◌≤◌, ◌<◌, List, [], ◌∷◌, ◌++◌, length, map, Contains, Option, Some, None, Ok}
use Rattle.std.specs.Prelude.{IfSome, IsTrue}
use Rattle.std.specs.List.{AllByRecursion}
use Rattle.ivy_base.specs.declared.key.Key.{Key}
use Rattle.ivy_base.specs.Naming.{IsCollisionFree, name, head_key_of}
use Rattle.log_model.specs.Spelling.{IsMoment}
use Rattle.log_model.specs.View.{View, IsView}
use Rattle.log_model.specs.Vector.{Stamp, Entry, Dominates, seq_of}
use Rattle.log_model.specs.Record.{Record}
use Rattle.log_model.specs.Rank.{front, own_entry}
use Rattle.log_model.specs.Chain.{IsChain}
use Rattle.log_model.specs.Closed.{IsClosed, log_of}
use Rattle.log_model.specs.Standing.{Stand, StandsAmong}
use Rattle.log_model.specs.ViewKeys.{HasKeys}
use Rattle.turn_model.specs.Known.{IsKnown, IsVerified}
use Rattle.turn_model.specs.Basis.{Holding, HoldsAll, Knows, fresh_basis, nothing_held}
use Rattle.dht_ids.specs.declared.judge.Judged.{Judged}
use Rattle.dht_ids.specs.declared.post.Post.{Post}
use Rattle.hash_signature_model.specs.Signer.{Signer}
use Rattle.block_cache.specs.Blocks.{IsCache}
use Rattle.agent_model.specs.Agent.{joined, kept_of}
use Rattle.agent_model.specs.SavedBytes.{HasItsName}
use Rattle.agent_model.specs.Standing.{Refresh, edges_of}
use Rattle.turn_model.specs.Turn.{Asked}
use Rattle.dht_ids.specs.declared.ask.Answer.{Answer}
use Rattle.dht_ids.specs.declared.ask.Answer.TheVariants as answer
use Rattle.session_model.specs.Asking.{IsBegun}
use Rattle.session_model.specs.Refreshing.{Note, RefreshEnd, Refreshes, Needs, FailsBy, Done}
use Rattle.session_model.specs.Replies.{Asks}
use Rattle.dhash_model.specs.Signed.{hss_judged}
use Rattle.session_model.specs.Brought.{BlockOf, all_heads, brought_in, stamp_of}
use Rattle.session_model.specs.Sessions.{Said, Session, Stage, Refreshing, Publishing, Over, IsGet, IsPut}
use Rattle.session_laws.specs.Loading.{IsSnapshotOf}
use Rattle.node_store.specs.Stores.{IsStore}
use Rattle.round_laws.specs.RingOf.{AreNamed, KnowsOnly}
use Rattle.round_laws.specs.RingOf.{AreApart as StandApart}
use Rattle.world_model.specs.Agents.{HssAgent, IsHssKept, HssKept, hss_kept_bytes, own_hss_key, own_reach, hss_sealed}
use Rattle.world_model.specs.World.{World, NamedSession, Participant, participant, named_bytes, peer_of}
use Rattle.world_model.specs.GhostState.{GhostState, Began, Knowing, began_of, knowing_of, known_of}
use Rattle.world_model.specs.Logs.{Played}
use Rattle.world_model.specs.Steps.{Configuration, heads_by}
use Rattle.world_laws.specs.Causes.{HasCause, said_at}

-- ---- facts that hold in any case

-- a post's block is met, and what isn't a head has its name
abbrev pub IsMetPost : List (List ℕ) → Post → Type 0
IsMetPost met p = Contains met p.bytes × HasItsName p

-- each member of the view is a participant
abbrev pub AreParticipants : World → View → Type 0
AreParticipants w view = AllByRecursion (Contains (map (λ p. own_hss_key p.agent) w.participants)) view.members

-- The blocks of nodes and caches, and what agents have to publish, are met; and views are those of participants, and have a block that is
-- theirs alone.
pub record BlocksAreMet (w : World) : Type 0 where
  pub held : AllByRecursion (λ n. IsStore n.blocks × AllByRecursion (λ e. Contains w.met e.1.bytes) n.blocks) w.nodes
  pub pending : AllByRecursion (λ p. AllByRecursion (IsMetPost w.met) p.agent.pending) w.participants
  pub cached : AllByRecursion (λ p. IsCache p.cache × AllByRecursion (λ e. Contains w.met e.1) p.cache) w.participants
  pub views : AllByRecursion (λ v. IsView v.view × HasKeys v.view × AreParticipants w v.view) w.views

-- each node has the identifier of its number, no two stand at one place, and each peer that a node knows is a node that was made
pub record PeersAreMade (w : World) : Type 0 where
  pub named : AreNamed (map peer_of w.nodes)
  pub apart : StandApart (map peer_of w.nodes)
  pub few : length w.nodes ≤ 256
  pub known : AllByRecursion (KnowsOnly (map peer_of w.nodes)) w.nodes

-- a head of the signer's, by the number of its signature and the record that it is over
abbrev pub sealed_with : Signer → ℕ × Stamp → List ℕ
sealed_with signer h = hss_sealed (record signer { made = h.0 }) h.1

-- the heads were signed by numbers below that one, over records up to that one; those of one number or over records of one number are one
pub record AreSignedOnce (signer : Signer) (made : ℕ) (reach : ℕ) (heads : List (List ℕ)) : Type 0 where
  pub signed : List (ℕ × Stamp)
  pub spelled : heads ≡ map (sealed_with signer) signed
  pub below : AllByRecursion (λ h. (h.0 < made) × (h.1.seq ≤ reach)) signed
  pub one_each : (g h : ℕ × Stamp) → Contains signed g → Contains signed h → (g.0 ≡ h.0) ⊎ (g.1.seq ≡ h.1.seq) → g ≡ h

-- The heads that left an agent are signed once each, by what the agent counts; and with them those that its keeper still holds, by what the
-- keeper counts.
pub record SignsOnce (p : Participant) (k : HssKept) : Type 0 where
  pub same : (k.signer.id ≡ p.agent.signer.id) × (k.signer.seed ≡ p.agent.signer.seed) × (k.signer.sets ≡ p.agent.signer.sets)
  pub saved : p.agent.signer.made ≤ k.signer.made
  pub reaches : own_reach p.agent ≤ seq_of k.floor (head_key_of (own_hss_key p.agent))
  pub left : AreSignedOnce k.signer p.agent.signer.made (own_reach p.agent) p.left
  pub kept : AreSignedOnce k.signer k.signer.made (seq_of k.floor (head_key_of (own_hss_key p.agent))) (p.left ++ heads_by k.pending)
  pub pending : AllByRecursion (Contains p.left) (heads_by p.agent.pending)

-- what would be saved of the agent now may be saved; and the keeper knows a view where the agent does
pub record IsSavedWell (p : Participant) (k : HssKept) : Type 0 where
  pub agent : IsHssKept (kept_of p.agent)
  pub entered : IsTrue (is_some p.agent.view) → IsTrue (is_some k.view)

-- the participant's keeper holds the bytes of something that may be saved, and which is so
abbrev pub IsKeptSo : (Participant → HssKept → Type 0) → Participant → Type 0
IsKeptSo Holds p = (k : HssKept) × IsHssKept k × (p.keeper.kept ≡ Some (hss_kept_bytes k)) × Holds p k

-- no name stands twice
abbrev pub AreApart : List (List ℕ) → Type 0
AreApart [] = Unit {0}
AreApart (n ∷ ns) = (Contains ns n → ⊥) × AreApart ns

-- the ghost state tells of each participant and of each open session, in their order
pub record GhostStateFits (w : World) (st : GhostState) : Type 0 where
  pub participants : map (λ k. k.name) st.participants ≡ map (λ p. p.name) w.participants
  pub sessions : map (λ b. b.0) st.sessions ≡ map (λ s. s.name) w.sessions

-- ---- facts where no names collide

-- An agent in a view: what it knows is what its floor names, among the blocks met; it is verified.
pub record IsSound (met : List (List ℕ)) (p : Participant) (k : Knowing) (view : View) : Type 0 where
  pub knows : Knows view p.agent.floor p.agent.holding k.known
  pub stand : Stand met k.known
  pub verified : IsVerified met view (own_hss_key p.agent) p.agent.floor k.received k.known
  pub covers : Dominates p.agent.floor (front k.known)

-- before it enters a view it knows its log's opening
abbrev pub IsSoundIn : List (List ℕ) → Participant → Knowing → Option View → Type 0
IsSoundIn met p k None = (r : Record) × (k.known ≡ r ∷ []) × (p.agent.floor ≡ own_entry r ∷ []) × StandsAmong met r
    × IsChain (record { members = own_hss_key p.agent ∷ []; former = [] }) (own_hss_key p.agent) (r ∷ [])
IsSoundIn met p k (Some view) = IsSound met p k view

-- the head is over one of these records
abbrev pub NamesOneOf : Signer → List Record → List ℕ → Type 0
NamesOneOf signer log bytes = (number : ℕ) × (r : Record) × Contains log r × (bytes ≡ sealed_with signer (number, (own_entry r).1))

-- what a keeper holds gives a closed and verified set again: after a failed save its posts' blocks may not be met yet, but are from the
-- restart on
pub record IsSoundKept (met : List (List ℕ)) (p : Participant) (now : Knowing) (k : HssKept) (view : View) : Type 0 where
  pub known : List Record
  pub by_floor : IsKnown view k.floor known
  pub closed : IsClosed view known
  pub stand : Stand (met ++ map (λ q. q.bytes) k.pending) known
  pub verified : IsVerified (met ++ map (λ q. q.bytes) k.pending) view (own_hss_key p.agent) k.floor now.received known
  pub covers : Dominates k.floor (front known)
  pub snapshot : IfSome k.snapshot (IsSnapshotOf (met ++ map (λ q. q.bytes) k.pending) view known)
  pub goes_on : (rest : List Record) × (log_of (own_hss_key p.agent) known ≡ log_of (own_hss_key p.agent) now.known ++ rest)
  pub heads : AllByRecursion (NamesOneOf k.signer (log_of (own_hss_key p.agent) known)) (p.left ++ heads_by k.pending)

-- before its first view a keeper names its log's opening, which is what is known
abbrev pub IsSoundKeptIn : List (List ℕ) → Participant → Knowing → HssKept → Option View → Type 0
IsSoundKeptIn met p now k None = (r : Record) × (k.floor ≡ own_entry r ∷ []) × StandsAmong met r
    × IsChain (record { members = own_hss_key p.agent ∷ []; former = [] }) (own_hss_key p.agent) (r ∷ [])
    × AllByRecursion (NamesOneOf k.signer (r ∷ [])) (p.left ++ heads_by k.pending) × (now.known ≡ r ∷ [])
IsSoundKeptIn met p now k (Some view) = IsSoundKept met p now k view

-- where no snapshot was to be loaded when the session (last) began, and what was held then had a fresh basis
abbrev pub BeganFresh : Session → Holding → Type 0
BeganFresh s of = (s.standing.to_load ≡ None) × (of.basis ≡ fresh_basis)

-- How a session's agent stands since the session began with that holding: as it was; or all that it knows is held, which isn't less; or
-- what was held is dropped, which comes only where there was a basis or a snapshot to load.
pub data KeepsUp (s : Session) (of : Holding) (a : HssAgent) (known : List Record) : Type 0 where
  still : a.to_load ≡ s.standing.to_load → joined a.holding ≡ s.standing.held → a.floor ≡ s.standing.floor → KeepsUp s of a known
  grown : a.to_load ≡ None → HoldsAll s.standing.view known a.holding → Dominates (joined a.holding) s.standing.held → KeepsUp s of a known
  dropped : (BeganFresh s of → ⊥) → s.starts ≡ 0 → a.to_load ≡ None → a.holding.basis ≡ fresh_basis → KeepsUp s of a known

-- A session's standing is what its agent knew and held then; what it knew is known still, and the heads that it was brought count as
-- received.
pub record IsSoundSession (w : World) (st : GhostState) (s : Session) (b : Began) : Type 0 where
  pub by : Participant
  pub is_by : participant w s.by ≡ Some by
  pub of : Holding
  pub knows : Knows s.standing.view s.standing.floor of b.knew
  pub held : s.standing.held ≡ joined of
  pub edges : s.standing.edges ≡ edges_of of
  pub to_load : IfSome s.standing.to_load (λ root. (of ≡ nothing_held) × IsSnapshotOf w.met s.standing.view b.knew root)
  pub known : (r : Record) → Contains b.knew r → Contains (known_of st s.by) r
  pub floor : Dominates by.agent.floor s.standing.floor
  pub keeps_up : KeepsUp s of by.agent (known_of st s.by)
  pub anew : 1 ≤ s.starts → (by.agent.to_load ≡ None) × (by.agent.holding.basis ≡ fresh_basis)
  pub stays_fresh : BeganFresh s of → (by.agent.to_load ≡ None) × (by.agent.holding.basis ≡ fresh_basis)
  pub received : (e : Entry) → Contains (all_heads (brought_in s.parts)) e → Contains (knowing_of st s.by).received e
  pub blocks : (key : Key) (bytes : List ℕ) → Contains (brought_in s.parts) (BlockOf key (Ok bytes))
      → (name bytes ≡ key) × Contains w.met bytes

pub record AreSound (w : World) (st : GhostState) : Type 0 where
  pub agents : AllByRecursion (λ p. IsSoundIn w.met p (knowing_of st p.name) p.agent.view) w.participants
  pub keepers : AllByRecursion (IsKeptSo (λ p k. IsSoundKeptIn w.met p (knowing_of st p.name) k k.view)) w.participants
  pub to_load : AllByRecursion (λ p. IfSome p.agent.view
      (λ view. IfSome p.agent.to_load (λ root. (p.agent.holding ≡ nothing_held) × IsSnapshotOf w.met view (known_of st p.name) root)))
      w.participants
  pub snapshots : AllByRecursion (λ p. IfSome p.agent.view (λ view. IfSome p.agent.snapshot (IsSnapshotOf w.met view (known_of st p.name))))
      w.participants
  pub sessions : AllByRecursion (λ s. IsSoundSession w st s.session (began_of st s.name)) w.sessions

-- ---- the whole

-- a head that was received was met, and its judge says so
abbrev pub IsMetHead : List (List ℕ) → Entry → Type 0
IsMetHead met e = (bytes : List ℕ) × (j : Judged) × Contains met bytes × (hss_judged e.0 bytes ≡ Some j) × (e.1 ≡ stamp_of j)

-- what an open session will say has its cause
abbrev pub HasSaid : GhostState → ℕ → Session → Option Said → Type 0
HasSaid st number s None = Unit {0}
HasSaid st number s (Some said) = HasCause st number s said

-- ---- open sessions, in any case

-- what an answer gives is met, and whom it names was made
abbrev pub IsAnswerIn : World → Answer → Type 0
IsAnswerIn w (answer.Found bytes) = Contains w.met bytes
IsAnswerIn w (answer.Route nearer owners) = AllByRecursion (Contains (map peer_of w.nodes)) (nearer ++ owners)
IsAnswerIn w _ = Unit {0}

abbrev pub IsRefreshingOn : ℕ → Session → RefreshEnd → Type 0
IsRefreshingOn r s (Needs want) = IsBegun (IsGet hss_judged r s.entries want) s.current
IsRefreshingOn r s (FailsBy miss) = ⊥
IsRefreshingOn r s Done = s.current ≡ []

pub record IsRefreshing (r : ℕ) (s : Session) : Type 0 where
  pub xid : ℕ
  pub asked : Asked
  pub asks : Asks s.standing.view s.message xid asked
  pub notes : List Note
  pub given : Refresh
  pub end : RefreshEnd
  pub refreshed : Refreshes s.standing (brought_in s.parts) notes given end
  pub goes_on : IsRefreshingOn r s end

abbrev pub IsPuttingOn : ℕ → Session → List Post → Type 0
IsPuttingOn r s [] = s.current ≡ []
IsPuttingOn r s (p ∷ posts) = IsBegun (IsPut hss_judged r s p) s.current

abbrev pub IsAtStage : World → ℕ → Session → Stage → Type 0
IsAtStage w r s Refreshing = IsRefreshing r s
IsAtStage w r s (Publishing said posts acks) = IsTrue (is_some said) × AllByRecursion (IsMetPost w.met) posts × IsPuttingOn r s posts
IsAtStage w r s (Over said) = IsTrue (is_some said)

-- a session goes on whether or not names collide
pub record GoesOn (w : World) (r : ℕ) (s : Session) : Type 0 where
  pub by : Participant
  pub is_by : participant w s.by ≡ Some by
  pub in_view : by.agent.view ≡ Some s.standing.view
  pub own_key : s.standing.own ≡ own_hss_key by.agent
  pub some_entry : s.entries ≢ []
  pub entries : AllByRecursion (Contains (map peer_of w.nodes)) s.entries
  pub heard : AllByRecursion (λ h. IsAnswerIn w h.got) s.current
  pub pending : AllByRecursion (IsMetPost w.met) s.standing.pending
  pub stage : IsAtStage w r s s.stage

-- open sessions have different numbers, and neither they nor turns have one of a call that hasn't begun
pub record AreNumbered (w : World) (st : GhostState) : Type 0 where
  pub apart : (s t : NamedSession) → Contains w.sessions s → Contains w.sessions t
      → (began_of st s.name).number ≡ (began_of st t.name).number → s ≡ t
  pub sessions : AllByRecursion (λ s. (began_of st s.name).number < st.begun) w.sessions
  pub turns : AllByRecursion (λ h. h.began.number < st.begun) st.turns

-- there is nothing before there is a ring, which has a node
abbrev pub HasRing : World → Option ℕ → Type 0
HasRing w None = (w.nodes ≡ []) × (w.participants ≡ []) × (w.sessions ≡ [])
HasRing w (Some r) = (1 ≤ r) × (w.nodes ≢ []) × AllByRecursion (λ n. n.ring.replicas ≡ r) w.nodes
    × AllByRecursion (λ s. GoesOn w r s.session) w.sessions

-- the views that the participant's agent entered, and that its keeper holds, are of participants
pub record EntersOwned (w : World) (p : Participant) : Type 0 where
  pub agent : IfSome p.agent.view (AreParticipants w)
  pub keeper : IsKeptSo (λ q k. IfSome k.view (AreParticipants w)) p

pub record Invariant (w : Played) : Type 0 where
  pub fits : GhostStateFits w.0 w.1
  pub ring : HasRing w.0 w.0.replicas
  pub met : BlocksAreMet w.0
  pub peers : PeersAreMade w.0
  pub signs : AllByRecursion (IsKeptSo SignsOnce) w.0.participants
  pub saved : AllByRecursion (IsKeptSo IsSavedWell) w.0.participants
  pub entered : AllByRecursion (EntersOwned w.0) w.0.participants
  pub apart : AreApart (map (λ p. p.name) w.0.participants)
  pub named_once : AreApart (map (λ s. s.name) w.0.sessions)
  pub moment : IsMoment w.0.now
  pub received : AllByRecursion (λ k. AllByRecursion (IsMetHead w.0.met) k.received) w.1.participants
  pub numbers : AreNumbered w.0 w.1
  pub said : AllByRecursion (λ s. HasSaid w.1 (began_of w.1 s.name).number s.session (said_at s.session.stage)) w.0.sessions
  pub sound : IsCollisionFree (named_bytes w.0) → AreSound w.0 w.1

-- a session in hand, open or within a line
pub record IsInHand (c : Configuration) (r : ℕ) : Type 0 where
  pub number : c.began.number < c.ghost_state.begun
  pub goes_on : GoesOn c.world r c.session
  pub said : HasSaid c.ghost_state c.began.number c.session (said_at c.session.stage)
  pub sound : IsCollisionFree (named_bytes c.world) → IsSoundSession c.world c.ghost_state c.session c.began

abbrev pub IsAtPuts : World → ℕ → Session → Stage → Type 0
IsAtPuts w r s Refreshing = ⊥
IsAtPuts w r s (Publishing said posts acks) = (said ≡ None) × AllByRecursion (IsMetPost w.met) posts × IsPuttingOn r s posts
IsAtPuts w r s (Over said) = said ≡ None

-- a session that only publishes, within a line
pub record OnlyPublishes (w : World) (r : ℕ) (s : Session) : Type 0 where
  pub by : Participant
  pub is_by : participant w s.by ≡ Some by
  pub some_entry : s.entries ≢ []
  pub entries : AllByRecursion (Contains (map peer_of w.nodes)) s.entries
  pub heard : AllByRecursion (λ h. IsAnswerIn w h.got) s.current
  pub bare : s.parts ≡ []
  pub stage : IsAtPuts w r s s.stage

-- ---- worlds without snapshots

-- No agent has a snapshot or a basis. So it is until a line makes a snapshot.
pub record HasNoSnapshot (w : World) : Type 0 where
  pub kept : AllByRecursion (IsKeptSo (λ p k. k.snapshot ≡ None)) w.participants
  pub agents : AllByRecursion (λ p. (p.agent.snapshot ≡ None) × (p.agent.to_load ≡ None)
      × (p.agent.holding.basis ≡ fresh_basis)) w.participants
