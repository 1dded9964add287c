-- A session in code, and which session of the definitions it may be.
use Rattle.std.specs.Prelude.{◌≡◌, ◌≢◌, ℕ, Bool, true, false, List, [], Option, Some, None}
use Rattle.dht_ids.specs.declared.ask.Ask.{Ask}
use Rattle.dht_ids.specs.declared.peer.Peer.{Peer}
use Rattle.dhash_client.specs.GetHead.{Judges}
use Rattle.wire_model.specs.Rpc.{IsIdentity}
use Rattle.nfs_model.specs.Arguments.{ArgumentsFit}
use Rattle.rpc_wire.specs.Callers.{identity_of}
use Rattle.agent_model.specs.Standing.{Refresh, Standing}
use Rattle.session_model.specs.Refreshing.{Note}
use Rattle.session_model.specs.Replies.{Asks}
use Rattle.session_model.specs.Sessions.{Said, Session, Refreshing, Over}
use Rattle.session_model.specs.Executions.{Begins, HasRefreshed}
use Rattle.log_fetch.specs.declared.asked.Asked.{Asked}
use Rattle.log_fetch.specs.declared.note.Note.{Note as Noted}
use Rattle.log_fetch.specs.Standings.{asked_of, notes_of}
use Rattle.view_refresh.specs.States.{Refreshing as RefreshState, has_failed, refresh_awaited}
use Rattle.view_refresh.specs.Behind.{RefreshIsAfter}
use Rattle.ivy_session.specs.Publishing.{PublishingState, PublishingIsAfter, publishing_awaited, stage_of}
use Rattle.ivy_session.specs.declared.served.Call.{Call}
use Rattle.ivy_session.specs.declared.session.Stage.{Stage}
use Rattle.ivy_session.specs.declared.session.Stage.TheVariants as stage
use Rattle.ivy_session.specs.declared.served.Served.{Served}
use Rattle.ivy_session.specs.declared.served.Served.TheVariants as served

-- by which judge, from how many owners and at which nodes it asks; how often it began again, what is noted, whether its publishing ended
-- before all puts were made, and how far it has come
pub record SessionState (J : Type 0) : Type 0 where
  pub judge : J
  pub replicas : ℕ
  pub entries : List Peer
  pub starts : ℕ
  pub notes : List Noted
  pub is_cut : Bool
  pub stage : Stage J

abbrev pub awaited_at : {J : Type 0} → Stage J → Option (Peer × Ask)
awaited_at (stage.Refreshing c r) = refresh_awaited r
awaited_at (stage.Turning c) = None
awaited_at (stage.Publishing told p) = publishing_awaited p
awaited_at (stage.Over told) = None
awaited_at stage.Told = None

-- the node to be heard, and what it is asked
abbrev pub session_awaited : {J : Type 0} → SessionState J → Option (Peer × Ask)
session_awaited st = awaited_at st.stage

-- what it waits for is the next ask of a get or a put that has made some, each of which was heard
abbrev pub HasAsked : {J : Type 0} → SessionState J → Session → Type 0
HasAsked st s = session_awaited st ≢ None → s.current ≢ []

-- its agent's turn is awaited
abbrev pub is_turning : {J : Type 0} → Stage J → Bool
is_turning (stage.Refreshing c r) = false
is_turning (stage.Turning c) = true
is_turning (stage.Publishing told p) = false
is_turning (stage.Over told) = false
is_turning stage.Told = false

-- how it ended was told
abbrev pub is_told : {J : Type 0} → Stage J → Bool
is_told (stage.Refreshing c r) = false
is_told (stage.Turning c) = false
is_told (stage.Publishing told p) = false
is_told (stage.Over told) = false
is_told stage.Told = true

-- what the call asks for, until its turn is over
abbrev pub asked_at : {J : Type 0} → Stage J → Option Asked
asked_at (stage.Refreshing c r) = Some c.asked
asked_at (stage.Turning c) = Some c.asked
asked_at (stage.Publishing told p) = None
asked_at (stage.Over told) = None
asked_at stage.Told = None

-- how it is told what is said in the end
abbrev pub reply_or_none : Option (List ℕ) → Served
reply_or_none None = served.NotACall
reply_or_none (Some message) = served.Reply message

abbrev pub served_of : Option Said → Served
served_of None = served.Published
served_of (Some said) = reply_or_none said.message

-- the call is what the session's message asks for, within the bounds of calls
pub record IsCallOf (s : Session) (c : Call) : Type 0 where
  pub asks : Asks s.standing.view s.message c.xid (asked_of c.asked)
  pub caller : IsIdentity (identity_of c.asked.caller)
  pub args : ArgumentsFit c.asked.args

-- it refreshes by this
pub record IsRefreshingBy {J : Type 0} (judges : Judges J) (s : Session) (r : RefreshState J) : Type 0 where
  pub stage : s.stage ≡ Refreshing
  pub entries : r.entries ≡ s.entries
  pub unmissed : s.missed ≡ None
  pub after : RefreshIsAfter judges s.standing s.parts s.current r
  pub unfailed : has_failed r ≡ false

module _ {J : Type 0} (judges : Judges J) (s : Session) (st : SessionState J) where
  -- its refresh is on its way
  pub record IsRefreshing (c : Call) (r : RefreshState J) : Type 0 where
    pub call : IsCallOf s c
    pub refreshing : IsRefreshingBy judges s r
    pub judge : r.judge ≡ st.judge
    pub replicas : r.replicas ≡ st.replicas
    pub unnoted : st.notes ≡ []

  -- its refresh is done, and has noted this
  pub record IsTurning (c : Call) : Type 0 where
    pub call : IsCallOf s c
    pub notes : List Note
    pub given : Refresh
    pub refreshed : HasRefreshed s notes given
    pub noted : st.notes ≡ notes_of notes None
    pub unmissed : s.missed ≡ None
    pub free : s.current ≡ []

  -- it publishes, and is told then
  pub record IsPublishing (told : Served) (p : PublishingState) : Type 0 where
    pub said : Option Said
    pub is_told : told ≡ served_of said
    pub stage : s.stage ≡ stage_of said p
    pub replicas : p.replicas ≡ st.replicas
    pub entries : p.entries ≡ st.entries
    pub asks : PublishingIsAfter s.current p
    pub noted : st.notes ≡ notes_of s.notes s.missed

  -- it is over
  pub record IsOver (told : Served) : Type 0 where
    pub said : Option Said
    pub is_told : told ≡ served_of said
    pub stage : s.stage ≡ Over said
    pub noted : st.notes ≡ notes_of s.notes s.missed

  abbrev pub IsAt : Stage J → Type 0
  IsAt (stage.Refreshing c r) = IsRefreshing c r
  IsAt (stage.Turning c) = IsTurning c
  IsAt (stage.Publishing told p) = IsPublishing told p
  IsAt (stage.Over told) = IsOver told
  IsAt stage.Told = ⊥

  -- It may be this session of the definitions.
  pub record IsSession : Type 0 where
    pub entries : st.entries ≡ s.entries
    pub starts : st.starts ≡ s.starts
    pub at : IsAt st.stage

-- ---- how it begins

-- that far, it has just begun
abbrev pub begun : {J : Type 0} → J → ℕ → List Peer → Stage J → SessionState J
begun judge replicas entries at = record {
  judge = judge;
  replicas = replicas;
  entries = entries;
  starts = 0;
  notes = [];
  is_cut = false;
  stage = at;
}

-- whosever it is, it begins as a session of the definitions does
abbrev pub BeginsAs : {J : Type 0} → Judges J → List ℕ → Standing → SessionState J → Type 0
BeginsAs judges message standing st = (by : List ℕ) → (s : Session) × Begins by message st.entries standing s × IsSession judges s st
