-- What a session's turn is asked is what its message asks for, and what its refresh brought is one.
use Rattle.std.proofs.Common.{◌≡◌, ℕ, true, false, List, [], ◌∷◌, Some, None, sym, ap, ◌∙◌, subst, Contains}
use Rattle.std.specs.List.{AllByRecursion}
use Rattle.ivy_base.specs.declared.key.PubKey.{PubKey}
use Rattle.dhash_client.specs.GetHead.{Judges}
use Rattle.log_model.proofs.Lists.{here, there}
use Rattle.log_model.specs.Fetched.{owner_of}
use Rattle.log_model.specs.Record.{Record}
use Rattle.log_model.specs.Vector.{Stamp}
use Rattle.log_model.specs.View.{View}
use Rattle.log_records.specs.Batches.{Batch, owners_in}
use Rattle.wire_model.proofs.OneReading.{one_call}
use Rattle.wire_model.specs.Rpc.{IsIdentity}
use Rattle.nfs_model.specs.Arguments.{ArgumentsFit}
use Rattle.rpc_wire.specs.Callers.{identity_of}
use Rattle.turn_model.specs.Turn.{Asked as ModelAsked}
use Rattle.agent_model.specs.Standing.{Refresh as ModelRefresh, Standing as ModelStanding}
use Rattle.session_model.specs.Brought.{brought_in}
use Rattle.session_model.specs.Executions.{HasRefreshed}
use Rattle.session_model.specs.Refreshing.{Done, Note}
use Rattle.session_model.specs.Replies.{Asks}
use Rattle.session_model.specs.Sessions.{Session}
use Rattle.session_laws.proofs.OneRefresh.{refresh_is_deterministic}
use Rattle.log_fetch.specs.declared.asked.Asked.{Asked}
use Rattle.log_fetch.specs.Standings.{asked_of}
use Rattle.ivy_session.specs.declared.session.Stage.{Stage}
use Rattle.ivy_session.specs.declared.session.Stage.TheVariants as stage
use Rattle.ivy_session.specs.States.{IsAt, IsSession, SessionState, asked_at, is_turning}
use Rattle.ivy_session.specs.Stepping.{IsBatchOf}

-- ---- what is asked

turning_or_not : true ≡ false → ⊥
turning_or_not e = cc e

same_asked : (a b : Asked) → Some a ≡ Some b → a ≡ b
same_asked a b e = cc e

none_asked : (a : Asked) → None ≡ Some a → ⊥
none_asked a e = cc e

-- the session's message asks for this, within the bounds of calls
pub record IsAskedOf (s : Session) (asked : Asked) : Type 0 where
  pub xid : ℕ
  pub asks : Asks s.standing.view s.message xid (asked_of asked)
  pub caller : IsIdentity (identity_of asked.caller)
  pub args : ArgumentsFit asked.args

module _ {J : Type 0} (judges : Judges J) (s : Session) (st : SessionState J) (asked : Asked) where
  asked_so : (at : Stage J) → is_turning at ≡ true → asked_at at ≡ Some asked → IsAt judges s st at → IsAskedOf s asked
  asked_so (stage.Refreshing c f) turning is h = absurd (turning_or_not (sym turning))
  asked_so (stage.Turning c) turning is h = subst (IsAskedOf s) (same_asked c.asked asked is) (record { xid = c.xid; asks = h.call.asks; caller = h.call.caller; args = h.call.args })
  asked_so (stage.Publishing told p) turning is h = absurd (none_asked asked is)
  asked_so (stage.Over told) turning is h = absurd (none_asked asked is)
  asked_so stage.Told turning is h = absurd (none_asked asked is)

  -- what the turn is asked
  pub turn_is_asked : IsSession judges s st → is_turning st.stage ≡ true → asked_at st.stage ≡ Some asked → IsAskedOf s asked
  turn_is_asked h turning is = asked_so st.stage turning is h.at

-- a message asks for one thing, under one number
pub asks_as : (view : View) (message : List ℕ) (xid number : ℕ) (asked other : ModelAsked) → Asks view message xid asked → Asks view message number other → Asks view message number asked
asks_as view message xid number asked other a b = subst (λ (n : ℕ). Asks view message n asked) (sym a.xid_is ∙ ap (λ c. c.xid) (one_call message a.call b.call a.is_call b.is_call) ∙ b.xid_is) a

-- ---- what was brought

-- a refresh that is done has noted one thing
pub refreshed_as : (s : Session) (notes others : List Note) (given other : ModelRefresh) → HasRefreshed s notes given → HasRefreshed s others other → HasRefreshed s others given
refreshed_as s notes others given other done also =
    subst (λ (ns : List Note). HasRefreshed s ns given) (refresh_is_deterministic s.standing (brought_in s.parts) notes others given other Done Done done.1 also.1).0 done

all_members : (members : List PubKey) (chains : List (Stamp × List Record)) → ((owner : PubKey) → Contains (owners_in chains) owner → Contains members owner) → AllByRecursion (λ c. Contains members (owner_of c.1)) chains
all_members members [] named = tt
all_members members (c ∷ cs) named = (named (owner_of c.1) (here (owner_of c.1) (owners_in cs)), all_members members cs (λ owner among. named owner (there (owner_of c.1) (owners_in cs) owner among)))

-- it has logs of members alone
pub batch_of_members : (s : ModelStanding) (b : Batch) → IsBatchOf s b → AllByRecursion (λ c. Contains s.view.members (owner_of c.1)) b.chains
batch_of_members s b h = all_members s.view.members b.chains h.members
