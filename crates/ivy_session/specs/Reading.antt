-- What a message comes to before any turn.
use Rattle.std.specs.Prelude.{ℕ, List, Option, Some, None}
use Rattle.log_model.specs.View.{View}
use Rattle.nfs_model.specs.Arguments.{ArgumentsFit}
use Rattle.nfs_model.specs.Results.{result}
use Rattle.nfs_model.specs.declared.replies.Reply.{Reply}
use Rattle.rpc_wire.specs.Callers.{identity_of}
use Rattle.wire_model.specs.Rpc.{IsIdentity, Success, reply}
use Rattle.session_model.specs.Replies.{IsByMessage, Asks}
use Rattle.log_fetch.specs.Standings.{asked_of}
use Rattle.log_fetch.specs.declared.asked.Asked.{Asked}
use Rattle.ivy_session.specs.declared.reading.Reading.{Reading}
use Rattle.ivy_session.specs.declared.reading.Reading.TheVariants as reading

-- the message asks for that, within the bounds of calls
pub record AsksWell (view : View) (message : List ℕ) (xid : ℕ) (asked : Asked) : Type 0 where
  pub asks : Asks view message xid (asked_of asked)
  pub caller : IsIdentity (identity_of asked.caller)
  pub args : ArgumentsFit asked.args

-- the message's reply without a turn, or what it asks for
abbrev pub IsReading : View → List ℕ → Reading → Type 0
IsReading view message (reading.Alone given) = IsByMessage view message given
IsReading view message (reading.Asks xid asked) = AsksWell view message xid asked

-- of a call that asks for that: the reply, where this is its answer without a turn, or that it asks
abbrev pub reading_by : Option Reply → ℕ → Asked → Reading
reading_by None xid asked = reading.Asks xid asked
reading_by (Some answer) xid asked = reading.Alone (Some (reply xid (Success (result answer))))
