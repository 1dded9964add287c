-- What a turn leaves is a causally closed set.
use Rattle.std.specs.Prelude.{◌≢◌, List, [], Contains}
use Rattle.ivy_base.specs.declared.operation.Moment.{Moment}
use Rattle.log_model.specs.Closed.{log_of, IsClosed}
use Rattle.log_model.specs.Record.{Record}
use Rattle.log_model.specs.Spelling.{IsMoment}
use Rattle.log_model.specs.View.{IsView}
use Rattle.nfs_model.specs.Arguments.{ArgumentsFit}
use Rattle.turn_model.specs.Turn.{Inputs, Asked, Candidate, Turned, IsTurn}
use Rattle.wire_model.specs.Rpc.{IsIdentity}

-- A turn of a member that knows a closed set, in which its own log has begun, leaves a closed set: what it writes cites the
-- whole front of what it took, so each record of the set stands with its causes.
abbrev pub TurnSetIsClosed : Type 0
TurnSetIsClosed = (a : Inputs) (known : List Record) (candidates : List Candidate) (asked : Asked) (now : Moment) (turned : Turned)
    → IsView a.view → Contains a.view.members a.own → IsClosed a.view known → log_of a.own known ≢ []
    → IsIdentity asked.caller → ArgumentsFit asked.args → IsMoment now → IsTurn a known candidates asked now turned
    → IsClosed a.view turned.set
