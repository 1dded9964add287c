-- What a message is, and what becomes of it: one thing each.
use Rattle.std.specs.Prelude.{◌≡◌, ◌⊎◌, ℕ, List, Option}
use Rattle.wire_model.specs.Rpc.{CallMessage, IsCall, IsOtherVersion}
use Rattle.log_model.specs.View.{View}
use Rattle.turn_model.specs.Turn.{Asked}
use Rattle.turn_laws.specs.Reading.{IsNoCall}
use Rattle.session_model.specs.Replies.{Asks, IsByMessage}

-- a call of one meaning
pub record IsThisCall (message : List ℕ) (c : CallMessage) : Type 0 where
  pub is : IsCall message c
  pub one : (other : CallMessage) → IsCall message other → other ≡ c
  pub no_other_version : (xid : ℕ) → IsOtherVersion message xid → ⊥

-- a call of another version of RPC, of one number
pub record IsThisVersion (message : List ℕ) (xid : ℕ) : Type 0 where
  pub is : IsOtherVersion message xid
  pub one : (other : ℕ) → IsOtherVersion message other → other ≡ xid
  pub no_call : (c : CallMessage) → IsCall message c → ⊥

-- Each message is one of these: a call, a call of another version, or no call.
abbrev pub EachMessageIsOne : Type 0
EachMessageIsOne = (message : List ℕ)
    → ((c : CallMessage) × IsThisCall message c) ⊎ ((xid : ℕ) × IsThisVersion message xid) ⊎ IsNoCall message

-- the message alone has this reply, or none, and no other, and reaches no turn
pub record IsAnswered (view : View) (message : List ℕ) (given : Option (List ℕ)) : Type 0 where
  pub by : IsByMessage view message given
  pub one : (other : Option (List ℕ)) → IsByMessage view message other → other ≡ given
  pub no_turn : (xid : ℕ) (asked : Asked) → Asks view message xid asked → ⊥

-- the message asks this of a turn, and nothing else, and has no reply alone
pub record IsAsked (view : View) (message : List ℕ) (xid : ℕ) (asked : Asked) : Type 0 where
  pub asks : Asks view message xid asked
  pub one : (other_xid : ℕ) (other : Asked) → Asks view message other_xid other → (other_xid ≡ xid) × (other ≡ asked)
  pub not_alone : (given : Option (List ℕ)) → IsByMessage view message given → ⊥

-- One of the two becomes of each message, in each view.
abbrev pub EachMessageBecomesOne : Type 0
EachMessageBecomesOne = (view : View) (message : List ℕ)
    → ((given : Option (List ℕ)) × IsAnswered view message given) ⊎ ((xid : ℕ) × (asked : Asked) × IsAsked view message xid asked)
