-- How the fetch of one log stands.
use Rattle.std.specs.Prelude.{◌≡◌, ◌≢◌, ℕ, List, [], ◌∷◌, ◌++◌, Option, Ok}
use Rattle.ivy_base.specs.declared.key.PubKey.{PubKey}
use Rattle.ivy_base.specs.Naming.{head_key_of}
use Rattle.log_model.specs.View.{View}
use Rattle.log_model.specs.Vector.{Stamp, stamp_at, seq_of}
use Rattle.log_model.specs.Fetched.{Edge}
use Rattle.log_model.specs.declared.chain_fault.ChainFault.{ChainFault}
use Rattle.log_records.specs.Batches.{Batch}
use Rattle.session_model.specs.Brought.{Brought, BlockOf}
use Rattle.session_model.specs.Walks.{Tries, LogEnd}
use Rattle.log_fetch.specs.declared.trial.Settled.{Settled}
use Rattle.log_fetch.specs.declared.trial.Settled.TheVariants as settled
use Rattle.log_fetch.specs.Order.{AreToTry}
use Rattle.log_fetch.specs.Trying.{Trying, HasTried, first_of, GivesTo, trial_left}

-- of these heads of the owner's log, after this was brought for them: a block is wanted, or the log is through
abbrev pub StandsAt : View → PubKey → Option Edge → List Stamp → List Brought → Batch → Batch → Settled → Type 0
StandsAt view owner edge all brought old new (settled.Waits t) =
    (new ≡ old) × (t.walk.left ≢ 0) × (t.walk.owner ≡ owner) × HasTried view owner old.held old.floor edge all brought t
StandsAt view owner edge all brought old new (settled.Over fault) =
    (faults : List ChainFault) × (end : LogEnd)
    × Tries (record { view = view; owner = owner; start = old.held; floor = old.floor; edge = edge }) all brought faults end
    × (fault ≡ first_of faults) × GivesTo old new end

-- the log is begun with: of these heads some are tried
abbrev pub Opens : View → PubKey → Option Edge → List Stamp → Batch → Batch → Settled → Type 0
Opens view owner edge heads old new s =
    (all : List Stamp) × AreToTry heads (stamp_at old.floor (head_key_of owner)) (seq_of old.held (head_key_of owner)) all
    × StandsAt view owner edge all [] old new s

-- with the block that was wanted it goes on
abbrev pub GoesOn : View → PubKey → Option Edge → Trying → List ℕ → Batch → Batch → Settled → Type 0
GoesOn view owner edge t bytes old new s =
    (all : List Stamp) (brought : List Brought) → HasTried view owner old.held old.floor edge all brought t
    → StandsAt view owner edge all (brought ++ BlockOf t.walk.next (Ok bytes) ∷ []) old new s

-- how many blocks of it may still be wanted
abbrev pub settled_left : Settled → ℕ
settled_left (settled.Waits t) = trial_left t
settled_left (settled.Over fault) = 0
