-- A turn of an agent: what it answers and how the agent is then. What is signed and saved is said in each case; what is answered is said
-- where no names collide, for every set that the agent may know.
use Rattle.std.specs.Prelude.{◌≡◌, ℕ, ◌+◌, nat_lt, ◌==◌, ◌≤◌, ◌<◌, Bool, true, false, ◌||◌, ◌&&◌, not, List, [], ◌∷◌, ◌++◌, length, IsTrue}
use Rattle.std.specs.Prelude.{Option, Some, None}
use Rattle.std.specs.Option.{option_map_or}
use Rattle.std.specs.List.{AllByRecursion, list_any}
use Rattle.ivy_base.specs.declared.operation.Moment.{Moment}
use Rattle.ivy_base.specs.declared.key.Key.{Key}
use Rattle.ivy_base.specs.declared.key.PubKey.{PubKey}
use Rattle.ivy_base.specs.Naming.{IsCollisionFree, head_key_of}
use Rattle.tree_model.specs.Tree.{same_key}
use Rattle.log_model.specs.View.{View, is_named}
use Rattle.log_model.specs.Vector.{Stamp, Vector, join, stamp_at, seq_of}
use Rattle.log_model.specs.Record.{Record}
use Rattle.log_model.specs.Rank.{own_entry, full_vector}
use Rattle.log_model.specs.Chain.{IsGood}
use Rattle.log_model.specs.Closed.{IsClosedPart}
use Rattle.log_model.specs.Spelling.{most_records}
use Rattle.nfs_model.specs.declared.replies.Reply.{Reply}
use Rattle.turn_model.specs.Basis.{Basis, Holding, HoldsAll, Knows, nothing_held}
use Rattle.turn_model.specs.Turn.{Inputs, Asked, Candidate, Turned, IsAvailable, turn_on}
use Rattle.turn_model.specs.Work.{applied_between}
use Rattle.snapshot_model.specs.Blocks.{IsVectorSpelled}
use Rattle.log_model.specs.Signing.{Signing}
use Rattle.agent_model.specs.Agent.{Agent, Kept, failed, head_post, joined, kept_of, own, own_reach, with_posts}
use Rattle.agent_model.specs.SavedBytes.{ArePostsSpelled}
use Rattle.agent_model.specs.Standing.{Refresh, dominates, going_on, new_records}
use Rattle.agent_model.specs.Candidates.{AreCandidatesOf, Grounds, MayTurn}

-- with these records more it holds
abbrev pub with_held : Holding → List Record → Holding
with_held h written = record h { held = h.held ++ written }

-- they are numbered one after the other after that number
abbrev pub AreNext : ℕ → List Record → Type 0
AreNext seq [] = Unit {0}
AreNext seq (r ∷ rs) = (r.seq ≡ seq + 1) × AreNext (seq + 1) rs

-- ---- refusals

-- a new record is the one that the stamp names
abbrev pub is_there : List Record → Key → Stamp → Bool
is_there new log t = list_any (λ r. same_key (head_key_of r.owner) log && r.seq == t.seq && same_key r.name t.name) new

-- what is held and the new records lack the record of the log that the floor names
abbrev pub lacks : Vector → Vector → List Record → Key → Bool
lacks floor front new log = option_map_or (λ t. nat_lt (seq_of front log) t.seq && not (is_there new log t)) (stamp_at floor log) false

-- the record knows all that the basis covers, and is later in its own log
abbrev pub is_above : Basis → Record → Bool
is_above b r = dominates (full_vector r) b.front && nat_lt (seq_of b.front (head_key_of r.owner)) r.seq

-- The refresh began with more than is held by now; or what is held and the new records lack the record of a member's log that the floor
-- names.
abbrev pub is_behind : View → PubKey → Vector → Holding → Refresh → Bool
is_behind view own floor h brought = not (dominates (joined h) brought.started)
    || list_any (λ owner. lacks floor (joined h) (new_records own floor h brought) (head_key_of owner)) view.members

-- a new record isn't above the basis
abbrev pub is_below_tide : PubKey → Vector → Holding → Refresh → Bool
is_below_tide own floor h brought = list_any (λ r. not (is_above h.basis r)) (new_records own floor h brought)

-- What a turn answers: a refusal, or a reply, and how many records were applied for it.
pub data TurnEnd : Type 0 where
  Behind : TurnEnd
  BelowTide : TurnEnd
  Answered : (reply : Reply) (applied : ℕ) → TurnEnd

-- ---- what a turn is given

-- A turn: the agent that takes it, over that view, at that moment, and whether a save would fail.
pub record Turning (S : Type 0) : Type 0 where
  pub agent : Agent S
  pub view : View
  pub now : Moment
  pub fails : Bool

-- What a refresh found: what candidates are told by, and from which vector it started.
pub record Findings : Type 0 where
  pub grounds : Grounds
  pub started : Vector

module _ {S : Type 0} (signs : Signing S) where
  -- ---- what a turn goes by

  -- what it goes by of the agent before its save, and with what becomes of the save
  abbrev pub inputs_before : Agent S → View → Inputs
  inputs_before a view = record { view = view; own = own signs a; leaves = signs.remaining a.signer; has_failed = a.has_failed }

  abbrev pub inputs : Agent S → View → Bool → Inputs
  inputs a view fails = record { view = view; own = own signs a; leaves = signs.remaining a.signer; has_failed = a.has_failed || fails }

  -- ---- the agent after a turn

  -- it holds this; a snapshot to be loaded was taken as its basis, or is dropped
  abbrev pub taking : Agent S → Holding → Agent S
  taking a h = record a { holding = h; floor = join a.floor (joined h); to_load = None }

  -- it has signed a head over the last of the written records, and these and the head are to be published
  abbrev pub having_written : Agent S → List Record → Record → Agent S
  having_written a before last = record a {
    signer = signs.next a.signer;
    pending = with_posts a.pending (before ++ last ∷ []) (head_post signs a.signer (own_entry last).1);
  }

  -- what it would be with these records written
  abbrev pub written_by : Agent S → Holding → List Record → Record → Agent S
  written_by a h before last = having_written (taking a (with_held h (before ++ last ∷ []))) before last

  -- These may be written, whether or not names collide: no save failed before, a signature is left, they are good records of its own, the
  -- next ones after its floor, and what is then to be published has a spelling.
  pub record MayWrite (view : View) (a : Agent S) (before : List Record) (last : Record) : Type 0 where
    pub unfailed : a.has_failed ≡ false
    pub is_left : 0 < signs.remaining a.signer
    pub good : AllByRecursion (IsGood view (own signs a)) (before ++ last ∷ [])
    pub next : AreNext (own_reach signs a) (before ++ last ∷ [])
    pub few : own_reach signs a + length (before ++ last ∷ []) ≤ most_records
    pub posts : ArePostsSpelled (having_written a before last).pending

  -- What a turn takes can be saved, names logs of the view alone, and of the own log no more than the floor, whether or not names collide.
  pub record MayTake (view : View) (a : Agent S) (h : Holding) : Type 0 where
    pub spelled : IsVectorSpelled (joined h)
    pub named : AllByRecursion (λ e. IsTrue (is_named view e.0)) (joined h)
    pub own_log : seq_of (joined h) (head_key_of (own signs a)) ≤ own_reach signs a

  -- What becomes of the agent that takes this, by what is written, and what is to be saved: nothing; or records, which are saved; or
  -- records whose save fails, and the agent stays without them.
  pub data Becomes (view : View) (a : Agent S) (h : Holding) (fails : Bool) : List Record → Agent S → Option (Kept S) → Type 0 where
    reads : Becomes view a h fails [] (taking a h) None
    saves : (before : List Record) (last : Record) → MayWrite view a before last → fails ≡ false
        → Becomes view a h fails (before ++ last ∷ []) (written_by a h before last) (Some (kept_of (written_by a h before last)))
    loses : (before : List Record) (last : Record) → MayWrite view a before last → fails ≡ true
        → Becomes view a h fails (before ++ last ∷ []) (failed (taking a h)) (Some (kept_of (written_by a h before last)))

  -- ---- the turn

  -- The turn by the definition, of an agent that knows these records: the set that is taken is the largest closed part of them and of
  -- the candidates that the refresh's heads name, and the reply is on it.
  pub record IsTurnBy (found : Findings) (turning : Turning S) (known : List Record) (asked : Asked) (taken : List Record) (turned : Turned)
      : Type 0 where
    pub candidates : List Candidate
    pub of_heads : AreCandidatesOf found.grounds turning.view found.started candidates
    pub largest : IsClosedPart turning.view (IsAvailable known candidates) taken
    pub by_set : turned ≡ turn_on (inputs turning.agent turning.view turning.fails) taken asked turning.now

  -- Such is the reply; what is written, or would be, is what the turn appends; and what is held before it is written is all of the set.
  pub record IsTurnOf (found : Findings) (turning : Turning S) (known : List Record) (asked : Asked) (h : Holding) (written : List Record)
      (reply : Reply) : Type 0 where
    pub taken : List Record
    pub turned : Turned
    pub is_turn : IsTurnBy found turning known asked taken turned
    pub replies : reply ≡ turned.reply
    pub writes : taken ++ written ≡ (turn_on (inputs_before turning.agent turning.view) taken asked turning.now).set
    pub holds : HoldsAll turning.view taken h

  -- Whatever the agent may know, the turn is that of the definition.
  abbrev pub IsByDefinition : Refresh → Turning S → Asked → Holding → List Record → Reply → Type 0
  IsByDefinition brought turning asked h written reply =
      (grounds : Grounds) (known : List Record) → IsCollisionFree grounds.met
      → Knows turning.view turning.agent.floor turning.agent.holding known
      → MayTurn grounds turning.view (own signs turning.agent) known brought
      → IsTurnOf (record { grounds = grounds; started = brought.started }) turning known asked h written reply

  -- what the agent holds when it has taken the refresh's basis, if there is one
  abbrev pub begun_on : Refresh → Turning S → Holding
  begun_on brought turning = going_on turning.agent brought.basis

  -- the refresh or its basis is behind the agent, or brings a record that isn't above the basis
  abbrev pub is_late : Refresh → Turning S → Bool
  is_late brought turning =
      is_behind turning.view (own signs turning.agent) turning.agent.floor (begun_on brought turning) brought

  abbrev pub is_below : Refresh → Turning S → Bool
  is_below brought turning = is_below_tide (own signs turning.agent) turning.agent.floor (begun_on brought turning) brought

  -- A turn, by what was brought to it and whether a save would fail: how it ends, the agent then, and what is to be saved. Behind comes
  -- before BelowTide; else there is a reply, and exactly the records are applied that the engine has to.
  pub data Turns (brought : Refresh) (turning : Turning S) (asked : Asked) : TurnEnd → Agent S → Option (Kept S) → Type 0 where
    behind : is_late brought turning ≡ true → Turns brought turning asked Behind turning.agent None
    below : is_late brought turning ≡ false → is_below brought turning ≡ true
        → Turns brought turning asked BelowTide (record (turning.agent) { holding = nothing_held; to_load = None }) None
    answers : (h : Holding) (written : List Record) (reply : Reply) (after : Agent S) (saving : Option (Kept S))
        → is_late brought turning ≡ false → is_below brought turning ≡ false → h.basis ≡ (begun_on brought turning).basis
        → MayTake turning.view turning.agent h → Becomes turning.view turning.agent h turning.fails written after saving
        → IsByDefinition brought turning asked h written reply
        → Turns brought turning asked (Answered reply (applied_between (begun_on brought turning).held h.held + length written)) after
        saving
