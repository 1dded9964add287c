-- A legal history: folding the turn of the definitions over its entries, from what the opening agent knows, gives each reply and front.
use Rattle.std.specs.Prelude.{◌≡◌, ◌≤◌, ℕ, ◌-◌, Bool, ◌||◌, ◌&&◌, not, List, [], ◌∷◌, ◌++◌, Contains, None, Some, if◌then◌else◌}
use Rattle.ivy_base.specs.declared.key.Key.{Key}
use Rattle.ivy_base.specs.declared.key.PubKey.{PubKey}
use Rattle.ivy_base.specs.Naming.{IsCollisionFree}
use Rattle.log_model.specs.Rank.{front}
use Rattle.log_model.specs.Record.{Record}
use Rattle.log_model.specs.Signing.{Signing}
use Rattle.log_model.specs.Vector.{Stamp}
use Rattle.log_model.specs.View.{View, IsView}
use Rattle.nfs_model.specs.Results.{result as bytes_of}
use Rattle.turn_model.specs.Basis.{HoldsAll, Knows, fresh_basis}
use Rattle.turn_model.specs.Turn.{Candidate, Inputs, IsTurn, Turned, own_seq, tries_save}
use Rattle.agent_model.specs.Agent.{own, own_reach}
use Rattle.agent_model.specs.Candidates.{AreCandidatesOf, Grounds, MayTurn}
use Rattle.agent_model.specs.Standing.{Standing}
use Rattle.log_fetch.specs.Standings.{asked_of, refresh_of}
use Rattle.ivy_agent.specs.Holders.{Holder}
use Rattle.agent_gate.specs.Taking.{AgentEntry, AgentKind, HasTaken, SignsOn, Taken}

-- where a fold stands: what is known, how many signatures are left, and whether a save has failed
pub record Point : Type 0 where
  pub known : List Record
  pub leaves : ℕ
  pub has_failed : Bool

-- what the session of a turn was given: verified heads, its standing when it last began, and what its agent knew then
pub record Ground : Type 0 where
  pub heads : Key → List Stamp
  pub standing : Standing
  pub knew : List Record

-- What a fold goes by: the blocks met, the view, the own key, and the ground of each entry.
pub record Execution : Type 0 where
  pub met : List (List ℕ)
  pub view : View
  pub own : PubKey
  pub ground : AgentEntry → Ground

-- what a turn at that point goes by, where the keeper has failed or not
abbrev pub inputs_at : Execution → Point → Bool → Inputs
inputs_at c g has_failed = record { view = c.view; own = c.own; leaves = g.leaves; has_failed = has_failed }

-- the point after a turn that knows this set then: where it tried to save a signature is used, or the save failed
abbrev pub point_behind : Point → List Record → Bool → Bool → Point
point_behind g set tries fails = record {
  known = set;
  leaves = if tries && not fails then g.leaves - 1 else g.leaves;
  has_failed = g.has_failed || (tries && fails);
}

-- what the candidates of the entry's turn are determined by
abbrev pub grounds_at : Execution → AgentEntry → Grounds
grounds_at c e = record { heads = (c.ground e).heads; met = c.met; standing = (c.ground e).standing; knew = (c.ground e).knew }

-- the candidates of the entry's ground
abbrev pub AreCandidatesAt : Execution → AgentEntry → List Candidate → Type 0
AreCandidatesAt c e candidates = AreCandidatesOf (grounds_at c e) c.view (refresh_of e.turn.0.refresh).started candidates

-- One entry's turn by the definitions, from the candidates of its ground: its reply and its front, and the point after it.
pub record IsStep (c : Execution) (g : Point) (t : Taken) (h : Point) : Type 0 where
  pub candidates : List Candidate
  pub of_heads : AreCandidatesAt c t.entry candidates
  pub turned : Turned
  pub turn : IsTurn (inputs_at c g (g.has_failed || t.fails)) g.known candidates (asked_of t.entry.turn.0.asked) t.entry.turn.0.now turned
  pub replies : t.entry.turn.1.reply ≡ bytes_of turned.reply
  pub its_front : t.entry.turn.1.front ≡ front turned.set
  pub behind : h ≡ point_behind g turned.set
      (tries_save (inputs_at c g g.has_failed) turn.taken (asked_of t.entry.turn.0.asked) t.entry.turn.0.now) t.fails

-- the fold of some turns from a point
pub data FoldsTo (c : Execution) (start : Point) : List Taken → Point → Type 0 where
  none : FoldsTo c start [] start
  more : {taken : List Taken} {g h : Point} (t : Taken) → FoldsTo c start taken g → IsStep c g t h → FoldsTo c start (taken ++ t ∷ []) h

-- What the entry's turn was brought is tied to its ground, for an agent that knows what stands at the point.
abbrev pub IsGrounded : Execution → Point → AgentEntry → Type 0
IsGrounded c g e = MayTurn (grounds_at c e) c.view c.own g.known (refresh_of e.turn.0.refresh)

-- So it is of each entry at its point of the fold.
abbrev pub AreGrounded : Execution → Point → List Taken → Type 0
AreGrounded c start taken = (before rest : List Taken) (t : Taken) (g : Point) → taken ≡ before ++ t ∷ rest
    → FoldsTo c start before g → IsGrounded c g t.entry

module _ {K S : Type 0} (signs : Signing S) where
  -- where the fold starts: at what the opening agent knows
  abbrev pub start_of : Holder K S → List Record → Point
  start_of opening known = record { known = known; leaves = signs.remaining opening.agent.signer; has_failed = opening.agent.has_failed }

  -- An agent of that view and key, whose log is begun, knows and holds what stands at the point.
  pub record StandsAt (c : Execution) (g : Point) (value : Holder K S) : Type 0 where
    pub in_view : value.agent.view ≡ Some c.view
    pub own_is : own signs value.agent ≡ c.own
    pub knows : Knows c.view value.agent.floor value.agent.holding g.known
    pub leaves : signs.remaining value.agent.signer ≡ g.leaves
    pub failed : value.agent.has_failed ≡ g.has_failed
    pub begun : 1 ≤ own_reach signs value.agent

-- The agent after some turns stands where their fold ends, and its own log goes as far as what is known.
pub record IsFolded {K S : Type 0} (signs : Signing S) (c : Execution) (start : Point) (taken : List Taken)
    (value : Holder K S) : Type 0 where
  pub point : Point
  pub folds : FoldsTo c start taken point
  pub stands : StandsAt signs c point value
  pub number : own_reach signs value.agent ≡ own_seq c.own point.known

-- Until the first entry the agent holds what the opening agent held, and from then on all that is known at the point.
abbrev pub HoldsFromFirst : {K S : Type 0} → Execution → Point → Holder K S → Holder K S → List AgentEntry → Type 0
HoldsFromFirst c g opening value [] = value.agent.holding ≡ opening.agent.holding
HoldsFromFirst c g opening value (e ∷ history) = HoldsAll c.view g.known value.agent.holding

-- ---- laws

module _ {K S : Type 0} (kind : AgentKind K S) where
  -- Where no names of what was met collide, and each refresh is grounded, the turns that were taken are a legal history.
  abbrev pub HistoriesFold : Type 0
  HistoriesFold = (c : Execution) (opening value : Holder K S) (known : List Record) (history : List AgentEntry) → SignsOn kind.signs
      → IsCollisionFree c.met → IsView c.view → Contains c.view.members c.own
      → StandsAt kind.signs c (start_of kind.signs opening known) opening
      → (has : HasTaken kind opening history value) → AreGrounded c (start_of kind.signs opening known) has.taken
      → IsFolded kind.signs c (start_of kind.signs opening known) has.taken value

  -- A basis that is fresh stays so, where no snapshot is to be loaded.
  abbrev pub FreshStaysFresh : Type 0
  FreshStaysFresh = (opening value : Holder K S) (history : List AgentEntry)
      → opening.agent.to_load ≡ None → opening.agent.holding.basis ≡ fresh_basis
      → HasTaken kind opening history value → (value.agent.to_load ≡ None) × (value.agent.holding.basis ≡ fresh_basis)

  -- Where a history is legal and its first basis was fresh, with no snapshot to load, all that is known is held from the first entry on.
  abbrev pub HoldsWhatIsKnown : Type 0
  HoldsWhatIsKnown = (c : Execution) (opening value : Holder K S) (known : List Record) (history : List AgentEntry) → SignsOn kind.signs
      → IsCollisionFree c.met → IsView c.view → Contains c.view.members c.own
      → StandsAt kind.signs c (start_of kind.signs opening known) opening
      → opening.agent.to_load ≡ None → opening.agent.holding.basis ≡ fresh_basis
      → (has : HasTaken kind opening history value) → AreGrounded c (start_of kind.signs opening known) has.taken
      → (folded : IsFolded kind.signs c (start_of kind.signs opening known) has.taken value)
      × HoldsFromFirst c folded.point opening value history
