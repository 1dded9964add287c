-- Where the history of a new agent starts.
use Rattle.std.specs.Prelude.{◌≡◌, List, [], ◌∷◌, Contains, None, Ok}
use Rattle.ivy_base.specs.declared.operation.Moment.{Moment}
use Rattle.ivy_base.specs.Naming.{IsCollisionFree}
use Rattle.log_model.specs.Chain.{opening}
use Rattle.log_model.specs.Spelling.{IsMoment}
use Rattle.log_model.specs.View.{View, IsView}
use Rattle.turn_model.specs.Basis.{fresh_basis}
use Rattle.agent_model.specs.Agent.{own}
use Rattle.ivy_agent.specs.Entering.{Enters}
use Rattle.ivy_agent.specs.Holders.{Holder}
use Rattle.ivy_agent.specs.Making.{Makes}
use Rattle.agent_gate.specs.Folding.{AreGrounded, Execution, HoldsFromFirst, IsFolded, Point, StandsAt, start_of}
use Rattle.agent_gate.specs.Taking.{AgentEntry, AgentKind, HasTaken, SignsOn}

-- How an agent began: the keeper and the signer that it was made with, the moment, and the agent as it was made and as it entered its view.
pub record Beginning (K S : Type 0) : Type 0 where
  pub keeper : K
  pub signer : S
  pub now : Moment
  pub made : Holder K S
  pub entered : Holder K S

module _ {K S : Type 0} (kind : AgentKind K S) where
  -- it was made so, and then entered that view
  pub record BeginsIn (view : View) (b : Beginning K S) : Type 0 where
    pub moment : IsMoment b.now
    pub makes : Makes kind.signs kind.IsWhole kind.saves b.keeper b.signer b.now (Ok b.made)
    pub enters : Enters kind.signs kind.IsWhole kind.saves view b.made (Ok tt) b.entered

  -- where its fold starts: at the first record of its log
  abbrev pub first_point : Execution → Beginning K S → Point
  first_point c b = start_of kind.signs b.entered (opening c.own b.now ∷ [])

  -- The agent is a member of the view, and stands where its fold starts. It holds nothing, and has nothing to load.
  pub record StandsAtStart (c : Execution) (b : Beginning K S) : Type 0 where
    pub member : Contains c.view.members c.own
    pub stands : StandsAt kind.signs c (first_point c b) b.entered
    pub fresh : b.entered.agent.holding.basis ≡ fresh_basis
    pub none_to_load : b.entered.agent.to_load ≡ None

  -- So does each new agent, in a view that may be made.
  abbrev pub NewStandsAtStart : Type 0
  NewStandsAtStart = (c : Execution) (b : Beginning K S) → SignsOn kind.signs → IsView c.view
      → c.own ≡ own kind.signs b.entered.agent → BeginsIn c.view b → StandsAtStart c b

  -- Where no names of what was met collide, and each refresh is grounded, the turns that a new agent took are a legal history, and from the
  -- first entry on it holds all that is known.
  abbrev pub NewHistoriesFold : Type 0
  NewHistoriesFold = (c : Execution) (b : Beginning K S) (value : Holder K S) (history : List AgentEntry) → SignsOn kind.signs
      → IsCollisionFree c.met → IsView c.view → c.own ≡ own kind.signs b.entered.agent → BeginsIn c.view b
      → (has : HasTaken kind b.entered history value) → AreGrounded c (first_point c b) has.taken
      → (folded : IsFolded kind.signs c (first_point c b) has.taken value) × HoldsFromFirst c folded.point b.entered value history
