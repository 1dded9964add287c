-- The agent of the trials, and what it is asked.
use Rattle.std.specs.Prelude.{◌≡◌, ℕ, List, length, None, IsSomeAnd}
use Rattle.ivy_base.specs.declared.operation.Moment.{Moment}
use Rattle.log_model.specs.Spelling.{IsMoment}
use Rattle.log_fetch.specs.declared.asked.Asked.{Asked}
use Rattle.log_fetch.specs.declared.refresh.Refresh.{Refresh}
use Rattle.log_fetch.specs.Standings.{asked_of}
use Rattle.ivy_agent.specs.Answering.{IsCall}
use Rattle.ivy_agent.specs.Holders.{Holder}
use Rattle.ivy_agent.specs.Turns.{IsFetchedIn}

-- it is a call at any moment
abbrev pub IsAsked : Asked → Type 0
IsAsked asked = (now : Moment) → IsMoment now → IsCall (asked_of asked) now

-- the agent may begin with that refresh, and that is the handle of its root
pub record MayBegin {K S : Type 0} (agent : Holder K S) (refresh : Refresh) (root : List ℕ) : Type 0 where
  pub batch : IsSomeAnd agent.agent.view (λ view. IsFetchedIn view refresh.batch)
  pub basis : refresh.basis ≡ None
  pub size : length root ≡ 44
