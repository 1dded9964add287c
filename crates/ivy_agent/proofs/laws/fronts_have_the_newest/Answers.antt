use Rattle.ivy_agent.proofs.Cited.{with_newest_may_be_cited}
use Rattle.ivy_agent.proofs.Fronts.{appended_front, held_front, newest_is_last, newest_is_reached}
use Rattle.ivy_agent.proofs.laws.fronts_have_the_newest.Goals as goal

pub returns-clause-appended : goal.returns-clause-appended
returns-clause-appended c = appended_front

pub returns-clause-held : goal.returns-clause-held
returns-clause-held c = held_front

pub returns-clause-last : goal.returns-clause-last
returns-clause-last c = newest_is_last

pub returns-clause-reached : goal.returns-clause-reached
returns-clause-reached c = newest_is_reached

pub returns-clause-cited : goal.returns-clause-cited
returns-clause-cited c = with_newest_may_be_cited
