use Rattle.ivy_agent.proofs.Closing.{written_is_closed}
use Rattle.ivy_agent.proofs.Records.{posts_are_named, writes_may_stand, written_are_good, written_are_next, written_go_behind, written_is_appended}
use Rattle.ivy_agent.proofs.laws.written_records_go_on.Goals as goal

pub returns-clause-may_stand : goal.returns-clause-may_stand
returns-clause-may_stand c = writes_may_stand

pub returns-clause-good : goal.returns-clause-good
returns-clause-good c = written_are_good

pub returns-clause-next : goal.returns-clause-next
returns-clause-next c = written_are_next

pub returns-clause-behind : goal.returns-clause-behind
returns-clause-behind c = written_go_behind

pub returns-clause-held : goal.returns-clause-held
returns-clause-held c = written_is_appended

pub returns-clause-closed : goal.returns-clause-closed
returns-clause-closed c = written_is_closed

pub returns-clause-posts : goal.returns-clause-posts
returns-clause-posts c = posts_are_named
