use Rattle.world_laws.proofs.EachLine as line
use Rattle.world_laws.proofs.EachStep as step
use Rattle.world_laws.proofs.HeadlineOfLines as headline
use Rattle.world_laws.proofs.headline_holds.Goals as goal

pub returns-clause-steps : goal.returns-clause-steps
returns-clause-steps c = step.each_step_keeps

pub returns-clause-headline : goal.returns-clause-headline
returns-clause-headline c = headline.headline_holds

pub returns-clause-lines : goal.returns-clause-lines
returns-clause-lines c = line.each_line_keeps

pub returns-clause-runs : goal.returns-clause-runs
returns-clause-runs c = line.each_reply_is_on_replay
