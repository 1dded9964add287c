use Rattle.stage_laws.proofs.Replies as replies
use Rattle.stage_laws.proofs.laws.runs_have_headline.Goals as goal

pub returns-clause-lines : goal.returns-clause-lines
returns-clause-lines c = replies.lines_have_headline

pub returns-clause-runs : goal.returns-clause-runs
returns-clause-runs c = replies.runs_have_headline
