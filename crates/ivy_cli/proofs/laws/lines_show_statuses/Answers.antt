use Rattle.ivy_cli.proofs.ReplyLemmas.{served, refused}
use Rattle.ivy_cli.proofs.laws.lines_show_statuses.Goals as goal

pub returns-clause-served : goal.returns-clause-served
returns-clause-served c = served

pub returns-clause-refused : goal.returns-clause-refused
returns-clause-refused c = refused
