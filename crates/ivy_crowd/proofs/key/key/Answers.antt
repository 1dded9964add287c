use Rattle.ivy_crowd.proofs.Asked.{is_key}
use Rattle.ivy_crowd.proofs.key.key.Goals as goal

pub returns : goal.returns
returns c = is_key c.grow.result c.grow.ensures
