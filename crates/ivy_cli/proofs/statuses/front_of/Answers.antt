use Rattle.ivy_cli.proofs.FrontLemmas.{front_is}
use Rattle.ivy_cli.proofs.statuses.front_of.Goals as goal

pub returns : goal.returns
returns c = front_is _ _ _ _ _ c.as_slice.ensures c.if-not-starts_with.ensures.value c.min.ensures c.from_hex.ensures c.ok.ensures.value
