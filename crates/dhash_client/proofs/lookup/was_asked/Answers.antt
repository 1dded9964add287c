use Rattle.dhash_client.proofs.Asks.{asked_any}
use Rattle.dhash_client.proofs.lookup.was_asked.Goals as goal

pub returns : goal.returns
returns c = asked_any c.args.node.now c.args.asked.now c.contains.result c.contains.ensures.value
