use Rattle.causal_order.proofs.Fetched.{batches_are_fetched as lemma}
use Rattle.causal_order.proofs.laws.batches_are_fetched.Goals as goal

pub returns : goal.returns
returns c = lemma
