use Rattle.log_fetch.proofs.Getting.{asks_of_get}
use Rattle.view_refresh.proofs.refresh.ask.Goals as goal

pub again-question-requires : goal.again-question-requires
again-question-requires g c = asks_of_get c.args.waiting.get c.args.waiting.node c.args.waiting.question c.requires
