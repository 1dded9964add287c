use Rattle.causal_order.specs.Kept.{known_of}
use Rattle.causal_order.proofs.Stepping.{front_key, front_spelled}
use Rattle.causal_order.proofs.pass.may_take.Goals as goal

pub has_causes-requires-clause-key : goal.has_causes-requires-clause-key
has_causes-requires-clause-key c = front_key c.args.base.now.view.now c.args.base.now.front.now (known_of c.args.base.now c.args.taken.now) c.args.logs.now c.requires.kept c.args.log.now c.requires.stands c.in-Some.record.now c.in-Some.ensures.some

pub has_causes-requires-clause-spelled : goal.has_causes-requires-clause-spelled
has_causes-requires-clause-spelled c = front_spelled c.args.base.now.view.now c.args.base.now.front.now (known_of c.args.base.now c.args.taken.now) c.args.logs.now c.requires.kept c.args.log.now c.requires.stands c.in-Some.record.now c.in-Some.ensures.some
