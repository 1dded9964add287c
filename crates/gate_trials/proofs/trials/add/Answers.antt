use Rattle.gate_trials.proofs.Turns.{replied}
use Rattle.gate_trials.proofs.trials.add.Goals as goal

pub returns-clause-replied : goal.returns-clause-replied
returns-clause-replied g c =
    replied c.args.gate.now.opening c.args.pass.now c.take_turn.new.pass c.args.amount c.take_turn.result c.requires.1 c.take_turn.ensures.taken c.take_turn.ensures.legal
