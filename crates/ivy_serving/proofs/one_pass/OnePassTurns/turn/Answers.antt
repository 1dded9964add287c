use Rattle.agent_gate.specs.declared.request.TurnRequest.{TurnRequest}
use Rattle.agent_gate.specs.Taking.{kind_of}
use Rattle.agent_gate.proofs.Passing.{made_then, turned_short, turns}
use Rattle.ivy_serving.proofs.Passing.{turned_on}
use Rattle.ivy_serving.proofs.one_pass.OnePassTurns.turn.Goals as goal

pub returns-clause-turn : goal.returns-clause-turn
returns-clause-turn g c =
    let asked : TurnRequest = record { refresh = c.args.refresh; asked = c.args.asked.now; now = c.args.now } in
    turns (kind_of g.S.Signs.signing g.S.Signs.is_whole g.K.Keeper.saves) c.args.self.now.gate.now c.args.pass.now c.take_turn.new.pass asked c.take_turn.result c.take_turn.ensures.answers c.take_turn.ensures.fault c.take_turn.ensures.why

pub returns-clause-made : goal.returns-clause-made
returns-clause-made g c =
    let asked : TurnRequest = record { refresh = c.args.refresh; asked = c.args.asked.now; now = c.args.now } in
    made_then (kind_of g.S.Signs.signing g.S.Signs.is_whole g.K.Keeper.saves) c.args.self.now.gate.now c.args.pass.now c.take_turn.new.pass asked c.take_turn.result c.take_turn.ensures.answers c.take_turn.ensures.fault

pub returns-clause-fits : goal.returns-clause-fits
returns-clause-fits g c =
    let asked : TurnRequest = record { refresh = c.args.refresh; asked = c.args.asked.now; now = c.args.now } in
    turned_on (kind_of g.S.Signs.signing g.S.Signs.is_whole g.K.Keeper.saves) c.args.self.now.gate.now c.args.self.now.first.value c.args.pass.now c.take_turn.new.pass asked c.take_turn.result c.requires.fits c.take_turn.ensures.answers c.take_turn.ensures.fault

pub returns-clause-short : goal.returns-clause-short
returns-clause-short g c =
    let asked : TurnRequest = record { refresh = c.args.refresh; asked = c.args.asked.now; now = c.args.now } in
    turned_short (kind_of g.S.Signs.signing g.S.Signs.is_whole g.K.Keeper.saves) c.args.self.now.gate.now c.args.pass.now c.take_turn.new.pass asked c.take_turn.result c.take_turn.ensures.answers
