use Rattle.std.proofs.Common.{Some, sym, ap, subst}
use Rattle.session_steps.specs.Representing.{CallState, shown}
use Rattle.session_steps.specs.Within.{IsArm}
use Rattle.session_steps.proofs.Arms.{asks_arm, done_arm, on_ok, settles_arm, turns_arm}
use Rattle.session_steps.proofs.Asks.{may_ask}
use Rattle.session_steps.proofs.Turns.{may_turn}
use Rattle.session_steps.proofs.open.OpenCall.act.Goals as goal

pub ask-requires : goal.ask-requires
ask-requires g c = may_ask c.laws.ensures (shown c.args.self.now c.args.nodes.now c.args.who.now c.args.met.now c.args.now) c.requires.configuration c.requires.untold c.next.new.self c.next.new.who c.in-Ask.node c.in-Ask.question c.in-Ask.ensures

pub turn-requires : goal.turn-requires
turn-requires g c = may_turn c.laws.ensures (shown c.args.self.now c.args.nodes.now c.args.who.now c.args.met.now c.args.now) c.requires.configuration c.requires.untold c.next.new.self c.next.new.who c.in-Turn.refresh c.in-Turn.ensures

pub returns-in-Ask : goal.returns-in-Ask
returns-in-Ask g c = on_ok c.ask.result
    (asks_arm c.laws.ensures (shown c.args.self.now c.args.nodes.now c.args.who.now c.args.met.now c.args.now) c.requires.untold c.next.new.self c.next.new.who c.in-Ask.node c.in-Ask.question c.ask.new.self c.ask.new.nodes c.ask.new.who
    c.in-Ask.ensures)
    c.ask.ensures

pub returns-in-Turn : goal.returns-in-Turn
returns-in-Turn g c = on_ok c.turn.result
    (turns_arm c.laws.ensures (shown c.args.self.now c.args.nodes.now c.args.who.now c.args.met.now c.args.now) c.requires.untold c.next.new.self c.next.new.who c.in-Turn.refresh c.turn.new.self c.turn.new.who c.turn.new.met c.in-Turn.ensures)
    c.turn.ensures

pub returns-in-Settle : goal.returns-in-Settle
returns-in-Settle g c = settles_arm c.laws.ensures (shown c.args.self.now c.args.nodes.now c.args.who.now c.args.met.now c.args.now) c.requires.untold c.next.new.self c.next.new.who c.in-Settle.acks c.settle.new.self c.in-Settle.ensures
    c.settle.ensures

pub returns-in-Done : goal.returns-in-Done
returns-in-Done g c = subst
    (λ (call : CallState). IsArm (shown c.args.self.now c.args.nodes.now c.args.who.now c.args.met.now c.args.now) (shown call c.args.nodes.now c.next.new.who c.args.met.now c.args.now))
    (ap (λ (call : CallState). record call { told = Some c.in-Done.told }) (sym c.self.view_is))
    (done_arm c.laws.ensures (shown c.args.self.now c.args.nodes.now c.args.who.now c.args.met.now c.args.now) c.requires.untold c.next.new.self c.next.new.who c.in-Done.told c.in-Done.ensures)
