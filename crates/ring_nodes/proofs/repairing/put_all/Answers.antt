use Rattle.std.proofs.Common.{subst}
use Rattle.dhash_repair.specs.Repairing.{RepairIsWanted}
use Rattle.ring_nodes.proofs.Repaired.{asked_made, asks_on, repair_ended, repair_first}
use Rattle.ring_nodes.proofs.repairing.put_all.Goals as goal

pub asks-init : goal.asks-init
asks-init g c = repair_first (g.J.Judge.judges c.args.judge.now) c.args.nodes.now c.args.peer.now c.args.replicas c.args.held c.start-repair.result c.start-repair.ensures.after c.start-repair.ensures.begun

pub step-requires-clause-made : goal.step-requires-clause-made
step-requires-clause-made g c =
    asked_made (g.J.Judge.judges c.args.judge.now) c.args.nodes.now c.args.peer.now c.args.replicas c.args.held c.asks.nodes c.asks.repair c.next.new.self c.in-Ask.node c.in-Ask.question c.requires c.asks.invariant
    (subst (RepairIsWanted c.asks.repair c.next.new.self) c.in-Ask.is c.in_ok-node.ensures.wanted)

pub asks-preserved-in_ok-step-in-Ask : goal.asks-preserved-in_ok-step-in-Ask
asks-preserved-in_ok-step-in-Ask g c =
    asks_on (g.J.Judge.judges c.args.judge.now) c.args.nodes.now c.args.peer.now c.args.replicas c.args.held c.asks.nodes c.step.new.nodes c.asks.repair c.next.new.self c.step.new.repair c.in-Ask.node c.in-Ask.question c.asks.invariant
    (subst (RepairIsWanted c.asks.repair c.next.new.self) c.in-Ask.is c.in_ok-node.ensures.wanted) c.in_ok-step-in-Ask.ensures.steps c.step.ensures.made

pub asks-preserved-in_ok-step-in-Ask-2 : goal.asks-preserved-in_ok-step-in-Ask-2
asks-preserved-in_ok-step-in-Ask-2 g c =
    asks_on (g.J.Judge.judges c.args.judge.now) c.args.nodes.now c.args.peer.now c.args.replicas c.args.held c.asks.nodes c.step.new.nodes c.asks.repair c.next.new.self c.step.new.repair c.in-Ask.node c.in-Ask.question c.asks.invariant
    (subst (RepairIsWanted c.asks.repair c.next.new.self) c.in-Ask.is c.in_ok-node.ensures.wanted) c.in_ok-step-in-Ask.ensures.steps c.step.ensures.made

pub asks-preserved : goal.asks-preserved
asks-preserved g c =
    asks_on (g.J.Judge.judges c.args.judge.now) c.args.nodes.now c.args.peer.now c.args.replicas c.args.held c.asks.nodes c.step.new.nodes c.asks.repair c.next.new.self c.step.new.repair c.in-Ask.node c.in-Ask.question c.asks.invariant
    (subst (RepairIsWanted c.asks.repair c.next.new.self) c.in-Ask.is c.in_ok-node.ensures.wanted) c.in_ok-step-in-Ask.ensures.steps c.step.ensures.made

pub returns-in-Done-clause-puts : goal.returns-in-Done-clause-puts
returns-in-Done-clause-puts g c =
    repair_ended (g.J.Judge.judges c.args.judge.now) c.args.nodes.now c.args.peer.now c.args.replicas c.args.held c.asks.nodes c.asks.repair c.next.new.self c.in-Done.acks c.are_sound.ensures c.requires c.asks.invariant
    (subst (RepairIsWanted c.asks.repair c.next.new.self) c.in-Done.is c.in_ok-node.ensures.wanted)
