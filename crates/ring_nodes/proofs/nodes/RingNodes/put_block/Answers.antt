use Rattle.std.proofs.Common.{◌≡◌, refl, ap, ◌∙◌, subst}
use Rattle.dht_ids.specs.declared.ask.Want.TheVariants as want
use Rattle.dhash_client.specs.Puts.{PutIsWanted, put_begun}
use Rattle.dhash_client.specs.declared.put.PutKind.TheVariants as what
use Rattle.world_model.specs.World.{empty_world}
use Rattle.ring_nodes.specs.NodesState.{with_nodes}
use Rattle.ring_nodes.proofs.WholePuts.{entries_of, put_made, puts_ended, puts_first, puts_more, puts_on}
use Rattle.ring_nodes.proofs.nodes.RingNodes.put_block.Goals as goal

pub asks-init : goal.asks-init
asks-init g c =
    let all : c.in_ok-entries.entries ≡ entries_of c.args.self.now = c.in_ok-entries.ensures (with_nodes empty_world c.args.self.now) (refl, refl, refl) in
    puts_first (g.J.Judge.judges c.args.judge.now) c.args.self.now c.args.key c.args.bytes c.args.replicas c.in_ok-put.put (c.in_ok-put.ensures ∙ ap (put_begun what.Block c.args.bytes c.args.key c.args.replicas) all)

pub put_step-requires-clause-made : goal.put_step-requires-clause-made
put_step-requires-clause-made g c =
    let wanted : PutIsWanted c.asks.put c.next.new.self (want.Ask c.in-Ask.node c.in-Ask.question) = subst (PutIsWanted c.asks.put c.next.new.self) c.in-Ask.is c.in_ok-node.ensures.wanted in
    put_made (g.J.Judge.judges c.args.judge.now) c.args.self.now c.args.key c.args.bytes c.args.replicas c.asks.self c.next.new.self c.in-Ask.node c.in-Ask.question
    (puts_on (g.J.Judge.judges c.args.judge.now) c.args.self.now c.args.key c.args.bytes c.args.replicas c.asks.self c.asks.put c.next.new.self c.in-Ask.node c.in-Ask.question c.asks.invariant wanted) wanted.1

pub asks-preserved-in_ok-put_step-in-Ask : goal.asks-preserved-in_ok-put_step-in-Ask
asks-preserved-in_ok-put_step-in-Ask g c =
    let wanted : PutIsWanted c.asks.put c.next.new.self (want.Ask c.in-Ask.node c.in-Ask.question) = subst (PutIsWanted c.asks.put c.next.new.self) c.in-Ask.is c.in_ok-node.ensures.wanted in
    puts_more (g.J.Judge.judges c.args.judge.now) c.args.self.now c.args.key c.args.bytes c.args.replicas c.asks.self c.put_step.new.self c.next.new.self c.put_step.new.put c.in-Ask.node c.in-Ask.question
    (puts_on (g.J.Judge.judges c.args.judge.now) c.args.self.now c.args.key c.args.bytes c.args.replicas c.asks.self c.asks.put c.next.new.self c.in-Ask.node c.in-Ask.question c.asks.invariant wanted) wanted.1
    c.in_ok-put_step-in-Ask.ensures.steps c.put_step.ensures.made

pub asks-preserved : goal.asks-preserved
asks-preserved g c =
    let wanted : PutIsWanted c.asks.put c.next.new.self (want.Ask c.in-Ask.node c.in-Ask.question) = subst (PutIsWanted c.asks.put c.next.new.self) c.in-Ask.is c.in_ok-node.ensures.wanted in
    puts_more (g.J.Judge.judges c.args.judge.now) c.args.self.now c.args.key c.args.bytes c.args.replicas c.asks.self c.put_step.new.self c.next.new.self c.put_step.new.put c.in-Ask.node c.in-Ask.question
    (puts_on (g.J.Judge.judges c.args.judge.now) c.args.self.now c.args.key c.args.bytes c.args.replicas c.asks.self c.asks.put c.next.new.self c.in-Ask.node c.in-Ask.question c.asks.invariant wanted) wanted.1
    c.in_ok-put_step-in-Ask.ensures.steps c.put_step.ensures.made

pub returns-in-Done-clause-puts : goal.returns-in-Done-clause-puts
returns-in-Done-clause-puts g c =
    puts_ended (g.J.Judge.judges c.args.judge.now) c.args.self.now c.args.key c.args.bytes c.args.replicas c.asks.self c.asks.put c.next.new.self c.in-Done.came c.asks.invariant
    (subst (PutIsWanted c.asks.put c.next.new.self) c.in-Done.is c.in_ok-node.ensures.wanted)
