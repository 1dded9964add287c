use Rattle.std.proofs.Common.{◌≡◌, [], ◌∷◌, ap, ◌∙◌, subst, rules}
use Rattle.dht_ids.specs.declared.ask.Ask.TheVariants as ask
use Rattle.dht_ids.specs.declared.ask.Want.TheVariants as want
use Rattle.dhash_client.specs.Machine.{IsWanted, fresh}
use Rattle.ring_nodes.proofs.Looking.{asks_made, ended_made, looks_ended, looks_first, looks_more, looks_on}
use Rattle.ring_nodes.proofs.nodes.RingNodes.look_up.Goals as goal

pub asks-init : goal.asks-init
asks-init g c =
    let begins : c.in_ok-lookup.lookup ≡ fresh c.args.key.now (c.args.through.now ∷ []) = search rules in
    looks_first (g.J.Judge.judges c.args.judge.now) c.args.self.now c.args.key.now c.args.through.now c.in_ok-lookup.lookup begins

pub step-requires-clause-made : goal.step-requires-clause-made
step-requires-clause-made g c =
    asks_made (g.J.Judge.judges c.args.judge.now) c.args.self.now c.args.key.now c.args.through.now c.asks.self c.asks.lookup c.next.new.self c.in-Ask.node c.in-Ask.question c.requires
    (looks_on (g.J.Judge.judges c.args.judge.now) c.args.self.now c.args.key.now c.args.through.now c.asks.self c.asks.lookup c.next.new.self c.asks.invariant c.next.ensures.key c.next.ensures.follows)
    c.next.ensures.asked (subst (IsWanted c.asks.lookup c.next.new.self) c.in-Ask.is c.in_ok-node.ensures.wanted)

pub asks-preserved : goal.asks-preserved
asks-preserved g c =
    let wanted : IsWanted c.asks.lookup c.next.new.self (want.Ask c.in-Ask.node c.in-Ask.question) = subst (IsWanted c.asks.lookup c.next.new.self) c.in-Ask.is c.in_ok-node.ensures.wanted in
    looks_more (g.J.Judge.judges c.args.judge.now) c.args.self.now c.args.key.now c.args.through.now c.asks.self c.step.new.self c.next.new.self c.step.new.lookup c.in-Ask.node c.in-Ask.question
    (looks_on (g.J.Judge.judges c.args.judge.now) c.args.self.now c.args.key.now c.args.through.now c.asks.self c.asks.lookup c.next.new.self c.asks.invariant c.next.ensures.key c.next.ensures.follows)
    wanted.1 (wanted.0 ∙ ap (λ k. ask.Route k) c.asks.invariant.key_is) c.in_ok-step-in-Ask.ensures.steps c.step.ensures.made

pub returns-in-Done-clause-finds : goal.returns-in-Done-clause-finds
returns-in-Done-clause-finds g c =
    looks_ended (g.J.Judge.judges c.args.judge.now) c.args.self.now c.args.key.now c.args.through.now c.asks.self c.asks.lookup c.next.new.self c.in-Done.found c.asks.invariant
    (subst (IsWanted c.asks.lookup c.next.new.self) c.in-Done.is c.in_ok-node.ensures.wanted)

pub returns-in-Done-clause-named : goal.returns-in-Done-clause-named
returns-in-Done-clause-named g c =
    ended_made (g.J.Judge.judges c.args.judge.now) c.args.self.now c.args.key.now c.args.through.now c.asks.self c.asks.lookup c.next.new.self c.in-Done.found c.requires c.asks.invariant
    (subst (IsWanted c.asks.lookup c.next.new.self) c.in-Done.is c.in_ok-node.ensures.wanted)
