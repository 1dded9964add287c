use Rattle.std.proofs.Common.{sym, ap, ◌∙◌}
use Rattle.node_store.proofs.Maps.{find-lookup}
use Rattle.node_store.proofs.Numbers.{held_below, none_below}
use Rattle.node_store.proofs.store.Store.may_reach.Goals as goal

pub returns-in-Some : goal.returns-in-Some
returns-in-Some g c =
    rw (← c.self.view_is) (λ no. held_below (g.J.Judge.judges c.args.judge.now c.args.key.now) _ c.in-Some.block.now c.args.seq (find-lookup c.args.key.now _ ∙ sym c.in-Some.ensures.value)
    (λ judged is. c.may_reach.ensures no judged (ap (g.J.Judge.judges c.args.judge.now c.args.key.now) c.as_slice.ensures ∙ is)))

pub returns-in-None : goal.returns-in-None
returns-in-None g c = rw (← c.self.view_is) (λ no. none_below (g.J.Judge.judges c.args.judge.now c.args.key.now) _ c.args.seq (find-lookup c.args.key.now _ ∙ sym c.in-None.ensures.value))
