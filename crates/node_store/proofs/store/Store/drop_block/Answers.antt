use Rattle.std.proofs.Common.{ap, ◌∙◌, arith}
use Rattle.node_store.proofs.Sums.{size_of, one_fits}
use Rattle.node_store.proofs.Puts.{dropped, dropped_valid}
use Rattle.node_store.proofs.store.Store.drop_block.Goals as goal

pub overflow_sub-self : goal.overflow_sub-self
overflow_sub-self c = let is = c.len.ensures ∙ ap size_of c.in-Some.ensures.value in omega (arith, one_fits c.args.key.now c.self.inside.blocks.entries, c.self.invariant.0, is)

pub invariant_of-self : goal.invariant_of-self
invariant_of-self c = dropped_valid c.args.key.now c.self.inside.blocks.entries c.remove.new.self.entries c.self.invariant.1 c.remove.ensures.entries c.self.inside.total c.len.result c.self.invariant.0 (c.len.ensures ∙ ap size_of c.in-Some.ensures.value) c.remove.ensures.ordered

pub returns-in-Some-clause-dropped : goal.returns-in-Some-clause-dropped
returns-in-Some-clause-dropped c = rw (← c.self.view_is) (dropped c.args.key.now c.self.inside.blocks.entries c.remove.new.self.entries c.self.invariant.1 c.remove.ensures.entries)

pub returns-in-Some-clause-valid : goal.returns-in-Some-clause-valid
returns-in-Some-clause-valid c = (dropped_valid c.args.key.now c.self.inside.blocks.entries c.remove.new.self.entries c.self.invariant.1 c.remove.ensures.entries c.self.inside.total c.len.result c.self.invariant.0 (c.len.ensures ∙ ap size_of c.in-Some.ensures.value) c.remove.ensures.ordered).1

pub returns-in_default-clause-dropped : goal.returns-in_default-clause-dropped
returns-in_default-clause-dropped c = rw (← c.self.view_is) (dropped c.args.key.now c.self.inside.blocks.entries c.remove.new.self.entries c.self.invariant.1 c.remove.ensures.entries)
