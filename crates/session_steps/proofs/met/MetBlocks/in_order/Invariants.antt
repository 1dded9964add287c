use Rattle.session_steps.proofs.Ordered.{ArePut}
use Rattle.session_steps.proofs.met.MetBlocks.in_order.Given as goal

abbrev pub invariant-places : goal.invariant-places
invariant-places l = ArePut (λ v. v.items) l.self l.block-iterator l.blocks.items
