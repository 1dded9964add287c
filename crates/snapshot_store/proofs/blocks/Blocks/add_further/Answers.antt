use Rattle.snapshot_store.proofs.Places.{placed_further}
use Rattle.snapshot_store.proofs.blocks.Blocks.add_further.Goals as goal

pub invariant_of-self-2 : goal.invariant_of-self-2
invariant_of-self-2 c =
    rw (c.in_ok-push.ensures.items)
    (placed_further c.self.inside.blocks.items c.args.block c.self.inside.places.entries c.self.invariant c.args.place (rw (← c.self.view_is) at c.requires))
