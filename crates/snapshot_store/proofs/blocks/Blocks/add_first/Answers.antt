use Rattle.std.proofs.Common.{arith}
use Rattle.snapshot_store.proofs.Places.{not_among, placed_first, put_anew}
use Rattle.snapshot_store.proofs.blocks.Blocks.add_first.Goals as goal

pub invariant_of-self-2 : goal.invariant_of-self-2
invariant_of-self-2 c =
    rw (c.in_ok-push.ensures.items, c.try_reserve.ensures.items)
    (placed_first c.self.inside.blocks.items c.args.block c.self.inside.places.entries c.self.invariant (rw (← c.self.view_is) at c.requires)
    c.insert.new.self.entries c.name.result c.len.result c.name.ensures (omega (arith, c.len.ensures, c.try_reserve.ensures.len)) c.in_ok-insert.ensures.updates.0)

pub returns : goal.returns
returns c =
    rw (c.in_ok-push.ensures.items, c.try_reserve.ensures.items, ← c.self.view_is)
    (put_anew c.self.inside.blocks.items c.args.block (not_among c.args.block c.self.inside.blocks.items (rw (← c.self.view_is) at c.requires)))
