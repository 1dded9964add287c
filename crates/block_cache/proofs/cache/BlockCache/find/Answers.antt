use Rattle.std.proofs.Common.{map, refl, sym, ◌∙◌}
use Rattle.block_cache.specs.Blocks.{pair_of}
use Rattle.block_cache.proofs.Pairs.{found_named}
use Rattle.block_cache.proofs.Entries.{block_held, moved_entries, promoted_valid}
use Rattle.block_cache.proofs.cache.BlockCache.find.Goals as goal

pub invariant_of-self : goal.invariant_of-self
invariant_of-self c = rw c.get.follows.holds-at-none (c.self.invariant.0, promoted_valid c.args.key.now c.self.inside.blocks.entries c.self.invariant.1)

pub returns-in_err-block : goal.returns-in_err-block
returns-in_err-block c = (
  (refl, λ _. tt, rw (c.get.follows.holds-at-none, ← c.self.view_is) (moved_entries c.args.key.now c.self.inside.blocks.entries c.self.invariant.1)),
  record {
    found = rw (c.from_residual.ensures, ← c.self.view_is) (c.in_err-block.ensures.value ∙ sym (block_held c.args.key.now c.self.inside.blocks.entries));
    named = rw c.from_residual.ensures tt;
    valid = rw (← c.self.view_is) c.self.invariant.1;
    moved = tt;
  },
)

pub invariant_of-self-2 : goal.invariant_of-self-2
invariant_of-self-2 c = rw c.get.follows.holds-at-none (c.self.invariant.0, promoted_valid c.args.key.now c.self.inside.blocks.entries c.self.invariant.1)

pub returns : goal.returns
returns c = (
  (refl, λ _. tt, rw (c.get.follows.holds-at-none, ← c.self.view_is) (moved_entries c.args.key.now c.self.inside.blocks.entries c.self.invariant.1)),
  record {
    found = rw (c.as_slice.ensures, ← c.self.view_is) (c.in_ok-block.ensures.value ∙ sym (block_held c.args.key.now c.self.inside.blocks.entries));
    named = rw c.as_slice.ensures (found_named c.args.key.now c.in_ok-block.block.now (map pair_of c.self.inside.blocks.entries) c.self.invariant.1 (block_held c.args.key.now c.self.inside.blocks.entries ∙ sym c.in_ok-block.ensures.value));
    valid = rw (← c.self.view_is) c.self.invariant.1;
    moved = tt;
  },
)
