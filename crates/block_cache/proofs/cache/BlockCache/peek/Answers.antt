use Rattle.std.proofs.Common.{map, sym, ◌∙◌}
use Rattle.block_cache.specs.Blocks.{pair_of}
use Rattle.block_cache.proofs.Pairs.{found_named}
use Rattle.block_cache.proofs.Entries.{block_held}
use Rattle.block_cache.proofs.cache.BlockCache.peek.Goals as goal

pub returns-in_err-block : goal.returns-in_err-block
returns-in_err-block c = record {
  found = rw (c.from_residual.ensures, ← c.self.view_is) (c.in_err-block.ensures ∙ sym (block_held c.args.key.now c.self.inside.blocks.entries));
  named = rw c.from_residual.ensures tt;
}

pub returns : goal.returns
returns c = record {
  found = rw (c.as_slice.ensures, ← c.self.view_is) (c.in_ok-block.ensures ∙ sym (block_held c.args.key.now c.self.inside.blocks.entries));
  named = rw c.as_slice.ensures (found_named c.args.key.now c.in_ok-block.block.now (map pair_of c.self.inside.blocks.entries) c.self.invariant.1 (block_held c.args.key.now c.self.inside.blocks.entries ∙ sym c.in_ok-block.ensures));
}
