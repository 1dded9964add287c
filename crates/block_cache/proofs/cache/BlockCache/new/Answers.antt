use Rattle.std.proofs.Common.{rules}
use Rattle.block_cache.proofs.Pairs.{empty_valid}
use Rattle.block_cache.proofs.cache.BlockCache.new.Goals as goal

pub invariant_of-result : goal.invariant_of-result
invariant_of-result c = rw c.in_ok-new.ensures (search rules, empty_valid)
