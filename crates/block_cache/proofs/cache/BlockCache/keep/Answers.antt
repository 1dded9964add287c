use Rattle.block_cache.proofs.Entries.{kept_answer, valid_after}
use Rattle.block_cache.proofs.cache.BlockCache.keep.Goals as goal

pub invariant_of-self : goal.invariant_of-self
invariant_of-self c = valid_after c.self.inside.blocks c.put.new.self c.args.key c.args.bytes c.self.invariant c.requires c.put.result c.put.ensures.entries c.put.ensures.err

pub returns-clause-kept : goal.returns-clause-kept
returns-clause-kept c = rw (c.is_ok.ensures.value, ← c.self.view_is) (kept_answer c.self.inside.blocks c.put.new.self c.args.key c.args.bytes c.self.invariant c.requires c.put.result c.put.ensures.entries c.put.ensures.err)

pub returns-clause-valid : goal.returns-clause-valid
returns-clause-valid c = (valid_after c.self.inside.blocks c.put.new.self c.args.key c.args.bytes c.self.invariant c.requires c.put.result c.put.ensures.entries c.put.ensures.err).1
