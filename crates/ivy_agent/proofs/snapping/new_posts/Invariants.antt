use Rattle.std.proofs.Common.{◌≡◌, ◌++◌}
use Rattle.ivy_agent.specs.Snapping.{posts_of_new}
use Rattle.ivy_agent.proofs.snapping.new_posts.Given as goal

-- the posts so far, and those of the blocks that are left, are all
abbrev pub invariant-each : goal.invariant-each
invariant-each l = l.posts.items ++ posts_of_new l.pending l.block-iterator.rest.items ≡ posts_of_new l.pending l.fn.blocks.items
