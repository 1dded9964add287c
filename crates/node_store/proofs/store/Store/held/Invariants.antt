use Rattle.std.proofs.Common.{◌≡◌, ◌++◌, map}
use Rattle.node_store.specs.Stores.{post_of}
use Rattle.node_store.proofs.store.Store.held.Given as goal

-- what was listed and what is left are all blocks
abbrev pub invariant-listed : goal.invariant-listed
invariant-listed l = l.posts.items ++ map post_of l.key-iterator ≡ map post_of l.self
