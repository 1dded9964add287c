use Rattle.std.proofs.Common.{◌≡◌, take}
use Rattle.dht_ids.proofs.lists.Posts.copy.Given as goal

abbrev pub invariant-loop-post : goal.invariant-loop-post
invariant-loop-post l = l.posts.items ≡ take l.post-index l.self
