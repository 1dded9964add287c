use Rattle.std.proofs.Common.{◌≡◌, ◌+◌, ◌++◌, length, take}
use Rattle.std.specs.List.{flat_map}
use Rattle.agent_model.specs.SavedBytes.{post_bytes}
use Rattle.ivy_agent.proofs.saving.put_posts.Given as goal

abbrev pub invariant-posts : goal.invariant-posts
invariant-posts l = record {
  written : l.out.written ≡ l.initial.out.written ++ flat_map post_bytes (take l.post-index l.posts);
  spare : l.out.spare + length (flat_map post_bytes (take l.post-index l.posts)) ≡ l.initial.out.spare;
}
