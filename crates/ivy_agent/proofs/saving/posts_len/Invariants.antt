use Rattle.std.proofs.Common.{◌≡◌, ◌+◌, length, take}
use Rattle.std.specs.List.{flat_map}
use Rattle.agent_model.specs.SavedBytes.{post_bytes}
use Rattle.ivy_agent.specs.Saves.{AreShort}
use Rattle.ivy_agent.proofs.saving.posts_len.Given as goal

abbrev pub invariant-posts : goal.invariant-posts
invariant-posts l = record {
  size : l.len ≡ 4 + length (flat_map post_bytes (take l.post-index l.posts));
  short : AreShort (take l.post-index l.posts);
}
