use Rattle.std.proofs.Common.{◌≡◌, length}
use Rattle.std.specs.List.{AllByRecursion, flat_map}
use Rattle.wire_model.specs.OneReading.{IsFront}
use Rattle.agent_model.specs.SavedBytes.{post_bytes}
use Rattle.agent_saves.specs.Parts.{IsPost}
use Rattle.agent_saves.proofs.posts.read_each.Given as goal

abbrev pub invariant-posts : goal.invariant-posts
invariant-posts l = record {
  front : IsFront (AllByRecursion IsPost) (flat_map post_bytes) l.initial.reader l.posts.items l.reader;
  count : length l.posts.items ≡ l._n;
}
