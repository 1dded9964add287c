use Rattle.std.proofs.Common.{◌≡◌, ◌≤◌, ◌+◌, ◌-◌, drop, length, fold, vec_len}
use Rattle.std.specs.Vec.{vec_capacity}
use Rattle.world_model.specs.Steps.{made_by, with_made}
use Rattle.script_participants.proofs.making.count_all.Given as goal

-- what counts so far, with the posts that are left; and there is room for these
abbrev pub invariant-posts : goal.invariant-posts
invariant-posts l = record {
  made : fold with_made l.made.items (made_by (drop l.post-index l.posts)) ≡ fold with_made l.fn.made.items (made_by l.posts);
  room : vec_len l.made + (length l.posts - l.post-index) ≤ vec_capacity l.made;
}
