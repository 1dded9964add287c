use Rattle.ivy_agent.proofs.Posts.{room_for_one}
use Rattle.ivy_agent.proofs.saving.put_posts.Goals as goal

pub put_post-requires-clause-room : goal.put_post-requires-clause-room
put_post-requires-clause-room c = room_for_one c.args.posts.now c.posts.post-index c.post-item.result c.posts-test.true c.post-item.is _ _ _ c.posts.invariant.spare c.put_u32.ensures.spare c.requires.room
