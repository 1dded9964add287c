use Rattle.ivy_agent.proofs.NewestRecords.{newest_seen}
use Rattle.ivy_agent.proofs.written.newest_of.Goals as goal

pub returns : goal.returns
returns c = newest_seen c.args.records.now c.args.posts.now c.in_ok-record.record.now c.in_ok-post.post.now c.in_ok-record.ensures.value c.in_ok-post.ensures.value c.requires
