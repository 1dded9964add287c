use Rattle.std.proofs.Common.{◌≡◌, ◌+◌, ◌<◌, ◌^◌, ◌++◌, length, map}
use Rattle.agent_model.specs.Agent.{record_post}
use Rattle.log_records.specs.Records.{records_of}
use Rattle.turn_model.specs.Turn.{linked}
use Rattle.ivy_agent.proofs.written.write_records.Given as goal
use Rattle.ivy_agent.specs.Appended.{heading}

-- the records so far, and those of the operations that are left after the last of them, are all; each has its post
abbrev pub invariant-ops : goal.invariant-ops
invariant-ops l = record {
  whole : records_of l.records.items ++ linked (heading l.own l.cited l.now) (l.last.seq + 1) l.last.name l.op-iterator.rest.items
      ≡ linked (heading l.own l.cited l.now) (l.fn.before.seq + 1) l.fn.before.name l.fn.ops.items;
  posts : l.posts.items ≡ map record_post (records_of l.records.items);
  room : l.last.seq + length l.op-iterator.rest.items < 2 ^ 32;
}
