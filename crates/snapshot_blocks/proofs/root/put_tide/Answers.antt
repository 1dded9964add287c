use Rattle.std.proofs.Common.{append_assoc}
use Rattle.snapshot_blocks.proofs.root.put_tide.Goals as goal

pub returns-in-Some-clause-written : goal.returns-in-Some-clause-written
returns-in-Some-clause-written c = rw (c.in-Some.is, c.put_rank.ensures.written, c.put_bool.ensures.written, append_assoc)
