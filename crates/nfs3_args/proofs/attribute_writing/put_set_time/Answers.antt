use Rattle.std.proofs.Common.{append_assoc}
use Rattle.nfs3_args.proofs.attribute_writing.put_set_time.Goals as goal

pub returns-in-Client-clause-written : goal.returns-in-Client-clause-written
returns-in-Client-clause-written c = rw (c.in-Client.is, c.put_moment.ensures.written, c.put_u32-in-Client.ensures.written, append_assoc)
