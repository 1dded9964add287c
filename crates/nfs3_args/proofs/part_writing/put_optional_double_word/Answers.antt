use Rattle.std.proofs.Common.{append_assoc}
use Rattle.nfs3_args.proofs.part_writing.put_optional_double_word.Goals as goal

pub returns-in-Some-clause-written : goal.returns-in-Some-clause-written
returns-in-Some-clause-written c = rw (c.in-Some.is, c.put_u64.ensures.written, c.put_bool-in-Some.ensures.written, append_assoc)
