use Rattle.std.proofs.Common.{append_assoc}
use Rattle.rpc_wire.proofs.reply.put_accepted.Goals as goal

pub returns-clause-written : goal.returns-clause-written
returns-clause-written c =
    simp (
      c.put_u32-6.ensures.written,
      c.put_u32-5.ensures.written,
      c.put_u32-4.ensures.written,
      c.put_u32-3.ensures.written,
      c.put_u32-2.ensures.written,
      c.put_u32.ensures.written,
      append_assoc,
    )
