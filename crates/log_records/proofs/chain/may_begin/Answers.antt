use Rattle.log_records.proofs.chain.may_begin.Goals as goal

pub is_next-requires : goal.is_next-requires
is_next-requires c = (c.is_good.ensures.0 c.if-is_good.true).spelled
