use Rattle.log_records.proofs.OneRecord.{one_record}
use Rattle.log_records.proofs.OneHead.{one_head}
use Rattle.log_records.proofs.Sizes.{short_records}
use Rattle.log_records.proofs.PlainHeads.{plain_heads_are_judged}
use Rattle.log_records.proofs.laws.blocks_are_unambiguous.Goals as goal

pub returns-clause-records : goal.returns-clause-records
returns-clause-records c = one_record

pub returns-clause-short : goal.returns-clause-short
returns-clause-short c = short_records

pub returns-clause-heads : goal.returns-clause-heads
returns-clause-heads c = one_head

pub returns-clause-judged : goal.returns-clause-judged
returns-clause-judged c = plain_heads_are_judged
