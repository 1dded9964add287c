use Rattle.turn_taking.proofs.Slices.{named_before, named_last}
use Rattle.turn_taking.proofs.names.name_at.Goals as goal

pub returns-then-i-records : goal.returns-then-i-records
returns-then-i-records c = λ r at. named_before c.as_slice-records.result.now c.args.chain.now.records c.args.chain.now.head.name c.args.i c.index-records-i.result r
    c.as_slice-records.ensures c.requires.row.named c.if-i-records.true at

pub returns-else-i-records : goal.returns-else-i-records
returns-else-i-records c = λ r at. named_last c.as_slice-records.result.now c.args.chain.now.records c.args.chain.now.head.name c.args.i r
    c.as_slice-records.ensures c.requires.row.named c.requires.within c.if-i-records.false at
