use Rattle.log_model.specs.Vector.{stamp_at}
use Rattle.log_records.specs.Records.{record_of, records_of}
use Rattle.log_records.proofs.Walks.{take_apart}
use Rattle.log_records.proofs.KeptChains.{kept_at}
use Rattle.log_records.proofs.ChainTests.{log_of_oldest, begins_good, goes_by}
use Rattle.log_records.proofs.chain.goes_on_from.Goals as goal

pub may_begin-requires-clause-log : goal.may_begin-requires-clause-log
may_begin-requires-clause-log c =
    let chain = c.args.chain.now in
    let x = c.index-chain-0.result in
    log_of_oldest (records_of chain) (record_of x) c.requires.owner (kept_at chain 0 x c.index-chain-0.is) c.requires.log

pub goes_on-requires-clause-spelled : goal.goes_on-requires-clause-spelled
goes_on-requires-clause-spelled c =
    let chain = c.args.chain.now in
    let x = c.index-chain-0.result in
    begins_good c.args.view.now (records_of chain) (record_of x) c.requires.owner (kept_at chain 0 x c.index-chain-0.is) (c.may_begin.ensures.good c.if-may_begin.true)

pub returns-then-may_begin : goal.returns-then-may_begin
returns-then-may_begin c =
    let chain = c.args.chain.now in
    let x = c.index-chain-0.result in
    goes_by c.args.view.now (stamp_at c.args.held.now c.args.log.now) c.args.edge.now (records_of chain) (record_of x) c.requires.owner (kept_at chain 0 x c.index-chain-0.is)
    (c.may_begin.ensures.good c.if-may_begin.true) (c.may_begin.ensures.next c.if-may_begin.true) (c.may_begin.ensures.knows c.if-may_begin.true) c.goes_on.ensures

pub returns-else-may_begin : goal.returns-else-may_begin
returns-else-may_begin c =
    let chain = c.args.chain.now in
    let x = c.index-chain-0.result in (
      λ t. absurd (cc (t, c.if-may_begin.false)),
      λ g.
          let h = take_apart c.args.view.now (stamp_at c.args.held.now c.args.log.now) c.args.edge.now (records_of chain) (record_of x) c.requires.owner (kept_at chain 0 x c.index-chain-0.is) g in
          c.may_begin.ensures.all h.good h.next h.knows,
    )
