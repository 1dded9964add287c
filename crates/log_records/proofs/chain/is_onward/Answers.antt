use Rattle.log_records.specs.Records.{record_of, records_of}
use Rattle.log_records.proofs.KeptChains.{kept_at}
use Rattle.log_records.proofs.ChainTests.{onward_by, not_onward_by}
use Rattle.log_records.proofs.chain.is_onward.Goals as goal

pub returns-then-names_held : goal.returns-then-names_held
returns-then-names_held c =
    let chain = c.args.chain.now in
    let x = c.index-chain-0.result in
    onward_by c.args.held.now c.args.floor.now (records_of chain) (record_of x) c.requires.some (kept_at chain 0 x c.index-chain-0.is) c.requires.log c.seq_of.ensures
    (c.names_held.ensures.0 c.if-names_held.true) c.passes_floor.ensures

pub returns-else-names_held : goal.returns-else-names_held
returns-else-names_held c =
    let chain = c.args.chain.now in
    let x = c.index-chain-0.result in
    not_onward_by c.args.held.now c.args.floor.now (records_of chain) (record_of x) c.requires.some (kept_at chain 0 x c.index-chain-0.is) c.requires.log c.if-names_held.false c.names_held.ensures
