use Rattle.std.proofs.Common.{◌-◌, length}
use Rattle.log_model.specs.Heads.{stamp}
use Rattle.log_records.specs.Records.{record_of, records_of}
use Rattle.log_records.proofs.Walks.{ends_by}
use Rattle.log_records.proofs.KeptChains.{kept_at, kept_size}
use Rattle.log_records.proofs.chain.ends_at.Goals as goal

pub returns : goal.returns
returns c =
    let chain = c.args.chain.now in
    let head = c.args.head.now in
    let last = c.index-chain-last.result in
    let h = ends_by (records_of chain) (length chain - 1) (record_of last) (stamp head.seq head.name) (kept_size chain c.requires.some) (kept_at chain (length chain - 1) last c.index-chain-last.is) in
    (λ t. h.0 (c.is_stamped.ensures.0 t), λ e. c.is_stamped.ensures.1 (h.1 e))
