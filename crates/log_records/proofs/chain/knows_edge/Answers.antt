use Rattle.log_model.specs.Vector.{stamp_at}
use Rattle.log_records.specs.Records.{record_of}
use Rattle.log_records.proofs.KeptChains.{edge_known}
use Rattle.log_records.proofs.ChainTests.{no_edge, nothing_held}
use Rattle.log_records.proofs.chain.knows_edge.Goals as goal

pub returns-in-Some-Some : goal.returns-in-Some-Some
returns-in-Some-Some c =
    edge_known c.args.log.now (stamp_at c.args.held.now c.args.log.now) c.get.result c.in-Some-Some.field-0-0 c.args.edge.now c.in-Some-Some.edge (record_of c.args.first.now) c.dominates.result
    c.requires.spelled c.requires.log c.requires.next c.requires.edge c.get.ensures c.in-Some-Some.is-0 c.in-Some-Some.is-1 (rw c.vector.ensures at c.dominates.ensures)

pub returns-in_default : goal.returns-in_default
returns-in_default c = no_edge (stamp_at c.args.held.now c.args.log.now) c.args.edge.now (record_of c.args.first.now) c.in_default.is-1

pub returns-in_default-2 : goal.returns-in_default-2
returns-in_default-2 c = nothing_held c.args.log.now (stamp_at c.args.held.now c.args.log.now) c.get.result c.args.edge.now (record_of c.args.first.now) c.get.ensures c.in_default.is-0
