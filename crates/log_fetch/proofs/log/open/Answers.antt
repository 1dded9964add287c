use Rattle.std.proofs.Common.{map, ap, ◌∙◌, ◌^◌, arith}
use Rattle.log_model.specs.Vector.{Vector, seq_of}
use Rattle.session_model.specs.Brought.{stamp_of}
use Rattle.log_fetch.specs.Edges.{edge_in}
use Rattle.ivy_base.specs.Naming.{head_key_of}
use Rattle.log_fetch.proofs.Lefts.{settled_within}
use Rattle.log_fetch.proofs.Steps.{opens_some, opens_none}
use Rattle.log_fetch.proofs.log.open.Goals as goal

pub returns-in-Some-clause-opens : goal.returns-in-Some-clause-opens
returns-in-Some-clause-opens c =
    opens_some c.args.view.now c.args.owner.now c.args.batch.now c.settle.new.batch c.head_key-log.result c.head_key-log.ensures c.args.edges.now c.in_ok-edge.edge c.in_ok-edge.ensures.value (map stamp_of c.args.heads.now) (map stamp_of c.in_ok-tried.tried.items)
    c.seq_of-held.result c.args.floor.now (c.seq_of-held.ensures ∙ ap (λ (v : Vector). seq_of v c.head_key-log.result) c.started.ensures) c.requires.floor c.in_ok-tried.ensures c.in-Some.trial c.in-Some.ensures.some c.settle.result c.settle.ensures.settled

pub returns-clause-opens : goal.returns-clause-opens
returns-clause-opens c =
    opens_none c.args.view.now c.args.owner.now (edge_in c.args.edges.now (head_key_of c.args.owner.now)) c.args.batch.now (map stamp_of c.args.heads.now) (map stamp_of c.in_ok-tried.tried.items) c.head_key-log.result c.seq_of-held.result c.args.floor.now
    c.head_key-log.ensures (c.seq_of-held.ensures ∙ ap (λ (v : Vector). seq_of v c.head_key-log.result) c.started.ensures) c.requires.floor c.in_ok-tried.ensures (ap (map stamp_of) c.in-None.ensures.none)

pub returns-in-Some-clause-left : goal.returns-in-Some-clause-left
returns-in-Some-clause-left c =
    let less = c.in-Some.ensures.left in
    let same = c.in_ok-tried.tried.ok in
    let small = c.in_ok-tried.tried.small in
    settled_within c.in-Some.trial (2 ^ 96) (omega (arith, less, same, small)) c.settle.result c.settle.ensures.left
