use Rattle.std.proofs.Common.{refl}
use Rattle.std.proofs.lemmas.Bool.{false≢true}
use Rattle.log_fetch.proofs.Finding.{found_value, found_own, none_now}
use Rattle.log_fetch.proofs.edges.known_at.Goals as goal

pub returns-then-is_one-clause-value : goal.returns-then-is_one-clause-value
returns-then-is_one-clause-value c =
    rw c.of_vector.ensures
    (found_value c.args.log.now c.args.edges.now c.edges.edge-index c.edge-item.result c.edges-test.true c.edge-item.is c.edges.invariant (c.if-is_one.ensures.0 refl) c.in_ok-copy.field-0 c.in_ok-copy.ensures)

pub returns-then-is_one-clause-own : goal.returns-then-is_one-clause-own
returns-then-is_one-clause-own c =
    rw c.of_vector.ensures
    (found_own c.args.log.now c.args.edges.now c.edges.edge-index c.edge-item.result c.edges-test.true c.edge-item.is c.requires (c.if-is_one.ensures.0 refl) c.in_ok-copy.field-0 c.in_ok-copy.ensures)

pub edges-preserved : goal.edges-preserved
edges-preserved c =
    none_now c.args.log.now c.args.edges.now c.edges.edge-index c.edge-item.result c.edges-test.true c.edge-item.is c.edges.invariant (λ e. absurd (false≢true (c.if-is_one.ensures.1 e)))
