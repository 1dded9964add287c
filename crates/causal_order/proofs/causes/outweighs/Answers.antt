use Rattle.std.proofs.Common.{◌≡◌, ◌<◌, ℕ, ap, subst}
use Rattle.log_model.specs.Vector.{Dominates}
use Rattle.log_model.specs.Rank as log
use Rattle.log_model.specs.Rank.{full_vector, weight}
use Rattle.log_records.specs.Records.{record_of}
use Rattle.causal_order.proofs.Knowing.{both_hold}
use Rattle.causal_order.proofs.causes.outweighs.Goals as goal

pub returns-then-rank : goal.returns-then-rank
returns-then-rank c = both_hold c.knows.result (weight (record_of c.args.cause.now)) (weight (record_of c.args.record.now)) (Dominates (full_vector (record_of c.args.record.now)) (full_vector (record_of c.args.cause.now)))
    (let a : c.rank.result.weight ≡ weight (record_of c.args.cause.now) = ap (λ (r : log.Rank). r.weight) c.rank.ensures in
    let b : c.rank-2.result.weight ≡ weight (record_of c.args.record.now) = ap (λ (r : log.Rank). r.weight) c.rank-2.ensures in
    subst (λ (n : ℕ). n < weight (record_of c.args.record.now)) a (subst (λ (m : ℕ). c.rank.result.weight < m) b c.if-rank.true))
    c.knows.ensures
