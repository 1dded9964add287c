use Rattle.log_records.specs.Records.{record_of}
use Rattle.causal_order.proofs.Knowing.{known_where, unknown_where}
use Rattle.causal_order.proofs.causes.knows.Goals as goal

pub returns-then-other-reach_of : goal.returns-then-other-reach_of
returns-then-other-reach_of c = known_where (record_of c.args.record.now) (record_of c.args.other.now) c.args.other_key.now c.entries.result.now c.requires.other_key c.requires.other_of_others c.entries.ensures.entries (rw c.entries.ensures.entries c.entries.ensures.fits.in_order) c.reaches.result c.reaches.ensures (rw (← c.reach_of.ensures) c.if-other-reach_of.true)

pub returns-else-other-reach_of : goal.returns-else-other-reach_of
returns-else-other-reach_of c = unknown_where (record_of c.args.record.now) (record_of c.args.other.now) c.args.other_key.now c.reach_of.result c.requires.other_key c.requires.other_of_others c.reach_of.ensures c.if-other-reach_of.false
