use Rattle.std.proofs.Common.{sym, ◌∙◌}
use Rattle.log_records.specs.Records.{record_of}
use Rattle.causal_order.proofs.Knowing.{reach_own, reach_other}
use Rattle.causal_order.proofs.causes.reach_of.Goals as goal

pub returns-then-eq : goal.returns-then-eq
returns-then-eq c = reach_own (record_of c.args.record.now) c.args.key.now c.args.log.now c.requires.key c.requires.of_others (sym c.eq.ensures ∙ c.if-eq.true)

pub returns-else-eq : goal.returns-else-eq
returns-else-eq c = c.seq_of.ensures ∙ reach_other (record_of c.args.record.now) c.args.key.now c.args.log.now c.requires.key c.requires.of_others (sym c.eq.ensures ∙ c.if-eq.false)
