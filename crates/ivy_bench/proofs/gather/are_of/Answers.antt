use Rattle.std.proofs.Common.{sym, ◌∙◌}
use Rattle.ivy_bench.proofs.Gathering.{are_of_one, is_owners, have_some}
use Rattle.ivy_bench.proofs.gather.are_of.Goals as goal

pub returns-then-not-is_empty-clause-one : goal.returns-then-not-is_empty-clause-one
returns-then-not-is_empty-clause-one c = λ yes. are_of_one c.args.owner.now c.args.records.now (have_some c.args.records.now (sym c.is_empty.ensures ∙ c.if-not-is_empty.true)) (c.have_owner.ensures yes)

pub returns-then-not-is_empty-clause-own : goal.returns-then-not-is_empty-clause-own
returns-then-not-is_empty-clause-own c = λ yes. is_owners c.args.owner.now c.args.records.now (have_some c.args.records.now (sym c.is_empty.ensures ∙ c.if-not-is_empty.true)) (c.have_owner.ensures yes)
