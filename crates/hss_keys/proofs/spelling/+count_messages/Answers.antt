use Rattle.std.proofs.Common.{ℕ, Fits, w64, sym, subst, arith}
use Rattle.hss_keys.specs.ToldApart.{at_most_three}
use Rattle.hss_keys.proofs.Signing.{capacity_of_none, capacity_of_more}
use Rattle.hss_keys.proofs.spelling.+count_messages.Goals as goal

pub returns-in-Some : goal.returns-in-Some
returns-in-Some t c = capacity_of_more c.args.sets.now c.in-Some.set.now c.in-Some.lower.now c.leaf_count.result c.count_messages.result c.in-Some.ensures.cases.0 c.leaf_count.ensures c.count_messages.ensures

pub overflow_mul-result : goal.overflow_mul-result
overflow_mul-result t c = subst (λ (n : ℕ). Fits w64 n) (sym (returns-in-Some t c)) (omega (arith, at_most_three c.args.sets.now c.requires))

pub returns-in-None : goal.returns-in-None
returns-in-None t c = sym (capacity_of_none c.args.sets.now c.in-None.ensures.cases)
