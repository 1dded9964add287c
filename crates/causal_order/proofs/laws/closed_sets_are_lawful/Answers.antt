use Rattle.causal_order.proofs.Fresh.{fresh_is_plain, fresh_part_is_plain, ranks_differ, causes_are_before}
use Rattle.causal_order.proofs.Fronts.{fronts_join}
use Rattle.causal_order.proofs.laws.closed_sets_are_lawful.Goals as goal

pub returns-clause-fresh : goal.returns-clause-fresh
returns-clause-fresh c = fresh_is_plain

pub returns-clause-parts : goal.returns-clause-parts
returns-clause-parts c = fresh_part_is_plain

pub returns-clause-ranks : goal.returns-clause-ranks
returns-clause-ranks c = ranks_differ

pub returns-clause-causes : goal.returns-clause-causes
returns-clause-causes c = causes_are_before

pub returns-clause-fronts : goal.returns-clause-fronts
returns-clause-fronts c = fronts_join
