use Rattle.stage_laws.proofs.Statuses.{answers_are_by_tree, finishes_are_by_tree, plans_are_by_tree, turns_refuse_so}
use Rattle.stage_laws.proofs.laws.trees_refuse_by_themselves.Goals as goal

pub returns-clause-answers : goal.returns-clause-answers
returns-clause-answers c = answers_are_by_tree

pub returns-clause-plans : goal.returns-clause-plans
returns-clause-plans c = plans_are_by_tree

pub returns-clause-finishes : goal.returns-clause-finishes
returns-clause-finishes c = finishes_are_by_tree

pub returns-clause-turns : goal.returns-clause-turns
returns-clause-turns c = turns_refuse_so
