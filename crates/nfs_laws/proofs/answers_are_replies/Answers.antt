use Rattle.nfs_laws.proofs.AnswerForms.{answers_are_replies, mounts_are_replies}
use Rattle.nfs_laws.proofs.PlanForms.{plans_are_replies, finishes_are_replies}
use Rattle.nfs_laws.proofs.Replays.{records_make_trees, sets_make_trees}
use Rattle.nfs_laws.proofs.answers_are_replies.Goals as goal

pub returns-clause-answers : goal.returns-clause-answers
returns-clause-answers c = answers_are_replies

pub returns-clause-mounts : goal.returns-clause-mounts
returns-clause-mounts c = mounts_are_replies

pub returns-clause-plans : goal.returns-clause-plans
returns-clause-plans c = plans_are_replies

pub returns-clause-finishes : goal.returns-clause-finishes
returns-clause-finishes c = finishes_are_replies

pub returns-clause-trees : goal.returns-clause-trees
returns-clause-trees c = records_make_trees

pub returns-clause-sets : goal.returns-clause-sets
returns-clause-sets c = sets_make_trees
