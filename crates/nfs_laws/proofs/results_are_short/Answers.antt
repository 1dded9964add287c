use Rattle.nfs_laws.proofs.Lengths.{pages_fit, answers_fit, mounts_fit, plans_fit, finishes_fit}
use Rattle.nfs_laws.proofs.Trees.{records_make_names, records_make_short_links}
use Rattle.nfs_laws.proofs.results_are_short.Goals as goal

pub returns-clause-pages : goal.returns-clause-pages
returns-clause-pages c = pages_fit

pub returns-clause-answers : goal.returns-clause-answers
returns-clause-answers c = answers_fit

pub returns-clause-mounts : goal.returns-clause-mounts
returns-clause-mounts c = mounts_fit

pub returns-clause-plans : goal.returns-clause-plans
returns-clause-plans c = plans_fit

pub returns-clause-finishes : goal.returns-clause-finishes
returns-clause-finishes c = finishes_fit

pub returns-clause-names : goal.returns-clause-names
returns-clause-names c = records_make_names

pub returns-clause-links : goal.returns-clause-links
returns-clause-links c = records_make_short_links
