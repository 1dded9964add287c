use Rattle.view_blocks.proofs.OneView.{one_view}
use Rattle.view_blocks.proofs.Refusals.{legal_views_pass, faults_are_unique}
use Rattle.view_blocks.proofs.laws.views_have_blocks.Goals as goal

pub returns-clause-one : goal.returns-clause-one
returns-clause-one c = one_view

pub returns-clause-legal : goal.returns-clause-legal
returns-clause-legal c = legal_views_pass

pub returns-clause-faults : goal.returns-clause-faults
returns-clause-faults c = faults_are_unique
