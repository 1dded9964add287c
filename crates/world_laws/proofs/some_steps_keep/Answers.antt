use Rattle.world_laws.proofs.GetsBring.{gets_bring_keep}
use Rattle.world_laws.proofs.InHand.{gets_go_on_keep, lacking_keeps, puts_keep, settling_keeps, vain_asks_keep}
use Rattle.world_laws.proofs.LackingSteps.{lacking_steps_keep}
use Rattle.world_laws.proofs.Receiving.{receiving_keeps}
use Rattle.world_laws.proofs.TakingOn.{taking_keeps}
use Rattle.world_laws.proofs.some_steps_keep.Goals as goal

pub returns-clause-puts : goal.returns-clause-puts
returns-clause-puts c = puts_keep

pub returns-clause-settling : goal.returns-clause-settling
returns-clause-settling c = settling_keeps

pub returns-clause-lacking : goal.returns-clause-lacking
returns-clause-lacking c = lacking_keeps

pub returns-clause-gets_go_on : goal.returns-clause-gets_go_on
returns-clause-gets_go_on c = gets_go_on_keep

pub returns-clause-vain : goal.returns-clause-vain
returns-clause-vain c = vain_asks_keep

pub returns-clause-lacking_step : goal.returns-clause-lacking_step
returns-clause-lacking_step c = lacking_steps_keep

pub returns-clause-taking : goal.returns-clause-taking
returns-clause-taking c = taking_keeps

pub returns-clause-receiving : goal.returns-clause-receiving
returns-clause-receiving c = receiving_keeps

pub returns-clause-gets_bring : goal.returns-clause-gets_bring
returns-clause-gets_bring c = gets_bring_keep
