use Rattle.std.proofs.Common.{ap, ◌∙◌}
use Rattle.log_model.specs.Vector.{Vector}
use Rattle.agent_model.specs.Standing.{dominates}
use Rattle.turn_taking.proofs.Dominating.{answers}
use Rattle.turn_taking.proofs.taking.is_caught_up.Goals as goal

pub returns : goal.returns
returns c = answers c.args.held.now.front.now c.started-started.result.now c.dominates.result c.len.ensures.fits.in_order c.dominates.ensures ∙ ap (λ (v : Vector). dominates c.args.held.now.front.now v) c.started-started.ensures
