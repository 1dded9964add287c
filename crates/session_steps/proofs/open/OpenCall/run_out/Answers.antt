use Rattle.std.proofs.Common.{sym}
use Rattle.session_steps.specs.Representing.{shown}
use Rattle.session_steps.proofs.Many.{not_told, reached_on_configuration, reaches_end, reaches_on_first, reaches_on_next}
use Rattle.session_steps.proofs.open.OpenCall.run_out.Goals as goal

pub steps-init : goal.steps-init
steps-init g c = reaches_on_first (shown c.args.self.now c.args.nodes.now c.args.who.now c.args.met.now c.args.now)

pub step-requires : goal.step-requires
step-requires g c = reached_on_configuration (shown c.args.self.now c.args.nodes.now c.args.who.now c.args.met.now c.args.now) (shown c.steps.self c.steps.nodes c.steps.who c.steps.met c.args.now) c.requires c.steps.invariant

pub steps-smaller : goal.steps-smaller
steps-smaller g c = c.in_ok-step.ensures.less (not_told c.steps.self (sym c.steps-test.ensures))

pub steps-preserved : goal.steps-preserved
steps-preserved g c = reaches_on_next c.laws.ensures (shown c.args.self.now c.args.nodes.now c.args.who.now c.args.met.now c.args.now) (shown c.steps.self c.steps.nodes c.steps.who c.steps.met c.args.now)
    (shown c.step.new.self c.step.new.nodes c.step.new.who c.step.new.met c.args.now) c.steps.invariant c.in_ok-step.ensures.steps

pub returns : goal.returns
returns g c = reaches_end (shown c.args.self.now c.args.nodes.now c.args.who.now c.args.met.now c.args.now) (shown c.steps.self c.steps.nodes c.steps.who c.steps.met c.args.now) (sym c.steps-test.ensures) c.steps.invariant
