use Rattle.std.proofs.Common.{◌≡◌, ◌+◌, ◌-◌, ℕ, suc, subst, arith}
use Rattle.session_steps.specs.Representing.{shown}
use Rattle.session_steps.specs.Within.{Reaches}
use Rattle.session_steps.proofs.Many.{reached_configuration, reaches_all, reaches_first, reaches_next}
use Rattle.session_steps.proofs.open.OpenCall.step_on.Goals as goal

pub steps-init : goal.steps-init
steps-init g c left e =
    let old = shown c.args.self.now c.args.nodes.now c.args.who.now c.args.met.now c.args.now in
    let same : c.args.count ≡ left = omega (arith, e) in
    subst (λ (n : ℕ). Reaches n c.args.count old old) same (reaches_first c.args.count old)

pub step-requires : goal.step-requires
step-requires g c =
    let old = shown c.args.self.now c.args.nodes.now c.args.who.now c.args.met.now c.args.now in
    let some : c.args.count - c.steps.counter + c.steps.counter ≡ c.args.count = omega (arith, c.steps.auto.counter-end) in
    reached_configuration (c.args.count - c.steps.counter) c.args.count old (shown c.steps.self c.steps.nodes c.steps.who c.steps.met c.args.now) c.requires (c.steps.invariant (c.args.count - c.steps.counter) some)

pub steps-preserved : goal.steps-preserved
steps-preserved g c left e =
    let old = shown c.args.self.now c.args.nodes.now c.args.who.now c.args.met.now c.args.now in
    let more : suc left + c.steps.counter ≡ c.args.count = omega (arith, e) in
    reaches_next c.laws.ensures left c.args.count old (shown c.steps.self c.steps.nodes c.steps.who c.steps.met c.args.now) (shown c.step.new.self c.step.new.nodes c.step.new.who c.step.new.met c.args.now) (c.steps.invariant (suc left) more)
    c.in_ok-step.ensures.steps

pub returns : goal.returns
returns g c =
    let old = shown c.args.self.now c.args.nodes.now c.args.who.now c.args.met.now c.args.now in
    let all : 0 + c.steps.counter ≡ c.args.count = omega (arith, c.steps-test.false, c.steps.auto.counter-end) in
    reaches_all c.args.count old (shown c.steps.self c.steps.nodes c.steps.who c.steps.met c.args.now) (c.steps.invariant 0 all)
