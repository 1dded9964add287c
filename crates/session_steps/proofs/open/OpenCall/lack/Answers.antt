use Rattle.std.proofs.Common.{Err, refl, ap}
use Rattle.log_fetch.specs.declared.turned.TurnFault.TheVariants as fault
use Rattle.session_steps.specs.Representing.{CallState}
use Rattle.session_steps.proofs.Parts.{told_so}
use Rattle.session_steps.proofs.open.OpenCall.lack.Goals as goal

pub returns : goal.returns
returns c who met = told_so (Err fault.Memory) c.args.self.now (record { session = c.turned.new.self; given = c.self.inside.given; told = c.self.inside.told }) who who met met c.self.inside.session
    (ap (λ (call : CallState). call.session) c.self.view_is) c.turned.ensures.turned c.turned.ensures.free c.turned.ensures.turning c.turned.ensures.left (ap (λ (call : CallState). call.told) c.self.view_is)
    (record { given = ap (λ (call : CallState). call.given) c.self.view_is; who = refl; blocks = refl })
