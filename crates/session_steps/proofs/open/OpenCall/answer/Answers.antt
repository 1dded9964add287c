use Rattle.std.proofs.Common.{Ok, sym, ap, ◌∙◌, subst}
use Rattle.command_messages.specs.Reading.{GivesParts}
use Rattle.script_model.specs.Messages.{Given}
use Rattle.session_steps.specs.Representing.{CallState}
use Rattle.session_steps.proofs.Parts.{told_so}
use Rattle.session_steps.proofs.open.OpenCall.answer.Goals as goal

pub returns : goal.returns
returns c = told_so (Ok c.args.turned) c.args.self.now (record { session = c.turned.new.self; given = c.self.inside.given; told = c.self.inside.told }) c.args.who.now c.count_made.new.who c.args.met.now c.count_made.new.met c.self.inside.session
    (ap (λ (call : CallState). call.session) c.self.view_is ∙ c.read.ensures.session) c.turned.ensures.turned c.turned.ensures.free c.turned.ensures.turning c.turned.ensures.left
    (ap (λ (call : CallState). call.told) c.self.view_is ∙ c.read.ensures.told) (
      c.in_ok-count_made.ensures,
      λ asked at. subst (λ (given : Given). GivesParts asked.args c.args.turned.reply given) (sym (ap (λ (call : CallState). call.given) c.self.view_is)) (c.in_ok-read.ensures.given asked at),
    )
