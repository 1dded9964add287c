use Rattle.std.proofs.Common.{◌∙◌, ap, sym}
use Rattle.session_steps.specs.Representing.{CallState}
use Rattle.session_steps.proofs.Lines.{shown_so}
use Rattle.session_steps.proofs.open.OpenCall.shown.Goals as goal

pub returns : goal.returns
returns c = shown_so c.args.self.now c.in-Some.told c.as_slice-notes.result.now c.new-text.result.items c.put_served.new.text.items c.put_notes.new.text.items c.put_notes-2.new.text.items
    (sym (ap (λ (call : CallState). call.told) c.self.view_is) ∙ c.in-Some.is)
    (c.as_slice-notes.ensures ∙ c.notes.ensures ∙ ap (λ (call : CallState). call.session.notes) c.self.view_is)
    c.new-text.ensures.items c.in_ok-put_served.ensures c.in_ok-put_notes.ensures c.in_ok-put_notes-2.ensures
