use Rattle.std.proofs.Common.{ℕ, ◌<◌, Err, sym, ap, ◌∙◌, subst}
use Rattle.std.proofs.lemmas.Bool.{lt-ltb}
use Rattle.session_steps.specs.Representing.{CallState}
use Rattle.session_steps.proofs.Arms.{on_ok}
use Rattle.session_steps.proofs.Parts.{refused_so, told_so}
use Rattle.session_steps.proofs.open.OpenCall.refuse.Goals as goal

pub returns : goal.returns
returns c = on_ok c.begun_again.result
    (λ begun. told_so (Err c.args.fault) c.args.self.now (record { session = c.turned.new.self; given = c.self.inside.given; told = c.self.inside.told }) c.args.who.now c.count_made.new.who c.args.met.now c.count_made.new.met
    c.self.inside.session (ap (λ (call : CallState). call.session) c.self.view_is) c.turned.ensures.turned c.turned.ensures.free c.turned.ensures.turning c.turned.ensures.left (ap (λ (call : CallState). call.told) c.self.view_is)
    (refused_so c.args.fault c.args.self.now (record { session = c.turned.new.self; given = c.self.inside.given; told = c.self.inside.told }) c.args.who.now c.count_made.new.who c.args.met.now c.count_made.new.met c.requires.refused
    c.in_ok-count_made.ensures
    (record {
      given = ap (λ (call : CallState). call.given) c.self.view_is;
      begins = λ few. begun (c.may_begin_again-may_begin_again.ensures ∙ lt-ltb c.self.inside.session.starts 2 (subst (λ (n : ℕ). n < 2) (sym (ap (λ (call : CallState). call.session.starts) c.self.view_is)) few));
    })))
    c.begun_again.ensures
