use Rattle.std.proofs.Common.{rules, ◌≡◌, not, true, if◌then◌else◌, filter, sym, ap, ◌∙◌}
use Rattle.std.proofs.lemmas.Fn.{filter_same}
use Rattle.agent_model.specs.Agent.{is_head}
use Rattle.session_model.specs.Sessions.{is_log}
use Rattle.ivy_session.proofs.publishing.hold_back.Goals as goal

pub returns-then-eq : goal.returns-then-eq
returns-then-eq c =
    let is_record : is_log c.args.kind ≡ true = search rules in
    filter_same _ (λ p. not (is_head p.kind)) _ (λ x b f' k. search rules) _ _ c.retain.ensures.filtered
    ∙ sym (ap (λ b. if b then filter (λ p. not (is_head p.kind)) c.args.left.now.items else c.args.left.now.items) is_record)
