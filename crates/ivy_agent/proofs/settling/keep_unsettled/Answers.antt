use Rattle.std.proofs.Common.{rules, not, ◌∙◌}
use Rattle.std.proofs.lemmas.Fn.{filter_same}
use Rattle.ivy_agent.specs.Settling.{is_known_settled}
use Rattle.ivy_agent.proofs.Known.{unsettled}
use Rattle.ivy_agent.proofs.settling.keep_unsettled.Goals as goal

pub returns : goal.returns
returns c = filter_same _ (λ p. not (is_known_settled c.args.acks.now p)) _ (λ x b f' k. search rules) _ _ c.retain.ensures.filtered ∙ unsettled c.args.acks.now c.args.posts.now.items c.requires
