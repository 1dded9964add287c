use Rattle.std.proofs.Common.{rules, not}
use Rattle.std.proofs.lemmas.Fn.{filter_same}
use Rattle.agent_model.specs.Agent.{is_head}
use Rattle.ivy_agent.proofs.posting.drop_heads.Goals as goal

pub returns : goal.returns
returns c = filter_same _ (λ p. not (is_head p.kind)) _ (λ x b f' k. search rules) _ _ c.retain.ensures.filtered
