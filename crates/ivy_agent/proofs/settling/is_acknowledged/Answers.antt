use Rattle.std.proofs.Common.{sym, ◌∙◌}
use Rattle.ivy_agent.specs.Settling.{known_name}
use Rattle.ivy_agent.proofs.Posts.{none_of}
use Rattle.ivy_agent.proofs.settling.is_acknowledged.Goals as goal

pub returns-else-has_key : goal.returns-else-has_key
returns-else-has_key c = c.if-has_key.false ∙ sym (none_of c.args.post.now.key (known_name c.args.post.now) c.args.acks.now (sym c.has_key.ensures ∙ c.if-has_key.false))
