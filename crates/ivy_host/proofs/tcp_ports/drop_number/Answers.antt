use Rattle.std.proofs.Common.{rules, ◌==◌, ℕ, not}
use Rattle.std.proofs.lemmas.Fn.{filter_same}
use Rattle.ivy_host.proofs.tcp_ports.drop_number.Goals as goal

pub returns : goal.returns
returns c = filter_same _ (λ (other : ℕ). not (other == c.args.number)) _ (λ x b f' k. search rules) _ _ c.retain.ensures.filtered
