use Rattle.std.proofs.Common.{rules, not, ◌==◌}
use Rattle.std.proofs.lemmas.Fn.{filter_same}
use Rattle.ring_run.proofs.changing.drop_number.Goals as goal

pub returns : goal.returns
returns c = filter_same _ (λ s. not (s.peer.number == c.args.number)) _ (λ x b f' k. search rules) _ _ c.retain.ensures.filtered
