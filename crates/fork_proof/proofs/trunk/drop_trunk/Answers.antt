use Rattle.std.proofs.Common.{rules}
use Rattle.std.proofs.lemmas.Fn.{filter_same}
use Rattle.fork_proof.specs.Trunks.{is_beyond}
use Rattle.fork_proof.proofs.trunk.drop_trunk.Goals as goal

pub returns : goal.returns
returns c = filter_same _ (is_beyond c.args.trunk.now) _ (λ x b f' k. search rules) _ _ c.retain.ensures.filtered
