use Rattle.std.proofs.Common.{List, [], sym, subst}
use Rattle.std.specs.List.{AllByRecursion}
use Rattle.log_model.specs.Vector.{Stamp, Vector}
use Rattle.log_model.specs.Record.{Record}
use Rattle.causal_order.specs.Available.{IsFetched}
use Rattle.format_trials.proofs.gather.part_of.Goals as goal

pub closed_part-requires-clause-fetched : goal.closed_part-requires-clause-fetched
closed_part-requires-clause-fetched c = subst (λ (v : Vector). AllByRecursion (λ (p : Stamp × List Record). IsFetched c.args.view.now v [] p.1) c.args.batch.chains) (sym c.empty-front.ensures) c.requires
