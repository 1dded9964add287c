use Rattle.std.proofs.Common.{None, ◌∙◌}
use Rattle.dhash_repair.proofs.Repairing.{begun_behind}
use Rattle.dhash_repair.proofs.repair.Repair.start.Goals as goal

pub returns-clause-after : goal.returns-clause-after
returns-clause-after c =
    begun_behind c.args.node c.args.held c.args.replicas _
    (λ i. record { node = c.args.node; replicas = c.args.replicas; put = None; left = (c.from.ensures.0 ∙ c.into_vec.ensures) i; dropped = c.new.ensures.items i })
