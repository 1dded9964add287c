use Rattle.std.proofs.Common.{subst}
use Rattle.log_fetch.specs.declared.trial.Concluded.{Concluded}
use Rattle.log_fetch.specs.Concluding.{ConcludesAs}
use Rattle.log_fetch.proofs.Trying.{ends_later}
use Rattle.log_fetch.proofs.trial.Trial.settle.Goals as goal

pub returns-in-Over-clause-settled : goal.returns-in-Over-clause-settled
returns-in-Over-clause-settled c =
    ends_later c.args.view.now c.args.edge.now c.in_ok-copy_of.field-0 c.args.self c.walks.trial c.args.batch.now c.walks.batch c.conclude-in-walks.new.batch c.in-Over.fault c.walks.invariant.batch c.in_ok-copy_of.ensures c.walks.invariant.goes_on
    (subst (λ (x : Concluded). ConcludesAs c.args.view.now c.in_ok-copy_of.field-0 c.walks.trial c.walks.batch c.conclude-in-walks.new.batch x) c.in-Over.is c.in_ok-next.ensures.concluded)
