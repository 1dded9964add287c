use Rattle.std.proofs.Common.{subst}
use Rattle.log_fetch.specs.Stepping.{Takes}
use Rattle.log_fetch.proofs.Stepping.{free_leaves, stands_ended}
use Rattle.log_fetch.proofs.fetch.stand.Goals as goal

pub returns-in-Takes-clause-left : goal.returns-in-Takes-clause-left
returns-in-Takes-clause-left g c = free_leaves g.row.J.Denot c.args.gather c.take.new.gather c.args.came c.in-Takes.block (subst (Takes c.args.gather c.args.came c.take.new.gather) c.in-Takes.is c.in_ok-block.ensures)

pub returns-in_ok-fail-in-Fails-clause-stands : goal.returns-in_ok-fail-in-Fails-clause-stands
returns-in_ok-fail-in-Fails-clause-stands g c =
    stands_ended g.row.J.Denot c.args.gather c.take.new.gather c.args.came c.in-Fails.miss (subst (Takes c.args.gather c.args.came c.take.new.gather) c.in-Fails.is c.in_ok-block.ensures) c.in_ok-fail-in-Fails.field-0 c.in_ok-fail-in-Fails.ensures
