use Rattle.std.proofs.Common.{arith}
use Rattle.std.proofs.lemmas.Result.{err_from_is_err_and}
use Rattle.ivy_session.proofs.Available.{has_taken, lacks_block, leaves_no_more, takes_on}
use Rattle.ivy_session.proofs.Taken.{none_yet}
use Rattle.ivy_session.proofs.hand.take_all.Goals as goal

pub blocks-2-init : goal.blocks-2-init
blocks-2-init g c = record { taken = none_yet g.J.Judge.judges c.args.refresh.now c.args.cache.now; left = omega arith }

pub blocks-2-preserved : goal.blocks-2-preserved
blocks-2-preserved g c =
    record {
      taken = takes_on g.J.Judge.judges c.args.refresh.now c.blocks-2.refresh c.take_one.new.refresh c.args.cache.now c.blocks-2.cache c.take_one.new.cache c.blocks-2.invariant.taken c.in_ok-take_one.field-0 c.in_ok-take_one.ensures c.if-branch.true;
      left = leaves_no_more g.J.Judge.judges c.args.refresh.now c.blocks-2.refresh c.take_one.new.refresh c.args.cache.now c.blocks-2.cache c.take_one.new.cache c.blocks-2.invariant.taken c.in_ok-take_one.field-0 c.in_ok-take_one.ensures c.blocks-2.invariant.left;
    }

pub returns-in_err-take_one-clause-taken : goal.returns-in_err-take_one-clause-taken
returns-in_err-take_one-clause-taken g c =
    let p = err_from_is_err_and c.from_residual.result c.from_residual.ensures.1 in
    lacks_block g.J.Judge.judges c.args.refresh.now c.blocks-2.refresh c.take_one.new.refresh c.args.cache.now c.blocks-2.cache c.take_one.new.cache c.blocks-2.invariant.taken p.0 c.in_err-take_one.ensures c.from_residual.result p.1

pub returns-clause-taken : goal.returns-clause-taken
returns-clause-taken g c = has_taken g.J.Judge.judges c.args.refresh.now c.blocks-2.refresh c.take_one.new.refresh c.args.cache.now c.blocks-2.cache c.take_one.new.cache c.blocks-2.invariant.taken c.in_ok-take_one.field-0 c.in_ok-take_one.ensures c.if-branch.false

pub returns-clause-left : goal.returns-clause-left
returns-clause-left g c =
    leaves_no_more g.J.Judge.judges c.args.refresh.now c.blocks-2.refresh c.take_one.new.refresh c.args.cache.now c.blocks-2.cache c.take_one.new.cache c.blocks-2.invariant.taken c.in_ok-take_one.field-0 c.in_ok-take_one.ensures c.blocks-2.invariant.left
