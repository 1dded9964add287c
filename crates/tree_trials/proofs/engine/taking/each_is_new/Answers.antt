use Rattle.std.proofs.Common.{subst}
use Rattle.std.proofs.lemmas.List.{take_all}
use Rattle.std.proofs.lemmas.List.Elements.{All-more}
use Rattle.std.specs.List.{All}
use Rattle.tree_trials.proofs.NewRecords.{IsNew}
use Rattle.tree_trials.proofs.engine.taking.each_is_new.Goals as goal

pub more-preserved : goal.more-preserved
more-preserved c =
    All-more (IsNew c.args.held.now) c.args.more.now c.more.record-index c.record-item.result c.more-test.true c.more.invariant
    (subst (IsNew c.args.held.now) c.record-item.is (c.is_new.ensures c.if-not-is_new.false))

pub returns : goal.returns
returns c = λ t. subst (All (IsNew c.args.held.now)) (take_all c.more.record-index c.args.more.now c.more-test.false) c.more.invariant
