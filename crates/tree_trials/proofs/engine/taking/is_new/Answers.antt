use Rattle.std.proofs.Common.{subst}
use Rattle.std.proofs.lemmas.List.{take_all}
use Rattle.std.proofs.lemmas.List.Elements.{All-more}
use Rattle.std.specs.List.{All}
use Rattle.tree_trials.proofs.NewRecords.{IsOther}
use Rattle.tree_trials.proofs.engine.taking.is_new.Goals as goal

pub held-preserved : goal.held-preserved
held-preserved c =
    All-more (IsOther c.args.record.now) c.args.held.now c.held.other-index c.other-item.result c.held-test.true c.held.invariant
    (subst (IsOther c.args.record.now) c.other-item.is (c.differ.ensures c.if-not-differ.false))

pub returns : goal.returns
returns c = λ t. subst (All (IsOther c.args.record.now)) (take_all c.held.other-index c.args.held.now c.held-test.false) c.held.invariant
