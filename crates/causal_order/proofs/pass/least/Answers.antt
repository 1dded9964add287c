use Rattle.std.proofs.Common.{◌+◌, ℕ, Option, sym, ap, ◌∙◌, subst, take}
use Rattle.std.specs.Prelude.{IfSome, IfNone}
use Rattle.version_vectors.specs.declared.rank.Rank.{Rank}
use Rattle.causal_order.specs.declared.log.Log.{Log}
use Rattle.causal_order.specs.Kept.{IsNextOf, HaveNone, lesser}
use Rattle.causal_order.proofs.Choosing.{one_more}
use Rattle.causal_order.proofs.pass.least.Goals as goal

pub logs-preserved : goal.logs-preserved
logs-preserved c = subst (λ (least : Option (ℕ × Rank)). IfSome least (IsNextOf c.args.logs.now (take (c.logs.i + 1) c.args.logs.now)) × IfNone least (HaveNone (take (c.logs.i + 1) c.args.logs.now)))
    (sym (c.lesser-least.ensures ∙ ap (λ (l : Log). lesser c.logs.least c.logs.i l.next) c.index-logs-i.is))
    (one_more c.args.logs.now c.logs.i c.index-logs-i.result c.logs-test.true c.logs.least c.logs.invariant)
