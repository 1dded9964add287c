use Rattle.std.proofs.Common.{◌≡◌, Some, None, ap, ◌∙◌}
use Rattle.ivy_base.specs.declared.key.Key.{Key}
use Rattle.dhash_model.specs.Signed.{hss_judged}
use Rattle.fork_proof.proofs.SignedTips.{no_tip, tip_said}
use Rattle.fork_proof.proofs.tips.Tip.read.Goals as goal

pub returns-in_err-head : goal.returns-in_err-head
returns-in_err-head c = rw c.from_residual.ensures (no_tip c.args.bytes.now c.in_err-head.ensures.none)

pub returns-in_err-seq : goal.returns-in_err-seq
returns-in_err-seq c =
    rw c.from_residual-in_err-seq.ensures
    (tip_said c.args.bytes.now c.in_ok-head.head.owner _ _ c.in_ok-head.ensures.some None (c.in_err-seq.ensures ∙ ap (λ (k : Key). hss_judged k c.args.bytes.now) c.head_key.ensures))

pub returns : goal.returns
returns c =
    tip_said c.args.bytes.now c.in_ok-head.head.owner _ _ c.in_ok-head.ensures.some (Some c.in_ok-seq.field-0)
    (c.in_ok-seq.ensures ∙ ap (λ (k : Key). hss_judged k c.args.bytes.now) c.head_key.ensures)
