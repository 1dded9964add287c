use Rattle.std.proofs.Common.{◌≡◌, refl, ap, ◌∙◌}
use Rattle.fork_model.specs.Finding.{tip_of}
use Rattle.fork_proof.proofs.SignedTips.{tip_more, no_more}
use Rattle.fork_proof.proofs.tips.signed_heads.Goals as goal
use Rattle.fork_proof.proofs.tips.signed_heads.Goals.{in-Some+in_ok-push, in_default}

pub heads-preserved : goal.heads-preserved
heads-preserved c = elim c.match-read.branch [
  | in-Some+in_ok-push w ↦
      rw w.tips-is
      (tip_more c.args.heads.now c.heads.head-index c.head-item.result c.heads.tips.items w.push.new.self.items c.heads-test.true c.heads.invariant w.in-Some.tip w.in_ok-push.ensures.items
      (w.in-Some.ensures ∙ ap tip_of (c.as_slice.ensures ∙ c.head-item.is)))
  | in_default w ↦
      rw w.tips-is
      (no_more c.args.heads.now c.heads.head-index c.head-item.result c.heads.tips.items c.heads.tips.items c.heads-test.true c.heads.invariant refl (w.in_default.ensures ∙ ap tip_of (c.as_slice.ensures ∙ c.head-item.is)))
]
