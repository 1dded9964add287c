use Rattle.std.proofs.Common.{◌≡◌, List, sym, subst}
use Rattle.std.specs.Prelude.{All}
use Rattle.std.proofs.lemmas.List.Elements.{All-push}
use Rattle.fork_proof.specs.declared.walked.Walk.{Walk}
use Rattle.fork_proof.specs.Found.{HasNames}
use Rattle.fork_proof.proofs.Names.{tips_next}
use Rattle.fork_proof.proofs.walked.walks_down.Goals as goal

pub tips-preserved : goal.tips-preserved
tips-preserved c = record {
  tips = tips_next c.args.tips.now c.tips.walks.items c.push.new.self.items c.in_ok-walk.walk c.tips.tip-index _ c.tips-test.true c.in_ok-push.ensures.items c.tips.invariant.tips c.in_ok-walk.ensures.tip;
  names = subst (λ (ws : List Walk). All (HasNames c.args.blocks.now) ws) (sym c.in_ok-push.ensures.items)
      (All-push (HasNames c.args.blocks.now) c.tips.walks.items c.in_ok-walk.walk c.tips.invariant.names c.in_ok-walk.ensures.names);
}
