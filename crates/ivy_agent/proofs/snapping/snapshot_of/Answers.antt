use Rattle.agent_model.specs.Others.{basis_of}
use Rattle.replay_engine.specs.Engines.{holding}
use Rattle.snapshot_store.specs.Puts.{basis_with}
use Rattle.ivy_agent.proofs.Snapped.{basis_is, is_snapshot}
use Rattle.ivy_agent.proofs.snapping.snapshot_of.Goals as goal

pub returns : goal.returns
returns c =
    is_snapshot c.args.pending.now c.in_ok-made.made.blocks.items c.args.view.now (basis_with c.args.front.now c.in_ok-tide.tide c.tree.result.now) (basis_of (holding c.args.engine.now))
    (basis_is (holding c.args.engine.now) c.args.front.now c.in_ok-tide.tide c.tree.result.now c.requires c.in_ok-tide.ensures c.tree.ensures) c.in_ok-made.made.root c.in_ok-with_blocks.field-0
    c.in_ok-made.ensures.root c.in_ok-made.ensures.blocks c.in_ok-with_blocks.ensures.posts c.in_ok-with_blocks.ensures.few c.in_ok-with_blocks.ensures.new
