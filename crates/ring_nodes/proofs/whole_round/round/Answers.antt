use Rattle.std.proofs.Common.{◌∙◌}
use Rattle.ring_nodes.specs.NodesState.{made_peers}
use Rattle.ring_nodes.proofs.Whole.{is_round, order_made, still_made}
use Rattle.ring_nodes.proofs.whole_round.round.Goals as goal

pub forget_silent-requires : goal.forget_silent-requires
forget_silent-requires g c = order_made c.args.nodes.now c.deref.result.now (c.deref.ensures.value ∙ c.in_ok-live.ensures)

pub renew_lists-requires-clause-made : goal.renew_lists-requires-clause-made
renew_lists-requires-clause-made g c = still_made (made_peers c.args.nodes.now) (made_peers c.forget_silent.new.nodes) c.deref-2.result.now c.forget_silent.ensures.made (order_made c.args.nodes.now c.deref-2.result.now (c.deref-2.ensures.value ∙ c.in_ok-live.ensures))

pub fix_fingers-requires : goal.fix_fingers-requires
fix_fingers-requires g c = still_made (made_peers c.args.nodes.now) (made_peers c.renew_lists.new.nodes) c.deref-3.result.now (c.renew_lists.ensures.made ∙ c.forget_silent.ensures.made) (order_made c.args.nodes.now c.deref-3.result.now (c.deref-3.ensures.value ∙ c.in_ok-live.ensures))

pub move_blocks-requires : goal.move_blocks-requires
move_blocks-requires g c = still_made (made_peers c.args.nodes.now) (made_peers c.fix_fingers.new.nodes) c.deref-4.result.now (c.fix_fingers.ensures.made ∙ c.renew_lists.ensures.made ∙ c.forget_silent.ensures.made) (order_made c.args.nodes.now c.deref-4.result.now (c.deref-4.ensures.value ∙ c.in_ok-live.ensures))

pub returns-clause-round : goal.returns-clause-round
returns-clause-round g c =
    is_round (g.J.Judge.judges c.args.judge.now) c.args.replicas c.args.nodes.now c.forget_silent.new.nodes c.renew_lists.new.nodes c.fix_fingers.new.nodes c.move_blocks.new.nodes c.deref.result.now c.deref-2.result.now c.deref-3.result.now c.deref-4.result.now c.move_blocks.result (c.deref.ensures.value ∙ c.in_ok-live.ensures) (c.deref-2.ensures.value ∙ c.in_ok-live.ensures) (c.deref-3.ensures.value ∙ c.in_ok-live.ensures) (c.deref-4.ensures.value ∙ c.in_ok-live.ensures)
    c.in_ok-forget_silent.ensures.forgets c.in_ok-renew_lists.ensures.passes c.in_ok-fix_fingers.ensures.fixes c.move_blocks.ensures.repairs
