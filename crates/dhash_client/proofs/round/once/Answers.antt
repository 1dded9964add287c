use Rattle.std.proofs.Common.{rules, ap, ◌∙◌}
use Rattle.dhash_client.proofs.Rounds.{once_begins, once_again, once_new}
use Rattle.dhash_client.proofs.round.once.Goals as goal
use Rattle.dhash_client.proofs.round.once.Goals.{then-not-was_asked+in_ok-push, else-not-was_asked}

pub loop-peer-init : goal.loop-peer-init
loop-peer-init c = once_begins c.args.peers.now c.new-once.result.items c.new-once.ensures.items

pub loop-peer-preserved : goal.loop-peer-preserved
loop-peer-preserved c =
    elim c.if-not-was_asked.branch [
      | then-not-was_asked+in_ok-push w ↦ once_new c.args.peers.now c.loop-peer.once.items c.deref.result.now c.if-not-was_asked.once.items c.loop-peer.peer-index _ (search rules) c.deref.ensures.value c.loop-peer.invariant w.if-not-was_asked.ensures (ap (λ v. v.items) w.once-is ∙ w.in_ok-push.ensures.items)
      | else-not-was_asked w ↦ once_again c.args.peers.now c.loop-peer.once.items c.deref.result.now c.if-not-was_asked.once.items c.loop-peer.peer-index _ (search rules) c.deref.ensures.value c.loop-peer.invariant w.if-not-was_asked.ensures (ap (λ v. v.items) w.once-is)
    ]
