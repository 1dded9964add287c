use Rattle.dht_ids.specs.Peers.{place}
use Rattle.ring_model.specs.Circle.{number}
use Rattle.chord_core.proofs.Nearer.{put_more}
use Rattle.chord_core.proofs.route.put_all.Goals as goal

pub loop-i-preserved : goal.loop-i-preserved
loop-i-preserved c = rw c.in_ok-put_inside.ensures (put_more place c.args.me (number c.args.key.now) c.args.peers.now c.args.found.now.items c.loop-i.i c.loop-i.found.items _ c.loop-i-test.true c.loop-i.invariant)
