use Rattle.ring_model.specs.Circle.{number}
use Rattle.dht_ids.specs.Peers.{place}
use Rattle.chord_core.proofs.Settling.{first_at, first_over_zero}
use Rattle.chord_core.proofs.settle.first_from.Goals as goal

pub returns-then-at-live : goal.returns-then-at-live
returns-then-at-live c = first_at place c.args.live.now (number c.args.key.now) c.count_before-at.result _ c.if-at-live.true c.count_before-at.ensures.front c.count_before-at.ensures.back

pub returns-else-at-live : goal.returns-else-at-live
returns-else-at-live c = first_over_zero place c.args.live.now (number c.args.key.now) c.count_before-at.result _ c.requires.some c.if-at-live.false c.count_before-at.ensures.front c.count_before-at.ensures.back
