use Rattle.std.proofs.Common.{◌≡◌, take, drop, ◌++◌}
use Rattle.ring_model.specs.Circle.{number}
use Rattle.ring_model.specs.Route.{with_nearer}
use Rattle.dht_ids.specs.Peers.{place}
use Rattle.chord_core.proofs.route.place_among.Given as goal

abbrev pub invariant-loop-i : goal.invariant-loop-i
invariant-loop-i l = with_nearer place (number l.key) l.peer l.entries ≡ take l.i l.entries ++ with_nearer place (number l.key) l.peer (drop l.i l.entries)
