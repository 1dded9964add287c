use Rattle.ring_model.proofs.Settled.{few_stops_covered, stops_mended, join_finds, join_mended}
use Rattle.ring_model.proofs.laws.round_laws.Goals as goal

pub returns : goal.returns
returns g c = record {
  covered = few_stops_covered g.P.Placed.place;
  stops = stops_mended g.P.Placed.place;
  list = join_finds g.P.Placed.place;
  join = join_mended g.P.Placed.place;
}
