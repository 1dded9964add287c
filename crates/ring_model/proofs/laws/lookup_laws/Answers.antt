use Rattle.ring_model.proofs.Lookups.{lookup_finds}
use Rattle.ring_model.proofs.Hops.{few_answers, settled_has_one}
use Rattle.ring_model.proofs.Routes.{route_is}
use Rattle.ring_model.proofs.laws.lookup_laws.Goals as goal

pub returns : goal.returns
returns g c = record {
  routes = route_is g.P.Placed.place;
  places = settled_has_one g.P.Placed.place;
  finds = lookup_finds g.P.Placed.place;
  short = few_answers g.P.Placed.place;
}
