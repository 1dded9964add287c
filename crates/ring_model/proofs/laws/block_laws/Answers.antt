use Rattle.ring_model.proofs.Blocks.{owners_hold, others_drop, block_stays}
use Rattle.std.proofs.Common.{inr}
use Rattle.ring_model.proofs.laws.block_laws.Goals as goal

pub returns : goal.returns
returns g c = record {
  hold = λ owns same ns old new v z moved here least. owners_hold owns same v moved (inr (z, here, least));
  drop = λ owns same ns old new moved. others_drop owns same moved;
  stay = block_stays g.P.Placed.place;
}
