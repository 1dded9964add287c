use Rattle.calm_laws.proofs.Durable.{ring_stays}
use Rattle.calm_laws.proofs.rings_stay.Goals as goal

pub returns : goal.returns
returns c = ring_stays
