-- A script begins in a world in which the invariant holds.
use Rattle.std.proofs.Common.{refl, arith}
use Rattle.log_model.proofs.Lists.{in_nothing}
use Rattle.world_laws.specs.Laws.{EmptyKeeps}

pub empty_keeps : EmptyKeeps
empty_keeps = record {
  fits = record { participants = refl; sessions = refl };
  ring = (refl, refl, refl);
  met = record { held = tt; pending = tt; cached = tt; views = tt };
  peers = record { named = tt; apart = tt; few = omega arith; known = tt };
  signs = tt;
  saved = tt;
  entered = tt;
  apart = tt;
  named_once = tt;
  moment = record { sec = omega arith; nsec = omega arith };
  received = tt;
  numbers = record { apart = λ s t in_s in_t same. absurd (in_nothing s in_s); sessions = tt; turns = tt };
  said = tt;
  sound = λ apart. record { agents = tt; keepers = tt; to_load = tt; snapshots = tt; sessions = tt };
}
