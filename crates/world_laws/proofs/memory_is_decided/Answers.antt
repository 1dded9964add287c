use Rattle.world_laws.proofs.MemoryDecided as decided
use Rattle.world_laws.proofs.memory_is_decided.Goals as goal

pub returns : goal.returns
returns c = decided.memory_is_decided
