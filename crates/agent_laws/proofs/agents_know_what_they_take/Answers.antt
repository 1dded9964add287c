use Rattle.std.proofs.Common.{refl}
use Rattle.agent_laws.proofs.Floors.{joined_known}
use Rattle.agent_laws.proofs.Sets.{holds_written}
use Rattle.agent_laws.proofs.agents_know_what_they_take.Goals as goal

pub returns-clause-floor : goal.returns-clause-floor
returns-clause-floor c = λ view floor known set well by_floor more closed. joined_known view well floor known set by_floor more closed

pub returns-clause-held : goal.returns-clause-held
returns-clause-held c = λ view x h asked now set written holds is. holds_written view x.own set h holds x refl asked now written is
