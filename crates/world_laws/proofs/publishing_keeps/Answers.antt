use Rattle.world_laws.proofs.Publishing.{publishing_keeps}
use Rattle.world_laws.proofs.WholePublishing.{whole_publishing_keeps}
use Rattle.world_laws.proofs.publishing_keeps.Goals as goal

pub returns-clause-step : goal.returns-clause-step
returns-clause-step c = publishing_keeps

pub returns-clause-whole : goal.returns-clause-whole
returns-clause-whole c = whole_publishing_keeps
