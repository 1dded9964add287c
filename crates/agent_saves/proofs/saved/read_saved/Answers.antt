use Rattle.agent_saves.specs.Saves.{said}
use Rattle.agent_saves.proofs.HssSaves.{read_of_hss}
use Rattle.agent_saves.proofs.saved.read_saved.Goals as goal

pub returns : goal.returns
returns c = read_of_hss c.args.bytes.now said c.read.result c.read.ensures
