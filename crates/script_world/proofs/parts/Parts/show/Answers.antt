use Rattle.script_world.proofs.Telling.{shows_told}
use Rattle.script_world.proofs.parts.Parts.show.Goals as goal

pub returns : goal.returns
returns c = shows_told c.args.what.now c.args.self.now c.show_by.result c.show_by.ensures
