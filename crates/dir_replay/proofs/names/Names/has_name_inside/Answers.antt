use Rattle.dir_replay.proofs.Inside.{any_of_all}
use Rattle.dir_replay.proofs.names.Names.has_name_inside.Goals as goal

pub returns : goal.returns
returns c = any_of_all c.args.self.now c.laws.ensures.sound c.args.ino.now c.args.dir.now c.self.inside.nodes c.self.view_is c.any.result c.any.ensures
