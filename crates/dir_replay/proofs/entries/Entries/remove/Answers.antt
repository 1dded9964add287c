use Rattle.std.proofs.Common.{◌∙◌}
use Rattle.dir_replay.proofs.Without.{without_turned}
use Rattle.dir_replay.proofs.entries.Entries.remove.Goals as goal

pub returns-clause-ok : goal.returns-clause-ok
returns-clause-ok c = rw (← c.self.view_is) (c.in_ok-remove.ensures.ok ∙ without_turned c.args.name.now c.self.inside.map)
