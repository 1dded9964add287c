use Rattle.world_laws.proofs.Effects.{lines_have_effects, lines_show_texts}
use Rattle.world_laws.proofs.lines_have_effects.Goals as goal

pub returns-clause-effects : goal.returns-clause-effects
returns-clause-effects c = lines_have_effects

pub returns-clause-texts : goal.returns-clause-texts
returns-clause-texts c = lines_show_texts
