use Rattle.std.proofs.Common.{rules}
use Rattle.replay_engine.proofs.KeptRows.{row_left, new_taken, held_taken, both_taken, nothing_left}
use Rattle.replay_engine.proofs.greatest.take_greatest.Goals as goal

pub returns-in-Less-clause-new : goal.returns-in-Less-clause-new
returns-in-Less-clause-new c = row_left _ _ _ c.pop.ensures.items c.requires.new

pub returns-in-Less-clause-some : goal.returns-in-Less-clause-some
returns-in-Less-clause-some c = new_taken _ _ _ _ c.pop.ensures.items c.requires.held c.requires.new (search rules)

pub returns-in-Equal-clause-held : goal.returns-in-Equal-clause-held
returns-in-Equal-clause-held c = row_left _ _ _ c.pop-in-Equal-2.ensures.items c.requires.held

pub returns-in-Equal-clause-new : goal.returns-in-Equal-clause-new
returns-in-Equal-clause-new c = row_left _ _ _ c.pop-in-Equal.ensures.items c.requires.new

pub returns-in-Equal-clause-some : goal.returns-in-Equal-clause-some
returns-in-Equal-clause-some c =
    both_taken _ _ _ _ _ _ _ _ c.pop-in-Equal-2.ensures.items c.pop-in-Equal.ensures.items (search rules) c.pop-in-Equal.ensures.cases c.requires.held c.requires.new (search rules)

pub returns-in-Greater-clause-held : goal.returns-in-Greater-clause-held
returns-in-Greater-clause-held c = row_left _ _ _ c.pop-in-Greater.ensures.items c.requires.held

pub returns-in-Greater-clause-some : goal.returns-in-Greater-clause-some
returns-in-Greater-clause-some c = held_taken _ _ _ _ c.pop-in-Greater.ensures.items c.requires.new (search rules)

pub returns-in-Greater-clause-none : goal.returns-in-Greater-clause-none
returns-in-Greater-clause-none c = nothing_left _ _ _ _ _ (search rules) c.pop-in-Greater.ensures.cases (search rules)
