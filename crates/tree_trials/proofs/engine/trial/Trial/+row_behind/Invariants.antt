use Rattle.tree_trials.proofs.engine.trial.Trial.+row_behind.Given as goal

abbrev pub decreases-row_behind : goal.decreases-row_behind
decreases-row_behind l = l.count
