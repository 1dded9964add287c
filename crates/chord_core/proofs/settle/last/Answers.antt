use Rattle.chord_core.proofs.Settling.{last_at, last_behind}
use Rattle.chord_core.proofs.settle.last.Goals as goal

pub returns-in-len1-up : goal.returns-in-len1-up
returns-in-len1-up c = last_at c.args.behind.now c.args.front.now _ c.in-len1-up.len_at_least

pub returns-in-len1-up-behind : goal.returns-in-len1-up-behind
returns-in-len1-up-behind c = last_behind c.args.behind.now c.args.front.now _ c.in_default.len_below c.in-len1-up-behind.len_at_least
