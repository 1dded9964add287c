use Rattle.std.proofs.Common.{rules}
use Rattle.chord_core.proofs.Settling.{take_both}
use Rattle.chord_core.proofs.settle.next.Goals as goal

pub returns : goal.returns
returns c = search (rules, take_both)
