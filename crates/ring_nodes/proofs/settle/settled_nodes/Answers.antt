use Rattle.std.proofs.Common.{sym, subst}
use Rattle.round_laws.specs.RingOf.{AreApart}
use Rattle.ring_nodes.proofs.Settling.{first_apart}
use Rattle.ring_nodes.proofs.settle.settled_nodes.Goals as goal

pub settled-requires-clause-apart : goal.settled-requires-clause-apart
settled-requires-clause-apart c = subst AreApart (sym c.in_ok-members.ensures) (first_apart c.args.count)
