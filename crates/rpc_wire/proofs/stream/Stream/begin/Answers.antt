use Rattle.std.proofs.Common.{refl}
use Rattle.rpc_wire.proofs.FrameUndo.{grown_same}
use Rattle.rpc_wire.proofs.stream.Stream.begin.Goals as goal

pub returns-then-saturating_add-gt-LONGEST_MESSAGE-clause-grown : goal.returns-then-saturating_add-gt-LONGEST_MESSAGE-clause-grown
returns-then-saturating_add-gt-LONGEST_MESSAGE-clause-grown c = grown_same c.args.self.now _ refl refl
