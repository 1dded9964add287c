use Rattle.std.proofs.Common.{refl}
use Rattle.rpc_wire.proofs.FrameUndo.{grown_same, grown_whole}
use Rattle.rpc_wire.proofs.stream.Stream.stand_inside.Goals as goal

pub returns-then-not-last-clause-grown : goal.returns-then-not-last-clause-grown
returns-then-not-last-clause-grown c = grown_same c.args.self.now _ refl refl

pub returns-in_err-reserve-clause-grown : goal.returns-in_err-reserve-clause-grown
returns-in_err-reserve-clause-grown c = grown_same c.args.self.now _ c.reserve.ensures.items refl

pub returns-clause-grown : goal.returns-clause-grown
returns-clause-grown c = grown_whole c.args.self.now _ (cc) (cc)
