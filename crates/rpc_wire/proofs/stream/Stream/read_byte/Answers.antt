use Rattle.std.proofs.Common.{[], ◌∷◌, refl}
use Rattle.rpc_wire.proofs.FrameUndo.{grown_same}
use Rattle.rpc_wire.proofs.FrameCode.{first_byte, second_byte, third_byte, fourth_byte, too_long_stays}
use Rattle.rpc_wire.proofs.stream.Stream.read_byte.Goals as goal

pub returns-in-Between-clause-ok : goal.returns-in-Between-clause-ok
returns-in-Between-clause-ok c = first_byte c.args.self.now c.args.byte c.in-Between.is c.requires

pub returns-in-Between-clause-grown : goal.returns-in-Between-clause-grown
returns-in-Between-clause-grown c = grown_same c.args.self.now _ refl refl

pub returns-in-One-clause-ok : goal.returns-in-One-clause-ok
returns-in-One-clause-ok c = second_byte c.args.self.now c.in-One.a c.args.byte c.in-One.is

pub returns-in-One-clause-grown : goal.returns-in-One-clause-grown
returns-in-One-clause-grown c = grown_same c.args.self.now _ refl refl

pub returns-in-Two-clause-ok : goal.returns-in-Two-clause-ok
returns-in-Two-clause-ok c = third_byte c.args.self.now c.in-Two.a c.in-Two.b c.args.byte c.in-Two.is

pub returns-in-Two-clause-grown : goal.returns-in-Two-clause-grown
returns-in-Two-clause-grown c = grown_same c.args.self.now _ refl refl

pub returns-in_ok-begin-in-Three-clause-ok : goal.returns-in_ok-begin-in-Three-clause-ok
returns-in_ok-begin-in-Three-clause-ok c = fourth_byte c.args.self.now c.in-Three.a c.in-Three.b c.in-Three.c c.args.byte _ c.in-Three.is c.in_ok-begin-in-Three.ensures.ok

pub returns-in-TooLong-clause-ok : goal.returns-in-TooLong-clause-ok
returns-in-TooLong-clause-ok c = too_long_stays c.args.self.now (c.args.byte ∷ []) c.in-TooLong.is

pub returns-in-TooLong-clause-grown : goal.returns-in-TooLong-clause-grown
returns-in-TooLong-clause-grown c = grown_same c.args.self.now _ refl refl
