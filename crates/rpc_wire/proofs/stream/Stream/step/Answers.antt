use Rattle.std.proofs.Common.{◌≤◌, length, refl, arith}
use Rattle.std.proofs.lemmas.List.{take_rest}
use Rattle.rpc_wire.proofs.FrameUndo.{grown_same}
use Rattle.rpc_wire.proofs.FrameCode.{some_bytes, one_byte}
use Rattle.rpc_wire.proofs.stream.Stream.step.Goals as goal

pub returns-in_err-extend_from_slice-in-Inside-clause-grown : goal.returns-in_err-extend_from_slice-in-Inside-clause-grown
returns-in_err-extend_from_slice-in-Inside-clause-grown c = grown_same c.args.self.now _ refl c.in_err-extend_from_slice-in-Inside.ensures.items

pub returns-in_ok-stand_inside-in-Inside-clause-ok : goal.returns-in_ok-stand_inside-in-Inside-clause-ok
returns-in_ok-stand_inside-in-Inside-clause-ok c =
    let within : c.min-count.result ≤ length c.args.piece.now = omega arith in
    some_bytes c.args.self.now c.in-Inside.last c.in-Inside.left _ c.args.piece.now _ _ _ c.in-Inside.is (omega arith) (omega arith) within (c.in_ok-extend_from_slice-in-Inside.ensures.items) (take_rest c.args.piece.now c.min-count.result) c.in_ok-stand_inside-in-Inside.ensures.ok

pub returns-in_ok-read_byte-in_default-clause-ok : goal.returns-in_ok-read_byte-in_default-clause-ok
returns-in_ok-read_byte-in_default-clause-ok c = one_byte _ _ c.args.piece.now _ _ c.requires refl (take_rest c.args.piece.now 1) c.in_ok-read_byte-in_default.ensures.ok
