use Rattle.std.proofs.Common.{◌<◌, ◌⊎◌, inl, inr, arith}
use Rattle.wire_model.proofs.OneReading.{one_word}
use Rattle.wire_model.proofs.PartByPart.{◌▸◌, part}
use Rattle.nfs_model.proofs.OneArguments.{one_set_what}
use Rattle.nfs3_args.proofs.AttributesReading.{plain_12, plain_5, device_34, other_67, plain_read, device_read, other_read, no_such_node}
use Rattle.nfs3_args.proofs.attributes.read_node.Goals.{in_default-via-then-kind-lt1, in_default-via-else-kind-lt1+else-kind-lt3+else-kind-lt5+else-kind-lt8}
use Rattle.nfs3_args.proofs.attributes.read_node.Goals as goal

pub returns-in-3 : goal.returns-in-3
returns-in-3 c =
    device_read c.u32-kind.ensures (device_34 (omega arith) (omega arith))
    (part one_set_what c.read_set_what-what.ensures ▸ part one_word c.u32-major.ensures ▸ part one_word c.u32-minor.ensures).reads

pub returns-in-6 : goal.returns-in-6
returns-in-6 c = other_read c.u32-kind.ensures (other_67 (omega arith) (omega arith)) c.read_set_what-what-in-6.ensures

pub returns-in_default : goal.returns-in_default
returns-in_default c =
    let h : (c.u32-kind.result < 1) ⊎ (7 < c.u32-kind.result) = elim c.in_default.branch [
      | in_default-via-then-kind-lt1 w ↦ inl (omega arith)
      | in_default-via-else-kind-lt1+else-kind-lt3+else-kind-lt5+else-kind-lt8 w ↦ inr (omega arith)
    ] in
    no_such_node c.u32-kind.ensures h c.miss.ensures

pub returns-in-1 : goal.returns-in-1
returns-in-1 c = plain_read c.u32-kind.ensures (plain_5 c.in-1.is)

pub returns-in-1-2 : goal.returns-in-1-2
returns-in-1-2 c = plain_read c.u32-kind.ensures (plain_12 (omega arith) (omega arith))
