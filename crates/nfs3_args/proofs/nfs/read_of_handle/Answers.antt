use Rattle.std.proofs.Common.{◌≡◌, arith}
use Rattle.wire_model.proofs.OneReading.{one_word, one_double_word}
use Rattle.wire_model.proofs.PartByPart.{◌▸◌, part, made_read}
use Rattle.nfs_model.proofs.OneArguments.{one_handle, one_set_what, one_verifier}
use Rattle.nfs3_args.proofs.PartsReading.{one_guard}
use Rattle.nfs3_args.proofs.Procedures.{numbered, made_getattr, made_setattr, made_access, made_readlink, made_reading, made_readdir, made_readdirplus, made_fsstat, made_fsinfo, made_pathconf, made_commit}
use Rattle.nfs3_args.proofs.nfs.read_of_handle.Goals as goal

pub returns-in-1 : goal.returns-in-1
returns-in-1 c = rw c.in_ok-object.ensures (numbered c.in-1.is (made_read made_getattr (part one_handle c.opaque-handle.ensures)).reads)

pub returns-in-2 : goal.returns-in-2
returns-in-2 c = rw c.in_ok-object.ensures (numbered c.in-2.is (made_read made_setattr (part one_handle c.opaque-handle.ensures ▸ part one_set_what c.read_set_what-what.ensures ▸ part one_guard c.read_optional_moment-guard.ensures)).reads)

pub returns-in-4 : goal.returns-in-4
returns-in-4 c = rw c.in_ok-object.ensures (numbered c.in-4.is (made_read made_access (part one_handle c.opaque-handle.ensures ▸ part one_word c.u32.ensures)).reads)

pub returns-in-5 : goal.returns-in-5
returns-in-5 c = rw c.in_ok-object.ensures (numbered c.in-5.is (made_read made_readlink (part one_handle c.opaque-handle.ensures)).reads)

pub returns-in-6 : goal.returns-in-6
returns-in-6 c = rw c.in_ok-object.ensures (numbered c.in-6.is (made_read made_reading (part one_handle c.opaque-handle.ensures ▸ part one_double_word c.u64-offset.ensures ▸ part one_word c.u32-count.ensures)).reads)

pub returns-in-16 : goal.returns-in-16
returns-in-16 c = rw c.in_ok-object.ensures (numbered c.in-16.is (made_read made_readdir (part one_handle c.opaque-handle.ensures ▸ part one_double_word c.u64-cookie.ensures ▸ part one_verifier c.eight-verifier.ensures ▸ part one_word c.u32-count-in-16.ensures)).reads)

pub returns-in-17 : goal.returns-in-17
returns-in-17 c = rw c.in_ok-object.ensures (numbered c.in-17.is (made_read made_readdirplus (part one_handle c.opaque-handle.ensures ▸ part one_double_word c.u64-cookie-in-17.ensures ▸ part one_verifier c.eight-verifier-in-17.ensures ▸ part one_word c.u32-dircount.ensures ▸ part one_word c.u32-maxcount.ensures)).reads)

pub returns-in-18 : goal.returns-in-18
returns-in-18 c = rw c.in_ok-object.ensures (numbered c.in-18.is (made_read made_fsstat (part one_handle c.opaque-handle.ensures)).reads)

pub returns-in-19 : goal.returns-in-19
returns-in-19 c = rw c.in_ok-object.ensures (numbered c.in-19.is (made_read made_fsinfo (part one_handle c.opaque-handle.ensures)).reads)

pub returns-in-20 : goal.returns-in-20
returns-in-20 c = rw c.in_ok-object.ensures (numbered c.in-20.is (made_read made_pathconf (part one_handle c.opaque-handle.ensures)).reads)

pub returns-in_default : goal.returns-in_default
returns-in_default c =
    let last : c.args.procedure ≡ 21 = grind (arith, c.requires) in
    rw c.in_ok-object.ensures (numbered last (made_read made_commit (part one_handle c.opaque-handle.ensures ▸ part one_double_word c.u64-offset-in_default.ensures ▸ part one_word c.u32-count-in_default.ensures)).reads)
