use Rattle.std.proofs.Common.{ℕ, List, ap}
use Rattle.wire_model.proofs.OneReading.{one_word, one_double_word}
use Rattle.wire_model.proofs.PartByPart.{◌▸◌, part, made_read}
use Rattle.nfs_model.proofs.OneArguments.{one_handle}
use Rattle.nfs3_args.proofs.PartsReading.{one_stable, data_read}
use Rattle.nfs3_args.proofs.Procedures.{made_write}
use Rattle.nfs3_args.proofs.nfs.read_write.Goals as goal

pub returns : goal.returns
returns c =
    let file = ap (λ (p : List ℕ × List ℕ). p.0) c.in_ok-file.ensures in
    let bytes = ap (λ (p : List ℕ × List ℕ). p.1) c.in_ok-file.ensures in
    rw (file, bytes) (made_read made_write (
    part one_handle c.opaque-file.ensures ▸ part one_double_word c.u64-offset.ensures ▸ part one_word c.u32-count.ensures ▸ part one_stable c.read_stable-stable.ensures ▸ data_read c.opaque-bytes.ensures
    )).reads
