-- No record is too long.
use Rattle.std.proofs.Common.{◌≡◌, ℕ, ◌+◌, ◌≤◌, List, ◌++◌, length, arith, length-append}
use Rattle.std.specs.Prelude.{Option, Some, None}
use Rattle.ivy_base.specs.declared.operation.Moment.{Moment}
use Rattle.ivy_base.specs.declared.operation.Op.{Op}
use Rattle.ivy_base.specs.declared.operation.Op.TheVariants as op
use Rattle.ivy_base.specs.Naming.{head_key_of}
use Rattle.ivy_base.proofs.NameLemmas.{length-digest}
use Rattle.wire_model.specs.Xdr.{word, double_word, opaque, optional, moment, array}
use Rattle.xdr_codec.proofs.Lengths.{length-opaque}
use Rattle.log_model.specs.Spelling.{kind_number, record_tag, record_kind, body, vector_entry, OperationFits}
use Rattle.version_vectors.proofs.Lengths.{length-vector}
use Rattle.log_records.specs.Laws.{RecordsAreShort}
use Rattle.log_records.proofs.OneBody.{target_fits}

opaque_most : (bytes : List ℕ) → length (opaque bytes) ≤ length bytes + 7
opaque_most bytes = omega (arith, length-opaque bytes)

words : (o : Option ℕ) → length (optional word o) ≤ 8
words None = omega arith
words (Some n) = omega arith

double_words : (o : Option ℕ) → length (optional double_word o) ≤ 12
double_words None = omega arith
double_words (Some n) = omega arith

moments : (o : Option Moment) → length (optional moment o) ≤ 12
moments None = omega arith
moments (Some m) = omega arith

three : (a b c : List ℕ) → length (a ++ b ++ c) ≡ length a + length b + length c
three a b c = omega (arith, length-append (a ++ b) c, length-append a b)

four : (a b c d : List ℕ) → length (a ++ b ++ c ++ d) ≡ length a + length b + length c + length d
four a b c d = omega (arith, length-append (a ++ b ++ c) d, three a b c)

seven : (a b c d e f g : List ℕ) → length (a ++ b ++ c ++ d ++ e ++ f ++ g) ≡ length a + length b + length c + length d + length e + length f + length g
seven a b c d e f g = omega (arith, length-append (a ++ b ++ c ++ d ++ e ++ f) g, length-append (a ++ b ++ c ++ d ++ e) f, length-append (a ++ b ++ c ++ d) e, four a b c d)

six : (a b c d e f : List ℕ) → length (a ++ b ++ c ++ d ++ e ++ f) ≡ length a + length b + length c + length d + length e + length f
six a b c d e f = omega (arith, length-append (a ++ b ++ c ++ d ++ e) f, length-append (a ++ b ++ c ++ d) e, four a b c d)

body_short : (o : Op) → OperationFits o → length (body o) ≤ 8300
body_short (op.Inode number kind mode uid gid target) f =
    omega (arith, six number.0 (word (kind_number kind)) (word mode) (word uid) (word gid) (opaque target), opaque_most target, target_fits kind target f.4, f.0.size)
body_short (op.Write number offset bytes) f = omega (arith, three number.0 (double_word offset) (opaque bytes), opaque_most bytes, f.2, f.0.size)
body_short (op.Link dir name number) f = omega (arith, three dir.0 (opaque name) number.0, opaque_most name, f.0.size, f.1.short, f.2.size)
body_short (op.Unlink dir name) f = omega (arith, length-append dir.0 (opaque name), opaque_most name, f.0.size, f.1.short)
body_short (op.Rename dir name to_dir to_name) f = omega (arith, four dir.0 (opaque name) to_dir.0 (opaque to_name), opaque_most name, opaque_most to_name, f.0.size, f.1.short, f.2.size, f.3.short)
body_short (op.Prepare dir name verifier) f = omega (arith, three dir.0 (opaque name) verifier, opaque_most name, f.0.size, f.1.short, f.2.size)
body_short (op.Cancel seq) f = omega arith
body_short (op.SetAttrs number c) f =
    omega (
      arith,
      seven number.0 (optional word c.mode) (optional word c.uid) (optional word c.gid) (optional double_word c.size) (optional moment c.atime) (optional moment c.mtime),
      words c.mode,
      words c.uid,
      words c.gid,
      double_words c.size,
      moments c.atime,
      moments c.mtime,
      f.0.size,
    )
body_short op.End f = omega arith

pub short_records : RecordsAreShort
short_records r f =
    let vector = length-vector r.vector (record { entries = f.entries; in_order = f.in_order }) in
    omega (
      arith,
      seven (record_tag r.format ++ word (record_kind r.op)) (head_key_of r.owner).0 r.prev.0 (word r.seq) (moment r.moment) (array vector_entry r.vector) (body r.op),
      length-digest r.owner.0,
      f.prev.size,
      vector,
      f.short,
      body_short r.op f.operation,
    )
