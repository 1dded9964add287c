-- Operations are read part by part.
use Rattle.std.proofs.Common.{◌≡◌, ℕ, List, ◌++◌, Option, Some, None, refl, sym, arith, append_assoc}
use Rattle.std.specs.Prelude.{◌≢◌}
use Rattle.ivy_base.specs.declared.key.Key.{Key}
use Rattle.ivy_base.specs.declared.operation.Kind.{Kind}
use Rattle.ivy_base.specs.declared.operation.Moment.{Moment}
use Rattle.ivy_base.specs.declared.operation.Change.{Change}
use Rattle.ivy_base.specs.declared.operation.Op.{Op}
use Rattle.ivy_base.specs.declared.operation.Op.TheVariants as op
use Rattle.wire_model.specs.Xdr.{word, double_word, opaque, optional, moment, IsWord, IsDoubleWord, IsWordMoment, IsOfLength, IsUpTo, IsAny}
use Rattle.wire_model.specs.OneReading.{ReadsOne, HasNoFront}
use Rattle.wire_model.proofs.OneReading.{one_word, one_double_word, one_moment, one_short_opaque, one_optional, one_raw}
use Rattle.wire_model.specs.Parts.{Told, Reads, IsOptional, as_it_stands}
use Rattle.wire_model.proofs.Made.{MadeOf, Made}
use Rattle.wire_model.proofs.PartByPart.{◌▸◌, part, made_read}
use Rattle.log_model.specs.Spelling.{record_kind, body}
use Rattle.block_parts.specs.Parts.{key_bytes, kind_word}
use Rattle.block_parts.proofs.OneParts.{one_kind}
use Rattle.log_records.specs.Parts.{change_block}
use Rattle.log_records.specs.Shapes.{IsKeyLong, IsNameLong, IsChangeShape, IsShapeOf}
use Rattle.log_records.proofs.OneBody.{ChangeParts, change_parts, change_of_parts, one_change_shape}
use Rattle.log_records.proofs.ReadParts.{one_long_key}

one_name_long : ReadsOne IsNameLong opaque
one_name_long = one_short_opaque 255 (omega arith)

-- ---- changes

made_change : Made {A = ChangeParts}
    (λ p. ((((IsOptional IsWord p.0.0.0.0.0 × IsOptional IsWord p.0.0.0.0.1) × IsOptional IsWord p.0.0.0.1) × IsOptional IsDoubleWord p.0.0.1) × IsOptional IsWordMoment p.0.1) × IsOptional IsWordMoment p.1)
    (λ p. ((((optional word p.0.0.0.0.0 ++ optional word p.0.0.0.0.1) ++ optional word p.0.0.0.1) ++ optional double_word p.0.0.1) ++ optional moment p.0.1) ++ optional moment p.1)
    IsChangeShape change_block change_of_parts
made_change = record {
  whole = λ p f. (f.0.0.0.0.0, f.0.0.0.0.1, f.0.0.0.1, f.0.0.1, f.0.1, f.1);
  spelled = λ p. refl;
  parts = λ c f. record { part = change_parts c; fits = (((((f.0, f.1), f.2), f.3), f.4), f.5); same = refl };
}

pub change_read : {a b c d e f g : Option (List ℕ)} {mode uid gid size : Option ℕ} {atime mtime : Option Moment}
    → Reads (IsOptional IsWord) (optional word) a mode b → Reads (IsOptional IsWord) (optional word) b uid c → Reads (IsOptional IsWord) (optional word) c gid d
    → Reads (IsOptional IsDoubleWord) (optional double_word) d size e → Reads (IsOptional IsWordMoment) (optional moment) e atime f → Reads (IsOptional IsWordMoment) (optional moment) f mtime g
    → Reads IsChangeShape change_block a (record { mode = mode; uid = uid; gid = gid; size = size; atime = atime; mtime = mtime }) g
change_read p q r s t u =
    (made_read made_change (
    part (one_optional one_word) p ▸ part (one_optional one_word) q ▸ part (one_optional one_word) r ▸ part (one_optional one_double_word) s ▸ part (one_optional one_moment) t ▸ part (one_optional one_moment) u
    )).reads

-- ---- operations of each kind

abbrev InodeParts : Type 0
InodeParts = ((((Key × Kind) × ℕ) × ℕ) × ℕ) × List ℕ

abbrev AreInodeParts : InodeParts → Type 0
AreInodeParts p = ((((IsKeyLong p.0.0.0.0.0 × IsAny p.0.0.0.0.1) × IsWord p.0.0.0.1) × IsWord p.0.0.1) × IsWord p.0.1) × IsUpTo 1024 p.1

abbrev inode_bytes : InodeParts → List ℕ
inode_bytes p = ((((key_bytes p.0.0.0.0.0 ++ kind_word p.0.0.0.0.1) ++ word p.0.0.0.1) ++ word p.0.0.1) ++ word p.0.1) ++ opaque p.1

abbrev inode_of : InodeParts → Op
inode_of p = op.Inode p.0.0.0.0.0 p.0.0.0.0.1 p.0.0.0.1 p.0.0.1 p.0.1 p.1

inode_parts : (o : Op) → IsShapeOf 1 o → MadeOf AreInodeParts inode_of o
inode_parts (op.Inode number kind mode uid gid target) f =
    record { part = (((((number, kind), mode), uid), gid), target); fits = (((((f.1.0, tt), f.1.1), f.1.2), f.1.3), f.1.4); same = refl }
inode_parts o f = absurd (omega (arith, f.0))

made_inode : Made AreInodeParts inode_bytes (IsShapeOf 1) body inode_of
made_inode = record { whole = λ p f. (refl, (f.0.0.0.0.0, f.0.0.0.1, f.0.0.1, f.0.1, f.1)); spelled = λ p. refl; parts = inode_parts }

pub inode_read : {a b c d e f g : Option (List ℕ)} {number : Key} {kind : Kind} {mode uid gid : ℕ} {target copy : List ℕ}
    → Reads IsKeyLong key_bytes a number b → Reads IsAny kind_word b kind c → Reads IsWord word c mode d → Reads IsWord word d uid e → Reads IsWord word e gid f
    → Reads (IsUpTo 1024) opaque f target g → copy ≡ target → Reads (IsShapeOf 1) body a (op.Inode number kind mode uid gid copy) g
inode_read p q r s t u same = rw same
    (made_read made_inode (part one_long_key p ▸ part one_kind q ▸ part one_word r ▸ part one_word s ▸ part one_word t ▸ part (one_short_opaque 1024 (omega arith)) u)).reads

abbrev WriteParts : Type 0
WriteParts = (Key × ℕ) × List ℕ

abbrev AreWriteParts : WriteParts → Type 0
AreWriteParts p = (IsKeyLong p.0.0 × IsDoubleWord p.0.1) × IsUpTo 8192 p.1

abbrev write_bytes : WriteParts → List ℕ
write_bytes p = (key_bytes p.0.0 ++ double_word p.0.1) ++ opaque p.1

abbrev write_of : WriteParts → Op
write_of p = op.Write p.0.0 p.0.1 p.1

write_parts : (o : Op) → IsShapeOf 2 o → MadeOf AreWriteParts write_of o
write_parts (op.Write number offset bytes) f = record { part = ((number, offset), bytes); fits = ((f.1.0, f.1.1), f.1.2); same = refl }
write_parts o f = absurd (omega (arith, f.0))

made_write : Made AreWriteParts write_bytes (IsShapeOf 2) body write_of
made_write = record { whole = λ p f. (refl, (f.0.0, f.0.1, f.1)); spelled = λ p. refl; parts = write_parts }

pub write_read : {a b c d : Option (List ℕ)} {number : Key} {offset : ℕ} {bytes copy : List ℕ}
    → Reads IsKeyLong key_bytes a number b → Reads IsDoubleWord double_word b offset c → Reads (IsUpTo 8192) opaque c bytes d → copy ≡ bytes
    → Reads (IsShapeOf 2) body a (op.Write number offset copy) d
write_read p q r same = rw same (made_read made_write (part one_long_key p ▸ part one_double_word q ▸ part (one_short_opaque 8192 (omega arith)) r)).reads

abbrev LinkParts : Type 0
LinkParts = (Key × List ℕ) × Key

abbrev AreLinkParts : LinkParts → Type 0
AreLinkParts p = (IsKeyLong p.0.0 × IsNameLong p.0.1) × IsKeyLong p.1

abbrev link_bytes : LinkParts → List ℕ
link_bytes p = (key_bytes p.0.0 ++ opaque p.0.1) ++ key_bytes p.1

abbrev link_of : LinkParts → Op
link_of p = op.Link p.0.0 p.0.1 p.1

link_parts : (o : Op) → IsShapeOf 3 o → MadeOf AreLinkParts link_of o
link_parts (op.Link dir name number) f = record { part = ((dir, name), number); fits = ((f.1.0, f.1.1), f.1.2); same = refl }
link_parts o f = absurd (omega (arith, f.0))

made_link : Made AreLinkParts link_bytes (IsShapeOf 3) body link_of
made_link = record { whole = λ p f. (refl, (f.0.0, f.0.1, f.1)); spelled = λ p. refl; parts = link_parts }

pub link_read : {a b c d : Option (List ℕ)} {dir number : Key} {name copy : List ℕ}
    → Reads IsKeyLong key_bytes a dir b → Reads IsNameLong opaque b name c → Reads IsKeyLong key_bytes c number d → copy ≡ name
    → Reads (IsShapeOf 3) body a (op.Link dir copy number) d
link_read p q r same = rw same (made_read made_link (part one_long_key p ▸ part one_name_long q ▸ part one_long_key r)).reads

abbrev unlink_of : Key × List ℕ → Op
unlink_of p = op.Unlink p.0 p.1

unlink_parts : (o : Op) → IsShapeOf 4 o → MadeOf {A = Key × List ℕ} (λ p. IsKeyLong p.0 × IsNameLong p.1) unlink_of o
unlink_parts (op.Unlink dir name) f = record { part = (dir, name); fits = f.1; same = refl }
unlink_parts o f = absurd (omega (arith, f.0))

made_unlink : Made {A = Key × List ℕ} (λ p. IsKeyLong p.0 × IsNameLong p.1) (λ p. key_bytes p.0 ++ opaque p.1) (IsShapeOf 4) body unlink_of
made_unlink = record { whole = λ p f. (refl, f); spelled = λ p. refl; parts = unlink_parts }

pub unlink_read : {a b c : Option (List ℕ)} {dir : Key} {name copy : List ℕ}
    → Reads IsKeyLong key_bytes a dir b → Reads IsNameLong opaque b name c → copy ≡ name → Reads (IsShapeOf 4) body a (op.Unlink dir copy) c
unlink_read p q same = rw same (made_read made_unlink (part one_long_key p ▸ part one_name_long q)).reads

abbrev RenameParts : Type 0
RenameParts = ((Key × List ℕ) × Key) × List ℕ

abbrev AreRenameParts : RenameParts → Type 0
AreRenameParts p = ((IsKeyLong p.0.0.0 × IsNameLong p.0.0.1) × IsKeyLong p.0.1) × IsNameLong p.1

abbrev rename_bytes : RenameParts → List ℕ
rename_bytes p = ((key_bytes p.0.0.0 ++ opaque p.0.0.1) ++ key_bytes p.0.1) ++ opaque p.1

abbrev rename_of : RenameParts → Op
rename_of p = op.Rename p.0.0.0 p.0.0.1 p.0.1 p.1

rename_parts : (o : Op) → IsShapeOf 5 o → MadeOf AreRenameParts rename_of o
rename_parts (op.Rename dir name to_dir to_name) f = record { part = (((dir, name), to_dir), to_name); fits = (((f.1.0, f.1.1), f.1.2), f.1.3); same = refl }
rename_parts o f = absurd (omega (arith, f.0))

made_rename : Made AreRenameParts rename_bytes (IsShapeOf 5) body rename_of
made_rename = record { whole = λ p f. (refl, (f.0.0.0, f.0.0.1, f.0.1, f.1)); spelled = λ p. refl; parts = rename_parts }

pub rename_read : {a b c d e : Option (List ℕ)} {dir to_dir : Key} {name copy to_name to_copy : List ℕ}
    → Reads IsKeyLong key_bytes a dir b → Reads IsNameLong opaque b name c → Reads IsKeyLong key_bytes c to_dir d → Reads IsNameLong opaque d to_name e → copy ≡ name → to_copy ≡ to_name
    → Reads (IsShapeOf 5) body a (op.Rename dir copy to_dir to_copy) e
rename_read p q r s same to_same = rw (same, to_same) (made_read made_rename (part one_long_key p ▸ part one_name_long q ▸ part one_long_key r ▸ part one_name_long s)).reads

abbrev PrepareParts : Type 0
PrepareParts = (Key × List ℕ) × List ℕ

abbrev ArePrepareParts : PrepareParts → Type 0
ArePrepareParts p = (IsKeyLong p.0.0 × IsNameLong p.0.1) × IsOfLength 8 p.1

abbrev prepare_bytes : PrepareParts → List ℕ
prepare_bytes p = (key_bytes p.0.0 ++ opaque p.0.1) ++ as_it_stands p.1

abbrev prepare_of : PrepareParts → Op
prepare_of p = op.Prepare p.0.0 p.0.1 p.1

prepare_parts : (o : Op) → IsShapeOf 6 o → MadeOf ArePrepareParts prepare_of o
prepare_parts (op.Prepare dir name verifier) f = record { part = ((dir, name), verifier); fits = ((f.1.0, f.1.1), f.1.2); same = refl }
prepare_parts o f = absurd (omega (arith, f.0))

made_prepare : Made ArePrepareParts prepare_bytes (IsShapeOf 6) body prepare_of
made_prepare = record { whole = λ p f. (refl, (f.0.0, f.0.1, f.1)); spelled = λ p. refl; parts = prepare_parts }

pub prepare_read : {a b c d : Option (List ℕ)} {dir : Key} {name copy verifier : List ℕ}
    → Reads IsKeyLong key_bytes a dir b → Reads IsNameLong opaque b name c → Reads (IsOfLength 8) as_it_stands c verifier d → copy ≡ name
    → Reads (IsShapeOf 6) body a (op.Prepare dir copy verifier) d
prepare_read p q r same = rw same (made_read made_prepare (part one_long_key p ▸ part one_name_long q ▸ part (one_raw 8) r)).reads

cancel_parts : (o : Op) → IsShapeOf 7 o → MadeOf IsWord op.Cancel o
cancel_parts (op.Cancel seq) f = record { part = seq; fits = f.1; same = refl }
cancel_parts o f = absurd (omega (arith, f.0))

made_cancel : Made IsWord word (IsShapeOf 7) body op.Cancel
made_cancel = record { whole = λ n f. (refl, f); spelled = λ n. refl; parts = cancel_parts }

pub cancel_read : {a b : Option (List ℕ)} {seq : ℕ} → Reads IsWord word a seq b → Reads (IsShapeOf 7) body a (op.Cancel seq) b
cancel_read p = (made_read made_cancel (part one_word p)).reads

abbrev set_of : Key × Change → Op
set_of p = op.SetAttrs p.0 p.1

set_parts : (o : Op) → IsShapeOf 8 o → MadeOf {A = Key × Change} (λ p. IsKeyLong p.0 × IsChangeShape p.1) set_of o
set_parts (op.SetAttrs number change) f = record { part = (number, change); fits = f.1; same = refl }
set_parts o f = absurd (omega (arith, f.0))

pub set_spelled : (number : Key) (change : Change) → body (op.SetAttrs number change) ≡ key_bytes number ++ change_block change
set_spelled number change = simp append_assoc

made_set : Made {A = Key × Change} (λ p. IsKeyLong p.0 × IsChangeShape p.1) (λ p. key_bytes p.0 ++ change_block p.1) (IsShapeOf 8) body set_of
made_set = record { whole = λ p f. (refl, f); spelled = λ p. set_spelled p.0 p.1; parts = set_parts }

pub set_read : {a b c : Option (List ℕ)} {number : Key} {change : Change}
    → Reads IsKeyLong key_bytes a number b → Reads IsChangeShape change_block b change c → Reads (IsShapeOf 8) body a (op.SetAttrs number change) c
set_read p q = (made_read made_set (part one_long_key p ▸ part one_change_shape q)).reads

pub end_read : {a : Option (List ℕ)} → Reads (IsShapeOf 9) body a op.End a
end_read {a} = record { told = cases a }
  where
    cases : (a : Option (List ℕ)) → Told (IsShapeOf 9) body a op.End a
    cases None = refl
    cases (Some a) = record { fits = (refl, tt); spelled = refl }

-- ---- by the kind

pub read_as : {a b : Option (List ℕ)} {o : Op} {kind n : ℕ} → kind ≡ n → Reads (IsShapeOf n) body a o b → Reads (IsShapeOf kind) body a o b
read_as e f = rw e f

-- there are nine kinds
kinds : (o : Op) (kind : ℕ) → kind ≢ 1 → kind ≢ 2 → kind ≢ 3 → kind ≢ 4 → kind ≢ 5 → kind ≢ 6 → kind ≢ 7 → kind ≢ 8 → kind ≢ 9 → record_kind o ≢ kind
kinds (op.Inode number kind mode uid gid target) k h1 h2 h3 h4 h5 h6 h7 h8 h9 e = h1 (sym e)
kinds (op.Write number offset bytes) k h1 h2 h3 h4 h5 h6 h7 h8 h9 e = h2 (sym e)
kinds (op.Link dir name number) k h1 h2 h3 h4 h5 h6 h7 h8 h9 e = h3 (sym e)
kinds (op.Unlink dir name) k h1 h2 h3 h4 h5 h6 h7 h8 h9 e = h4 (sym e)
kinds (op.Rename dir name to_dir to_name) k h1 h2 h3 h4 h5 h6 h7 h8 h9 e = h5 (sym e)
kinds (op.Prepare dir name verifier) k h1 h2 h3 h4 h5 h6 h7 h8 h9 e = h6 (sym e)
kinds (op.Cancel seq) k h1 h2 h3 h4 h5 h6 h7 h8 h9 e = h7 (sym e)
kinds (op.SetAttrs number change) k h1 h2 h3 h4 h5 h6 h7 h8 h9 e = h8 (sym e)
kinds op.End k h1 h2 h3 h4 h5 h6 h7 h8 h9 e = h9 (sym e)

pub no_operation_read : {a b : Option (List ℕ)} {o : Op} {kind : ℕ} → kind ≢ 1 → kind ≢ 2 → kind ≢ 3 → kind ≢ 4 → kind ≢ 5 → kind ≢ 6 → kind ≢ 7 → kind ≢ 8 → kind ≢ 9 → b ≡ None
    → Reads (IsShapeOf kind) body a o b
no_operation_read {a} {b} {o} {kind} h1 h2 h3 h4 h5 h6 h7 h8 h9 gone = record { told = cases a b gone }
  where
    none : (bytes : List ℕ) → HasNoFront (IsShapeOf kind) body bytes
    none bytes = record { none = λ x rest f. kinds x kind h1 h2 h3 h4 h5 h6 h7 h8 h9 f.fits.0 }

    cases : (a b : Option (List ℕ)) → b ≡ None → Told (IsShapeOf kind) body a o b
    cases a (Some b) gone = absurd (cc gone)
    cases None None gone = refl
    cases (Some a) None gone = none a
