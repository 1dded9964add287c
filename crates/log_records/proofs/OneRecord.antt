-- Records: each has one spelling, and when bytes are none.
use Rattle.std.proofs.Common.{◌≡◌, ℕ, ◌<◌, ◌^◌, ◌≤◌, List, ◌++◌, length, Contains, refl, sym, ap, ◌∙◌, arith, subst}
use Rattle.ivy_base.specs.declared.key.Key.{Key}
use Rattle.ivy_base.specs.declared.key.PubKey.{PubKey}
use Rattle.ivy_base.specs.declared.operation.Op.{Op}
use Rattle.ivy_base.specs.declared.operation.Op.TheVariants as op
use Rattle.ivy_base.specs.Naming.{name, head_key_of, IsCollisionFree}
use Rattle.wire_model.specs.OneReading.{ReadsOne, IsFront}
use Rattle.wire_model.proofs.OneReading.{whole}
use Rattle.log_model.specs.Vector.{stamp_at}
use Rattle.log_model.specs.Record.{Record}
use Rattle.log_model.specs.Spelling.{record_kind, body, record_block, new_record, longest_record, HasSpelling, IsRecordOf}
use Rattle.log_model.specs.Standing.{StandsAmong}
use Rattle.log_model.proofs.Standing.{one_block}
use Rattle.log_records.specs.declared.frame.Frame.{Frame}
use Rattle.block_parts.specs.declared.fault.BlockFault.{BlockFault}
use Rattle.block_parts.specs.declared.fault.BlockFault.TheVariants as block
use Rattle.log_records.specs.Parts.{IsOfKind}
use Rattle.log_records.specs.Frames.{frame_block, AreParts, parts_block, IsWellPlaced}
use Rattle.log_records.specs.Shapes.{IsShapeOf, IsFrameShape, AreShapes}
use Rattle.log_records.specs.Reading.{Refuses, fault_of_block, IsSpelled, RefusesWhole}
use Rattle.log_records.specs.Records.{ReadFault}
use Rattle.log_records.specs.Laws.{RecordsAreUnambiguous}
use Rattle.wire_model.proofs.Dependent.{no_first_by, one_by}
use Rattle.log_records.proofs.Chains.{refused_whole}
use Rattle.log_records.proofs.OneBody.{one_body, one_shape, kind_shape}
use Rattle.log_records.proofs.Frames.{one_frame, one_frame_shape, frame_shape}

-- ---- a frame and an operation

abbrev pub kind_in : Frame → Op → Type 0
kind_in f o = IsOfKind f.kind o

pub one_of_parts : (log : Key) → ReadsOne (AreParts log) (parts_block log)
one_of_parts log = one_by kind_in (one_frame log) (λ f. one_body f.kind)

-- what is read of them, before their bounds are tested
abbrev shape_in : Frame → Op → Type 0
shape_in f o = IsShapeOf f.kind o

one_of_shapes : (log : Key) → ReadsOne AreShapes (parts_block log)
one_of_shapes log = one_by shape_in (one_frame_shape log) (λ f. one_shape f.kind)

parts_shape : (log : Key) (p : Frame × Op) → AreParts log p → AreShapes p
parts_shape log p f = (frame_shape log p.0 f.0, kind_shape p.0.kind p.1 f.1)

pub no_frame : (log : Key) (bytes : List ℕ) (fault : BlockFault) → Refuses IsFrameShape (frame_block log) bytes fault → RefusesWhole AreShapes (parts_block log) bytes fault
no_frame log bytes fault f = refused_whole {Whole = AreShapes} {written = parts_block log} (λ absent. no_first_by shape_in body absent) fault f

pub no_operation : (log : Key) (bytes rest : List ℕ) (frame : Frame) → IsFront IsFrameShape (frame_block log) bytes frame rest
    → (fault : BlockFault) → RefusesWhole (IsShapeOf frame.kind) body rest fault → RefusesWhole AreShapes (parts_block log) bytes fault
no_operation log bytes rest frame front block.Malformed absent = λ p g.
    let e : frame_block log p.0 ++ body p.1 ≡ frame_block log frame ++ rest = sym g.spelled ∙ front.spelled in
    let q = (one_frame_shape log).one p.0 frame (body p.1) rest g.fits.0 front.fits e in
    absent p.1 (record { fits = subst (λ (f : Frame). IsShapeOf f.kind p.1) q.0 g.fits.1; spelled = sym q.1 })
no_operation log bytes rest frame front block.Memory absent = tt

pub parts_read : (log : Key) {bytes rest : List ℕ} {frame : Frame} {o : Op} → IsFront IsFrameShape (frame_block log) bytes frame rest → IsSpelled (IsShapeOf frame.kind) body rest o
    → IsSpelled AreShapes (parts_block log) bytes (frame, o)
parts_read log {frame = frame} f g = record { fits = (f.fits, g.fits); spelled = f.spelled ∙ ap (λ (s : List ℕ). frame_block log frame ++ s) g.spelled }

-- ---- records

kind_fits : (o : Op) → record_kind o < 2 ^ 32
kind_fits (op.Inode number kind mode uid gid target) = omega arith
kind_fits (op.Write number offset bytes) = omega arith
kind_fits (op.Link dir name number) = omega arith
kind_fits (op.Unlink dir name) = omega arith
kind_fits (op.Rename dir name to_dir to_name) = omega arith
kind_fits (op.Prepare dir name verifier) = omega arith
kind_fits (op.Cancel seq) = omega arith
kind_fits (op.SetAttrs number change) = omega arith
kind_fits op.End = omega arith

abbrev pub frame_in : Record → Frame
frame_in r = record { format = r.format; kind = record_kind r.op; prev = r.prev; seq = r.seq; moment = r.moment; vector = r.vector }

abbrev pub parts_in : Record → Frame × Op
parts_in r = (frame_in r, r.op)

abbrev pub record_with : PubKey → Frame × Op → Record
record_with owner p = new_record (record { owner = owner; format = p.0.format; vector = p.0.vector; moment = p.0.moment }) p.0.seq p.0.prev p.1

parts_fit : (r : Record) → HasSpelling r → AreParts (head_key_of r.owner) (parts_in r)
parts_fit r f = (
  record {
    kind_is = kind_fits r.op;
    prev_is = f.prev;
    seq_is = (f.some, f.few);
    moment_is = f.moment;
    cited = (record { whole = record { entries = f.entries; in_order = f.in_order }; short = f.short }, f.of_others);
  },
  (refl, f.operation),
)

owned_parts : (owner : PubKey) (r : Record) → r.owner ≡ owner → HasSpelling r → AreParts (head_key_of owner) (parts_in r)
owned_parts owner r e f = subst (λ (o : PubKey). AreParts (head_key_of o) (parts_in r)) e (parts_fit r f)

spelled_by : (owner : PubKey) (r : Record) → r.owner ≡ owner → record_block r ≡ parts_block (head_key_of owner) (parts_in r)
spelled_by owner r e = ap (λ (o : PubKey). parts_block (head_key_of o) (parts_in r)) e

-- a record is that of its parts
as_read : (r : Record) → HasSpelling r → r ≡ record_with r.owner (parts_in r)
as_read r f = ap (λ (n : Key). record { owner = r.owner; seq = r.seq; prev = r.prev; vector = r.vector; moment = r.moment; op = r.op; format = r.format; name = n }) f.named

pub one_record : RecordsAreUnambiguous
one_record owner = record {
  one = λ x y r s f g e.
      let p = (one_of_parts (head_key_of owner)).one (parts_in x) (parts_in y) r s (owned_parts owner x f.0 f.1) (owned_parts owner y g.0 g.1)
      (ap (λ (b : List ℕ). b ++ r) (sym (spelled_by owner x f.0)) ∙ e ∙ ap (λ (b : List ℕ). b ++ s) (spelled_by owner y g.0)) in
      (same x y f.1 g.1 (f.0 ∙ sym g.0) p.0, p.1);
}
  where
    same : (x y : Record) → HasSpelling x → HasSpelling y → x.owner ≡ y.owner → parts_in x ≡ parts_in y → x ≡ y
    same x y f g o e = as_read x f ∙ ap (λ (w : PubKey). record_with w (parts_in x)) o ∙ ap (record_with y.owner) e ∙ sym (as_read y g)

-- where no names collide, of an owner's records one alone stands there under a name
pub one_among : (owner : PubKey) (blocks : List (List ℕ)) → IsCollisionFree blocks → (p q : Record) → p.owner ≡ owner → q.owner ≡ owner → HasSpelling p → HasSpelling q
    → StandsAmong blocks p → StandsAmong blocks q → p.name ≡ q.name → p ≡ q
one_among owner blocks apart p q owned_p owned_q of_p of_q stands_p stands_q same =
    whole (one_record owner) p q (owned_p, of_p) (owned_q, of_q) (one_block blocks apart p q of_p of_q stands_p stands_q same)

-- the block of a name is that of the owner's record of the name
pub block_among : (owner : PubKey) (blocks : List (List ℕ)) → IsCollisionFree blocks → (block : List ℕ) → Contains blocks block → (r : Record) → r.owner ≡ owner → HasSpelling r
    → StandsAmong blocks r → name block ≡ r.name → IsRecordOf owner block r
block_among owner blocks apart block within r owned fits stands same =
    record { owned = owned; fits = fits; spelled = apart block (record_block r) within stands (same ∙ fits.named) }

-- ---- reading

record_parts : (owner : PubKey) (bytes : List ℕ) (r : Record) → IsRecordOf owner bytes r → IsSpelled (AreParts (head_key_of owner)) (parts_block (head_key_of owner)) bytes (parts_in r)
record_parts owner bytes r f = record { fits = owned_parts owner r f.owned f.fits; spelled = f.spelled ∙ spelled_by owner r f.owned }

well_placed : (r : Record) → HasSpelling r → IsWellPlaced (frame_in r) r.op
well_placed r f = record { ends_first = f.ends_first; first_alone = f.first_alone; first_plain = f.first_plain }

pub no_record : (owner : PubKey) (bytes : List ℕ) (log : Key) → log ≡ head_key_of owner → length bytes ≤ longest_record → (fault : BlockFault)
    → RefusesWhole AreShapes (parts_block log) bytes fault → ReadFault owner bytes (fault_of_block fault)
no_record owner bytes log e short block.Malformed absent = (
  short,
  λ r f.
      let p : IsSpelled (AreParts log) (parts_block log) bytes (parts_in r) = rw e (record_parts owner bytes r f) in
      absent (parts_in r) (record { fits = parts_shape log (parts_in r) p.fits; spelled = p.spelled }),
)
no_record owner bytes log e short block.Memory absent = tt

-- the record of what was read has no block where the bytes are that of no record
pub unspelled : (owner : PubKey) (bytes : List ℕ) (log : Key) (p : Frame × Op) → log ≡ head_key_of owner → IsSpelled AreShapes (parts_block log) bytes p → (HasSpelling (record_with owner p) → ⊥)
    → (r : Record) → IsRecordOf owner bytes r → ⊥
unspelled owner bytes log p e f wrong r g =
    let h : IsSpelled (AreParts log) (parts_block log) bytes (parts_in r) = rw e (record_parts owner bytes r g) in
    let same : p ≡ parts_in r = whole (one_of_shapes log) p (parts_in r) f.fits (parts_shape log (parts_in r) h.fits) (sym f.spelled ∙ h.spelled) in
    wrong (subst (λ (q : Record). HasSpelling q) (as_read r g.fits ∙ ap (λ (w : PubKey). record_with w (parts_in r)) g.owned ∙ ap (record_with owner) (sym same)) g.fits)

pub spelled_record : (owner : PubKey) (bytes : List ℕ) (log : Key) (p : Frame × Op) → log ≡ head_key_of owner → IsSpelled AreShapes (parts_block log) bytes p → HasSpelling (record_with owner p)
    → IsRecordOf owner bytes (record_with owner p)
spelled_record owner bytes log p e f fits = record {
  owned = refl;
  fits = fits;
  spelled = f.spelled ∙ ap (λ (k : Key). parts_block k p) e ∙ ap (λ (k : ℕ). parts_block (head_key_of owner) (record p.0 { kind = k }, p.1)) (sym f.fits.1.0);
}

pub misplaced : (owner : PubKey) (bytes : List ℕ) (log : Key) (p : Frame × Op) → log ≡ head_key_of owner → IsSpelled (AreParts log) (parts_block log) bytes p → (IsWellPlaced p.0 p.1 → ⊥)
    → (r : Record) → IsRecordOf owner bytes r → ⊥
misplaced owner bytes log p e f wrong r g =
    let h = record_parts owner bytes r g in
    let k : IsSpelled (AreParts (head_key_of owner)) (parts_block (head_key_of owner)) bytes p = rw e at f in
    let same : p ≡ parts_in r = whole (one_of_parts (head_key_of owner)) p (parts_in r) k.fits h.fits (sym k.spelled ∙ h.spelled) in
    wrong (subst (λ (q : Frame × Op). IsWellPlaced q.0 q.1) (sym same) (well_placed r g.fits))

pub is_record : (owner : PubKey) (bytes : List ℕ) (log : Key) (p : Frame × Op) → log ≡ head_key_of owner → IsSpelled (AreParts log) (parts_block log) bytes p → IsWellPlaced p.0 p.1
    → IsRecordOf owner bytes (record_with owner p)
is_record owner bytes log p e f placed = record {
  owned = refl;
  fits = record {
    some = f.fits.0.seq_is.0;
    few = f.fits.0.seq_is.1;
    prev = f.fits.0.prev_is;
    moment = f.fits.0.moment_is;
    entries = f.fits.0.cited.0.whole.entries;
    in_order = f.fits.0.cited.0.whole.in_order;
    short = f.fits.0.cited.0.short;
    of_others = ap (stamp_at p.0.vector) (sym e) ∙ f.fits.0.cited.1;
    operation = f.fits.1.1;
    ends_first = placed.ends_first;
    first_alone = placed.first_alone;
    first_plain = placed.first_plain;
    named = refl;
  };
  spelled = f.spelled ∙ ap (λ (k : Key). parts_block k p) e ∙ ap (λ (k : ℕ). parts_block (head_key_of owner) (record p.0 { kind = k }, p.1)) (sym f.fits.1.0);
}
