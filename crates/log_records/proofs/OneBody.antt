-- Each operation of one kind has one spelling.
use Rattle.std.proofs.Common.{◌≡◌, ℕ, ◌≤◌, List, ◌++◌, length, Option, Some, None, refl, sym, ap, ◌∙◌, arith, append_assoc}
use Rattle.std.specs.Prelude.{IfSome}
use Rattle.ivy_base.specs.declared.key.Key.{Key}
use Rattle.ivy_base.specs.declared.operation.Kind.{Kind}
use Rattle.ivy_base.specs.declared.operation.Kind.TheVariants.{Reg, Dir, Lnk}
use Rattle.ivy_base.specs.declared.operation.Moment.{Moment}
use Rattle.ivy_base.specs.declared.operation.Change.{Change}
use Rattle.ivy_base.specs.declared.operation.Op.{Op}
use Rattle.ivy_base.specs.declared.operation.Op.TheVariants as op
use Rattle.wire_model.specs.OneReading.{ReadsOne}
use Rattle.wire_model.specs.Xdr.{IsWord, IsDoubleWord, IsWordMoment}
use Rattle.wire_model.proofs.OneReading.{◌▷◌, of_parts, of_fewer, one_word, one_double_word, one_moment, one_short_opaque, one_optional, one_raw}
use Rattle.block_parts.proofs.OneParts.{one_kind}
use Rattle.log_model.specs.Spelling.{record_kind, body, IsMoment, IsTarget, IsChange, OperationFits}
use Rattle.log_records.specs.Parts.{change_block, IsOfKind}
use Rattle.log_records.specs.Shapes.{IsChangeShape, HasShape, IsShapeOf}
use Rattle.log_records.proofs.ReadParts.{one_long_key}
use Rattle.tree_model.specs.Tree.{longest_file}

-- the parts of a change, side by side
abbrev pub ChangeParts : Type 0
ChangeParts = ((((Option ℕ × Option ℕ) × Option ℕ) × Option ℕ) × Option Moment) × Option Moment

abbrev pub change_parts : Change → ChangeParts
change_parts c = (((((c.mode, c.uid), c.gid), c.size), c.atime), c.mtime)

abbrev pub change_of_parts : ChangeParts → Change
change_of_parts p = record { mode = p.0.0.0.0.0; uid = p.0.0.0.0.1; gid = p.0.0.0.1; size = p.0.0.1; atime = p.0.1; mtime = p.1 }

pub one_change_shape : ReadsOne IsChangeShape change_block
one_change_shape = of_parts change_parts (λ c f. (((((f.0, f.1), f.2), f.3), f.4), f.5)) (λ c. refl) (λ c d e. ap change_of_parts e)
    (one_optional one_word ▷ one_optional one_word ▷ one_optional one_word ▷ one_optional one_double_word ▷ one_optional one_moment ▷ one_optional one_moment)

-- bounds are kept by fewer values
few_words : (o : Option ℕ) → IfSome o (λ n. n ≤ 4095) → IfSome o IsWord
few_words None f = tt
few_words (Some n) f = omega (arith, f)

few_double_words : (o : Option ℕ) → IfSome o (λ n. n ≤ longest_file) → IfSome o IsDoubleWord
few_double_words None f = tt
few_double_words (Some n) f = omega (arith, f)

few_moments : (o : Option Moment) → IfSome o IsMoment → IfSome o IsWordMoment
few_moments None f = tt
few_moments (Some m) f = (f.sec, omega (arith, f.nsec))

pub change_shape : (c : Change) → IsChange c → IsChangeShape c
change_shape c f = (few_words c.mode f.mode, f.uid, f.gid, few_double_words c.size f.size, few_moments c.atime f.atime, few_moments c.mtime f.mtime)

pub one_change : ReadsOne IsChange change_block
one_change = of_fewer change_shape one_change_shape

-- ---- operations

abbrev InodeParts : Type 0
InodeParts = ((((Key × Kind) × ℕ) × ℕ) × ℕ) × List ℕ

abbrev inode_of : InodeParts → Op
inode_of p = op.Inode p.0.0.0.0.0 p.0.0.0.0.1 p.0.0.0.1 p.0.0.1 p.0.1 p.1

pub target_fits : (kind : Kind) (bytes : List ℕ) → IsTarget kind bytes → length bytes ≤ 1024
target_fits Reg bytes f = rw f (omega arith)
target_fits Dir bytes f = rw f (omega arith)
target_fits Lnk bytes f = f.1

set_body : (number : Key) (change : Change) (r : List ℕ) → body (op.SetAttrs number change) ++ r ≡ (number.0 ++ change_block change) ++ r
set_body number change r = ap (λ (bytes : List ℕ). bytes ++ r) (simp append_assoc)

set_spelled : (number : Key) (change : Change) (r : List ℕ) (other : Key) (change2 : Change) (s : List ℕ)
    → body (op.SetAttrs number change) ++ r ≡ body (op.SetAttrs other change2) ++ s → (number.0 ++ change_block change) ++ r ≡ (other.0 ++ change_block change2) ++ s
set_spelled number change r other change2 s e = sym (set_body number change r) ∙ e ∙ set_body other change2 s

-- the body of an operation, of which the kind is known, is of one operation
pub one_shape : (kind : ℕ) → ReadsOne (IsShapeOf kind) body
one_shape kind = record { one = λ x y r s f g e. same x y r s f.1 g.1 (f.0 ∙ sym g.0) e }
  where
    same : (x y : Op) (r s : List ℕ) → HasShape x → HasShape y → record_kind x ≡ record_kind y → body x ++ r ≡ body y ++ s → (x ≡ y) × (r ≡ s)
    same (op.Inode number kind mode uid gid target) (op.Inode number2 kind2 mode2 uid2 gid2 target2) r s f g k e =
        let parts = one_long_key ▷ one_kind ▷ one_word ▷ one_word ▷ one_word ▷ one_short_opaque 1024 (omega arith) in
        let p = parts.one (((((number, kind), mode), uid), gid), target) (((((number2, kind2), mode2), uid2), gid2), target2) r s
        (((((f.0, tt), f.1), f.2), f.3), f.4) (((((g.0, tt), g.1), g.2), g.3), g.4) e in
        (ap inode_of p.0, p.1)
    same (op.Write number offset bytes) (op.Write number2 offset2 bytes2) r s f g k e =
        let p = (one_long_key ▷ one_double_word ▷ one_short_opaque 8192 (omega arith)).one ((number, offset), bytes) ((number2, offset2), bytes2) r s
        ((f.0, f.1), f.2) ((g.0, g.1), g.2) e in
        (ap (λ (p : (Key × ℕ) × List ℕ). op.Write p.0.0 p.0.1 p.1) p.0, p.1)
    same (op.Link dir name number) (op.Link dir2 name2 number2) r s f g k e =
        let p = (one_long_key ▷ one_short_opaque 255 (omega arith) ▷ one_long_key).one ((dir, name), number) ((dir2, name2), number2) r s ((f.0, f.1), f.2) ((g.0, g.1), g.2) e in
        (ap (λ (p : (Key × List ℕ) × Key). op.Link p.0.0 p.0.1 p.1) p.0, p.1)
    same (op.Unlink dir name) (op.Unlink dir2 name2) r s f g k e =
        let p = (one_long_key ▷ one_short_opaque 255 (omega arith)).one (dir, name) (dir2, name2) r s (f.0, f.1) (g.0, g.1) e in
        (ap (λ (p : Key × List ℕ). op.Unlink p.0 p.1) p.0, p.1)
    same (op.Rename dir name to_dir to_name) (op.Rename dir2 name2 to_dir2 to_name2) r s f g k e =
        let p = (one_long_key ▷ one_short_opaque 255 (omega arith) ▷ one_long_key ▷ one_short_opaque 255 (omega arith)).one (((dir, name), to_dir), to_name) (((dir2, name2), to_dir2), to_name2) r s
        (((f.0, f.1), f.2), f.3) (((g.0, g.1), g.2), g.3) e in
        (ap (λ (p : ((Key × List ℕ) × Key) × List ℕ). op.Rename p.0.0.0 p.0.0.1 p.0.1 p.1) p.0, p.1)
    same (op.Prepare dir name verifier) (op.Prepare dir2 name2 verifier2) r s f g k e =
        let p = (one_long_key ▷ one_short_opaque 255 (omega arith) ▷ one_raw 8).one ((dir, name), verifier) ((dir2, name2), verifier2) r s ((f.0, f.1), f.2) ((g.0, g.1), g.2) e in
        (ap (λ (p : (Key × List ℕ) × List ℕ). op.Prepare p.0.0 p.0.1 p.1) p.0, p.1)
    same (op.Cancel seq) (op.Cancel seq2) r s f g k e = let p = one_word.one seq seq2 r s f g e in (ap op.Cancel p.0, p.1)
    same (op.SetAttrs number change) (op.SetAttrs number2 change2) r s f g k e =
        let p = (one_long_key ▷ one_change_shape).one (number, change) (number2, change2) r s (f.0, f.1) (g.0, g.1) (set_spelled number change r number2 change2 s e) in
        (ap (λ (p : Key × Change). op.SetAttrs p.0 p.1) p.0, p.1)
    same op.End op.End r s f g k e = (refl, e)
    same x y r s f g k e = absurd (omega (arith, k))

pub shape_of : (o : Op) → OperationFits o → HasShape o
shape_of (op.Inode number kind mode uid gid target) f = (f.0.size, omega (arith, f.1), f.2, f.3, target_fits kind target f.4)
shape_of (op.Write number offset bytes) f = (f.0.size, omega (arith, f.3), f.2)
shape_of (op.Link dir name number) f = (f.0.size, f.1.short, f.2.size)
shape_of (op.Unlink dir name) f = (f.0.size, f.1.short)
shape_of (op.Rename dir name to_dir to_name) f = (f.0.size, f.1.short, f.2.size, f.3.short)
shape_of (op.Prepare dir name verifier) f = (f.0.size, f.1.short, f.2.size)
shape_of (op.Cancel seq) f = f
shape_of (op.SetAttrs number change) f = (f.0.size, change_shape change f.1)
shape_of op.End f = tt

pub kind_shape : (kind : ℕ) (o : Op) → IsOfKind kind o → IsShapeOf kind o
kind_shape kind o f = (f.0, shape_of o f.1)

pub one_body : (kind : ℕ) → ReadsOne (IsOfKind kind) body
one_body kind = of_fewer (kind_shape kind) (one_shape kind)
