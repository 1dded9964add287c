-- What the tests of an operation tell of the whole of it.
use Rattle.std.proofs.Common.{◌≡◌, ℕ, ◌+◌, ◌-◌, ◌<◌, ◌≤◌, ◌^◌, List, [], Bool, true, false, Option, Some, None, length, refl, sym, subst, arith}
use Rattle.std.specs.Prelude.{◌↔◌, IsTrue, nat_eq}
use Rattle.std.proofs.lemmas.Bool.{eqb-true, eq-eqb}
use Rattle.ivy_base.specs.declared.key.Key.{Key}
use Rattle.ivy_base.specs.declared.format.Format.TheVariants.{One}
use Rattle.ivy_base.specs.declared.operation.Kind.{Kind}
use Rattle.ivy_base.specs.declared.operation.Change.{Change}
use Rattle.ivy_base.specs.declared.operation.Op.{Op}
use Rattle.ivy_base.specs.declared.operation.Op.TheVariants as op
use Rattle.log_model.specs.Vector.{Stamp, reach}
use Rattle.log_model.specs.Record.{Record}
use Rattle.log_model.specs.Spelling.{IsKey, IsBlock, IsMode, IsTarget, IsChange, OperationFits, IsEndOp, HasSpelling, no_name}
use Rattle.log_model.specs.Chain.{IsFirst}
use Rattle.log_model.specs.Fetched.{MayBeNext}
use Rattle.log_records.specs.Parts.{IsPlace}
use Rattle.log_records.specs.Spelled.{IsInPlace}
use Rattle.tree_model.specs.Tree.{longest_file}

-- ---- whether an operation fits, where it is of that form

of_op : {o p : Op} {b : Bool} → o ≡ p → IsTrue b ↔ OperationFits p → IsTrue b ↔ OperationFits o
of_op {b} e t = subst (λ (x : Op). IsTrue b ↔ OperationFits x) (sym e) t

of_text : {b : Bool} {text name : List ℕ} (Fits : List ℕ → Type 0) → text ≡ name → IsTrue b ↔ Fits text → IsTrue b ↔ Fits name
of_text {b} Fits e t = subst (λ (x : List ℕ). IsTrue b ↔ Fits x) e t

pub inode_fits : {o : Op} {number : Key} {kind : Kind} {mode uid gid : ℕ} {target text : List ℕ} {b : Bool}
    → o ≡ op.Inode number kind mode uid gid target → IsKey number → IsMode mode → uid < 2 ^ 32 → gid < 2 ^ 32 → text ≡ target → IsTrue b ↔ IsTarget kind text → IsTrue b ↔ OperationFits o
inode_fits {kind} is number mode uid gid same tested =
    let t = of_text (IsTarget kind) same tested in
    of_op is (λ h. (number, mode, uid, gid, t.0 h), λ f. t.1 f.4)

pub no_inode_fits : {o : Op} {number : Key} {kind : Kind} {mode uid gid : ℕ} {target : List ℕ} {b : Bool}
    → o ≡ op.Inode number kind mode uid gid target → b ≡ false → IsTrue b ↔ IsMode mode → IsTrue b ↔ OperationFits o
no_inode_fits is e tested = of_op is (λ h. absurd (cc (h, e)), λ f. tested.1 f.1)

pub write_fits : {o : Op} {number : Key} {offset : ℕ} {bytes text : List ℕ} {b : Bool}
    → o ≡ op.Write number offset bytes → IsKey number → text ≡ bytes → IsTrue b ↔ ((1 ≤ length text) × (length text ≤ 8192) × (offset + length text ≤ longest_file)) → IsTrue b ↔ OperationFits o
write_fits {offset} is number same tested =
    let t = of_text (λ (x : List ℕ). (1 ≤ length x) × (length x ≤ 8192) × (offset + length x ≤ longest_file)) same tested in
    of_op is (λ h. let p = t.0 h in (number, p.0, p.1, p.2), λ f. t.1 (f.1, f.2, f.3))

pub link_fits : {o : Op} {dir number : Key} {name : List ℕ} {b : Bool}
    → o ≡ op.Link dir name number → IsKey number → IsTrue b ↔ IsPlace (dir, name) → IsTrue b ↔ OperationFits o
link_fits is number t = of_op is (λ h. let p = t.0 h in (p.0, p.1, number), λ f. t.1 (f.0, f.1))

pub unlink_fits : {o : Op} {dir : Key} {name : List ℕ} {b : Bool} → o ≡ op.Unlink dir name → IsTrue b ↔ IsPlace (dir, name) → IsTrue b ↔ OperationFits o
unlink_fits is t = of_op is t

pub rename_fits : {o : Op} {dir to_dir : Key} {name to_name : List ℕ} {a b : Bool}
    → o ≡ op.Rename dir name to_dir to_name → IsTrue a ↔ IsPlace (dir, name) → a ≡ true → IsTrue b ↔ IsPlace (to_dir, to_name) → IsTrue b ↔ OperationFits o
rename_fits is s first t =
    let p = s.0 first in
    of_op is (λ h. let q = t.0 h in (p.0, p.1, q.0, q.1), λ f. t.1 (f.2, f.3))

pub no_rename_fits : {o : Op} {dir to_dir : Key} {name to_name : List ℕ} {b : Bool}
    → o ≡ op.Rename dir name to_dir to_name → b ≡ false → IsTrue b ↔ IsPlace (dir, name) → IsTrue b ↔ OperationFits o
no_rename_fits is e t = of_op is (λ h. absurd (cc (h, e)), λ f. t.1 (f.0, f.1))

pub prepare_fits : {o : Op} {dir : Key} {name verifier : List ℕ} {b : Bool}
    → o ≡ op.Prepare dir name verifier → IsBlock 8 verifier → IsTrue b ↔ IsPlace (dir, name) → IsTrue b ↔ OperationFits o
prepare_fits is verifier t = of_op is (λ h. let p = t.0 h in (p.0, p.1, verifier), λ f. t.1 (f.0, f.1))

pub cancel_fits : {o : Op} {seq : ℕ} → o ≡ op.Cancel seq → seq < 2 ^ 32 → IsTrue true ↔ OperationFits o
cancel_fits is fits = of_op is (λ h. fits, λ f. refl)

pub set_fits : {o : Op} {number : Key} {change : Change} {b : Bool} → o ≡ op.SetAttrs number change → IsKey number → IsTrue b ↔ IsChange change → IsTrue b ↔ OperationFits o
set_fits is number t = of_op is (λ h. (number, t.0 h), λ f. t.1 f.1)

pub end_fits : {o : Op} → o ≡ op.End → IsTrue true ↔ OperationFits o
end_fits is = of_op is (λ h. tt, λ f. refl)

-- ---- whether it is End

the_end : (o : Op) → IsEndOp o → o ≡ op.End
the_end op.End e = refl
the_end o e = absurd e

pub is_end : {o : Op} → o ≡ op.End → IsTrue true ↔ IsEndOp o
is_end {o} is = (λ h. subst IsEndOp (sym is) tt, λ e. refl)

pub is_not_end : {o : Op} → (o ≡ op.End → ⊥) → IsTrue false ↔ IsEndOp o
is_not_end {o} other = (λ h. absurd (cc h), λ e. absurd (other (the_end o e)))

-- ---- whether it stands where it may

pub first_in_place : (r : Record) {b : Bool} → r.seq ≡ 1 → IsEndOp r.op → IsTrue b ↔ (((r.prev ≡ no_name) × (r.vector ≡ [])) × (r.format ≡ One)) → IsTrue b ↔ IsInPlace r
first_in_place r first ends alone =
    (λ h. record { ends_first = (λ e. ends, λ e. first); first_alone = λ e. (alone.0 h).0; first_plain = λ e. (alone.0 h).1 }, λ p. alone.1 (p.first_alone first, p.first_plain first))

pub no_end_first : (r : Record) {b : Bool} → r.seq ≡ 1 → b ≡ false → IsTrue b ↔ IsEndOp r.op → IsTrue b ↔ IsInPlace r
no_end_first r first fails ends = (λ h. absurd (cc (h, fails)), λ p. ends.1 (p.ends_first.0 first))

-- ---- whether a record may be next after that of a stamp

first_by : (r : Record) → HasSpelling r → r.seq ≡ 1 → IsFirst r
first_by r f k = record { seq = k; ends = the_end r.op (f.ends_first.0 k); prev = (f.first_alone k).0; vector = (f.first_alone k).1 }

pub next_by : (r : Record) (s : Option Stamp) (n : ℕ) → HasSpelling r → n ≡ reach s → IsTrue (nat_eq (r.seq - 1) n) ↔ MayBeNext s r
next_by r None n f e = (λ h. let k = eqb-true (r.seq - 1) n h in first_by r f (omega (arith, k, e, f.some)), λ i. eq-eqb (r.seq - 1) n (omega (arith, i.seq, e)))
next_by r (Some t) n f e = (λ h. let k = eqb-true (r.seq - 1) n h in omega (arith, k, e, f.some), λ i. eq-eqb (r.seq - 1) n (omega (arith, i, e)))
