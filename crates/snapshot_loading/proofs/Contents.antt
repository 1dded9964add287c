-- The content that a snapshot gives an inode.
use Rattle.std.proofs.Common.{◌≡◌, ℕ, zero, suc, ◌+◌, ◌-◌, Bool, true, false, List, [], ◌++◌, length, filter, replicate, refl, sym, ap, ◌∙◌, arith, append-nil}
use denote.Enum.Bare.{sameb}
use Rattle.ivy_base.specs.contracts.operation.Kind.{the_type}
use Rattle.std.proofs.lemmas.List.{take_all}
use Rattle.std.proofs.Math.Seq.{drop-nil}
use Rattle.ivy_base.specs.declared.key.Key.{Key}
use Rattle.ivy_base.specs.declared.operation.Kind.{Kind}
use Rattle.ivy_base.specs.declared.operation.Kind.TheVariants.{Reg, Dir, Lnk}
use Rattle.ivy_base.specs.declared.operation.Op.TheVariants as op
use Rattle.tree_model.specs.Tree.{file_kind}
use Rattle.tree_model.specs.Apply.{overwritten, resized}
use Rattle.inode_replay.specs.Attributes.{attributes_of}
use Rattle.inode_replay.specs.declared.attr.Attr.{Attr}
use Rattle.inode_replay.specs.Contents.{new_inode}
use Rattle.inode_replay.specs.Kept.{Kept, changed_kept, places_written}
use Rattle.snapshot_loading.specs.declared.parts.InodeParts.{InodeParts}
use Rattle.snapshot_loading.specs.Parts.{IsBody, HasBody, kept_of}
use Rattle.snapshot_loading.specs.Steps.{IsBegun, beginning, change_of, first_body}

abbrev begun : Kind → List ℕ → Kept
begun kind body = record { inode = new_inode beginning kind 0 0 0 (first_body kind body); written = replicate (length (first_body kind body)) false }

begun_is : (p : InodeParts) (k : Kept) → IsBegun p k → k ≡ begun p.kind p.body
begun_is p k is = cc

abbrev whole : Kind → Attr → List ℕ → Kept
whole kind a body = record { inode = record { kind = kind; attributes = attributes_of a; body = body }; written = replicate (length body) (file_kind kind) }

same_size : (bytes : List ℕ) → resized (length bytes) bytes ≡ bytes
same_size bytes =
    let none : length bytes - length bytes ≡ 0 = omega arith in
    ap (λ (l : List ℕ). l ++ replicate (length bytes - length bytes) 0) (take_all (length bytes) bytes (omega arith)) ∙ ap (λ (k : ℕ). bytes ++ replicate k 0) none ∙ append-nil bytes

-- ---- a file

written_over : (part : List ℕ) → overwritten [] 0 part ≡ part
written_over part = ap (λ (l : List ℕ). part ++ l) (drop-nil (0 + length part)) ∙ append-nil part

all_places : (n : ℕ) → places_written 0 n [] ≡ replicate n true
all_places n = ap (λ l. replicate n true ++ l) (drop-nil (0 + n)) ∙ append-nil (replicate n true)

abbrev with_places : Attr → List ℕ → List Bool → Kept
with_places a body places = record { inode = record { kind = Reg; attributes = attributes_of a; body = body }; written = places }

file_is : (n : Key) (a : Attr) (body : List ℕ) → changed_kept a.ctime (op.SetAttrs n (change_of a)) (changed_kept beginning (op.Write n 0 body) (begun Reg body)) ≡ whole Reg a body
file_is n a body =
    ap (λ bytes. with_places a bytes (places_written 0 (length body) [])) (same_size (overwritten [] 0 body) ∙ written_over body)
    ∙ ap (λ places. with_places a body places) (all_places (length body))

-- ---- anything else

other_is : (kind : Kind) (body : List ℕ) → IsBody kind body → (kind ≡ Reg → ⊥) → (n : Key) (a : Attr) → changed_kept a.ctime (op.SetAttrs n (change_of a)) (begun kind body) ≡ whole kind a body
other_is Reg body h other n a = absurd (other refl)
other_is Dir body h other n a = ap (λ bytes. whole Dir a bytes) (sym h)
other_is Lnk body h other n a = ap (λ bytes. record { inode = record { kind = Lnk; attributes = attributes_of a; body = bytes }; written = replicate (length body) false }) (same_size body)

-- ---- either

pub file_content : (p : InodeParts) (first second third : Kept) → p.kind ≡ Reg → IsBegun p first → second ≡ changed_kept beginning (op.Write p.number 0 p.body) first → third ≡ changed_kept p.attributes.ctime (op.SetAttrs p.number (change_of p.attributes)) second
    → third ≡ kept_of p
file_content p first second third file is writes sets =
    sets ∙ ap (changed_kept p.attributes.ctime (op.SetAttrs p.number (change_of p.attributes))) (writes ∙ ap (changed_kept beginning (op.Write p.number 0 p.body)) (begun_is p first is ∙ ap (λ (k : Kind). begun k p.body) file))
    ∙ file_is p.number p.attributes p.body ∙ ap (λ (k : Kind). whole k p.attributes p.body) (sym file)

pub other_content : (p : InodeParts) (first second third : Kept) → HasBody p → (p.kind ≡ Reg → ⊥) → IsBegun p first → second ≡ first → third ≡ changed_kept p.attributes.ctime (op.SetAttrs p.number (change_of p.attributes)) second → third ≡ kept_of p
other_content p first second third body other is same sets =
    sets ∙ ap (changed_kept p.attributes.ctime (op.SetAttrs p.number (change_of p.attributes))) (same ∙ begun_is p first is) ∙ other_is p.kind p.body body other p.number p.attributes

-- what the test of the kind says
pub is_file : (kind : Kind) → true ≡ sameb the_type kind Reg → kind ≡ Reg
is_file Reg h = refl
is_file Dir h = cc
is_file Lnk h = cc

pub is_other : (kind : Kind) → false ≡ sameb the_type kind Reg → kind ≡ Reg → ⊥
is_other Reg h is = cc
is_other Dir h is = cc
is_other Lnk h is = cc

-- ---- its places

all_counted : (n : ℕ) → length (filter (λ m. m) (replicate n true)) ≡ n
all_counted zero = refl
all_counted (suc n) = ap suc (all_counted n)

pub all_written : (p : InodeParts) (k : Kept) → k ≡ kept_of p → p.kind ≡ Reg → length (filter (λ m. m) k.written) ≡ length k.inode.body
all_written p k is file =
    ap (λ (j : Kept). length (filter (λ m. m) j.written)) is ∙ ap (λ (b : Bool). length (filter (λ m. m) (replicate (length p.body) b))) (ap file_kind file)
    ∙ all_counted (length p.body) ∙ sym (ap (λ (j : Kept). length j.inode.body) is)
