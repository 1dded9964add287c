-- Of any bytes it is known whether they are a record of an owner's.
use Rattle.std.proofs.Common.{◌≡◌, ◌⊎◌, inl, inr, ℕ, zero, suc, ◌+◌, ◌<◌, ◌≤◌, ◌^◌, Bool, true, false, List, [], ◌∷◌, ◌++◌, length, Option, Some, None, refl, ap, ◌∙◌, subst, arith, append_assoc, Contains}
use Rattle.std.specs.Prelude.{⊤, IsTrue}
use Rattle.std.specs.FinMap.Entries.{is_sorted}
use Rattle.std.proofs.lemmas.Bool.{cases_lt, cases_eq}
use Rattle.ivy_base.specs.declared.format.Format.{Format}
use Rattle.ivy_base.specs.declared.format.Format.TheVariants.{One, Two}
use Rattle.ivy_base.specs.declared.key.Key.{Key}
use Rattle.ivy_base.specs.declared.key.PubKey.{PubKey}
use Rattle.ivy_base.specs.declared.operation.Change.{Change}
use Rattle.ivy_base.specs.declared.operation.Kind.{Kind}
use Rattle.ivy_base.specs.declared.operation.Kind.TheVariants.{Reg, Dir, Lnk}
use Rattle.ivy_base.specs.declared.operation.Moment.{Moment}
use Rattle.ivy_base.specs.declared.operation.Op.{Op}
use Rattle.ivy_base.specs.declared.operation.Op.TheVariants as op
use Rattle.ivy_base.specs.Naming.{head_key_of, key_cmp, IsFileName}
use Rattle.tree_model.specs.Tree.{same_key, longest_file}
use Rattle.tree_model.proofs.Keys.{same_key_is, same_key_itself}
use Rattle.wire_model.specs.Xdr.{word, double_word, opaque, array, moment, IsAny}
use Rattle.wire_model.proofs.OneReading.{of_fewer, of_parts, one_word}
use Rattle.log_model.specs.Vector.{Entry, Vector, Stamp, stamp_at}
use Rattle.log_model.specs.Record.{Record}
use Rattle.log_model.specs.Spelling.{HasSpelling, IsKey, IsBlock, IsMoment, IsTarget, IsChange, IsEndOp, IsRecordOf, body, record_kind, record_tag, vector_entry, most_records, no_name}
use Rattle.log_model.specs.View.{most_cited}
use Rattle.log_model.proofs.Lists.{here, there, in_cons, in_nothing}
use Rattle.version_vectors.specs.Vectors.{EntryFits}
use Rattle.log_records.specs.declared.frame.Frame.{Frame}
use Rattle.log_records.specs.Frames.{IsCited, IsFrame, frame_block, AreParts, parts_block, IsWellPlaced}
use Rattle.log_records.specs.Heads.{IsNumber}
use Rattle.block_parts.specs.Parts.{key_bytes, kind_word, IsAtMost}
use Rattle.log_records.specs.Parts.{change_block, IsOfKind}
use Rattle.log_records.proofs.Frames.{one_frame}
use Rattle.block_parts.proofs.OneParts.{one_block, one_key, one_at_most, one_time, one_kind, one_name, one_size}
use Rattle.log_records.proofs.OneBody.{change_of_parts, change_parts, one_change, target_fits}
use Rattle.log_records.proofs.ReadParts.{one_tag}
use Rattle.log_records.proofs.OneRecord.{one_of_parts, parts_in, record_with, is_record, misplaced}
use Rattle.turn_laws.proofs.Deciding.{Reads, IsReadable, HasParts, ◌then◌, a_word, a_double_word, a_moment, a_front, a_data, a_raw, an_array, an_optional, reads_then, reads_then_by, reads_fewer, reads_parts, reads_either, fronts, whole_or_not, same_or_not}

-- ---- what is decided of a value

abbrev pub Known : Type 0 → Type 0
Known P = P ⊎ (P → ⊥)

pub both_known : {P Q : Type 0} → Known P → Known Q → Known (P × Q)
both_known (inl p) (inl q) = inl (p, q)
both_known (inr not_p) q = inr (λ z. not_p z.0)
both_known (inl p) (inr not_q) = inr (λ z. not_q z.1)

pub not_known : {P : Type 0} → Known P → Known (P → ⊥)
not_known (inl p) = inr (λ f. f p)
not_known (inr none) = inl none

pub if_known : {P Q : Type 0} → Known P → Known Q → Known (P → Q)
if_known p (inl q) = inl (λ x. q)
if_known (inl p) (inr not_q) = inr (λ f. not_q (f p))
if_known (inr not_p) (inr not_q) = inl (λ x. absurd (not_p x))

pub at_most_known : (n m : ℕ) → Known (n ≤ m)
at_most_known n m = elim (cases_lt m n) [
  | inl more ↦ inr (λ le. absurd (omega (arith, more, le)))
  | inr least ↦ inl least
]

pub truth_known : (b : Bool) → Known (IsTrue b)
truth_known true = inl refl
truth_known false = inr (λ e. cc e)

pub key_known : (k l : Key) → Known (k ≡ l)
key_known k l = elim (truth_known (same_key k l)) [
  | inl same ↦ inl (same_key_is k l same)
  | inr other ↦ inr (λ e. other (subst (λ (x : Key). same_key k x ≡ true) e (same_key_itself k)))
]

pub number_known : (n m : ℕ) → Known (n ≡ m)
number_known n m = cases_eq n m

one_known : (f : Format) → Known (f ≡ One)
one_known One = inl refl
one_known Two = inr (λ e. cc e)

nothing_known : {A : Type 0} (xs : List A) → Known (xs ≡ [])
nothing_known [] = inl refl
nothing_known (x ∷ xs) = inr (λ e. cc e)

no_stamp_known : (s : Option Stamp) → Known (s ≡ None)
no_stamp_known None = inl refl
no_stamp_known (Some t) = inr (λ e. cc e)

pub element_known : (x : ℕ) (xs : List ℕ) → Known (Contains xs x)
element_known x [] = inr (in_nothing x)
element_known x (y ∷ xs) = elim (cases_eq y x) [
  | inl e ↦ inl (subst (λ (z : ℕ). Contains (y ∷ xs) z) e (here y xs))
  | inr other ↦ elim (element_known x xs) [
    | inl more ↦ inl (there y xs x more)
    | inr none ↦ inr (λ c. elim (in_cons y xs x c) [
      | inl e ↦ other e
      | inr more ↦ none more
    ])
  ]
]

-- ---- parts of a record

a_block : (count : ℕ) → IsReadable (IsBlock count) (λ bytes. bytes)
a_block count = (
  one_block count,
  reads_fewer (a_raw count) (λ b f. f.size) (λ b size. elim (truth_known _) [
    | inl each ↦ inl (record { size = size; each = each })
    | inr none ↦ inr (λ f. none f.each)
  ]),
)

a_key : IsReadable IsKey key_bytes
a_key = (one_key, reads_parts {written = key_bytes} (λ (b : List ℕ). record { 0 = b }) (λ b f. (f, refl)) (λ k f. record { part = k.0; fits = f; spelled = refl }) (a_block 20).1)

a_bounded : (most : ℕ) → most < 2 ^ 32 → IsReadable (IsAtMost most) word
a_bounded most small = (one_at_most most small, reads_fewer a_word (λ n f. omega (arith, f, small)) (λ n f. at_most_known n most))

a_size : IsReadable (IsAtMost longest_file) double_word
a_size = (one_size, reads_fewer a_double_word (λ n f. omega (arith, f)) (λ n f. at_most_known n longest_file))

a_record_moment : IsReadable IsMoment moment
a_record_moment = (
  one_time,
  reads_fewer a_moment (λ m f. (f.sec, omega (arith, f.nsec))) (λ m f. elim (cases_lt m.nsec 1000000000) [
    | inl few ↦ inl (record { sec = f.0; nsec = few })
    | inr many ↦ inr (λ g. absurd (omega (arith, many, g.nsec)))
  ]),
)

-- kinds
abbrev IsNoFile : Kind → Type 0
IsNoFile Reg = ⊥
IsNoFile Dir = Unit {0}
IsNoFile Lnk = Unit {0}

file_parts : (k : Kind) → IsAny k → HasParts (λ (u : Unit {0}). ⊤) (λ u. word 1) (kind_word k) ⊎ HasParts IsNoFile kind_word (kind_word k)
file_parts Reg f = inl (record { part = tt; fits = tt; spelled = refl })
file_parts Dir f = inr (record { part = Dir; fits = tt; spelled = refl })
file_parts Lnk f = inr (record { part = Lnk; fits = tt; spelled = refl })

other_parts : (k : Kind) → IsNoFile k → HasParts (λ (u : Unit {0}). ⊤) (λ u. word 2) (kind_word k) ⊎ HasParts (λ (u : Unit {0}). ⊤) (λ u. word 5) (kind_word k)
other_parts Reg f = absurd f
other_parts Dir f = inl (record { part = tt; fits = tt; spelled = refl })
other_parts Lnk f = inr (record { part = tt; fits = tt; spelled = refl })

no_files : Reads IsNoFile kind_word
no_files = reads_either {written = kind_word} (λ (u : Unit {0}). Dir) (λ (u : Unit {0}). Lnk) (λ u f. (tt, refl)) (λ u f. (tt, refl)) other_parts (fronts (word 2)) (fronts (word 5))

a_kind : IsReadable IsAny kind_word
a_kind = (one_kind, reads_either {written = kind_word} (λ (u : Unit {0}). Reg) (λ (k : Kind). k) (λ u f. (tt, refl)) (λ k f. (tt, refl)) file_parts (fronts (word 1)) no_files)

-- tags
tag_parts : (f : Format) → IsAny f → HasParts (λ (u : Unit {0}). ⊤) (λ u. record_tag One) (record_tag f) ⊎ HasParts (λ (u : Unit {0}). ⊤) (λ u. record_tag Two) (record_tag f)
tag_parts One f = inl (record { part = tt; fits = tt; spelled = refl })
tag_parts Two f = inr (record { part = tt; fits = tt; spelled = refl })

a_tag : IsReadable IsAny record_tag
a_tag = (
  one_tag,
  reads_either {written = record_tag} (λ (u : Unit {0}). One) (λ (u : Unit {0}). Two) (λ u f. (tt, refl)) (λ u f. (tt, refl)) tag_parts (fronts (record_tag One)) (fronts (record_tag Two)),
)

-- names of files
file_name_known : (b : List ℕ) → length b ≤ 255 → Known (IsFileName b)
file_name_known b short = elim (both_known (at_most_known 1 (length b)) (both_known (not_known (element_known 47 b)) (both_known (not_known (element_known 0 b)) (both_known (not_known (same_or_not b (46 ∷ []))) (not_known (same_or_not b (46 ∷ 46 ∷ []))))))) [
  | inl f ↦ inl (record { some = f.0; short = short; no_slash = f.1.0; no_zero = f.1.1.0; not_itself = f.1.1.1.0; not_parent = f.1.1.1.1 })
  | inr none ↦ inr (λ f. none (f.some, (f.no_slash, (f.no_zero, (f.not_itself, f.not_parent)))))
]

a_name : IsReadable IsFileName opaque
a_name = (one_name, reads_fewer (a_data 255 (omega arith)) (λ b f. f.short) file_name_known)

a_change : IsReadable IsChange change_block
a_change = (
  one_change,
  reads_parts {written = change_block} change_of_parts (λ p f. (record { mode = f.0.0.0.0.0; uid = f.0.0.0.0.1; gid = f.0.0.0.1; size = f.0.0.1; atime = f.0.1; mtime = f.1 }, refl))
      (λ c f. record { part = change_parts c; fits = (((((f.mode, f.uid), f.gid), f.size), f.atime), f.mtime); spelled = refl })
      (an_optional (a_bounded 4095 (omega arith)) then an_optional a_word then an_optional a_word then an_optional a_size then an_optional a_record_moment then an_optional a_record_moment).1,
)

-- ---- operations, by their kinds

target_known : (k : Kind) (b : List ℕ) → length b ≤ 1024 → Known (IsTarget k b)
target_known Reg b short = nothing_known b
target_known Dir b short = nothing_known b
target_known Lnk b short = both_known (at_most_known 1 (length b)) (inl short)

abbrev InodeParts : Type 0
InodeParts = ((((Key × Kind) × ℕ) × ℕ) × ℕ) × List ℕ

abbrev inode_bytes : InodeParts → List ℕ
inode_bytes p = key_bytes p.0.0.0.0.0 ++ kind_word p.0.0.0.0.1 ++ word p.0.0.0.1 ++ word p.0.0.1 ++ word p.0.1 ++ opaque p.1

abbrev AreInode : InodeParts → Type 0
AreInode p = ((((IsKey p.0.0.0.0.0 × IsAny p.0.0.0.0.1) × IsAtMost 4095 p.0.0.0.1) × (p.0.0.1 < 2 ^ 32)) × (p.0.1 < 2 ^ 32)) × IsTarget p.0.0.0.0.1 p.1

inodes : Reads AreInode inode_bytes
inodes = reads_fewer {spell = inode_bytes} (a_key then a_kind then a_bounded 4095 (omega arith) then a_word then a_word then a_data 1024 (omega arith)) (λ p f. (f.0, target_fits p.0.0.0.0.1 p.1 f.1)) (λ p f. both_known (inl f.0) (target_known p.0.0.0.0.1 p.1 f.1))

inode_parts : (o : Op) → IsOfKind 1 o → HasParts AreInode inode_bytes (body o)
inode_parts (op.Inode number kind mode uid gid target) f = record { part = (((((number, kind), mode), uid), gid), target); fits = (((((f.1.0, tt), f.1.1), f.1.2), f.1.3), f.1.4); spelled = refl }
inode_parts o f = absurd (omega (arith, f.0))

abbrev WriteParts : Type 0
WriteParts = (Key × ℕ) × List ℕ

abbrev write_bytes : WriteParts → List ℕ
write_bytes p = key_bytes p.0.0 ++ double_word p.0.1 ++ opaque p.1

abbrev AreWrite : WriteParts → Type 0
AreWrite p = IsKey p.0.0 × ((1 ≤ length p.1) × ((length p.1 ≤ 8192) × (p.0.1 + length p.1 ≤ longest_file)))

writes : Reads AreWrite write_bytes
writes = reads_fewer {spell = write_bytes} (a_key then a_double_word then a_data 8192 (omega arith)) (λ p f. ((f.0, omega (arith, f.1.1.1)), f.1.1.0))
    (λ p f. both_known (inl f.0.0) (both_known (at_most_known 1 (length p.1)) (both_known (inl f.1) (at_most_known (p.0.1 + length p.1) longest_file))))

write_parts : (o : Op) → IsOfKind 2 o → HasParts AreWrite write_bytes (body o)
write_parts (op.Write number offset bytes) f = record { part = ((number, offset), bytes); fits = (f.1.0, (f.1.1, (f.1.2, f.1.3))); spelled = refl }
write_parts o f = absurd (omega (arith, f.0))

link_parts : (o : Op) → IsOfKind 3 o → HasParts {A = (Key × List ℕ) × Key} (λ p. (IsKey p.0.0 × IsFileName p.0.1) × IsKey p.1) (λ p. key_bytes p.0.0 ++ opaque p.0.1 ++ key_bytes p.1) (body o)
link_parts (op.Link dir name number) f = record { part = ((dir, name), number); fits = ((f.1.0, f.1.1), f.1.2); spelled = refl }
link_parts o f = absurd (omega (arith, f.0))

unlink_parts : (o : Op) → IsOfKind 4 o → HasParts {A = Key × List ℕ} (λ p. IsKey p.0 × IsFileName p.1) (λ p. key_bytes p.0 ++ opaque p.1) (body o)
unlink_parts (op.Unlink dir name) f = record { part = (dir, name); fits = (f.1.0, f.1.1); spelled = refl }
unlink_parts o f = absurd (omega (arith, f.0))

rename_parts : (o : Op) → IsOfKind 5 o → HasParts {A = ((Key × List ℕ) × Key) × List ℕ} (λ p. ((IsKey p.0.0.0 × IsFileName p.0.0.1) × IsKey p.0.1) × IsFileName p.1) (λ p. key_bytes p.0.0.0 ++ opaque p.0.0.1 ++ key_bytes p.0.1 ++ opaque p.1) (body o)
rename_parts (op.Rename dir name to_dir to_name) f = record { part = (((dir, name), to_dir), to_name); fits = (((f.1.0, f.1.1), f.1.2), f.1.3); spelled = refl }
rename_parts o f = absurd (omega (arith, f.0))

prepare_parts : (o : Op) → IsOfKind 6 o → HasParts {A = (Key × List ℕ) × List ℕ} (λ p. (IsKey p.0.0 × IsFileName p.0.1) × IsBlock 8 p.1) (λ p. key_bytes p.0.0 ++ opaque p.0.1 ++ p.1) (body o)
prepare_parts (op.Prepare dir name verifier) f = record { part = ((dir, name), verifier); fits = ((f.1.0, f.1.1), f.1.2); spelled = refl }
prepare_parts o f = absurd (omega (arith, f.0))

cancel_parts : (o : Op) → IsOfKind 7 o → HasParts (λ n. n < 2 ^ 32) word (body o)
cancel_parts (op.Cancel seq) f = record { part = seq; fits = f.1; spelled = refl }
cancel_parts o f = absurd (omega (arith, f.0))

set_parts : (o : Op) → IsOfKind 8 o → HasParts {A = Key × Change} (λ p. IsKey p.0 × IsChange p.1) (λ p. key_bytes p.0 ++ change_block p.1) (body o)
set_parts (op.SetAttrs number change) f = record { part = (number, change); fits = (f.1.0, f.1.1); spelled = simp append_assoc }
set_parts o f = absurd (omega (arith, f.0))

end_parts : (o : Op) → IsOfKind 9 o → HasParts (λ (u : Unit {0}). ⊤) (λ u. []) (body o)
end_parts op.End f = record { part = tt; fits = tt; spelled = refl }
end_parts o f = absurd (omega (arith, f.0))

last_kind : (o : Op) → (1 ≤ record_kind o) × (record_kind o ≤ 9)
last_kind (op.Inode number kind mode uid gid target) = (omega arith, omega arith)
last_kind (op.Write number offset bytes) = (omega arith, omega arith)
last_kind (op.Link dir name number) = (omega arith, omega arith)
last_kind (op.Unlink dir name) = (omega arith, omega arith)
last_kind (op.Rename dir name to_dir to_name) = (omega arith, omega arith)
last_kind (op.Prepare dir name verifier) = (omega arith, omega arith)
last_kind (op.Cancel seq) = (omega arith, omega arith)
last_kind (op.SetAttrs number change) = (omega arith, omega arith)
last_kind op.End = (omega arith, omega arith)

no_kind : (kind : ℕ) → (kind ≡ 0) ⊎ (10 ≤ kind) → Reads (IsOfKind kind) body
no_kind kind out bytes = inr (λ z. (let last = last_kind z.value in elim out [
  | inl none ↦ absurd (omega (arith, last.0, z.fits.0, none))
  | inr many ↦ absurd (omega (arith, last.1, z.fits.0, many))
]))

bodies : (kind : ℕ) → Reads (IsOfKind kind) body
bodies zero = no_kind 0 (inl refl)
bodies (suc zero) = reads_parts {written = body} (λ (p : InodeParts). op.Inode p.0.0.0.0.0 p.0.0.0.0.1 p.0.0.0.1 p.0.0.1 p.0.1 p.1) (λ p f. ((refl, (f.0.0.0.0.0, f.0.0.0.1, f.0.0.1, f.0.1, f.1)), refl)) inode_parts inodes
bodies (suc (suc zero)) = reads_parts {written = body} (λ (p : WriteParts). op.Write p.0.0 p.0.1 p.1) (λ p f. ((refl, (f.0, f.1.0, f.1.1.0, f.1.1.1)), refl)) write_parts writes
bodies (suc (suc (suc zero))) = reads_parts {written = body} (λ (p : (Key × List ℕ) × Key). op.Link p.0.0 p.0.1 p.1) (λ p f. ((refl, (f.0.0, f.0.1, f.1)), refl)) link_parts (a_key then a_name then a_key).1
bodies (suc (suc (suc (suc zero)))) = reads_parts {written = body} (λ (p : Key × List ℕ). op.Unlink p.0 p.1) (λ p f. ((refl, (f.0, f.1)), refl)) unlink_parts (a_key then a_name).1
bodies (suc (suc (suc (suc (suc zero))))) =
    reads_parts {written = body} (λ (p : ((Key × List ℕ) × Key) × List ℕ). op.Rename p.0.0.0 p.0.0.1 p.0.1 p.1) (λ p f. ((refl, (f.0.0.0, f.0.0.1, f.0.1, f.1)), refl)) rename_parts (a_key then a_name then a_key then a_name).1
bodies (suc (suc (suc (suc (suc (suc zero)))))) = reads_parts {written = body} (λ (p : (Key × List ℕ) × List ℕ). op.Prepare p.0.0 p.0.1 p.1) (λ p f. ((refl, (f.0.0, f.0.1, f.1)), refl)) prepare_parts (a_key then a_name then a_block 8).1
bodies (suc (suc (suc (suc (suc (suc (suc zero))))))) = reads_parts {written = body} (λ (n : ℕ). op.Cancel n) (λ n f. ((refl, f), refl)) cancel_parts a_word.1
bodies (suc (suc (suc (suc (suc (suc (suc (suc zero)))))))) = reads_parts {written = body} (λ (p : Key × Change). op.SetAttrs p.0 p.1) (λ p f. ((refl, (f.0, f.1)), simp append_assoc)) set_parts (a_key then a_change).1
bodies (suc (suc (suc (suc (suc (suc (suc (suc (suc zero))))))))) = reads_parts {written = body} (λ (u : Unit {0}). op.End) (λ u f. ((refl, tt), refl)) end_parts (fronts [])
bodies (suc (suc (suc (suc (suc (suc (suc (suc (suc (suc n)))))))))) = no_kind (suc (suc (suc (suc (suc (suc (suc (suc (suc (suc n)))))))))) (inr (omega arith))

-- ---- what stands in front of each operation

abbrev EntryParts : Type 0
EntryParts = (Key × ℕ) × Key

abbrev entry_of : EntryParts → Entry
entry_of p = (p.0.0, record { seq = p.0.1; name = p.1 })

entries : IsReadable {A = EntryParts} (λ p. (IsKey p.0.0 × ((1 ≤ p.0.1) × (p.0.1 < 2 ^ 32))) × IsKey p.1) (λ p. key_bytes p.0.0 ++ word p.0.1 ++ key_bytes p.1)
entries = a_key then (of_fewer (λ (n : ℕ) f. f.1) one_word, reads_fewer a_word (λ (n : ℕ) f. f.1) (λ n f. both_known (at_most_known 1 n) (inl f))) then a_key

an_entry : IsReadable EntryFits vector_entry
an_entry = (
  of_parts (λ (e : Entry). ((e.0, e.1.seq), e.1.name)) (λ e f. ((f.0, (f.1, f.2)), f.3)) (λ e. refl) (λ d e same. ap entry_of same) entries.0,
  reads_parts {written = vector_entry} entry_of (λ p f. ((f.0.0, f.0.1.0, f.0.1.1, f.1), refl)) (λ e f. record { part = ((e.0, e.1.seq), e.1.name); fits = ((f.0, (f.1, f.2)), f.3); spelled = refl }) entries.1,
)

cited : (log : Key) → Reads (IsCited log) (array vector_entry)
cited log = reads_fewer (an_array an_entry most_cited (omega arith)) (λ v f. (f.0.short, f.0.whole.entries)) (λ v f. elim (both_known (truth_known (is_sorted key_cmp v)) (no_stamp_known (stamp_at v log))) [
  | inl g ↦ inl (record { whole = record { entries = f.1; in_order = g.0 }; short = f.0 }, g.1)
  | inr none ↦ inr (λ g. none (g.0.whole.in_order, g.1))
])

a_number : IsReadable IsNumber word
a_number = (of_fewer (λ (n : ℕ) f. omega (arith, f.1)) one_word, reads_fewer a_word (λ (n : ℕ) f. omega (arith, f.1)) (λ n f. both_known (at_most_known 1 n) (at_most_known n most_records)))

abbrev FrameParts : Type 0
FrameParts = ((((((Format × ℕ) × Unit {0}) × Key) × ℕ) × Moment) × Vector)

abbrev frame_of : FrameParts → Frame
frame_of p = record { format = p.0.0.0.0.0.0; kind = p.0.0.0.0.0.1; prev = p.0.0.0.1; seq = p.0.0.1; moment = p.0.1; vector = p.1 }

frames : (log : Key) → Reads (IsFrame log) (frame_block log)
frames log = reads_parts {written = frame_block log} frame_of (λ p f. (record { kind_is = f.0.0.0.0.0.1; prev_is = f.0.0.0.1; seq_is = f.0.0.1; moment_is = f.0.1; cited = f.1 }, refl))
    (λ (f : Frame) fits. record {
      part = ((((((f.format, f.kind), tt), f.prev), f.seq), f.moment), f.vector);
      fits = ((((((tt, fits.kind_is), tt), fits.prev_is), fits.seq_is), fits.moment_is), fits.cited);
      spelled = refl;
    })
    (reads_then (a_tag then a_word then a_front log.0 then a_key then a_number then a_record_moment) (cited log))

-- ---- whole records

end_known : (o : Op) → Known (IsEndOp o)
end_known (op.Inode number kind mode uid gid target) = inr (λ e. e)
end_known (op.Write number offset bytes) = inr (λ e. e)
end_known (op.Link dir name number) = inr (λ e. e)
end_known (op.Unlink dir name) = inr (λ e. e)
end_known (op.Rename dir name to_dir to_name) = inr (λ e. e)
end_known (op.Prepare dir name verifier) = inr (λ e. e)
end_known (op.Cancel seq) = inr (λ e. e)
end_known (op.SetAttrs number change) = inr (λ e. e)
end_known op.End = inl tt

placed_known : (f : Frame) (o : Op) → Known (IsWellPlaced f o)
placed_known f o =
    let first = number_known f.seq 1 in
    let ends_first = both_known (if_known first (end_known o)) (if_known (end_known o) first) in
    let first_alone = if_known first (both_known (key_known f.prev no_name) (nothing_known f.vector)) in
    elim (both_known ends_first (both_known first_alone (if_known first (one_known f.format)))) [
      | inl g ↦ inl (record { ends_first = (g.0.0, g.0.1); first_alone = g.1.0; first_plain = g.1.1 })
      | inr none ↦ inr (λ g. none ((g.ends_first.0, g.ends_first.1), (g.first_alone, g.first_plain)))
    ]

-- a record's parts
parts_of : (owner : PubKey) (r : Record) → r.owner ≡ owner → HasSpelling r → AreParts (head_key_of owner) (parts_in r)
parts_of owner r e f = subst (λ (o : PubKey). AreParts (head_key_of o) (parts_in r)) e (
  record {
    kind_is = (let last = last_kind r.op in omega (arith, last.1));
    prev_is = f.prev;
    seq_is = (f.some, f.few);
    moment_is = f.moment;
    cited = (record { whole = record { entries = f.entries; in_order = f.in_order }; short = f.short }, f.of_others);
  },
  (refl, f.operation),
)

pub record_or_not : (owner : PubKey) (block : List ℕ) → ((r : Record) × IsRecordOf owner block r) ⊎ ((r : Record) → IsRecordOf owner block r → ⊥)
record_or_not owner block = elim (whole_or_not {spell = parts_block (head_key_of owner)} (one_of_parts (head_key_of owner), reads_then_by (λ (f : Frame) (o : Op). IsOfKind f.kind o) (one_frame (head_key_of owner), frames (head_key_of owner)) (λ f. bodies f.kind)) block) [
  | inr none ↦ inr (λ r is. none (parts_in r, parts_of owner r is.owned is.fits, is.spelled ∙ ap (λ (o : PubKey). parts_block (head_key_of o) (parts_in r)) is.owned))
  | inl x ↦ elim (placed_known x.0.0 x.0.1) [
    | inl placed ↦ inl (record_with owner x.0, is_record owner block (head_key_of owner) x.0 refl (record { fits = x.1; spelled = x.2 }) placed)
    | inr wrong ↦ inr (misplaced owner block (head_key_of owner) x.0 refl (record { fits = x.1; spelled = x.2 }) wrong)
  ]
]
