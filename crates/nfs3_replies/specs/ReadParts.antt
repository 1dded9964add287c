-- The parts of results in the order in which they are read, and the forms of procedures by their numbers.
use Rattle.std.specs.Prelude.{◌≡◌, ℕ, Bool, true, false, List, [], ◌∷◌, ◌++◌, get_or, drop, Option, Some, None, IfSome, nat_eq}
use Rattle.std.specs.Prelude.{if◌then◌else◌}
use Rattle.std.specs.List.{flat_map, AllByRecursion}
use Rattle.ivy_base.specs.declared.operation.Kind.{Kind}
use Rattle.log_model.specs.Spelling.{kind_number}
use Rattle.wire_model.specs.Xdr.{word, double_word, boolean, opaque, optional, IsWord, IsDoubleWord, IsAny}
use Rattle.wire_model.specs.Parts.{IsOptional, as_it_stands}
use Rattle.nfs_model.specs.declared.replies.NfsStatus.{NfsStatus}
use Rattle.nfs_model.specs.declared.replies.Fattr.{Fattr}
use Rattle.nfs_model.specs.declared.replies.Wcc.{Wcc}
use Rattle.nfs_model.specs.declared.replies.Listed.{Listed}
use Rattle.nfs_model.specs.declared.replies.Tail.{Tail}
use Rattle.nfs_model.specs.declared.replies.Reply.{Reply}
use Rattle.nfs_model.specs.declared.replies.Reply.TheVariants as reply
use Rattle.nfs_model.specs.Arguments.{IsHandle, IsVerifier, mount_program}
use Rattle.nfs_model.specs.Results.{status_number, fattr, wcc, result, many}
use Rattle.nfs_model.specs.Replies.{IsFattr, IsWcc, IsTail, IsText, IsPlainEntry, IsPlusEntry, ReplyFits, tail_form, result_form}

-- ---- parts

-- the same words, whatever else there is
abbrev pub constant : List ℕ → Unit {0} → List ℕ
constant words u = many word words

abbrev pub kind_word : Kind → List ℕ
kind_word kind = word (kind_number kind)

abbrev pub status_word : NfsStatus → List ℕ
status_word status = word (status_number status)

-- ---- results

-- attributes and cache data: LINK, and what stands after a refusal of it
abbrev pub AreAttributesAndCache : Option Fattr × Wcc → Type 0
AreAttributesAndCache p = IsOptional IsFattr p.0 × IsWcc p.1

abbrev pub attributes_and_cache : Option Fattr × Wcc → List ℕ
attributes_and_cache p = optional fattr p.0 ++ wcc p.1

-- cache data of two directories: RENAME, and what stands after a refusal of it
abbrev pub AreTwoCaches : Wcc × Wcc → Type 0
AreTwoCaches p = IsWcc p.0 × IsWcc p.1

abbrev pub two_caches : Wcc × Wcc → List ℕ
two_caches p = wcc p.0 ++ wcc p.1

-- a handle that may be missing, but isn't
abbrev pub given_handle : List ℕ → List ℕ
given_handle handle = boolean true ++ opaque handle

abbrev pub Found : Type 0
Found = (List ℕ × Option Fattr) × Option Fattr

abbrev pub IsFound : Found → Type 0
IsFound p = (IsHandle p.0.0 × IsOptional IsFattr p.0.1) × IsOptional IsFattr p.1

abbrev pub found : Found → List ℕ
found p = (opaque p.0.0 ++ optional fattr p.0.1) ++ optional fattr p.1

abbrev pub IsAllowedParts : Option Fattr × ℕ → Type 0
IsAllowedParts p = IsOptional IsFattr p.0 × IsWord p.1

abbrev pub allowed_parts : Option Fattr × ℕ → List ℕ
allowed_parts p = optional fattr p.0 ++ word p.1

abbrev pub IsLinkText : Option Fattr × List ℕ → Type 0
IsLinkText p = IsOptional IsFattr p.0 × IsText p.1

abbrev pub link_text : Option Fattr × List ℕ → List ℕ
link_text p = optional fattr p.0 ++ opaque p.1

abbrev pub Content : Type 0
Content = ((Option Fattr × ℕ) × Bool) × List ℕ

abbrev pub IsContent : Content → Type 0
IsContent p = ((IsOptional IsFattr p.0.0.0 × IsWord p.0.0.1) × IsAny p.0.1) × IsText p.1

abbrev pub content : Content → List ℕ
content p = ((optional fattr p.0.0.0 ++ word p.0.0.1) ++ boolean p.0.1) ++ opaque p.1

-- FILE_SYNC and the verifier, "IVYVERF1" in two words
abbrev pub IsWrittenParts : (Wcc × ℕ) × Unit {0} → Type 0
IsWrittenParts p = (IsWcc p.0.0 × IsWord p.0.1) × IsAny p.1

abbrev pub written_parts : (Wcc × ℕ) × Unit {0} → List ℕ
written_parts p = (wcc p.0.0 ++ word p.0.1) ++ constant (2 ∷ 1230395734 ∷ 1163019825 ∷ []) p.1

abbrev pub IsCommittedParts : Wcc × Unit {0} → Type 0
IsCommittedParts p = IsWcc p.0 × IsAny p.1

abbrev pub committed_parts : Wcc × Unit {0} → List ℕ
committed_parts p = wcc p.0 ++ constant (1230395734 ∷ 1163019825 ∷ []) p.1

-- attributes, and words that are always the same
abbrev pub IsNumbered : Option Fattr × Unit {0} → Type 0
IsNumbered p = IsOptional IsFattr p.0 × IsAny p.1

abbrev pub numbered : List ℕ → Option Fattr × Unit {0} → List ℕ
numbered numbers p = optional fattr p.0 ++ constant numbers p.1

-- MNT: a handle, and the one flavour
abbrev pub IsMountedParts : List ℕ × Unit {0} → Type 0
IsMountedParts p = IsHandle p.0 × IsAny p.1

abbrev pub mounted_parts : List ℕ × Unit {0} → List ℕ
mounted_parts p = opaque p.0 ++ constant (1 ∷ 1 ∷ []) p.1

-- ---- pages

-- an entry without attributes and file handle
abbrev pub EntryParts : Type 0
EntryParts = (ℕ × List ℕ) × ℕ

abbrev pub AreEntryParts : EntryParts → Type 0
AreEntryParts p = (IsDoubleWord p.0.0 × IsText p.0.1) × IsDoubleWord p.1

abbrev pub entry_parts : EntryParts → List ℕ
entry_parts p = (double_word p.0.0 ++ opaque p.0.1) ++ double_word p.1

-- an entry of READDIRPLUS, or else of READDIR, after its flag
abbrev pub IsEntry : Bool → Listed → Type 0
IsEntry false = IsPlainEntry
IsEntry true = IsPlusEntry

abbrev pub entry_body : Bool → Listed → List ℕ
entry_body false e = double_word e.fileid ++ opaque e.name ++ double_word e.cookie
entry_body true e = double_word e.fileid ++ opaque e.name ++ double_word e.cookie ++ optional fattr e.attributes ++ optional opaque e.handle

abbrev pub flagged_entry : Bool → Listed → List ℕ
flagged_entry plus e = word 1 ++ entry_body plus e

-- entries, and the flag that says that there is no more
abbrev pub ArePage : Bool → List Listed → Type 0
ArePage plus page = AllByRecursion (IsEntry plus) page

abbrev pub page_bytes : Bool → List Listed → List ℕ
page_bytes plus page = flat_map (flagged_entry plus) page ++ word 0

-- the form of READDIRPLUS's result, or else of READDIR's
abbrev pub directory_form : Bool → ℕ
directory_form false = 16
directory_form true = 17

abbrev pub IsPageHead : Option Fattr × List ℕ → Type 0
IsPageHead p = IsOptional IsFattr p.0 × IsVerifier p.1

abbrev pub page_head : Option Fattr × List ℕ → List ℕ
page_head p = optional fattr p.0 ++ as_it_stands p.1

-- ---- forms

-- what stands after the status of a result
abbrev pub after_status : Reply → List ℕ
after_status r = drop 4 (result r)

-- a status, and OK where there is none
abbrev pub status_or_ok : Option NfsStatus → List ℕ
status_or_ok None = word 0
status_or_ok (Some status) = status_word status

-- a result of that form, and what stands after a refusal of that form
abbrev pub IsDone : ℕ → Reply → Type 0
IsDone form r = (result_form r ≡ form) × ReplyFits r

abbrev pub IsTailOf : ℕ → Tail → Type 0
IsTailOf form t = (tail_form t ≡ form) × IsTail t

-- a reply of a procedure with these forms
abbrev pub IsOfForms : ℕ → ℕ → Reply → Type 0
IsOfForms tail_is result_is (reply.Refused s t) = tail_form t ≡ tail_is
IsOfForms tail_is result_is r = result_form r ≡ result_is

abbrev pub IsAnswer : ℕ → ℕ → Reply → Type 0
IsAnswer tail_is result_is r = IsOfForms tail_is result_is r × ReplyFits r

-- the forms of NFS's procedures by their numbers, from 0 on
abbrev pub tail_form_at : ℕ → ℕ
tail_form_at procedure = get_or (5 ∷ 0 ∷ 2 ∷ 1 ∷ 1 ∷ 1 ∷ 1 ∷ 2 ∷ 2 ∷ 2 ∷ 2 ∷ 2 ∷ 2 ∷ 2 ∷ 3 ∷ 4 ∷ 1 ∷ 1 ∷ 1 ∷ 1 ∷ 1 ∷ 2 ∷ []) procedure 5

abbrev pub result_form_at : ℕ → ℕ
result_form_at procedure = get_or (0 ∷ 1 ∷ 2 ∷ 3 ∷ 4 ∷ 5 ∷ 6 ∷ 7 ∷ 8 ∷ 8 ∷ 8 ∷ 11 ∷ 2 ∷ 2 ∷ 14 ∷ 15 ∷ 16 ∷ 17 ∷ 18 ∷ 19 ∷ 20 ∷ 21
    ∷ []) procedure 200

-- those of MOUNT's, whose results are never refused
abbrev pub mount_form_at : ℕ → ℕ
mount_form_at procedure = get_or (0 ∷ 101 ∷ 102 ∷ 0 ∷ 0 ∷ 105 ∷ []) procedure 200

-- the forms of each procedure
abbrev pub tail_form_for : ℕ → ℕ → ℕ
tail_form_for program procedure = if nat_eq program mount_program then 5 else tail_form_at procedure

abbrev pub result_form_for : ℕ → ℕ → ℕ
result_form_for program procedure = if nat_eq program mount_program then mount_form_at procedure else result_form_at procedure
