-- Of any bytes it is known whether they are the arguments of a procedure of NFS.
use Rattle.std.proofs.Common.{◌≡◌, ◌⊎◌, inl, inr, ℕ, zero, suc, ◌<◌, ◌≤◌, ◌^◌, List, [], ◌++◌, length, Option, refl, sym, ◌∙◌, arith}
use Rattle.std.specs.Prelude.{⊤, IfSome}
use Rattle.std.proofs.lemmas.Bool.{cases_lt, cases_eq}
use Rattle.ivy_base.specs.declared.operation.Moment.{Moment}
use Rattle.wire_model.specs.Xdr.{word, double_word, opaque, optional, moment, IsWordMoment}
use Rattle.wire_model.proofs.OneReading.{of_fewer, one_word, one_opaque}
use Rattle.nfs_model.specs.declared.arguments.Args.{Args}
use Rattle.nfs_model.specs.declared.arguments.Args.TheVariants as call
use Rattle.nfs_model.specs.declared.arguments.SetTime.{SetTime}
use Rattle.nfs_model.specs.declared.arguments.SetTime.TheVariants.{Keep, Server, Client}
use Rattle.nfs_model.specs.declared.arguments.SetWhat.{SetWhat}
use Rattle.nfs_model.specs.declared.arguments.How.{How}
use Rattle.nfs_model.specs.declared.arguments.How.TheVariants.{Unchecked, Guarded, Exclusive}
use Rattle.nfs_model.specs.declared.arguments.SpecialNode.{SpecialNode}
use Rattle.nfs_model.specs.declared.arguments.SpecialNode.TheVariants.{Plain, Device, Other}
use Rattle.nfs_model.specs.Arguments.{nfs_program, program_of, procedure_of, arguments, set_time, set_what, create_how, special_node, IsHandle, IsShortText, IsTime, IsSetWhat, IsVerifier, IsHow, IsPlainKind, IsDeviceKind, IsOtherKind, IsNode, ArgumentsFit, AreArguments}
use Rattle.nfs_model.proofs.OneArguments.{one_set_time, one_set_what, one_how, one_node}
use Rattle.turn_laws.proofs.Deciding.{Reads, IsReadable, ◌then◌, HasParts, a_word, a_double_word, a_moment, a_front, a_data, a_raw, an_optional, reads_then, reads_fewer, reads_parts, reads_either, fronts, whole_or_not}

-- ---- parts

a_handle : IsReadable IsHandle opaque
a_handle = a_data 64 (omega arith)

a_text : IsReadable IsShortText opaque
a_text = a_data 4096 (omega arith)

a_verifier : IsReadable IsVerifier (λ bytes. bytes)
a_verifier = a_raw 8

some_bytes : IsReadable (λ (b : List ℕ). length b < 2 ^ 32) opaque
some_bytes = (one_opaque, reads_fewer (a_data 4294967295 (omega arith)) (λ b f. omega (arith, f)) (λ b f. inl (omega (arith, f))))

fewer_words : (Fewer : ℕ → Type 0) → ((n : ℕ) → Fewer n → n < 2 ^ 32) → ((n : ℕ) → Fewer n ⊎ (Fewer n → ⊥)) → IsReadable Fewer word
fewer_words Fewer weaker known = (of_fewer weaker one_word, reads_fewer a_word weaker (λ n f. known n))

a_stable : IsReadable (λ stable. stable ≤ 2) word
a_stable = fewer_words (λ stable. stable ≤ 2) (λ n f. omega (arith, f)) (λ n. elim (cases_lt 2 n) [
  | inl more ↦ inr (λ le. absurd (omega (arith, more, le)))
  | inr least ↦ inl least
])

-- a time to be set
abbrev IsNotKept : SetTime → Type 0
IsNotKept Keep = ⊥
IsNotKept Server = Unit {0}
IsNotKept (Client m) = IsWordMoment m

not_kept : (t : SetTime) → IsTime t → HasParts (λ (u : Unit {0}). ⊤) (λ u. word 0) (set_time t) ⊎ HasParts IsNotKept set_time (set_time t)
not_kept Keep f = inl (record { part = tt; fits = tt; spelled = refl })
not_kept Server f = inr (record { part = Server; fits = tt; spelled = refl })
not_kept (Client m) f = inr (record { part = Client m; fits = f; spelled = refl })

set_parts : (t : SetTime) → IsNotKept t → HasParts (λ (u : Unit {0}). ⊤) (λ u. word 1) (set_time t) ⊎ HasParts {A = Unit {0} × Moment} (λ p. ⊤ × IsWordMoment p.1) (λ p. word 2 ++ moment p.1) (set_time t)
set_parts Keep f = absurd f
set_parts Server f = inl (record { part = tt; fits = tt; spelled = refl })
set_parts (Client m) f = inr (record { part = (tt, m); fits = (tt, f); spelled = refl })

any_kept : (t : SetTime) → IsNotKept t → IsTime t
any_kept Keep f = absurd f
any_kept Server f = tt
any_kept (Client m) f = f

set_times : Reads IsNotKept set_time
set_times = reads_either {written = set_time} (λ (u : Unit {0}). Server) (λ (p : Unit {0} × Moment). Client p.1) (λ u f. (tt, refl)) (λ p f. (f.1, refl)) set_parts (fronts (word 1)) (reads_then (a_front (word 2)) a_moment.1)

a_set_time : IsReadable IsTime set_time
a_set_time = (one_set_time, reads_either {written = set_time} (λ (u : Unit {0}). Keep) (λ (t : SetTime). t) (λ u f. (tt, refl)) (λ t f. (any_kept t f, refl)) not_kept (fronts (word 0)) set_times)

-- what is to be set
abbrev Whats : Type 0
Whats = ((((Option ℕ × Option ℕ) × Option ℕ) × Option ℕ) × SetTime) × SetTime

abbrev with_whats : Whats → SetWhat
with_whats p = record { mode = p.0.0.0.0.0; uid = p.0.0.0.0.1; gid = p.0.0.0.1; size = p.0.0.1; atime = p.0.1; mtime = p.1 }

a_set_what : IsReadable IsSetWhat set_what
a_set_what = (
  one_set_what,
  reads_parts {written = set_what} with_whats (λ p f. (record { mode = f.0.0.0.0.0; uid = f.0.0.0.0.1; gid = f.0.0.0.1; size = f.0.0.1; atime = f.0.1; mtime = f.1 }, refl))
      (λ s f. record { part = (((((s.mode, s.uid), s.gid), s.size), s.atime), s.mtime); fits = (((((f.mode, f.uid), f.gid), f.size), f.atime), f.mtime); spelled = refl })
      (an_optional a_word then an_optional a_word then an_optional a_word then an_optional a_double_word then a_set_time then a_set_time).1,
)

-- how a file is to be made
abbrev ToGuard : Type 0
ToGuard = Unit {0} × SetWhat

abbrev IsWithout : How → Type 0
IsWithout (Unchecked s) = ⊥
IsWithout (Guarded s) = IsSetWhat s
IsWithout (Exclusive verifier) = IsVerifier verifier

checked_parts : (h : How) → IsHow h → HasParts {A = ToGuard} (λ p. ⊤ × IsSetWhat p.1) (λ p. word 0 ++ set_what p.1) (create_how h) ⊎ HasParts IsWithout create_how (create_how h)
checked_parts (Unchecked s) f = inl (record { part = (tt, s); fits = (tt, f); spelled = refl })
checked_parts (Guarded s) f = inr (record { part = Guarded s; fits = f; spelled = refl })
checked_parts (Exclusive v) f = inr (record { part = Exclusive v; fits = f; spelled = refl })

guarded_parts : (h : How) → IsWithout h → HasParts {A = ToGuard} (λ p. ⊤ × IsSetWhat p.1) (λ p. word 1 ++ set_what p.1) (create_how h) ⊎ HasParts {A = Unit {0} × List ℕ} (λ p. ⊤ × IsVerifier p.1) (λ p. word 2 ++ p.1) (create_how h)
guarded_parts (Unchecked s) f = absurd f
guarded_parts (Guarded s) f = inl (record { part = (tt, s); fits = (tt, f); spelled = refl })
guarded_parts (Exclusive v) f = inr (record { part = (tt, v); fits = (tt, f); spelled = refl })

any_how : (h : How) → IsWithout h → IsHow h
any_how (Unchecked s) f = absurd f
any_how (Guarded s) f = f
any_how (Exclusive v) f = f

guarded : Reads IsWithout create_how
guarded = reads_either {written = create_how} (λ (p : ToGuard). Guarded p.1) (λ (p : Unit {0} × List ℕ). Exclusive p.1) (λ p f. (f.1, refl)) (λ p f. (f.1, refl)) guarded_parts
    (reads_then (a_front (word 1)) a_set_what.1) (reads_then (a_front (word 2)) a_verifier.1)

a_how : IsReadable IsHow create_how
a_how = (one_how, reads_either {written = create_how} (λ (p : ToGuard). Unchecked p.1) (λ (h : How). h) (λ p f. (f.1, refl)) (λ h f. (any_how h f, refl)) checked_parts (reads_then (a_front (word 0)) a_set_what.1) guarded)

-- a node that is neither a file nor a link
plain_or_not : (n : ℕ) → IsPlainKind n ⊎ (IsPlainKind n → ⊥)
plain_or_not n = elim (cases_eq n 1) [
  | inl a ↦ inl (inl a)
  | inr a ↦ elim (cases_eq n 2) [
    | inl b ↦ inl (inr (inl b))
    | inr b ↦ elim (cases_eq n 5) [
      | inl c ↦ inl (inr (inr c))
      | inr c ↦ inr (λ is. elim is [
        | inl d ↦ a d
        | inr more ↦ elim more [
          | inl d ↦ b d
          | inr d ↦ c d
        ]
      ])
    ]
  ]
]

one_of_two : (n a b : ℕ) → ((n ≡ a) ⊎ (n ≡ b)) ⊎ ((n ≡ a) ⊎ (n ≡ b) → ⊥)
one_of_two n a b = elim (cases_eq n a) [
  | inl e ↦ inl (inl e)
  | inr other ↦ elim (cases_eq n b) [
    | inl e ↦ inl (inr e)
    | inr neither ↦ inr (λ is. elim is [
      | inl e ↦ other e
      | inr e ↦ neither e
    ])
  ]
]

plain_fits : (n : ℕ) → IsPlainKind n → n < 2 ^ 32
plain_fits n (inl e) = omega (arith, e)
plain_fits n (inr (inl e)) = omega (arith, e)
plain_fits n (inr (inr e)) = omega (arith, e)

device_fits : (n : ℕ) → IsDeviceKind n → n < 2 ^ 32
device_fits n (inl e) = omega (arith, e)
device_fits n (inr e) = omega (arith, e)

other_fits : (n : ℕ) → IsOtherKind n → n < 2 ^ 32
other_fits n (inl e) = omega (arith, e)
other_fits n (inr e) = omega (arith, e)

abbrev Device4 : Type 0
Device4 = ((ℕ × SetWhat) × ℕ) × ℕ

abbrev IsSpecial : SpecialNode → Type 0
IsSpecial (Plain kind) = ⊥
IsSpecial (Device kind what major minor) = IsDeviceKind kind × IsSetWhat what × (major < 2 ^ 32) × (minor < 2 ^ 32)
IsSpecial (Other kind what) = IsOtherKind kind × IsSetWhat what

plain_parts : (n : SpecialNode) → IsNode n → HasParts IsPlainKind word (special_node n) ⊎ HasParts IsSpecial special_node (special_node n)
plain_parts (Plain kind) f = inl (record { part = kind; fits = f; spelled = refl })
plain_parts (Device kind what major minor) f = inr (record { part = Device kind what major minor; fits = f; spelled = refl })
plain_parts (Other kind what) f = inr (record { part = Other kind what; fits = f; spelled = refl })

special_parts : (n : SpecialNode) → IsSpecial n → HasParts {A = Device4} (λ p. ((IsDeviceKind p.0.0.0 × IsSetWhat p.0.0.1) × (p.0.1 < 2 ^ 32)) × (p.1 < 2 ^ 32)) (λ p. word p.0.0.0 ++ set_what p.0.0.1 ++ word p.0.1 ++ word p.1) (special_node n)
    ⊎ HasParts {A = ℕ × SetWhat} (λ p. IsOtherKind p.0 × IsSetWhat p.1) (λ p. word p.0 ++ set_what p.1) (special_node n)
special_parts (Plain kind) f = absurd f
special_parts (Device kind what major minor) f = inl (record { part = (((kind, what), major), minor); fits = (((f.0, f.1), f.2), f.3); spelled = refl })
special_parts (Other kind what) f = inr (record { part = (kind, what); fits = f; spelled = refl })

any_node : (n : SpecialNode) → IsSpecial n → IsNode n
any_node (Plain kind) f = absurd f
any_node (Device kind what major minor) f = f
any_node (Other kind what) f = f

specials : Reads IsSpecial special_node
specials = reads_either {written = special_node} (λ (p : Device4). Device p.0.0.0 p.0.0.1 p.0.1 p.1) (λ (p : ℕ × SetWhat). Other p.0 p.1) (λ p f. ((f.0.0.0, f.0.0.1, f.0.1, f.1), refl)) (λ p f. (f, refl)) special_parts
    (fewer_words IsDeviceKind device_fits (λ n. one_of_two n 3 4) then a_set_what then a_word then a_word).1 (fewer_words IsOtherKind other_fits (λ n. one_of_two n 6 7) then a_set_what).1

a_node : IsReadable IsNode special_node
a_node = (one_node, reads_either {written = special_node} (λ (kind : ℕ). Plain kind) (λ (n : SpecialNode). n) (λ kind f. (f, refl)) (λ n f. (any_node n f, refl)) plain_parts (fewer_words IsPlainKind plain_fits plain_or_not).1 specials)

-- ---- the arguments of each procedure

abbrev Known : ℕ → List ℕ → Type 0
Known procedure bytes = ((args : Args) × AreArguments nfs_program procedure bytes args) ⊎ ((args : Args) → AreArguments nfs_program procedure bytes args → ⊥)

-- where they are what can be read
module _ {A : Type 0} {Fits : A → Type 0} {spell : A → List ℕ} (procedure : ℕ) (reads : IsReadable Fits spell) (make : A → Args)
    (made : (x : A) → Fits x → (program_of (make x) ≡ nfs_program) × (procedure_of (make x) ≡ procedure) × ArgumentsFit (make x) × (arguments (make x) ≡ spell x))
    (parts : (args : Args) → program_of args ≡ nfs_program → procedure_of args ≡ procedure → ArgumentsFit args → HasParts Fits spell (arguments args)) where
  known : (bytes : List ℕ) → Known procedure bytes
  known bytes = elim (whole_or_not reads bytes) [
    | inl x ↦ (let m = made x.0 x.1 in inl (make x.0, record { program_is = sym m.0; procedure_is = sym m.1; fit = m.2; spelled = x.2 ∙ sym m.3 }))
    | inr none ↦ inr (λ args are. (let p = parts args (sym are.program_is) (sym are.procedure_is) are.fit in none (p.part, p.fits, are.spelled ∙ p.spelled)))
  ]

null_parts : (args : Args) → program_of args ≡ nfs_program → procedure_of args ≡ 0 → ArgumentsFit args → HasParts (λ (u : Unit {0}). ⊤) (λ u. []) (arguments args)
null_parts call.Null p q f = record { part = tt; fits = tt; spelled = refl }
null_parts args p q f = absurd (omega (arith, p, q))

null_known : (bytes : List ℕ) → Known 0 bytes
null_known = known 0 (a_front []) (λ u. call.Null) (λ u f. (refl, refl, tt, refl)) null_parts

getattr_parts : (args : Args) → program_of args ≡ nfs_program → procedure_of args ≡ 1 → ArgumentsFit args → HasParts {A = List ℕ} (λ p. (IsHandle p)) (λ p. opaque p) (arguments args)
getattr_parts (call.GetAttr object) p q f = record { part = object; fits = f; spelled = refl }
getattr_parts args p q f = absurd (omega (arith, p, q))

getattr_known : (bytes : List ℕ) → Known 1 bytes
getattr_known = known 1 (a_handle) (λ (p : List ℕ). call.GetAttr p) (λ p f. (refl, refl, f, refl)) getattr_parts

setattr_parts : (args : Args) → program_of args ≡ nfs_program → procedure_of args ≡ 2 → ArgumentsFit args → HasParts {A = (List ℕ × SetWhat) × Option Moment} (λ p. (((IsHandle p.0.0) × (IsSetWhat p.0.1)) × (IfSome p.1 IsWordMoment))) (λ p. opaque p.0.0 ++ set_what p.0.1 ++ optional moment p.1) (arguments args)
setattr_parts (call.SetAttr object what guard) p q f = record { part = ((object, what), guard); fits = ((f.0, f.1), f.2); spelled = refl }
setattr_parts args p q f = absurd (omega (arith, p, q))

setattr_known : (bytes : List ℕ) → Known 2 bytes
setattr_known = known 2 (a_handle then a_set_what then an_optional a_moment) (λ (p : (List ℕ × SetWhat) × Option Moment). call.SetAttr p.0.0 p.0.1 p.1) (λ p f. (refl, refl, (f.0.0, f.0.1, f.1), refl)) setattr_parts

lookup_parts : (args : Args) → program_of args ≡ nfs_program → procedure_of args ≡ 3 → ArgumentsFit args → HasParts {A = List ℕ × List ℕ} (λ p. ((IsHandle p.0) × (IsShortText p.1))) (λ p. opaque p.0 ++ opaque p.1) (arguments args)
lookup_parts (call.Lookup dir name) p q f = record { part = (dir, name); fits = (f.0, f.1); spelled = refl }
lookup_parts args p q f = absurd (omega (arith, p, q))

lookup_known : (bytes : List ℕ) → Known 3 bytes
lookup_known = known 3 (a_handle then a_text) (λ (p : List ℕ × List ℕ). call.Lookup p.0 p.1) (λ p f. (refl, refl, (f.0, f.1), refl)) lookup_parts

access_parts : (args : Args) → program_of args ≡ nfs_program → procedure_of args ≡ 4 → ArgumentsFit args → HasParts {A = List ℕ × ℕ} (λ p. ((IsHandle p.0) × (p.1 < 2 ^ 32))) (λ p. opaque p.0 ++ word p.1) (arguments args)
access_parts (call.Access object bits) p q f = record { part = (object, bits); fits = (f.0, f.1); spelled = refl }
access_parts args p q f = absurd (omega (arith, p, q))

access_known : (bytes : List ℕ) → Known 4 bytes
access_known = known 4 (a_handle then a_word) (λ (p : List ℕ × ℕ). call.Access p.0 p.1) (λ p f. (refl, refl, (f.0, f.1), refl)) access_parts

readlink_parts : (args : Args) → program_of args ≡ nfs_program → procedure_of args ≡ 5 → ArgumentsFit args → HasParts {A = List ℕ} (λ p. (IsHandle p)) (λ p. opaque p) (arguments args)
readlink_parts (call.ReadLink link) p q f = record { part = link; fits = f; spelled = refl }
readlink_parts args p q f = absurd (omega (arith, p, q))

readlink_known : (bytes : List ℕ) → Known 5 bytes
readlink_known = known 5 (a_handle) (λ (p : List ℕ). call.ReadLink p) (λ p f. (refl, refl, f, refl)) readlink_parts

read_parts : (args : Args) → program_of args ≡ nfs_program → procedure_of args ≡ 6 → ArgumentsFit args → HasParts {A = (List ℕ × ℕ) × ℕ} (λ p. (((IsHandle p.0.0) × (p.0.1 < 2 ^ 64)) × (p.1 < 2 ^ 32))) (λ p. opaque p.0.0 ++ double_word p.0.1 ++ word p.1) (arguments args)
read_parts (call.Read file offset count) p q f = record { part = ((file, offset), count); fits = ((f.0, f.1), f.2); spelled = refl }
read_parts args p q f = absurd (omega (arith, p, q))

read_known : (bytes : List ℕ) → Known 6 bytes
read_known = known 6 (a_handle then a_double_word then a_word) (λ (p : (List ℕ × ℕ) × ℕ). call.Read p.0.0 p.0.1 p.1) (λ p f. (refl, refl, (f.0.0, f.0.1, f.1), refl)) read_parts

write_parts : (args : Args) → program_of args ≡ nfs_program → procedure_of args ≡ 7 → ArgumentsFit args → HasParts {A = (((List ℕ × ℕ) × ℕ) × ℕ) × List ℕ} (λ p. (((((IsHandle p.0.0.0.0) × (p.0.0.0.1 < 2 ^ 64)) × (p.0.0.1 < 2 ^ 32)) × (p.0.1 ≤ 2)) × (length p.1 < 2 ^ 32))) (λ p. opaque p.0.0.0.0 ++ double_word p.0.0.0.1 ++ word p.0.0.1 ++ word p.0.1 ++ opaque p.1) (arguments args)
write_parts (call.Write file offset count stable bytes) p q f = record { part = ((((file, offset), count), stable), bytes); fits = ((((f.0, f.1), f.2), f.3), f.4); spelled = refl }
write_parts args p q f = absurd (omega (arith, p, q))

write_known : (bytes : List ℕ) → Known 7 bytes
write_known = known 7 (a_handle then a_double_word then a_word then a_stable then some_bytes) (λ (p : (((List ℕ × ℕ) × ℕ) × ℕ) × List ℕ). call.Write p.0.0.0.0 p.0.0.0.1 p.0.0.1 p.0.1 p.1) (λ p f. (refl, refl, (f.0.0.0.0, f.0.0.0.1, f.0.0.1, f.0.1, f.1), refl)) write_parts

create_parts : (args : Args) → program_of args ≡ nfs_program → procedure_of args ≡ 8 → ArgumentsFit args → HasParts {A = (List ℕ × List ℕ) × How} (λ p. (((IsHandle p.0.0) × (IsShortText p.0.1)) × (IsHow p.1))) (λ p. opaque p.0.0 ++ opaque p.0.1 ++ create_how p.1) (arguments args)
create_parts (call.Create dir name how) p q f = record { part = ((dir, name), how); fits = ((f.0, f.1), f.2); spelled = refl }
create_parts args p q f = absurd (omega (arith, p, q))

create_known : (bytes : List ℕ) → Known 8 bytes
create_known = known 8 (a_handle then a_text then a_how) (λ (p : (List ℕ × List ℕ) × How). call.Create p.0.0 p.0.1 p.1) (λ p f. (refl, refl, (f.0.0, f.0.1, f.1), refl)) create_parts

mkdir_parts : (args : Args) → program_of args ≡ nfs_program → procedure_of args ≡ 9 → ArgumentsFit args → HasParts {A = (List ℕ × List ℕ) × SetWhat} (λ p. (((IsHandle p.0.0) × (IsShortText p.0.1)) × (IsSetWhat p.1))) (λ p. opaque p.0.0 ++ opaque p.0.1 ++ set_what p.1) (arguments args)
mkdir_parts (call.MkDir dir name what) p q f = record { part = ((dir, name), what); fits = ((f.0, f.1), f.2); spelled = refl }
mkdir_parts args p q f = absurd (omega (arith, p, q))

mkdir_known : (bytes : List ℕ) → Known 9 bytes
mkdir_known = known 9 (a_handle then a_text then a_set_what) (λ (p : (List ℕ × List ℕ) × SetWhat). call.MkDir p.0.0 p.0.1 p.1) (λ p f. (refl, refl, (f.0.0, f.0.1, f.1), refl)) mkdir_parts

symlink_parts : (args : Args) → program_of args ≡ nfs_program → procedure_of args ≡ 10 → ArgumentsFit args → HasParts {A = ((List ℕ × List ℕ) × SetWhat) × List ℕ} (λ p. ((((IsHandle p.0.0.0) × (IsShortText p.0.0.1)) × (IsSetWhat p.0.1)) × (IsShortText p.1))) (λ p. opaque p.0.0.0 ++ opaque p.0.0.1 ++ set_what p.0.1 ++ opaque p.1) (arguments args)
symlink_parts (call.SymLink dir name what text) p q f = record { part = (((dir, name), what), text); fits = (((f.0, f.1), f.2), f.3); spelled = refl }
symlink_parts args p q f = absurd (omega (arith, p, q))

symlink_known : (bytes : List ℕ) → Known 10 bytes
symlink_known = known 10 (a_handle then a_text then a_set_what then a_text) (λ (p : ((List ℕ × List ℕ) × SetWhat) × List ℕ). call.SymLink p.0.0.0 p.0.0.1 p.0.1 p.1) (λ p f. (refl, refl, (f.0.0.0, f.0.0.1, f.0.1, f.1), refl)) symlink_parts

mknod_parts : (args : Args) → program_of args ≡ nfs_program → procedure_of args ≡ 11 → ArgumentsFit args → HasParts {A = (List ℕ × List ℕ) × SpecialNode} (λ p. (((IsHandle p.0.0) × (IsShortText p.0.1)) × (IsNode p.1))) (λ p. opaque p.0.0 ++ opaque p.0.1 ++ special_node p.1) (arguments args)
mknod_parts (call.MkNod dir name node) p q f = record { part = ((dir, name), node); fits = ((f.0, f.1), f.2); spelled = refl }
mknod_parts args p q f = absurd (omega (arith, p, q))

mknod_known : (bytes : List ℕ) → Known 11 bytes
mknod_known = known 11 (a_handle then a_text then a_node) (λ (p : (List ℕ × List ℕ) × SpecialNode). call.MkNod p.0.0 p.0.1 p.1) (λ p f. (refl, refl, (f.0.0, f.0.1, f.1), refl)) mknod_parts

remove_parts : (args : Args) → program_of args ≡ nfs_program → procedure_of args ≡ 12 → ArgumentsFit args → HasParts {A = List ℕ × List ℕ} (λ p. ((IsHandle p.0) × (IsShortText p.1))) (λ p. opaque p.0 ++ opaque p.1) (arguments args)
remove_parts (call.Remove dir name) p q f = record { part = (dir, name); fits = (f.0, f.1); spelled = refl }
remove_parts args p q f = absurd (omega (arith, p, q))

remove_known : (bytes : List ℕ) → Known 12 bytes
remove_known = known 12 (a_handle then a_text) (λ (p : List ℕ × List ℕ). call.Remove p.0 p.1) (λ p f. (refl, refl, (f.0, f.1), refl)) remove_parts

rmdir_parts : (args : Args) → program_of args ≡ nfs_program → procedure_of args ≡ 13 → ArgumentsFit args → HasParts {A = List ℕ × List ℕ} (λ p. ((IsHandle p.0) × (IsShortText p.1))) (λ p. opaque p.0 ++ opaque p.1) (arguments args)
rmdir_parts (call.RmDir dir name) p q f = record { part = (dir, name); fits = (f.0, f.1); spelled = refl }
rmdir_parts args p q f = absurd (omega (arith, p, q))

rmdir_known : (bytes : List ℕ) → Known 13 bytes
rmdir_known = known 13 (a_handle then a_text) (λ (p : List ℕ × List ℕ). call.RmDir p.0 p.1) (λ p f. (refl, refl, (f.0, f.1), refl)) rmdir_parts

rename_parts : (args : Args) → program_of args ≡ nfs_program → procedure_of args ≡ 14 → ArgumentsFit args → HasParts {A = ((List ℕ × List ℕ) × List ℕ) × List ℕ} (λ p. ((((IsHandle p.0.0.0) × (IsShortText p.0.0.1)) × (IsHandle p.0.1)) × (IsShortText p.1))) (λ p. opaque p.0.0.0 ++ opaque p.0.0.1 ++ opaque p.0.1 ++ opaque p.1) (arguments args)
rename_parts (call.Rename dir name to_dir to_name) p q f = record { part = (((dir, name), to_dir), to_name); fits = (((f.0, f.1), f.2), f.3); spelled = refl }
rename_parts args p q f = absurd (omega (arith, p, q))

rename_known : (bytes : List ℕ) → Known 14 bytes
rename_known = known 14 (a_handle then a_text then a_handle then a_text) (λ (p : ((List ℕ × List ℕ) × List ℕ) × List ℕ). call.Rename p.0.0.0 p.0.0.1 p.0.1 p.1) (λ p f. (refl, refl, (f.0.0.0, f.0.0.1, f.0.1, f.1), refl)) rename_parts

link_parts : (args : Args) → program_of args ≡ nfs_program → procedure_of args ≡ 15 → ArgumentsFit args → HasParts {A = (List ℕ × List ℕ) × List ℕ} (λ p. (((IsHandle p.0.0) × (IsHandle p.0.1)) × (IsShortText p.1))) (λ p. opaque p.0.0 ++ opaque p.0.1 ++ opaque p.1) (arguments args)
link_parts (call.Link file dir name) p q f = record { part = ((file, dir), name); fits = ((f.0, f.1), f.2); spelled = refl }
link_parts args p q f = absurd (omega (arith, p, q))

link_known : (bytes : List ℕ) → Known 15 bytes
link_known = known 15 (a_handle then a_handle then a_text) (λ (p : (List ℕ × List ℕ) × List ℕ). call.Link p.0.0 p.0.1 p.1) (λ p f. (refl, refl, (f.0.0, f.0.1, f.1), refl)) link_parts

readdir_parts : (args : Args) → program_of args ≡ nfs_program → procedure_of args ≡ 16 → ArgumentsFit args → HasParts {A = ((List ℕ × ℕ) × List ℕ) × ℕ} (λ p. ((((IsHandle p.0.0.0) × (p.0.0.1 < 2 ^ 64)) × (IsVerifier p.0.1)) × (p.1 < 2 ^ 32))) (λ p. opaque p.0.0.0 ++ double_word p.0.0.1 ++ p.0.1 ++ word p.1) (arguments args)
readdir_parts (call.ReadDir dir cookie verifier count) p q f = record { part = (((dir, cookie), verifier), count); fits = (((f.0, f.1), f.2), f.3); spelled = refl }
readdir_parts args p q f = absurd (omega (arith, p, q))

readdir_known : (bytes : List ℕ) → Known 16 bytes
readdir_known = known 16 (a_handle then a_double_word then a_verifier then a_word) (λ (p : ((List ℕ × ℕ) × List ℕ) × ℕ). call.ReadDir p.0.0.0 p.0.0.1 p.0.1 p.1) (λ p f. (refl, refl, (f.0.0.0, f.0.0.1, f.0.1, f.1), refl)) readdir_parts

readdirplus_parts : (args : Args) → program_of args ≡ nfs_program → procedure_of args ≡ 17 → ArgumentsFit args → HasParts {A = (((List ℕ × ℕ) × List ℕ) × ℕ) × ℕ} (λ p. (((((IsHandle p.0.0.0.0) × (p.0.0.0.1 < 2 ^ 64)) × (IsVerifier p.0.0.1)) × (p.0.1 < 2 ^ 32)) × (p.1 < 2 ^ 32))) (λ p. opaque p.0.0.0.0 ++ double_word p.0.0.0.1 ++ p.0.0.1 ++ word p.0.1 ++ word p.1) (arguments args)
readdirplus_parts (call.ReadDirPlus dir cookie verifier dircount maxcount) p q f = record { part = ((((dir, cookie), verifier), dircount), maxcount); fits = ((((f.0, f.1), f.2), f.3), f.4); spelled = refl }
readdirplus_parts args p q f = absurd (omega (arith, p, q))

readdirplus_known : (bytes : List ℕ) → Known 17 bytes
readdirplus_known = known 17 (a_handle then a_double_word then a_verifier then a_word then a_word) (λ (p : (((List ℕ × ℕ) × List ℕ) × ℕ) × ℕ). call.ReadDirPlus p.0.0.0.0 p.0.0.0.1 p.0.0.1 p.0.1 p.1) (λ p f. (refl, refl, (f.0.0.0.0, f.0.0.0.1, f.0.0.1, f.0.1, f.1), refl)) readdirplus_parts

fsstat_parts : (args : Args) → program_of args ≡ nfs_program → procedure_of args ≡ 18 → ArgumentsFit args → HasParts {A = List ℕ} (λ p. (IsHandle p)) (λ p. opaque p) (arguments args)
fsstat_parts (call.FsStat object) p q f = record { part = object; fits = f; spelled = refl }
fsstat_parts args p q f = absurd (omega (arith, p, q))

fsstat_known : (bytes : List ℕ) → Known 18 bytes
fsstat_known = known 18 (a_handle) (λ (p : List ℕ). call.FsStat p) (λ p f. (refl, refl, f, refl)) fsstat_parts

fsinfo_parts : (args : Args) → program_of args ≡ nfs_program → procedure_of args ≡ 19 → ArgumentsFit args → HasParts {A = List ℕ} (λ p. (IsHandle p)) (λ p. opaque p) (arguments args)
fsinfo_parts (call.FsInfo object) p q f = record { part = object; fits = f; spelled = refl }
fsinfo_parts args p q f = absurd (omega (arith, p, q))

fsinfo_known : (bytes : List ℕ) → Known 19 bytes
fsinfo_known = known 19 (a_handle) (λ (p : List ℕ). call.FsInfo p) (λ p f. (refl, refl, f, refl)) fsinfo_parts

pathconf_parts : (args : Args) → program_of args ≡ nfs_program → procedure_of args ≡ 20 → ArgumentsFit args → HasParts {A = List ℕ} (λ p. (IsHandle p)) (λ p. opaque p) (arguments args)
pathconf_parts (call.PathConf object) p q f = record { part = object; fits = f; spelled = refl }
pathconf_parts args p q f = absurd (omega (arith, p, q))

pathconf_known : (bytes : List ℕ) → Known 20 bytes
pathconf_known = known 20 (a_handle) (λ (p : List ℕ). call.PathConf p) (λ p f. (refl, refl, f, refl)) pathconf_parts

commit_parts : (args : Args) → program_of args ≡ nfs_program → procedure_of args ≡ 21 → ArgumentsFit args → HasParts {A = (List ℕ × ℕ) × ℕ} (λ p. (((IsHandle p.0.0) × (p.0.1 < 2 ^ 64)) × (p.1 < 2 ^ 32))) (λ p. opaque p.0.0 ++ double_word p.0.1 ++ word p.1) (arguments args)
commit_parts (call.Commit file offset count) p q f = record { part = ((file, offset), count); fits = ((f.0, f.1), f.2); spelled = refl }
commit_parts args p q f = absurd (omega (arith, p, q))

commit_known : (bytes : List ℕ) → Known 21 bytes
commit_known = known 21 (a_handle then a_double_word then a_word) (λ (p : (List ℕ × ℕ) × ℕ). call.Commit p.0.0 p.0.1 p.1) (λ p f. (refl, refl, (f.0.0, f.0.1, f.1), refl)) commit_parts

last_procedure : (args : Args) → procedure_of args < 22
last_procedure call.Null = omega arith
last_procedure (call.GetAttr object) = omega arith
last_procedure (call.SetAttr object what guard) = omega arith
last_procedure (call.Lookup dir name) = omega arith
last_procedure (call.Access object bits) = omega arith
last_procedure (call.ReadLink link) = omega arith
last_procedure (call.Read file offset count) = omega arith
last_procedure (call.Write file offset count stable bytes) = omega arith
last_procedure (call.Create dir name how) = omega arith
last_procedure (call.MkDir dir name what) = omega arith
last_procedure (call.SymLink dir name what text) = omega arith
last_procedure (call.MkNod dir name node) = omega arith
last_procedure (call.Remove dir name) = omega arith
last_procedure (call.RmDir dir name) = omega arith
last_procedure (call.Rename dir name to_dir to_name) = omega arith
last_procedure (call.Link file dir name) = omega arith
last_procedure (call.ReadDir dir cookie verifier count) = omega arith
last_procedure (call.ReadDirPlus dir cookie verifier dircount maxcount) = omega arith
last_procedure (call.FsStat object) = omega arith
last_procedure (call.FsInfo object) = omega arith
last_procedure (call.PathConf object) = omega arith
last_procedure (call.Commit file offset count) = omega arith
last_procedure call.MountNull = omega arith
last_procedure (call.Mnt path) = omega arith
last_procedure call.Dump = omega arith
last_procedure (call.Umnt path) = omega arith
last_procedure call.UmntAll = omega arith
last_procedure call.Export = omega arith

unknown_procedure : (n : ℕ) (bytes : List ℕ) → 22 ≤ n → Known n bytes
unknown_procedure n bytes many = inr (λ args are. (let few = last_procedure args in let is = are.procedure_is in absurd (omega (arith, few, is, many))))

pub arguments_or_not : (procedure : ℕ) (bytes : List ℕ) → ((args : Args) × AreArguments nfs_program procedure bytes args) ⊎ ((args : Args) → AreArguments nfs_program procedure bytes args → ⊥)
arguments_or_not zero = null_known
arguments_or_not (suc zero) = getattr_known
arguments_or_not (suc (suc zero)) = setattr_known
arguments_or_not (suc (suc (suc zero))) = lookup_known
arguments_or_not (suc (suc (suc (suc zero)))) = access_known
arguments_or_not (suc (suc (suc (suc (suc zero))))) = readlink_known
arguments_or_not (suc (suc (suc (suc (suc (suc zero)))))) = read_known
arguments_or_not (suc (suc (suc (suc (suc (suc (suc zero))))))) = write_known
arguments_or_not (suc (suc (suc (suc (suc (suc (suc (suc zero)))))))) = create_known
arguments_or_not (suc (suc (suc (suc (suc (suc (suc (suc (suc zero))))))))) = mkdir_known
arguments_or_not (suc (suc (suc (suc (suc (suc (suc (suc (suc (suc zero)))))))))) = symlink_known
arguments_or_not (suc (suc (suc (suc (suc (suc (suc (suc (suc (suc (suc zero))))))))))) = mknod_known
arguments_or_not (suc (suc (suc (suc (suc (suc (suc (suc (suc (suc (suc (suc zero)))))))))))) = remove_known
arguments_or_not (suc (suc (suc (suc (suc (suc (suc (suc (suc (suc (suc (suc (suc zero))))))))))))) = rmdir_known
arguments_or_not (suc (suc (suc (suc (suc (suc (suc (suc (suc (suc (suc (suc (suc (suc zero)))))))))))))) = rename_known
arguments_or_not (suc (suc (suc (suc (suc (suc (suc (suc (suc (suc (suc (suc (suc (suc (suc zero))))))))))))))) = link_known
arguments_or_not (suc (suc (suc (suc (suc (suc (suc (suc (suc (suc (suc (suc (suc (suc (suc (suc zero)))))))))))))))) = readdir_known
arguments_or_not (suc (suc (suc (suc (suc (suc (suc (suc (suc (suc (suc (suc (suc (suc (suc (suc (suc zero))))))))))))))))) = readdirplus_known
arguments_or_not (suc (suc (suc (suc (suc (suc (suc (suc (suc (suc (suc (suc (suc (suc (suc (suc (suc (suc zero)))))))))))))))))) = fsstat_known
arguments_or_not (suc (suc (suc (suc (suc (suc (suc (suc (suc (suc (suc (suc (suc (suc (suc (suc (suc (suc (suc zero))))))))))))))))))) = fsinfo_known
arguments_or_not (suc (suc (suc (suc (suc (suc (suc (suc (suc (suc (suc (suc (suc (suc (suc (suc (suc (suc (suc (suc zero)))))))))))))))))))) = pathconf_known
arguments_or_not (suc (suc (suc (suc (suc (suc (suc (suc (suc (suc (suc (suc (suc (suc (suc (suc (suc (suc (suc (suc (suc zero))))))))))))))))))))) = commit_known
arguments_or_not (suc (suc (suc (suc (suc (suc (suc (suc (suc (suc (suc (suc (suc (suc (suc (suc (suc (suc (suc (suc (suc (suc n)))))))))))))))))))))) = λ bytes. unknown_procedure (suc (suc (suc (suc (suc (suc (suc (suc (suc (suc (suc (suc (suc (suc (suc (suc (suc (suc (suc (suc (suc (suc n)))))))))))))))))))))) bytes (omega arith)
