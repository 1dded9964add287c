-- Of each message it is known what becomes of it: it is answered by itself, or asks something of a turn; so a session begins with it.
use Rattle.std.proofs.Common.{◌≡◌, ◌⊎◌, inl, inr, ℕ, zero, suc, ◌≤◌, Bool, true, false, cond, List, [], length, Option, Some, None, refl, sym, ap, ◌∙◌, subst, arith}
use Rattle.std.specs.Prelude.{⊤}
use Rattle.std.proofs.lemmas.Bool.{cases_eq, cases_lt, ne_eqb}
use Rattle.wire_model.specs.Rpc.{CallMessage, Identity, IsCall, IsCaller}
use Rattle.wire_model.specs.Xdr.{opaque}
use Rattle.nfs_model.specs.declared.arguments.Args.{Args}
use Rattle.nfs_model.specs.declared.arguments.Args.TheVariants as call
use Rattle.nfs_model.specs.declared.replies.Reply.{Reply}
use Rattle.nfs_model.specs.Arguments.{AreArguments, ArgumentsFit, arguments, mount_program, nfs_program, procedure_of, program_of}
use Rattle.turn_model.specs.Turn.{Asked}
use Rattle.log_model.specs.View.{View}
use Rattle.dht_ids.specs.declared.peer.Peer.{Peer}
use Rattle.turn_laws.proofs.Arguments.{arguments_or_not}
use Rattle.turn_laws.proofs.Callers.{caller_or_not}
use Rattle.turn_laws.proofs.Calls.{call_or_not, other_or_not}
use Rattle.turn_laws.proofs.Deciding.{HasParts, IsReadable, a_data, a_front, whole_or_not}
use Rattle.agent_model.specs.Standing.{Standing}
use Rattle.session_model.specs.Executions.{Begins}
use Rattle.session_model.specs.Executions.Begins.{alone as begins_alone, refreshes}
use Rattle.session_model.specs.Replies.{Asks, IsByMessage, IsServed, alone_answer, procedures_of, no_call, other_version, no_program, no_version, no_procedure, no_caller, no_arguments, alone}
use Rattle.session_model.specs.Sessions.{Session}

-- ---- the arguments of MOUNT's procedures

abbrev Known : ℕ → ℕ → List ℕ → Type 0
Known program procedure bytes = ((args : Args) × AreArguments program procedure bytes args) ⊎ ((args : Args) → AreArguments program procedure bytes args → ⊥)

-- where they are what can be read
module _ {A : Type 0} {Fits : A → Type 0} {spell : A → List ℕ} (procedure : ℕ) (reads : IsReadable Fits spell) (make : A → Args)
    (made : (x : A) → Fits x → (program_of (make x) ≡ mount_program) × (procedure_of (make x) ≡ procedure) × ArgumentsFit (make x) × (arguments (make x) ≡ spell x))
    (parts : (args : Args) → program_of args ≡ mount_program → procedure_of args ≡ procedure → ArgumentsFit args → HasParts Fits spell (arguments args)) where
  known : (bytes : List ℕ) → Known mount_program procedure bytes
  known bytes = elim (whole_or_not reads bytes) [
    | inl x ↦ (let m = made x.0 x.1 in inl (make x.0, record { program_is = sym m.0; procedure_is = sym m.1; fit = m.2; spelled = x.2 ∙ sym m.3 }))
    | inr none ↦ inr (λ args are. (let p = parts args (sym are.program_is) (sym are.procedure_is) are.fit in none (p.part, p.fits, are.spelled ∙ p.spelled)))
  ]

a_path : IsReadable (λ (path : List ℕ). length path ≤ 1024) opaque
a_path = a_data 1024 (omega arith)

null_parts : (args : Args) → program_of args ≡ mount_program → procedure_of args ≡ 0 → ArgumentsFit args → HasParts (λ (u : Unit {0}). ⊤) (λ u. []) (arguments args)
null_parts call.MountNull p q f = record { part = tt; fits = tt; spelled = refl }
null_parts args p q f = absurd (omega (arith, p, q))

mnt_parts : (args : Args) → program_of args ≡ mount_program → procedure_of args ≡ 1 → ArgumentsFit args → HasParts {A = List ℕ} (λ path. length path ≤ 1024) opaque (arguments args)
mnt_parts (call.Mnt path) p q f = record { part = path; fits = f; spelled = refl }
mnt_parts args p q f = absurd (omega (arith, p, q))

dump_parts : (args : Args) → program_of args ≡ mount_program → procedure_of args ≡ 2 → ArgumentsFit args → HasParts (λ (u : Unit {0}). ⊤) (λ u. []) (arguments args)
dump_parts call.Dump p q f = record { part = tt; fits = tt; spelled = refl }
dump_parts args p q f = absurd (omega (arith, p, q))

umnt_parts : (args : Args) → program_of args ≡ mount_program → procedure_of args ≡ 3 → ArgumentsFit args → HasParts {A = List ℕ} (λ path. length path ≤ 1024) opaque (arguments args)
umnt_parts (call.Umnt path) p q f = record { part = path; fits = f; spelled = refl }
umnt_parts args p q f = absurd (omega (arith, p, q))

umnt_all_parts : (args : Args) → program_of args ≡ mount_program → procedure_of args ≡ 4 → ArgumentsFit args → HasParts (λ (u : Unit {0}). ⊤) (λ u. []) (arguments args)
umnt_all_parts call.UmntAll p q f = record { part = tt; fits = tt; spelled = refl }
umnt_all_parts args p q f = absurd (omega (arith, p, q))

export_parts : (args : Args) → program_of args ≡ mount_program → procedure_of args ≡ 5 → ArgumentsFit args → HasParts (λ (u : Unit {0}). ⊤) (λ u. []) (arguments args)
export_parts call.Export p q f = record { part = tt; fits = tt; spelled = refl }
export_parts args p q f = absurd (omega (arith, p, q))

last_of_mount : (args : Args) (n : ℕ) → program_of args ≡ mount_program → procedure_of args ≡ suc (suc (suc (suc (suc (suc n))))) → ⊥
last_of_mount call.MountNull n p q = omega (arith, q)
last_of_mount (call.Mnt path) n p q = omega (arith, q)
last_of_mount call.Dump n p q = omega (arith, q)
last_of_mount (call.Umnt path) n p q = omega (arith, q)
last_of_mount call.UmntAll n p q = omega (arith, q)
last_of_mount call.Export n p q = omega (arith, q)
last_of_mount args n p q = omega (arith, p)

mount_known : (procedure : ℕ) (bytes : List ℕ) → Known mount_program procedure bytes
mount_known zero = known 0 (a_front []) (λ u. call.MountNull) (λ u f. (refl, refl, tt, refl)) null_parts
mount_known (suc zero) = known 1 a_path (λ (path : List ℕ). call.Mnt path) (λ path f. (refl, refl, f, refl)) mnt_parts
mount_known (suc (suc zero)) = known 2 (a_front []) (λ u. call.Dump) (λ u f. (refl, refl, tt, refl)) dump_parts
mount_known (suc (suc (suc zero))) = known 3 a_path (λ (path : List ℕ). call.Umnt path) (λ path f. (refl, refl, f, refl)) umnt_parts
mount_known (suc (suc (suc (suc zero)))) = known 4 (a_front []) (λ u. call.UmntAll) (λ u f. (refl, refl, tt, refl)) umnt_all_parts
mount_known (suc (suc (suc (suc (suc zero))))) = known 5 (a_front []) (λ u. call.Export) (λ u f. (refl, refl, tt, refl)) export_parts
mount_known (suc (suc (suc (suc (suc (suc n)))))) = λ bytes. inr (λ args are. last_of_mount args n (sym are.program_is) (sym are.procedure_is))

-- ---- which programs are served

no_count : (a b : Bool) → a ≡ false → b ≡ false → cond {A = Option ℕ} a (Some 22) (cond b (Some 6) None) ≡ None
no_count true b h g = cc h
no_count false true h g = cc g
no_count false false h g = refl

abbrev IsProgramOf : ℕ → Type 0
IsProgramOf program = (program ≡ nfs_program) ⊎ (program ≡ mount_program)

served_or_not : (program : ℕ) → ((count : ℕ) × IsProgramOf program × (procedures_of program ≡ Some count)) ⊎ (procedures_of program ≡ None)
served_or_not program = elim (cases_eq program nfs_program) [
  | inl nfs ↦ inl (22, inl nfs, ap procedures_of nfs)
  | inr other ↦ elim (cases_eq program mount_program) [
    | inl mount ↦ inl (6, inr mount, ap procedures_of mount)
    | inr neither ↦ inr (no_count _ _ (ne_eqb program nfs_program other) (ne_eqb program mount_program neither))
  ]
]

args_or_not : (program : ℕ) → IsProgramOf program → (procedure : ℕ) (bytes : List ℕ) → Known program procedure bytes
args_or_not program (inl nfs) procedure bytes = subst (λ (p : ℕ). Known p procedure bytes) (sym nfs) (arguments_or_not procedure bytes)
args_or_not program (inr mount) procedure bytes = subst (λ (p : ℕ). Known p procedure bytes) (sym mount) (mount_known procedure bytes)

-- ---- what becomes of a message

module _ (view : View) (message : List ℕ) where
  abbrev Becomes : Type 0
  Becomes = ((given : Option (List ℕ)) × IsByMessage view message given) ⊎ ((xid : ℕ) × (asked : Asked) × Asks view message xid asked)

  module _ (c : CallMessage) (is : IsCall message c) where
    of_arguments : IsServed c → (who : Identity) → IsCaller c.credential who → (args : Args) → AreArguments c.program c.procedure c.arguments args → (o : Option Reply) → alone_answer view args ≡ o → Becomes
    of_arguments served who caller args are (Some r) e = inl (_, alone c who args r is served caller are e)
    of_arguments served who caller args are None e = inr (c.xid, record { caller = who; args = args }, record { call = c; is_call = is; xid_is = refl; served = served; caller = caller; arguments = are; not_alone = e })

    of_caller : IsProgramOf c.program → IsServed c → (who : Identity) → IsCaller c.credential who → Becomes
    of_caller program served who caller = elim (args_or_not c.program program c.procedure c.arguments) [
      | inl found ↦ of_arguments served who caller found.0 found.1 (alone_answer view found.0) refl
      | inr garbage ↦ inl (_, no_arguments c who is served caller garbage)
    ]

    of_served : IsProgramOf c.program → IsServed c → Becomes
    of_served program served = elim (caller_or_not c.credential) [
      | inl found ↦ of_caller program served found.0 found.1
      | inr bad ↦ inl (_, no_caller c is served bad)
    ]

    of_call : Becomes
    of_call = elim (served_or_not c.program) [
      | inr other ↦ inl (_, no_program c is other)
      | inl has ↦ elim (cases_eq c.version 3) [
        | inr other ↦ inl (_, no_version c has.0 is has.2 other)
        | inl version ↦ elim (cases_lt c.procedure has.0) [
          | inr many ↦ inl (_, no_procedure c has.0 is has.2 version many)
          | inl few ↦ of_served has.1 (record { count = has.0; program = has.2; version = version; procedure = few })
        ]
      ]
    ]

  becomes : Becomes
  becomes = elim (call_or_not message) [
    | inl c ↦ of_call c.0 c.1
    | inr none ↦ elim (other_or_not message) [
      | inl x ↦ inl (_, other_version x.0 x.1)
      | inr neither ↦ inl (_, no_call none neither)
    ]
  ]

-- a session begins with each message
pub some_session : (by message : List ℕ) (entries : List Peer) (standing : Standing) → (t : Session) × Begins by message entries standing t
some_session by message entries standing = elim (becomes standing.view message) [
  | inl x ↦ (_, begins_alone x.0 x.1)
  | inr x ↦ (_, refreshes x.0 x.1 x.2)
]
