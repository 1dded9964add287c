-- A reply that is read for a procedure is one of each of its calls.
use Rattle.std.proofs.Common.{◌≡◌, inl, inr, ℕ, List, refl, sym, ◌∙◌, arith}
use Rattle.nfs_model.specs.declared.arguments.Args.{Args}
use Rattle.nfs_model.specs.declared.arguments.Args.TheVariants as call
use Rattle.nfs_model.specs.declared.replies.Reply.{Reply}
use Rattle.nfs_model.specs.declared.replies.Reply.TheVariants as reply
use Rattle.nfs_model.specs.Arguments.{procedure_of, program_of}
use Rattle.nfs_model.specs.Replies.{IsReplyTo, result_form_of, tail_form_of}
use Rattle.nfs3_replies.specs.Reading.{IsProcedure, IsReply}
use Rattle.nfs3_replies.specs.ReadParts.{result_form_for, tail_form_for}
use Rattle.nfs3_replies.proofs.ReadAnswers.{forms_of}
use Rattle.command_messages.specs.Reading.{IsNoReply, IsReadFrom}

-- each call is of a procedure that there is
pub is_procedure : (args : Args) → IsProcedure (program_of args) (procedure_of args)
is_procedure call.Null = inl (refl, omega arith)
is_procedure (call.GetAttr object) = inl (refl, omega arith)
is_procedure (call.SetAttr object what guard) = inl (refl, omega arith)
is_procedure (call.Lookup dir name) = inl (refl, omega arith)
is_procedure (call.Access object bits) = inl (refl, omega arith)
is_procedure (call.ReadLink link) = inl (refl, omega arith)
is_procedure (call.Read file offset count) = inl (refl, omega arith)
is_procedure (call.Write file offset count stable bytes) = inl (refl, omega arith)
is_procedure (call.Create dir name how) = inl (refl, omega arith)
is_procedure (call.MkDir dir name what) = inl (refl, omega arith)
is_procedure (call.SymLink dir name what text) = inl (refl, omega arith)
is_procedure (call.MkNod dir name node) = inl (refl, omega arith)
is_procedure (call.Remove dir name) = inl (refl, omega arith)
is_procedure (call.RmDir dir name) = inl (refl, omega arith)
is_procedure (call.Rename dir name to_dir to_name) = inl (refl, omega arith)
is_procedure (call.Link file dir name) = inl (refl, omega arith)
is_procedure (call.ReadDir dir cookie verifier count) = inl (refl, omega arith)
is_procedure (call.ReadDirPlus dir cookie verifier dircount maxcount) = inl (refl, omega arith)
is_procedure (call.FsStat object) = inl (refl, omega arith)
is_procedure (call.FsInfo object) = inl (refl, omega arith)
is_procedure (call.PathConf object) = inl (refl, omega arith)
is_procedure (call.Commit file offset count) = inl (refl, omega arith)
is_procedure call.MountNull = inr (refl, omega arith)
is_procedure (call.Mnt path) = inr (refl, omega arith)
is_procedure call.Dump = inr (refl, omega arith)
is_procedure (call.Umnt path) = inr (refl, omega arith)
is_procedure call.UmntAll = inr (refl, omega arith)
is_procedure call.Export = inr (refl, omega arith)

same_forms : (args other : Args) → program_of args ≡ program_of other → procedure_of args ≡ procedure_of other → (tail_form_of other ≡ tail_form_of args) × (result_form_of other ≡ result_form_of args)
same_forms args other p q = (
  sym (forms_of other).0 ∙ sym (λ i. tail_form_for (p i) (q i)) ∙ (forms_of args).0,
  sym (forms_of other).1 ∙ sym (λ i. result_form_for (p i) (q i)) ∙ (forms_of args).1,
)

replies_too : (args other : Args) (r : Reply) → tail_form_of other ≡ tail_form_of args → result_form_of other ≡ result_form_of args → IsReplyTo other r → IsReplyTo args r
replies_too args other (reply.Refused s t) p q h = h ∙ p
replies_too args other r p q h = h ∙ q

pub read_so : (args : Args) (bytes : List ℕ) (r : Reply) → IsReply (program_of args) (procedure_of args) bytes r → IsReadFrom args bytes r
read_so args bytes r h =
    let same = same_forms args h.args h.program_is h.procedure_is in
    record { fits = record { form = replies_too args h.args r same.0 same.1 h.answers; fits = h.fits }; spelled = h.spelled }

pub none_so : (args : Args) (bytes : List ℕ) → ((r : Reply) → IsReply (program_of args) (procedure_of args) bytes r → ⊥) → IsNoReply args bytes
none_so args bytes none r h = none r (record { args = args; program_is = refl; procedure_is = refl; answers = h.fits.form; fits = h.fits.fits; spelled = h.spelled })
