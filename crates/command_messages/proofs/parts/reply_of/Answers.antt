use Rattle.std.proofs.Common.{ℕ, subst, sym}
use Rattle.nfs_model.specs.Arguments.{procedure_of, program_of}
use Rattle.nfs_model.specs.declared.replies.Reply.{Reply}
use Rattle.nfs3_replies.specs.Reading.{IsReply, NoReply}
use Rattle.command_messages.proofs.Forms.{none_so, read_so}
use Rattle.command_messages.proofs.parts.reply_of.Goals as goal

pub returns-in-Ok : goal.returns-in-Ok
returns-in-Ok c =
    read_so c.args.args.now c.args.bytes.now c.in-Ok.reply
    (subst (λ (n : ℕ). IsReply n (procedure_of c.args.args.now) c.args.bytes.now c.in-Ok.reply) c.program_number.ensures
    (subst (λ (n : ℕ). IsReply c.program_number.result n c.args.bytes.now c.in-Ok.reply) c.procedure_number.ensures c.in-Ok.ensures.ok))

pub returns-in-Err-Garbage : goal.returns-in-Err-Garbage
returns-in-Err-Garbage c =
    none_so c.args.args.now c.args.bytes.now (λ (r : Reply) h.
    subst (NoReply c.program_number.result c.procedure_number.result c.args.bytes.now) c.in-Err-Garbage.field-0-is c.in-Err-Garbage.ensures.err r
    (subst (λ (n : ℕ). IsReply n c.procedure_number.result c.args.bytes.now r) (sym c.program_number.ensures)
    (subst (λ (n : ℕ). IsReply (program_of c.args.args.now) n c.args.bytes.now r) (sym c.procedure_number.ensures) h)))
