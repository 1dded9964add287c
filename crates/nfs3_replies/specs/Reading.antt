-- Which bytes are a reply to a procedure (RFC 1813, sections 3.3 and 5.2), and when none is read.
use Rattle.std.specs.Prelude.{◌≡◌, ℕ, ◌<◌, List, ◌⊎◌, ⊤}
use Rattle.nfs_model.specs.declared.arguments.Args.{Args}
use Rattle.nfs_model.specs.declared.replies.Reply.{Reply}
use Rattle.nfs_model.specs.Arguments.{nfs_program, mount_program, program_of, procedure_of}
use Rattle.nfs_model.specs.Results.{result}
use Rattle.nfs_model.specs.Replies.{ReplyFits, IsReplyTo}
use Rattle.nfs_model.specs.declared.fault.ArgsFault.{ArgsFault}
use Rattle.nfs_model.specs.declared.fault.ArgsFault.TheVariants.{Garbage, Memory}

-- there is such a procedure: 22 of NFS version 3 and 6 of MOUNT
abbrev pub IsProcedure : ℕ → ℕ → Type 0
IsProcedure program procedure = ((program ≡ nfs_program) × (procedure < 22)) ⊎ ((program ≡ mount_program) × (procedure < 6))

-- the bytes are this reply to a call of the procedure, whatever its arguments are
pub record IsReply (program procedure : ℕ) (bytes : List ℕ) (reply : Reply) : Type 0 where
  pub args : Args
  pub program_is : program ≡ program_of args
  pub procedure_is : procedure ≡ procedure_of args
  pub answers : IsReplyTo args reply
  pub fits : ReplyFits reply
  pub spelled : bytes ≡ result reply

-- the bytes are no reply to it; running out of memory tells nothing of them
abbrev pub NoReply : ℕ → ℕ → List ℕ → ArgsFault → Type 0
NoReply program procedure bytes Garbage = (reply : Reply) → IsReply program procedure bytes reply → ⊥
NoReply program procedure bytes Memory = ⊤
