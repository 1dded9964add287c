-- Laws of the arguments and of the results: each spelling is of one value, and begins no other.
use Rattle.std.specs.Prelude.{◌≡◌, ℕ, List}
use Rattle.wire_model.specs.OneReading.{ReadsOne}
use Rattle.nfs_model.specs.declared.arguments.Args.{Args}
use Rattle.nfs_model.specs.declared.replies.Reply.{Reply}
use Rattle.nfs_model.specs.Arguments.{program_of, procedure_of, arguments, ArgumentsFit, AreArguments}
use Rattle.nfs_model.specs.Results.{result}
use Rattle.nfs_model.specs.Replies.{IsReplyTo, ReplyFits, IsFittingReply}

-- arguments of that procedure, within their bounds
pub record AreOf (program procedure : ℕ) (args : Args) : Type 0 where
  pub program_is : program ≡ program_of args
  pub procedure_is : procedure ≡ procedure_of args
  pub fit : ArgumentsFit args

-- of one procedure, the bytes of arguments are those of one value, and begin no other's
abbrev pub ArgumentsReadOne : Type 0
ArgumentsReadOne = (program procedure : ℕ) → ReadsOne (AreOf program procedure) arguments

-- the bytes of a procedure's arguments are those of one value
abbrev pub ArgumentsAreUnambiguous : Type 0
ArgumentsAreUnambiguous = (program procedure : ℕ) (bytes : List ℕ) (args other : Args) → AreArguments program procedure bytes args
    → AreArguments program procedure bytes other → args ≡ other

-- the bytes of a result are those of one reply to the procedure, and begin no other's
abbrev pub RepliesReadOne : Type 0
RepliesReadOne = (args : Args) → ReadsOne (IsFittingReply args) result

-- the bytes of a result are those of one reply to the procedure
abbrev pub RepliesAreUnambiguous : Type 0
RepliesAreUnambiguous = (args : Args) (reply other : Reply) → IsReplyTo args reply → IsReplyTo args other → ReplyFits reply
    → ReplyFits other
    → result reply ≡ result other → reply ≡ other
