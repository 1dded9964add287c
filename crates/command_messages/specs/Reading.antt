-- What a call's result gives to later lines, by its bytes.
use Rattle.std.specs.Prelude.{◌≡◌, ℕ, List}
use Rattle.nfs_model.specs.declared.arguments.Args.{Args}
use Rattle.nfs_model.specs.declared.replies.Reply.{Reply}
use Rattle.nfs_model.specs.Replies.{IsFittingReply}
use Rattle.nfs_model.specs.Results.{result as bytes_of}
use Rattle.script_model.specs.Messages.{Given}
use Rattle.session_model.specs.Replies.{handle_given, verifier_given}

-- the bytes are a reply of the procedure
pub record IsReadFrom (args : Args) (bytes : List ℕ) (reply : Reply) : Type 0 where
  pub fits : IsFittingReply args reply
  pub spelled : bytes ≡ bytes_of reply

-- they are one that gives this
pub record GivesParts (args : Args) (bytes : List ℕ) (given : Given) : Type 0 where
  pub reply : Reply
  pub read : IsReadFrom args bytes reply
  pub handle : given.handle ≡ handle_given reply
  pub verifier : given.verifier ≡ verifier_given reply

-- they are none
abbrev pub IsNoReply : Args → List ℕ → Type 0
IsNoReply args bytes = (reply : Reply) → IsReadFrom args bytes reply → ⊥
