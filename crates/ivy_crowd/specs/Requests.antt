-- The key and the view of a crowd's participant, and what its threads ask for.
use Rattle.std.specs.Prelude.{◌≡◌, ℕ, zero, suc, ◌+◌, false, true, List, [], ◌∷◌, ◌++◌, codes, Option, Some}
use Rattle.std.specs.Fmt.{decimal}
use Rattle.ivy_base.specs.declared.key.PubKey.{PubKey}
use Rattle.log_model.specs.View.{View}
use Rattle.hash_signature_model.specs.Signer.{Signer}
use Rattle.rpc_wire.specs.Frames.{fragment}
use Rattle.script_model.specs.Lines.{command_of}
use Rattle.script_model.specs.Messages.{message_of}
use Rattle.script_model.specs.Words.{◌>>=◌}
use Rattle.script_model.specs.declared.command.Command.TheVariants as command
use Rattle.script_model.specs.declared.command.Piece.{Piece}
use Rattle.script_model.specs.declared.command.Piece.TheVariants as piece

-- The key of the script's line `log a 1 1 w4h10`, with which nothing was signed yet.
pub record IsKey (signer : Signer) : Type 0 where
  pub line : command_of (codes "log a 1 1 w4h10") ≡ Some (command.Log (codes "a") signer.id signer.seed signer.sets)
  pub unused : signer.made ≡ 0

-- the view of one member alone
abbrev pub alone : PubKey → View
alone member = record { members = member ∷ []; former = [] }

-- the file of a thread's call: `tK-I`
abbrev pub file_name : ℕ → ℕ → List ℕ
file_name thread call = codes "t" ++ decimal thread ++ codes "-" ++ decimal call

-- the pieces of that call, as a script's line has them: `nfs:8:0:0 root s:tK-I u:0 sa:420`
abbrev pub pieces : ℕ → ℕ → List Piece
pieces thread call =
    piece.Call false 8 0 0 0 ∷ piece.Root ∷ piece.Text (file_name thread call) ∷ piece.Word 0 ∷ piece.Mode 420 ∷ []

-- the first calls of a thread, so many, as the bytes of a stream: each message is one fragment
abbrev pub stream : View → ℕ → ℕ → Option (List ℕ)
stream view thread zero = Some []
stream view thread (suc n) = do
  front ← stream view thread n
  message ← message_of [] view (pieces thread (n + 1))
  Some (front ++ fragment true message)
