-- The key of the script's line, and streams of calls.
use Rattle.std.proofs.Common.{◌≡◌, ℕ, suc, ◌+◌, true, List, [], ◌∷◌, ◌++◌, replicate, codes, Some, Result, Ok, Err}
use Rattle.std.proofs.Common.{refl, add-one, ap, ◌∙◌, sym}
use Rattle.std.specs.Prelude.{IfOk}
use Rattle.hex.proofs.OnLiterals.{hex_on_literals}
use Rattle.hash_signature_model.specs.declared.set.Width.TheVariants.{W4}
use Rattle.hash_signature_model.specs.declared.set.Height.TheVariants.{H10}
use Rattle.hash_signature_model.specs.Signer.{Signer}
use Rattle.log_model.specs.View.{View}
use Rattle.rpc_wire.specs.Frames.{fragment}
use Rattle.script_model.specs.Lines.{command_of}
use Rattle.script_model.specs.Messages.{message_of}
use Rattle.script_model.specs.declared.command.Command.TheVariants as command
use Rattle.ivy_crowd.specs.Requests.{IsKey, pieces, stream}

-- the key that the line makes
abbrev pub grown : Signer
grown = record { id = replicate 15 0 ++ 1 ∷ []; seed = replicate 31 0 ++ 1 ∷ []; sets = record { w = W4; h = H10 } ∷ []; made = 0 }

pub line : command_of (codes "log a 1 1 w4h10")
    ≡ Some (command.Log (codes "a") (replicate 15 0 ++ 1 ∷ []) (replicate 31 0 ++ 1 ∷ []) (record { w = W4; h = H10 } ∷ []))
unfolding command_of hex_on_literals
line = refl

grown_is_key : IsKey grown
grown_is_key = record { line = line; unused = refl }

pub is_key : {E : Type 0} (r : Result Signer E) → IfOk r (λ h. h ≡ grown) → IfOk r IsKey
is_key (Ok h) is = rw is grown_is_key
is_key (Err e) is = tt

pub stream_more : (view : View) (thread n : ℕ) (front message : List ℕ) → Some front ≡ stream view thread n
    → Some message ≡ message_of [] view (pieces thread (n + 1)) → Some (front ++ fragment true message) ≡ stream view thread (n + 1)
stream_more view thread n front message before next = rw (add-one, ← before, ← next) refl
