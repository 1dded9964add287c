use Rattle.std.proofs.Common.{◌≡◌, ◌++◌, drop}
use Rattle.std.specs.Prelude.{option_map}
use Rattle.script_model.specs.Messages.{bytes_of_pieces}
use Rattle.command_messages.proofs.messages.put_pieces.Given as goal

abbrev pub invariant-loop-piece : goal.invariant-loop-piece
invariant-loop-piece l =
    option_map (λ bytes. l.fn.out.items ++ bytes) (bytes_of_pieces l.fn.replies l.fn.view l.fn.pieces)
    ≡ option_map (λ bytes. l.out.items ++ bytes) (bytes_of_pieces l.fn.replies l.fn.view (drop l.piece-index l.fn.pieces))
