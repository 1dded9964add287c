use Rattle.std.proofs.Common.{◌≡◌, ◌≤◌, drop}
use Rattle.log_model.specs.View.{View}
use Rattle.script_model.specs.Messages.{bytes_of_pieces}
use Rattle.command_messages.specs.Lengths.{length_behind, length_of_pieces}
use Rattle.command_messages.proofs.lengths.length_of_all.Given as goal
use Rattle.rpc_wire.specs.Frames.{longest_message}

abbrev pub invariant-loop-piece : goal.invariant-loop-piece
invariant-loop-piece l = record {
  few : l.total ≤ longest_message;
  same : (view : View) → length_of_pieces l.replies view l.pieces ≡ length_behind l.total (bytes_of_pieces l.replies view (drop l.piece-index l.pieces));
}
