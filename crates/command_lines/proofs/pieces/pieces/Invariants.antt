use Rattle.std.proofs.Common.{◌≡◌, drop}
use Rattle.script_model.specs.Words.{each_of, piece_of}
use Rattle.command_lines.proofs.ReadLemmas.{behind, seen}
use Rattle.command_lines.proofs.pieces.pieces.Given as goal

abbrev pub invariant-loop-word : goal.invariant-loop-word
invariant-loop-word l = behind l.pieces.items (each_of piece_of (seen (drop l.word-index l.words))) ≡ each_of piece_of (seen l.words)
