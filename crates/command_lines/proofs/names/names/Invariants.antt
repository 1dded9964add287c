use Rattle.std.proofs.Common.{◌≡◌, drop}
use Rattle.script_model.specs.Words.{each_of, name_of}
use Rattle.command_lines.proofs.ReadLemmas.{behind, seen}
use Rattle.command_lines.proofs.names.names.Given as goal

abbrev pub invariant-loop-part : goal.invariant-loop-part
invariant-loop-part l = behind l.names.items (each_of name_of (seen (drop l.part-index l.part-items))) ≡ each_of name_of (seen l.part-items)
