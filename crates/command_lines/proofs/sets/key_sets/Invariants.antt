use Rattle.std.proofs.Common.{◌≡◌, drop}
use Rattle.script_model.specs.Words.{each_of, set_of}
use Rattle.command_lines.proofs.ReadLemmas.{behind, seen}
use Rattle.command_lines.proofs.sets.key_sets.Given as goal

abbrev pub invariant-loop-part : goal.invariant-loop-part
invariant-loop-part l = behind l.sets.items (each_of set_of (seen (drop l.part-index l.part-items))) ≡ each_of set_of (seen l.part-items)
