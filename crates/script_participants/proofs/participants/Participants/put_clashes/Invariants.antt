use Rattle.std.proofs.Common.{◌≡◌, ◌++◌, drop}
use Rattle.conflict_list.specs.Conflicts.{seen_all}
use Rattle.script_participants.specs.Texts.{clash_lines_of}
use Rattle.script_participants.proofs.participants.Participants.put_clashes.Given as goal

-- what stands there, and the lines of the pairs that are left, are all
abbrev pub invariant-clashes : goal.invariant-clashes
invariant-clashes l = l.text.items ++ clash_lines_of l.self (seen_all (drop l.clash-index l.list)) ≡ l.initial.text.items ++ clash_lines_of l.self (seen_all l.list)
