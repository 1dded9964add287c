use Rattle.std.proofs.Common.{◌≡◌, ◌++◌, drop}
use Rattle.script_world.specs.Held.{key_lines}
use Rattle.script_world.proofs.shows.put_keys.Given as goal

-- what stands there, and the lines of the blocks that are left, are all
abbrev pub invariant-posts : goal.invariant-posts
invariant-posts l = l.text.items ++ key_lines (drop l.post-index l.held) ≡ l.initial.text.items ++ key_lines l.held
