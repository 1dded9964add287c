use Rattle.std.proofs.Common.{◌≡◌, drop}
use Rattle.log_model.specs.View.{have_own_head_keys}
use Rattle.view_blocks.proofs.owners.Owners.have_own_heads.Given as goal

abbrev pub invariant-loop-i : goal.invariant-loop-i
invariant-loop-i l = have_own_head_keys l.self-inside.keys.items ≡ have_own_head_keys (drop l.i l.self-inside.keys.items)
