use Rattle.std.proofs.Common.{◌≡◌, take}
use Rattle.std.specs.Prelude.{filter}
use Rattle.std.specs.Ordering.{eq_by_cmp}
use Rattle.ivy_base.specs.Naming.{owner_cmp}
use Rattle.log_model.specs.Heads.{owner_in}
use Rattle.script_world.proofs.shows.heads_of.Given as goal

abbrev pub invariant-each : goal.invariant-each
invariant-each l = l.heads.items ≡ filter (λ b. eq_by_cmp owner_cmp (owner_in b) l.fn.owner) (take l.block-index l.blocks)
