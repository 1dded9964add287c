use Rattle.std.proofs.Common.{sym, ◌∙◌}
use Rattle.conflict_list.proofs.Growing.{grows, same_owner}
use Rattle.conflict_list.proofs.knowing.goes_on.Goals as goal

pub returns-then-older-newer : goal.returns-then-older-newer
returns-then-older-newer c = λ truly. grows c.args.older.now c.args.newer.now c.requires.older c.requires.newer (same_owner c.args.older.now.owner c.args.newer.now.owner (sym c.eq.ensures ∙ c.if-eq.true)) c.if-older-newer.true (c.dominates.ensures.0 truly)
