use Rattle.std.proofs.Common.{◌∷◌, length-append}
use Rattle.shared_map.proofs.Heights.{low_joined}
use Rattle.shared_map.proofs.settling.set_height.Goals as goal

pub returns-clause-tree : goal.returns-clause-tree
returns-clause-tree g c =
    let low = c.height_above-at.ensures.low in
    ((c.height_above-at.ensures.height, c.requires.level), rw (length-append c.args.at.now.left.0 ((c.args.at.now.key, c.args.at.now.value.value) ∷ c.args.at.now.right.0), c.height_above-at.ensures.height) (low_joined _ _ _ _ low.0 low.1 c.requires.level))
