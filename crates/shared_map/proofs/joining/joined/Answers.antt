use Rattle.std.proofs.Common.{◌∷◌, length-append}
use Rattle.shared_map.proofs.Heights.{low_joined}
use Rattle.shared_map.proofs.Joined.{made}
use Rattle.shared_map.proofs.joining.joined.Goals as goal

pub over-requires : goal.over-requires
over-requires g c =
    let low = c.height_above-height.ensures.low in
    rw c.in_ok-fork.ensures.ok (record {
      balanced = (c.height_above-height.ensures.height, c.requires.level);
      low = rw (length-append c.args.left.0 ((c.in_ok-key.key, c.in_ok-key.value.value) ∷ c.args.right.0), c.height_above-height.ensures.height) (low_joined _ _ _ _ low.0 low.1 c.requires.level);
    })

pub returns : goal.returns
returns g c = made c.in_ok-fork.fork.value _ c.args.left c.args.right _ c.args.key.now _ c.args.value.now _ c.over.ensures c.in_ok-fork.ensures.ok c.height_above-height.ensures.height c.in_ok-key.ensures
