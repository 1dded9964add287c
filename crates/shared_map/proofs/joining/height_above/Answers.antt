use Rattle.std.proofs.Common.{arith}
use Rattle.shared_map.proofs.Heights.{low_fits}
use Rattle.shared_map.proofs.joining.height_above.Goals as goal

pub overflow_add-result : goal.overflow_add-result
overflow_add-result g c =
    let on_left = low_fits _ _ c.height.ensures.low (omega (arith, c.requires)) in
    let on_right = low_fits _ _ c.height-2.ensures.low (omega (arith, c.requires)) in
    omega (arith, on_left, on_right, c.max.ensures)
