use Rattle.std.proofs.Common.{◌≤◌, ◌+◌, arith}
use Rattle.shared_map.proofs.Joined.{if_ok}
use Rattle.shared_map.proofs.joining.balanced.Goals as goal

pub lowered-requires : goal.lowered-requires
lowered-requires g c =
    record {
      higher = (omega (arith, c.if-height-saturating_add.true, c.saturating_add.ensures, c.height-height.type_inv, c.height-height.ensures.height, c.height-beside.ensures.height), c.requires.level.0);
      few = c.requires.few;
    }

pub lowered-requires-then-beside-saturating_add : goal.lowered-requires-then-beside-saturating_add
lowered-requires-then-beside-saturating_add g c =
    record {
      higher = (omega (arith, c.if-beside-saturating_add.true, c.saturating_add-else-height-saturating_add.ensures, c.height-beside.type_inv, c.height-height.ensures.height, c.height-beside.ensures.height), c.requires.level.1);
      few = omega (arith, c.requires.few);
    }

pub joined_on-requires : goal.joined_on-requires
joined_on-requires g c =
    record {
      level = (omega (arith, c.if-height-saturating_add.false, c.saturating_add.ensures, c.height-height.ensures.height, c.height-beside.ensures.height), omega (arith, c.if-beside-saturating_add.false, c.saturating_add-else-height-saturating_add.ensures, c.height-height.ensures.height, c.height-beside.ensures.height));
      few = c.requires.few;
    }

pub returns-then-height-saturating_add : goal.returns-then-height-saturating_add
returns-then-height-saturating_add g c =
    let high : c.args.other.1 + 2 ≤ c.args.side.1 = omega (arith, c.if-height-saturating_add.true, c.saturating_add.ensures, c.height-height.type_inv, c.height-height.ensures.height, c.height-beside.ensures.height) in
    if_ok c.lowered.result (λ t h. (h.0, (omega (arith, high, h.1), omega (arith, high, h.2), λ d. absurd (omega (arith, high, d.0))))) c.lowered.ensures
