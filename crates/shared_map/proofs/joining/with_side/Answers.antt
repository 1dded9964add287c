use Rattle.std.proofs.Common.{◌≡◌, ap, ◌∙◌}
use Rattle.shared_map.specs.Trees.{side_on, opposite}
use Rattle.shared_map.proofs.Joined.{with_side_level, with_side_near}
use Rattle.shared_map.proofs.joining.with_side.Goals as goal

pub balanced-requires : goal.balanced-requires
balanced-requires g c =
    let other : c.in_ok-other.other ≡ side_on (opposite c.args.on) c.args.at.now = c.in_ok-other.ensures ∙ c.on.ensures ∙ ap (λ i. side_on i c.args.at.now) c.other.ensures in
    record { level = with_side_level c.args.at.now c.requires.sides c.args.on c.args.side c.in_ok-other.other other c.requires.level; few = rw other c.requires.few }

pub returns : goal.returns
returns g c =
    let other : c.in_ok-other.other ≡ side_on (opposite c.args.on) c.args.at.now = c.in_ok-other.ensures ∙ c.on.ensures ∙ ap (λ i. side_on i c.args.at.now) c.other.ensures in
    with_side_near c.args.at.now c.requires.sides c.args.on c.args.side c.in_ok-other.other other c.requires.level (c.args.key.now, c.args.value.now.value) c.balanced.result c.balanced.ensures
