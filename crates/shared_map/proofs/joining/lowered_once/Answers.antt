use Rattle.std.proofs.Common.{◌≡◌, ap, ◌∙◌}
use Rattle.shared_map.specs.Trees.{side_on, opposite}
use Rattle.shared_map.proofs.Joined.{once, once_next, once_joined, of_side}
use Rattle.shared_map.proofs.joining.lowered_once.Goals as goal

pub joined_beside-requires : goal.joined_beside-requires
joined_beside-requires g c =
    let inner : c.on.result.now ≡ side_on (opposite c.args.on) c.args.at.now = c.on.ensures ∙ ap (λ i. side_on i c.args.at.now) c.other.ensures in
    let fits = once c.args.on c.args.at.now (c.args.key.now, c.args.value.now.value) c.args.other c.requires.balanced c.requires.higher c.requires.few c.requires.leans in
    rw inner (record { level = fits.0; few = fits.1 })

pub joined_beside-requires-2 : goal.joined_beside-requires-2
joined_beside-requires-2 g c =
    let inner : c.on.result.now ≡ side_on (opposite c.args.on) c.args.at.now = c.on.ensures ∙ ap (λ i. side_on i c.args.at.now) c.other.ensures in
    let below = of_side c.args.on (side_on (opposite c.args.on) c.args.at.now) c.args.other c.in_ok-other.other (c.args.key.now, c.args.value.now.value) c.on.result.now inner c.in_ok-other.ensures in
    let fits = once_next c.args.on c.args.at.now (c.args.key.now, c.args.value.now.value) c.args.other c.requires.balanced c.requires.higher c.requires.few c.requires.leans c.in_ok-other.other below in
    rw c.on-2.ensures (record { level = fits.0; few = fits.1 })

pub returns : goal.returns
returns g c =
    let inner : c.on.result.now ≡ side_on (opposite c.args.on) c.args.at.now = c.on.ensures ∙ ap (λ i. side_on i c.args.at.now) c.other.ensures in
    let below = of_side c.args.on (side_on (opposite c.args.on) c.args.at.now) c.args.other c.in_ok-other.other (c.args.key.now, c.args.value.now.value) c.on.result.now inner c.in_ok-other.ensures in
    once_joined c.args.on c.args.at.now (c.args.key.now, c.args.value.now.value) c.args.other c.requires.balanced c.requires.higher c.requires.few c.requires.leans c.in_ok-other.other below c.joined_beside-2.result (rw (← c.on-2.ensures) c.joined_beside-2.ensures)
