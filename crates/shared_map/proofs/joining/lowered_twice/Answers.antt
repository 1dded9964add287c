use Rattle.std.proofs.Common.{◌≡◌, ap, ◌∙◌}
use Rattle.shared_map.specs.Trees.{side_on, opposite}
use Rattle.shared_map.proofs.Joined.{twice, twice_other, twice_next, twice_joined, of_side, of_other}
use Rattle.shared_map.proofs.joining.lowered_twice.Goals as goal

pub joined_beside-requires : goal.joined_beside-requires
joined_beside-requires g c =
    let away : c.on.result.now ≡ side_on (opposite c.args.on) c.args.at.now = c.on.ensures ∙ ap (λ i. side_on i c.args.at.now) c.other-away.ensures in
    let top = c.in-Some.ensures.top ∙ away in
    let inner : c.on-2.result.now ≡ side_on (opposite c.args.on) c.in-Some.inner.now = c.on-2.ensures ∙ ap (λ i. side_on i c.in-Some.inner.now) c.other-away.ensures in
    let fits = twice c.args.on c.args.at.now (c.args.key.now, c.args.value.now.value) c.args.other c.requires.balanced c.requires.higher c.requires.few c.requires.leans c.in-Some.inner.now c.in-Some.ensures.balanced top in
    rw inner (record { level = fits.0; few = fits.1 })

pub joined_anew-requires : goal.joined_anew-requires
joined_anew-requires g c =
    let away : c.on.result.now ≡ side_on (opposite c.args.on) c.args.at.now = c.on.ensures ∙ ap (λ i. side_on i c.args.at.now) c.other-away.ensures in
    let top = c.in-Some.ensures.top ∙ away in
    let inner : c.on-2.result.now ≡ side_on (opposite c.args.on) c.in-Some.inner.now = c.on-2.ensures ∙ ap (λ i. side_on i c.in-Some.inner.now) c.other-away.ensures in
    let fits = twice_other c.args.on c.args.at.now (c.args.key.now, c.args.value.now.value) c.args.other c.requires.balanced c.requires.higher c.requires.few c.requires.leans c.in-Some.inner.now c.in-Some.ensures.balanced top in
    rw (c.on-3.ensures, c.on-4.ensures) (record { level = fits.0; few = fits.1 })

pub joined_on-requires : goal.joined_on-requires
joined_on-requires g c =
    let away : c.on.result.now ≡ side_on (opposite c.args.on) c.args.at.now = c.on.ensures ∙ ap (λ i. side_on i c.args.at.now) c.other-away.ensures in
    let top = c.in-Some.ensures.top ∙ away in
    let inner : c.on-2.result.now ≡ side_on (opposite c.args.on) c.in-Some.inner.now = c.on-2.ensures ∙ ap (λ i. side_on i c.in-Some.inner.now) c.other-away.ensures in
    let after = of_side c.args.on (side_on (opposite c.args.on) c.in-Some.inner.now) c.args.other c.in_ok-other.other (c.args.key.now, c.args.value.now.value) c.on-2.result.now inner c.in_ok-other.ensures in
    let half = of_side c.args.on (side_on c.args.on c.args.at.now) c.on-4.result.now c.in_ok-side.side (c.args.at.now.key, c.args.at.now.value.value) c.on-3.result.now c.on-3.ensures c.in_ok-side.ensures in
    let before = of_other c.args.on (side_on c.args.on c.args.at.now) (side_on c.args.on c.in-Some.inner.now) c.in_ok-side.side (c.args.at.now.key, c.args.at.now.value.value) c.on-4.result.now c.on-4.ensures half in
    let fits = twice_next c.args.on c.args.at.now (c.args.key.now, c.args.value.now.value) c.args.other c.requires.balanced c.requires.higher c.requires.few c.requires.leans c.in-Some.inner.now c.in-Some.ensures.balanced top c.in_ok-other.other c.in_ok-side.side after before in
    record { level = fits.0; few = fits.1 }

pub returns : goal.returns
returns g c =
    let away : c.on.result.now ≡ side_on (opposite c.args.on) c.args.at.now = c.on.ensures ∙ ap (λ i. side_on i c.args.at.now) c.other-away.ensures in
    let top = c.in-Some.ensures.top ∙ away in
    let inner : c.on-2.result.now ≡ side_on (opposite c.args.on) c.in-Some.inner.now = c.on-2.ensures ∙ ap (λ i. side_on i c.in-Some.inner.now) c.other-away.ensures in
    let after = of_side c.args.on (side_on (opposite c.args.on) c.in-Some.inner.now) c.args.other c.in_ok-other.other (c.args.key.now, c.args.value.now.value) c.on-2.result.now inner c.in_ok-other.ensures in
    let half = of_side c.args.on (side_on c.args.on c.args.at.now) c.on-4.result.now c.in_ok-side.side (c.args.at.now.key, c.args.at.now.value.value) c.on-3.result.now c.on-3.ensures c.in_ok-side.ensures in
    let before = of_other c.args.on (side_on c.args.on c.args.at.now) (side_on c.args.on c.in-Some.inner.now) c.in_ok-side.side (c.args.at.now.key, c.args.at.now.value.value) c.on-4.result.now c.on-4.ensures half in
    twice_joined c.args.on c.args.at.now (c.args.key.now, c.args.value.now.value) c.args.other c.requires.balanced c.requires.higher c.requires.few c.requires.leans c.in-Some.inner.now c.in-Some.ensures.balanced top c.in_ok-other.other c.in_ok-side.side after before c.joined_on.result c.joined_on.ensures
