use Rattle.std.proofs.Common.{◌≡◌, Some, refl, ap, ◌∙◌, arith}
use Rattle.shared_map.specs.Trees.{seen, side_on, opposite, IsBalanced}
use Rattle.shared_map.proofs.Turned.{put_back, level_straight, leaning_fits, turned_entries, turned_straight}
use Rattle.shared_map.proofs.settling.straighten.Goals as goal

pub returns-then-height : goal.returns-then-height
returns-then-height g c =
    let inner : c.height.result ≡ (side_on c.args.inner c.args.at.now).1 = omega (arith, c.height.ensures.height, ap (λ x. x.1) c.on.ensures) in
    let outer : c.height-2.result ≡ (side_on (opposite c.args.inner) c.args.at.now).1 = omega (arith, c.height-2.ensures.height, ap (λ x. x.1) c.on-2.ensures, ap (λ i. (side_on i c.args.at.now).1) c.other-outer.ensures) in
    (refl, level_straight c.args.at.now c.args.inner c.requires.tree.0 (omega (arith, inner, outer, c.if-height.true)))

pub turn_away-requires : goal.turn_away-requires
turn_away-requires g c =
    let is : seen (Some c.in-Some-get_mut.below.now) ≡ side_on c.args.inner c.args.at.now = ap (λ x. seen (Some x)) c.in-Some-get_mut.ensures.value ∙ c.in-Some.ensures.top ∙ c.take.ensures.side in
    let balanced : IsBalanced (Some c.in-Some-get_mut.below.now) = rw c.in-Some-get_mut.ensures.value c.in-Some.ensures.balanced in
    let inner : c.height.result ≡ (side_on c.args.inner c.args.at.now).1 = omega (arith, c.height.ensures.height, ap (λ x. x.1) c.on.ensures) in
    let outer : c.height-2.result ≡ (side_on (opposite c.args.inner) c.args.at.now).1 = omega (arith, c.height-2.ensures.height, ap (λ x. x.1) c.on-2.ensures, ap (λ i. (side_on i c.args.at.now).1) c.other-outer.ensures) in
    let fits = leaning_fits c.args.at.now c.args.inner c.take.new.self c.in-Some-get_mut.below.now c.take.ensures.rest c.requires.few c.requires.tree.0 balanced is (omega (arith, inner, outer, c.if-height.false)) in
    record { level = fits.0; few = fits.1 }

pub over-requires-2 : goal.over-requires-2
over-requires-2 g c = record { balanced = c.turn_away.ensures.tree.0; low = c.turn_away.ensures.tree.1 }

pub returns : goal.returns
returns g c =
    let is : seen (Some c.in-Some-get_mut.below.now) ≡ side_on c.args.inner c.args.at.now = ap (λ x. seen (Some x)) c.in-Some-get_mut.ensures.value ∙ c.in-Some.ensures.top ∙ c.take.ensures.side in
    let balanced : IsBalanced (Some c.in-Some-get_mut.below.now) = rw c.in-Some-get_mut.ensures.value c.in-Some.ensures.balanced in
    let inner : c.height.result ≡ (side_on c.args.inner c.args.at.now).1 = omega (arith, c.height.ensures.height, ap (λ x. x.1) c.on.ensures) in
    let outer : c.height-2.result ≡ (side_on (opposite c.args.inner) c.args.at.now).1 = omega (arith, c.height-2.ensures.height, ap (λ x. x.1) c.on-2.ensures, ap (λ i. (side_on i c.args.at.now).1) c.other-outer.ensures) in
    (turned_entries c.args.inner c.other-outer.result c.other-outer.ensures c.args.at.now c.take.new.self c.turn_away.new.at c.set-2.new.self c.in-Some-get_mut.below.now c.turn_away.new.below c.over-2.result c.take.ensures.rest c.turn_away.ensures.upper c.turn_away.ensures.lower c.over-2.ensures c.set-2.ensures (ap (λ x. x.0) is), turned_straight c.args.inner c.other-outer.result c.other-outer.ensures c.args.at.now c.take.new.self c.turn_away.new.at c.set-2.new.self c.in-Some-get_mut.below.now c.turn_away.new.below c.over-2.result c.take.ensures.rest c.turn_away.ensures.upper c.turn_away.ensures.lower c.over-2.ensures c.set-2.ensures c.requires.tree.0 balanced (ap (λ x. x.1) is) (omega (arith, inner, outer, c.if-height.false)))

pub returns-in_default-get_mut : goal.returns-in_default-get_mut
returns-in_default-get_mut g c =
    put_back c.args.at.now c.args.inner c.over.result c.take.new.self c.set.new.self c.take.ensures.rest c.set.ensures (c.over.ensures ∙ c.in-Some.ensures.top ∙ c.take.ensures.side)
