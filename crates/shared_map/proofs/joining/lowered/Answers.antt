use Rattle.std.proofs.Common.{◌≡◌, length, ap, arith}
use Rattle.shared_map.specs.Trees.{side_on, opposite}
use Rattle.shared_map.proofs.joining.lowered.Goals as goal

pub lowered_once-requires : goal.lowered_once-requires
lowered_once-requires g c =
    let outer : c.height.result ≡ (side_on c.args.on c.in-Some.at.now).1 = omega (arith, c.height.ensures.height, ap (λ x. x.1) c.on.ensures) in
    let inner : c.height-2.result ≡ (side_on (opposite c.args.on) c.in-Some.at.now).1 = omega (arith, c.height-2.ensures.height, ap (λ x. x.1) c.on-2.ensures, ap (λ i. (side_on i c.in-Some.at.now).1) c.other.ensures) in
    let high = ap (λ x. x.1) c.in-Some.ensures.top in
    record {
      balanced = c.in-Some.ensures.balanced;
      higher = (omega (arith, c.requires.higher.0, high), omega (arith, c.requires.higher.1, high));
      leans = omega (arith, c.if-height.false, outer, inner);
      few = omega (arith, c.requires.few, ap (λ x. length x.0) c.in-Some.ensures.top);
    }

pub lowered_twice-requires : goal.lowered_twice-requires
lowered_twice-requires g c =
    let outer : c.height.result ≡ (side_on c.args.on c.in-Some.at.now).1 = omega (arith, c.height.ensures.height, ap (λ x. x.1) c.on.ensures) in
    let inner : c.height-2.result ≡ (side_on (opposite c.args.on) c.in-Some.at.now).1 = omega (arith, c.height-2.ensures.height, ap (λ x. x.1) c.on-2.ensures, ap (λ i. (side_on i c.in-Some.at.now).1) c.other.ensures) in
    let high = ap (λ x. x.1) c.in-Some.ensures.top in
    record {
      balanced = c.in-Some.ensures.balanced;
      higher = (omega (arith, c.requires.higher.0, high), omega (arith, c.requires.higher.1, high));
      leans = omega (arith, c.if-height.true, outer, inner);
      few = omega (arith, c.requires.few, ap (λ x. length x.0) c.in-Some.ensures.top);
    }

pub returns-then-height : goal.returns-then-height
returns-then-height g c = rw (← c.in-Some.ensures.top) c.lowered_twice.ensures

pub returns-else-height : goal.returns-else-height
returns-else-height g c = rw (← c.in-Some.ensures.top) c.lowered_once.ensures
