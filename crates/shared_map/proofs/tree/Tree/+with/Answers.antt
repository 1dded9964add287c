use Rattle.std.proofs.Common.{rules, ◌≡◌, ◌<◌, T, length, ap, subst, ◌∙◌, arith}
use Rattle.std.specs.FinMap.Entries.{put, is_sorted}
use Rattle.shared_map.specs.Trees.{side_on, side_to, IsNear}
use Rattle.shared_map.proofs.Sides.{length_put}
use Rattle.shared_map.proofs.Forks.{shorter_side, sorted_side, put_side, put_own, near_is, near_side, few_side, few_sides, height_is}
use Rattle.shared_map.proofs.tree.Tree.+with.Goals as goal

pub with_value-requires : goal.with_value-requires
with_value-requires g t c = record { sides = c.in-Some.ensures.balanced; few = few_sides c.in-Some.at.now c.args.self.now c.in-Some.ensures.top (omega (arith, c.requires.few)) }

pub with-requires : goal.with-requires
with-requires g t c =
    let is : c.on.result.now ≡ side_on c.in-Some-to.on c.in-Some.at.now = c.on.ensures in
    let short : length c.on.result.now.0 < length c.args.self.now.0 = omega (arith, shorter_side c.in-Some.at.now c.args.self.now c.in-Some.ensures.top c.in-Some-to.on, ap (λ x. length x.0) is) in
    let sorted : T (is_sorted g.K.MapKey.order c.on.result.now.0) = rw is (sorted_side c.in-Some.at.now c.args.self.now c.in-Some.ensures.top g.K.MapKey.order g.met.K.MapKey.total c.requires.ordered c.in-Some-to.on) in
    λ κs h. (search rules, (h.0, (h.1, (sorted, omega (arith, short, c.requires.few)))))

pub with_side-requires : goal.with_side-requires
with_side-requires g t c =
    let near = subst (λ x. IsNear (put g.K.MapKey.order c.args.key.now c.args.value.now.value x.0) x.1 c.in_ok-side.side) c.on.ensures c.in_ok-side.ensures in
    record {
      sides = c.in-Some.ensures.balanced;
      level = near.1;
      few = few_side c.in-Some.at.now c.args.self.now c.in-Some.ensures.top c.in-Some-to.on _ c.in_ok-side.side near (length_put g.K.MapKey.order _ _ _) c.requires.few;
    }

pub returns-in_default-to : goal.returns-in_default-to
returns-in_default-to g t c =
    near_is c.with_value.result _ _ _ _ (put_own c.in-Some.at.now c.args.self.now c.in-Some.ensures.top g.K.MapKey.order g.met.K.MapKey.total c.requires.ordered c.args.key.now c.to.result (c.to.ensures ∙ ap side_to c.compare.ensures) c.args.value.now.value c.in_default-to.is) (height_is c.in-Some.at.now c.args.self.now c.in-Some.ensures.top) c.with_value.ensures

pub returns : goal.returns
returns g t c =
    let near = subst (λ x. IsNear (put g.K.MapKey.order c.args.key.now c.args.value.now.value x.0) x.1 c.in_ok-side.side) c.on.ensures c.in_ok-side.ensures in
    near_side c.in-Some.at.now c.args.self.now c.in-Some.ensures.top c.in-Some-to.on _ _ c.in_ok-side.side near (put_side c.in-Some.at.now c.args.self.now c.in-Some.ensures.top g.K.MapKey.order g.met.K.MapKey.total c.requires.ordered c.args.key.now c.to.result (c.to.ensures ∙ ap side_to c.compare.ensures) c.args.value.now.value c.in-Some-to.on c.in-Some-to.is) c.with_side.result c.with_side.ensures
