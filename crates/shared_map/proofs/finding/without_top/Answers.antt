use Rattle.std.proofs.Common.{◌∷◌, ◌++◌, length, refl, sym, ap, ◌∙◌, arith}
use Rattle.shared_map.proofs.Forks.{near_is}
use Rattle.shared_map.proofs.finding.without_top.Goals as goal

pub with_side-requires : goal.with_side-requires
with_side-requires g c =
    record {
      sides = c.requires.sides;
      level = c.in_ok-right.ensures.1;
      few = omega (arith, c.requires.few, ap length c.in-Some.ensures.some, ap length c.in_ok-right.ensures.0);
    }

pub returns : goal.returns
returns g c =
    near_is c.with_side.result _ _ _ _ (ap (λ l. c.args.at.now.left.0 ++ (c.in-Some.key.now, c.in-Some.value.now.value) ∷ l) c.in_ok-right.ensures.0 ∙ ap (λ l. c.args.at.now.left.0 ++ l) (sym c.in-Some.ensures.some)) refl
    c.with_side.ensures
