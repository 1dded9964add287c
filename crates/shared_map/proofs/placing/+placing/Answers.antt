use Rattle.std.proofs.Common.{rules, ◌≡◌, ◌<◌, T, ◌∷◌, ◌++◌, length, Some, ap, ◌∙◌, subst, refl, arith}
use Rattle.std.specs.Prelude.{IfOk, OnOk, OnErr}
use Rattle.std.specs.Option.{option_map}
use Rattle.std.specs.FinMap.Entries.{find as value_at, put, is_sorted}
use Rattle.shared_map.specs.Trees.{seen, side_on, side_to, IsGrown}
use Rattle.shared_map.proofs.Forks.{shorter_side, sorted_side, found_side, found_own, over_own}
use Rattle.shared_map.proofs.Grown.{value_tree, own_ok, grown_fits, grown_ok, grown_err}
use Rattle.shared_map.proofs.Joined.{balanced_on}
use Rattle.shared_map.proofs.Rows.{err_on}
use Rattle.shared_map.proofs.Turned.{when_false}
use Rattle.shared_map.proofs.placing.+placing.Goals as goal

pub put_at-put-before-requires : goal.put_at-put-before-requires
put_at-put-before-requires g t c κs within =
    let is : c.take-side.result ≡ side_on c.in-Some.on c.args.at.now = c.take-side.ensures.side in
    let short : length c.take-side.result.0 < length (seen (Some c.args.at.now)).0 = omega (arith, shorter_side c.args.at.now _ refl c.in-Some.on, ap (λ x. length x.0) is) in
    let sorted : T (is_sorted g.K.MapKey.order c.take-side.result.0) = rw is (sorted_side c.args.at.now _ refl g.K.MapKey.order g.met.K.MapKey.total c.requires.ordered c.in-Some.on) in
    (search rules, (within.0, (within.1.0, (within.1.1, (sorted, omega (arith, short, c.requires.few))))))

pub put_at-is_two_higher-requires : goal.put_at-is_two_higher-requires
put_at-is_two_higher-requires g t c =
    let n = balanced_on c.in-Some.on c.args.at.now c.requires.tree.0 in
    let near = ap (λ x. x.1) c.on.ensures in
    let far = ap (λ x. x.1) c.on-2.ensures in
    let which = ap (λ i. (side_on i c.args.at.now).1) c.other.ensures in
    record { height = omega (arith, n.0, near, far, which) }

pub put_at-give_back-requires : goal.put_at-give_back-requires
put_at-give_back-requires g t c =
    let near = ap (λ x. x.1) c.on.ensures in
    let far = ap (λ x. x.1) c.on-2.ensures in
    let which = ap (λ i. (side_on i c.args.at.now).1) c.other.ensures in
    let lower = when_false _ _ c.is_two_higher.result c.if-is_two_higher.false c.is_two_higher.ensures in
    let fits = grown_fits g.K.MapKey.order c.args.key.now c.args.value.now.value c.args.at.now c.take-side.new.self c.in-Some.on c.take-side.result c.put-before.new.tree c.take-side.ensures.rest c.take-side.ensures.side c.requires.tree _ _ c.put-before.result c.put-before.ensures.ok c.put-before.ensures.err (omega (arith, near, far, which, lower)) c.requires.few in
    record { level = fits.0; few = fits.1; tree = fits.2 }

pub put_at-returns-in_default-clause-before : goal.put_at-returns-in_default-clause-before
put_at-returns-in_default-clause-before g t c =
    subst (λ x. IfOk c.put_here.result (λ before. option_map (λ v. v.value) before ≡ x)) (found_own c.args.at.now _ refl g.K.MapKey.order g.met.K.MapKey.total c.requires.ordered c.args.key.now c.to.result (c.to.ensures ∙ ap side_to c.compare.ensures) c.in_default.is) c.put_here.ensures.before

pub put_at-returns-in_default-clause-tree : goal.put_at-returns-in_default-clause-tree
put_at-returns-in_default-clause-tree g t c = (c.requires.tree.0, value_tree _ _ _ _ _ _ c.requires.tree.1)

pub put_at-returns-in_default-clause-ok : goal.put_at-returns-in_default-clause-ok
put_at-returns-in_default-clause-ok g t c =
    own_ok _ c.put_here.result c.args.at.now g.K.MapKey.order g.met.K.MapKey.total c.requires.ordered c.args.key.now c.to.result (c.to.ensures ∙ ap side_to c.compare.ensures) c.in_default.is c.args.value.now.value c.put_here.new.old.value c.put_here.ensures.ok

pub put_at-returns-in_default-clause-err : goal.put_at-returns-in_default-clause-err
put_at-returns-in_default-clause-err g t c =
    err_on c.put_here.result (λ h. (ap (λ x. (c.args.at.now.left.0 ++ (c.args.at.now.key, x.value) ∷ c.args.at.now.right.0, c.args.at.now.height)) h.0, h.1)) c.put_here.ensures.err

pub put_at-returns-clause-before : goal.put_at-returns-clause-before
put_at-returns-clause-before g t c =
    subst (λ x. IfOk c.put-before.result (λ before. option_map (λ v. v.value) before ≡ x)) (ap (λ x. value_at g.K.MapKey.order c.args.key.now x.0) c.take-side.ensures.side ∙ found_side c.args.at.now _ refl g.K.MapKey.order g.met.K.MapKey.total c.requires.ordered c.args.key.now c.to.result (c.to.ensures ∙ ap side_to c.compare.ensures) c.in-Some.on c.in-Some.is) c.put-before.ensures.before

pub put_at-returns-clause-ok : goal.put_at-returns-clause-ok
put_at-returns-clause-ok g t c =
    grown_ok g.K.MapKey.order c.args.key.now c.args.value.now.value c.args.at.now c.take-side.new.self c.in-Some.on c.take-side.result c.put-before.new.tree c.take-side.ensures.rest c.take-side.ensures.side c.requires.tree _ _ c.put-before.result c.put-before.ensures.ok c.put-before.ensures.err
    c.give_back.new.at c.give_back.ensures.lower g.met.K.MapKey.total c.requires.ordered c.to.result (c.to.ensures ∙ ap side_to c.compare.ensures) c.in-Some.is c.give_back.ensures.entries c.give_back.ensures.settled

pub put_at-returns-clause-err : goal.put_at-returns-clause-err
put_at-returns-clause-err g t c =
    grown_err g.K.MapKey.order c.args.key.now c.args.value.now.value c.args.at.now c.take-side.new.self c.in-Some.on c.take-side.result c.put-before.new.tree c.take-side.ensures.rest c.take-side.ensures.side c.requires.tree _ _ c.put-before.result c.put-before.ensures.ok c.put-before.ensures.err
    c.give_back.new.at c.give_back.ensures.lower

pub put-over-requires : goal.put-over-requires
put-over-requires g t c = record { balanced = c.put_over-before.ensures.tree.0; low = c.put_over-before.ensures.tree.1 }

pub put-returns-clause-before : goal.put-returns-clause-before
put-returns-clause-before g t c = rw (← c.in-Some.ensures.top) c.put_over-before.ensures.before

pub put-returns-clause-ok : goal.put-returns-clause-ok
put-returns-clause-ok g t c = rw c.over.ensures (rw (← c.in-Some.ensures.top) c.put_over-before.ensures.ok)

pub put-returns-clause-err : goal.put-returns-clause-err
put-returns-clause-err g t c = rw c.over.ensures (rw (← c.in-Some.ensures.top) c.put_over-before.ensures.err)

pub put_over-returns-clause-before : goal.put_over-returns-clause-before
put_over-returns-clause-before g t c = over_own c.args.top.now.value c.in_ok-at.at.now c.put_at.new.at (c.make_mut.follows.lender c.put_at.new.at).value c.in_ok-at.ensures.value (c.make_mut.follows.holds c.put_at.new.at (rw c.in_ok-at.was refl)) (λ x y. IfOk c.put_at.result (λ before. option_map (λ v. v.value) before ≡ value_at g.K.MapKey.order c.args.key.now x.0)) c.put_at.ensures.before

pub put_over-returns-clause-ok : goal.put_over-returns-clause-ok
put_over-returns-clause-ok g t c = over_own c.args.top.now.value c.in_ok-at.at.now c.put_at.new.at (c.make_mut.follows.lender c.put_at.new.at).value c.in_ok-at.ensures.value (c.make_mut.follows.holds c.put_at.new.at (rw c.in_ok-at.was refl)) (λ x y. OnOk c.put_at.result (IsGrown (put g.K.MapKey.order c.args.key.now c.args.value.now.value x.0) x.1 y × g.P.Attempt.makes c.args.rest.now c.put_at.new.rest)) c.put_at.ensures.ok

pub put_over-returns-clause-err : goal.put_over-returns-clause-err
put_over-returns-clause-err g t c = over_own c.args.top.now.value c.in_ok-at.at.now c.put_at.new.at (c.make_mut.follows.lender c.put_at.new.at).value c.in_ok-at.ensures.value (c.make_mut.follows.holds c.put_at.new.at (rw c.in_ok-at.was refl)) (λ x y. OnErr c.put_at.result ((y ≡ x) × (c.put_at.new.rest ≡ c.args.rest.now))) c.put_at.ensures.err
