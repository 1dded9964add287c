use Rattle.std.proofs.Common.{◌≡◌, T, refl, sym, ap, subst}
use Rattle.std.specs.Prelude.{IfOk, OnOk, OnErr}
use Rattle.std.specs.Option.{is_some}
use Rattle.std.specs.FinMap.Entries.{find as value_at, is_sorted}
use Rattle.std.specs.declared.cmp.Ordering.TheVariants.{Less, Equal, Greater}
use Rattle.shared_map.specs.Edits.{IsEdited}
use Rattle.shared_map.proofs.Edited.{edited_left, edited_here, edited_right}
use Rattle.shared_map.proofs.Forks.{sorted_sides, found_left, found_here, found_right, over_own, own_shape, own_tree}
use Rattle.shared_map.proofs.Rows.{onto_on, err_on, same_sides}
use Rattle.shared_map.proofs.updating.+updating.Goals as goal

pub update_at-returns-in-Less-clause-found : goal.update_at-returns-in-Less-clause-found
update_at-returns-in-Less-clause-found g t c =
    λ ordered.
    let way : g.K.MapKey.order (g.Q.Sought.key c.args.key.now) c.args.at.now.key ≡ Less = sym c.in-Less.ensures in
    let sorted = sorted_sides c.args.at.now _ refl g.K.MapKey.order g.met.K.MapKey.total ordered in
    subst (λ x. IfOk c.update.result (λ found. found ≡ is_some x)) (found_left c.args.at.now _ refl g.K.MapKey.order g.met.K.MapKey.total ordered (g.Q.Sought.key c.args.key.now) way) (c.update.ensures.found sorted.0)

pub update_at-returns-in-Less-clause-ok : goal.update_at-returns-in-Less-clause-ok
update_at-returns-in-Less-clause-ok g t c =
    λ ordered.
    let way : g.K.MapKey.order (g.Q.Sought.key c.args.key.now) c.args.at.now.key ≡ Less = sym c.in-Less.ensures in
    let sorted = sorted_sides c.args.at.now _ refl g.K.MapKey.order g.met.K.MapKey.total ordered in
    onto_on c.update.result (edited_left g.K.MapKey.order g.met.K.MapKey.total g.E.Edit.makes (g.Q.Sought.key c.args.key.now) c.args.edit.now c.update.new.edit c.args.at.now.left.0 c.args.at.now.right.0 (c.args.at.now.key, c.args.at.now.value.value) ordered way c.update.new.tree.0) (c.update.ensures.ok sorted.0)

pub update_at-returns-in-Greater-clause-found : goal.update_at-returns-in-Greater-clause-found
update_at-returns-in-Greater-clause-found g t c =
    λ ordered.
    let way : g.K.MapKey.order (g.Q.Sought.key c.args.key.now) c.args.at.now.key ≡ Greater = sym c.in-Greater.ensures in
    let sorted = sorted_sides c.args.at.now _ refl g.K.MapKey.order g.met.K.MapKey.total ordered in
    subst (λ x. IfOk c.update-in-Greater.result (λ found. found ≡ is_some x)) (found_right c.args.at.now _ refl g.K.MapKey.order g.met.K.MapKey.total ordered (g.Q.Sought.key c.args.key.now) way) (c.update-in-Greater.ensures.found sorted.1)

pub update_at-returns-in-Greater-clause-ok : goal.update_at-returns-in-Greater-clause-ok
update_at-returns-in-Greater-clause-ok g t c =
    λ ordered.
    let way : g.K.MapKey.order (g.Q.Sought.key c.args.key.now) c.args.at.now.key ≡ Greater = sym c.in-Greater.ensures in
    let sorted = sorted_sides c.args.at.now _ refl g.K.MapKey.order g.met.K.MapKey.total ordered in
    onto_on c.update-in-Greater.result (edited_right g.K.MapKey.order g.met.K.MapKey.total g.E.Edit.makes (g.Q.Sought.key c.args.key.now) c.args.edit.now c.update-in-Greater.new.edit c.args.at.now.left.0 c.args.at.now.right.0 (c.args.at.now.key, c.args.at.now.value.value) ordered way c.update-in-Greater.new.tree.0) (c.update-in-Greater.ensures.ok sorted.1)

pub update_at-returns-in_ok-update_value-in-Equal-clause-found : goal.update_at-returns-in_ok-update_value-in-Equal-clause-found
update_at-returns-in_ok-update_value-in-Equal-clause-found g t c =
    λ ordered.
    let way : g.K.MapKey.order (g.Q.Sought.key c.args.key.now) c.args.at.now.key ≡ Equal = sym c.in-Equal.ensures in
    ap is_some (found_here c.args.at.now _ refl g.K.MapKey.order g.met.K.MapKey.total ordered (g.Q.Sought.key c.args.key.now) way)

pub update_at-returns-in_ok-update_value-in-Equal-clause-ok : goal.update_at-returns-in_ok-update_value-in-Equal-clause-ok
update_at-returns-in_ok-update_value-in-Equal-clause-ok g t c =
    λ ordered.
    let way : g.K.MapKey.order (g.Q.Sought.key c.args.key.now) c.args.at.now.key ≡ Equal = sym c.in-Equal.ensures in
    edited_here g.K.MapKey.order g.met.K.MapKey.total g.E.Edit.makes (g.Q.Sought.key c.args.key.now) c.args.edit.now c.update_value.new.edit c.args.at.now.left.0 c.args.at.now.right.0 (c.args.at.now.key, c.args.at.now.value.value) ordered way c.update_value.new.value.value c.in_ok-update_value-in-Equal.ensures.ok

pub update-over-requires : goal.update-over-requires
update-over-requires g t c = record { balanced = c.update_over-found.ensures.tree.0; low = c.update_over-found.ensures.tree.1 }

pub update-returns-clause-found : goal.update-returns-clause-found
update-returns-clause-found g t c = rw (← c.in-Some.ensures.top) c.update_over-found.ensures.found

pub update-returns-clause-ok : goal.update-returns-clause-ok
update-returns-clause-ok g t c = rw c.over.ensures (rw (← c.in-Some.ensures.top) c.update_over-found.ensures.ok)

pub update-returns-clause-err : goal.update-returns-clause-err
update-returns-clause-err g t c = rw c.over.ensures (rw (← c.in-Some.ensures.top) c.update_over-found.ensures.err)

pub update-returns-clause-shape : goal.update-returns-clause-shape
update-returns-clause-shape g t c = rw c.over.ensures (rw (← c.in-Some.ensures.top) c.update_over-found.ensures.shape)

pub update_at-returns-in-Less-clause-err : goal.update_at-returns-in-Less-clause-err
update_at-returns-in-Less-clause-err g t c = err_on c.update.result (λ h. (h.0, same_sides _ _ _ _ _ _ _ h.1 refl refl)) c.update.ensures.err

pub update_at-returns-in-Greater-clause-err : goal.update_at-returns-in-Greater-clause-err
update_at-returns-in-Greater-clause-err g t c = err_on c.update-in-Greater.result (λ h. (h.0, same_sides _ _ _ _ _ _ _ refl refl h.1)) c.update-in-Greater.ensures.err

pub update_over-returns-clause-found : goal.update_over-returns-clause-found
update_over-returns-clause-found g t c = over_own c.args.top.now.value c.in_ok-at.at.now c.update_at.new.at (c.make_mut.follows.lender c.update_at.new.at).value c.in_ok-at.ensures.value (c.make_mut.follows.holds c.update_at.new.at (rw c.in_ok-at.was refl)) (λ x y. T (is_sorted g.K.MapKey.order x.0) → IfOk c.update_at.result (λ found. found ≡ is_some (value_at g.K.MapKey.order (g.Q.Sought.key c.args.key.now) x.0))) c.update_at.ensures.found

pub update_over-returns-clause-ok : goal.update_over-returns-clause-ok
update_over-returns-clause-ok g t c = over_own c.args.top.now.value c.in_ok-at.at.now c.update_at.new.at (c.make_mut.follows.lender c.update_at.new.at).value c.in_ok-at.ensures.value (c.make_mut.follows.holds c.update_at.new.at (rw c.in_ok-at.was refl)) (λ x y. T (is_sorted g.K.MapKey.order x.0) → OnOk c.update_at.result (IsEdited g.K.MapKey.order g.E.Edit.makes (g.Q.Sought.key c.args.key.now) c.args.edit.now c.update_at.new.edit x.0 y.0)) c.update_at.ensures.ok

pub update_over-returns-clause-err : goal.update_over-returns-clause-err
update_over-returns-clause-err g t c = over_own c.args.top.now.value c.in_ok-at.at.now c.update_at.new.at (c.make_mut.follows.lender c.update_at.new.at).value c.in_ok-at.ensures.value (c.make_mut.follows.holds c.update_at.new.at (rw c.in_ok-at.was refl)) (λ x y. OnErr c.update_at.result ((c.update_at.new.edit ≡ c.args.edit.now) × (y.0 ≡ x.0))) c.update_at.ensures.err

pub update_over-returns-clause-tree : goal.update_over-returns-clause-tree
update_over-returns-clause-tree g t c = own_tree c.args.top.now.value c.in_ok-at.at.now c.update_at.new.at (c.make_mut.follows.lender c.update_at.new.at).value c.in_ok-at.ensures.value (c.make_mut.follows.holds c.update_at.new.at (rw c.in_ok-at.was refl)) c.update_at.ensures.left c.update_at.ensures.right c.update_at.ensures.height c.requires.tree

pub update_over-returns-clause-shape : goal.update_over-returns-clause-shape
update_over-returns-clause-shape g t c = own_shape c.args.top.now.value c.in_ok-at.at.now c.update_at.new.at (c.make_mut.follows.lender c.update_at.new.at).value c.in_ok-at.ensures.value (c.make_mut.follows.holds c.update_at.new.at (rw c.in_ok-at.was refl)) c.update_at.ensures.left c.update_at.ensures.right c.update_at.ensures.height

pub update_at-returns-in-Less-clause-left : goal.update_at-returns-in-Less-clause-left
update_at-returns-in-Less-clause-left g t c = c.update.ensures.shape

pub update_at-returns-in-Less-clause-right : goal.update_at-returns-in-Less-clause-right
update_at-returns-in-Less-clause-right g t c = (refl, refl)

pub update_at-returns-in-Less-clause-height : goal.update_at-returns-in-Less-clause-height
update_at-returns-in-Less-clause-height g t c = refl

pub update_at-returns-in-Greater-clause-left : goal.update_at-returns-in-Greater-clause-left
update_at-returns-in-Greater-clause-left g t c = (refl, refl)

pub update_at-returns-in-Greater-clause-right : goal.update_at-returns-in-Greater-clause-right
update_at-returns-in-Greater-clause-right g t c = c.update-in-Greater.ensures.shape

pub update_at-returns-in-Greater-clause-height : goal.update_at-returns-in-Greater-clause-height
update_at-returns-in-Greater-clause-height g t c = refl

pub update_at-returns-in_ok-update_value-in-Equal-clause-left : goal.update_at-returns-in_ok-update_value-in-Equal-clause-left
update_at-returns-in_ok-update_value-in-Equal-clause-left g t c = (refl, refl)

pub update_at-returns-in_ok-update_value-in-Equal-clause-right : goal.update_at-returns-in_ok-update_value-in-Equal-clause-right
update_at-returns-in_ok-update_value-in-Equal-clause-right g t c = (refl, refl)

pub update_at-returns-in_ok-update_value-in-Equal-clause-height : goal.update_at-returns-in_ok-update_value-in-Equal-clause-height
update_at-returns-in_ok-update_value-in-Equal-clause-height g t c = refl

pub update_at-returns-in_err-update_value-in-Equal-clause-left : goal.update_at-returns-in_err-update_value-in-Equal-clause-left
update_at-returns-in_err-update_value-in-Equal-clause-left g t c = (refl, refl)

pub update_at-returns-in_err-update_value-in-Equal-clause-right : goal.update_at-returns-in_err-update_value-in-Equal-clause-right
update_at-returns-in_err-update_value-in-Equal-clause-right g t c = (refl, refl)

pub update_at-returns-in_err-update_value-in-Equal-clause-height : goal.update_at-returns-in_err-update_value-in-Equal-clause-height
update_at-returns-in_err-update_value-in-Equal-clause-height g t c = refl

pub update_at-returns-in_ok-update_value-in-Equal-clause-err : goal.update_at-returns-in_ok-update_value-in-Equal-clause-err
update_at-returns-in_ok-update_value-in-Equal-clause-err g t c = tt
