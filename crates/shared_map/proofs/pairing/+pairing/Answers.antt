use Rattle.std.proofs.Common.{rules, ◌≡◌, refl}
use Rattle.std.specs.Prelude.{OnOk, OnErr}
use Rattle.shared_map.specs.Edits.{AreEdited}
use Rattle.shared_map.proofs.Forks.{sorted_sides, over_own, own_shape, own_tree}
use Rattle.shared_map.proofs.Paired.{left_left, left_here, left_right, here_left, here_here, here_right, right_left, right_here, right_right}
use Rattle.shared_map.proofs.Rows.{onto_on, err_on, same_sides}
use Rattle.shared_map.proofs.pairing.+pairing.Goals as goal

pub update_two_at-update_two-requires : goal.update_two_at-update_two-requires
update_two_at-update_two-requires g t c κs within =
    (search rules, (within.0, (within.1.0, (within.1.1.0, (within.1.1.1.0, (within.1.1.1.1, (sorted_sides c.args.at.now _ refl g.K.MapKey.order g.met.K.MapKey.total c.requires.ordered).0))))))

pub update_two_at-update_two-requires-in-Greater-Greater : goal.update_two_at-update_two-requires-in-Greater-Greater
update_two_at-update_two-requires-in-Greater-Greater g t c κs within =
    (search rules, (within.0, (within.1.0, (within.1.1.0, (within.1.1.1.0, (within.1.1.1.1, (sorted_sides c.args.at.now _ refl g.K.MapKey.order g.met.K.MapKey.total c.requires.ordered).1))))))

pub update_two_at-update_and_amend-requires : goal.update_two_at-update_and_amend-requires
update_two_at-update_and_amend-requires g t c = record { ordered = (sorted_sides c.args.at.now _ refl g.K.MapKey.order g.met.K.MapKey.total c.requires.ordered).0 }

pub update_two_at-update_and_amend-requires-in-Greater-Equal : goal.update_two_at-update_and_amend-requires-in-Greater-Equal
update_two_at-update_and_amend-requires-in-Greater-Equal g t c = record { ordered = (sorted_sides c.args.at.now _ refl g.K.MapKey.order g.met.K.MapKey.total c.requires.ordered).1 }

pub update_two_at-edit_beside-requires : goal.update_two_at-edit_beside-requires
update_two_at-edit_beside-requires g t c = record { ordered = (sorted_sides c.args.at.now _ refl g.K.MapKey.order g.met.K.MapKey.total c.requires.ordered).0 }

pub update_two_at-edit_beside-requires-in-Equal-Greater : goal.update_two_at-edit_beside-requires-in-Equal-Greater
update_two_at-edit_beside-requires-in-Equal-Greater g t c = record { ordered = (sorted_sides c.args.at.now _ refl g.K.MapKey.order g.met.K.MapKey.total c.requires.ordered).1 }

pub update_two_at-update_beside-requires-clause-ordered : goal.update_two_at-update_beside-requires-clause-ordered
update_two_at-update_beside-requires-clause-ordered g t c = (sorted_sides c.args.at.now _ refl g.K.MapKey.order g.met.K.MapKey.total c.requires.ordered).0

pub update_two_at-update_beside-requires-clause-other : goal.update_two_at-update_beside-requires-clause-other
update_two_at-update_beside-requires-clause-other g t c = (sorted_sides c.args.at.now _ refl g.K.MapKey.order g.met.K.MapKey.total c.requires.ordered).1

pub update_two_at-update_beside-requires-in-Greater-Less-clause-ordered : goal.update_two_at-update_beside-requires-in-Greater-Less-clause-ordered
update_two_at-update_beside-requires-in-Greater-Less-clause-ordered g t c = (sorted_sides c.args.at.now _ refl g.K.MapKey.order g.met.K.MapKey.total c.requires.ordered).1

pub update_two_at-update_beside-requires-in-Greater-Less-clause-other : goal.update_two_at-update_beside-requires-in-Greater-Less-clause-other
update_two_at-update_beside-requires-in-Greater-Less-clause-other g t c = (sorted_sides c.args.at.now _ refl g.K.MapKey.order g.met.K.MapKey.total c.requires.ordered).0

pub update_two_at-returns-in-Less-Less-clause-ok : goal.update_two_at-returns-in-Less-Less-clause-ok
update_two_at-returns-in-Less-Less-clause-ok g t c =
    onto_on c.update_two.result (left_left g.K.MapKey.order g.met.K.MapKey.total g.E.Edit.makes (g.A.Amend.makes c.args.amend.now) (g.Q.Sought.key c.args.first.now) (g.Q.Sought.key c.args.second.now) c.args.edit.now c.update_two.new.edit c.args.at.now.left.0 c.args.at.now.right.0 (c.args.at.now.key, c.args.at.now.value.value) c.requires.ordered c.in-Less-Less.ensures c.in-Less-Less.ensures' c.update_two.new.tree.0) c.update_two.ensures.ok

pub update_two_at-returns-in-Less-Equal-clause-ok : goal.update_two_at-returns-in-Less-Equal-clause-ok
update_two_at-returns-in-Less-Equal-clause-ok g t c =
    onto_on c.update_and_amend.result (left_here g.K.MapKey.order g.met.K.MapKey.total g.E.Edit.makes (g.A.Amend.makes c.args.amend.now) (g.Q.Sought.key c.args.first.now) (g.Q.Sought.key c.args.second.now) c.args.edit.now c.update_and_amend.new.edit c.args.at.now.left.0 c.args.at.now.right.0 (c.args.at.now.key, c.args.at.now.value.value) c.requires.ordered c.in-Less-Equal.ensures c.in-Less-Equal.ensures' c.update_and_amend.new.tree.0 c.update_and_amend.new.value.value) c.update_and_amend.ensures.ok

pub update_two_at-returns-in-Less-Greater-clause-ok : goal.update_two_at-returns-in-Less-Greater-clause-ok
update_two_at-returns-in-Less-Greater-clause-ok g t c =
    onto_on c.update_beside.result (left_right g.K.MapKey.order g.met.K.MapKey.total g.E.Edit.makes (g.A.Amend.makes c.args.amend.now) (g.Q.Sought.key c.args.first.now) (g.Q.Sought.key c.args.second.now) c.args.edit.now c.update_beside.new.edit c.args.at.now.left.0 c.args.at.now.right.0 (c.args.at.now.key, c.args.at.now.value.value) c.requires.ordered c.in-Less-Greater.ensures c.in-Less-Greater.ensures' c.update_beside.new.tree.0 c.update_beside.new.other.0) c.update_beside.ensures.ok

pub update_two_at-returns-in-Equal-Less-clause-ok : goal.update_two_at-returns-in-Equal-Less-clause-ok
update_two_at-returns-in-Equal-Less-clause-ok g t c =
    onto_on c.edit_beside.result (here_left g.K.MapKey.order g.met.K.MapKey.total g.E.Edit.makes (g.A.Amend.makes c.args.amend.now) (g.Q.Sought.key c.args.first.now) (g.Q.Sought.key c.args.second.now) c.args.edit.now c.edit_beside.new.edit c.args.at.now.left.0 c.args.at.now.right.0 (c.args.at.now.key, c.args.at.now.value.value) c.requires.ordered c.in-Equal-Less.ensures c.in-Equal-Less.ensures' c.edit_beside.new.value.value c.edit_beside.new.tree.0) c.edit_beside.ensures.ok

pub update_two_at-returns-in-Equal-Equal-clause-ok : goal.update_two_at-returns-in-Equal-Equal-clause-ok
update_two_at-returns-in-Equal-Equal-clause-ok g t c =
    onto_on c.edit_and_amend.result (here_here g.K.MapKey.order g.met.K.MapKey.total g.E.Edit.makes (g.A.Amend.makes c.args.amend.now) (g.Q.Sought.key c.args.first.now) (g.Q.Sought.key c.args.second.now) c.args.edit.now c.edit_and_amend.new.edit c.args.at.now.left.0 c.args.at.now.right.0 (c.args.at.now.key, c.args.at.now.value.value) c.requires.ordered c.in-Equal-Equal.ensures c.in-Equal-Equal.ensures' c.edit_and_amend.new.value.value) c.edit_and_amend.ensures.ok

pub update_two_at-returns-in-Equal-Greater-clause-ok : goal.update_two_at-returns-in-Equal-Greater-clause-ok
update_two_at-returns-in-Equal-Greater-clause-ok g t c =
    onto_on c.edit_beside-in-Equal-Greater.result (here_right g.K.MapKey.order g.met.K.MapKey.total g.E.Edit.makes (g.A.Amend.makes c.args.amend.now) (g.Q.Sought.key c.args.first.now) (g.Q.Sought.key c.args.second.now) c.args.edit.now c.edit_beside-in-Equal-Greater.new.edit c.args.at.now.left.0 c.args.at.now.right.0 (c.args.at.now.key, c.args.at.now.value.value) c.requires.ordered c.in-Equal-Greater.ensures c.in-Equal-Greater.ensures' c.edit_beside-in-Equal-Greater.new.value.value c.edit_beside-in-Equal-Greater.new.tree.0) c.edit_beside-in-Equal-Greater.ensures.ok

pub update_two_at-returns-in-Greater-Less-clause-ok : goal.update_two_at-returns-in-Greater-Less-clause-ok
update_two_at-returns-in-Greater-Less-clause-ok g t c =
    onto_on c.update_beside-in-Greater-Less.result (right_left g.K.MapKey.order g.met.K.MapKey.total g.E.Edit.makes (g.A.Amend.makes c.args.amend.now) (g.Q.Sought.key c.args.first.now) (g.Q.Sought.key c.args.second.now) c.args.edit.now c.update_beside-in-Greater-Less.new.edit c.args.at.now.left.0 c.args.at.now.right.0 (c.args.at.now.key, c.args.at.now.value.value) c.requires.ordered c.in-Greater-Less.ensures c.in-Greater-Less.ensures' c.update_beside-in-Greater-Less.new.tree.0 c.update_beside-in-Greater-Less.new.other.0) c.update_beside-in-Greater-Less.ensures.ok

pub update_two_at-returns-in-Greater-Equal-clause-ok : goal.update_two_at-returns-in-Greater-Equal-clause-ok
update_two_at-returns-in-Greater-Equal-clause-ok g t c =
    onto_on c.update_and_amend-in-Greater-Equal.result (right_here g.K.MapKey.order g.met.K.MapKey.total g.E.Edit.makes (g.A.Amend.makes c.args.amend.now) (g.Q.Sought.key c.args.first.now) (g.Q.Sought.key c.args.second.now) c.args.edit.now c.update_and_amend-in-Greater-Equal.new.edit c.args.at.now.left.0 c.args.at.now.right.0 (c.args.at.now.key, c.args.at.now.value.value) c.requires.ordered c.in-Greater-Equal.ensures c.in-Greater-Equal.ensures' c.update_and_amend-in-Greater-Equal.new.tree.0 c.update_and_amend-in-Greater-Equal.new.value.value) c.update_and_amend-in-Greater-Equal.ensures.ok

pub update_two_at-returns-in-Greater-Greater-clause-ok : goal.update_two_at-returns-in-Greater-Greater-clause-ok
update_two_at-returns-in-Greater-Greater-clause-ok g t c =
    onto_on c.update_two-in-Greater-Greater.result (right_right g.K.MapKey.order g.met.K.MapKey.total g.E.Edit.makes (g.A.Amend.makes c.args.amend.now) (g.Q.Sought.key c.args.first.now) (g.Q.Sought.key c.args.second.now) c.args.edit.now c.update_two-in-Greater-Greater.new.edit c.args.at.now.left.0 c.args.at.now.right.0 (c.args.at.now.key, c.args.at.now.value.value) c.requires.ordered c.in-Greater-Greater.ensures c.in-Greater-Greater.ensures' c.update_two-in-Greater-Greater.new.tree.0) c.update_two-in-Greater-Greater.ensures.ok

pub update_two_at-returns-in-Less-Less-clause-err : goal.update_two_at-returns-in-Less-Less-clause-err
update_two_at-returns-in-Less-Less-clause-err g t c = err_on c.update_two.result (λ h. (h.0, same_sides _ _ _ _ _ _ _ h.1 refl refl)) c.update_two.ensures.err

pub update_two_at-returns-in-Less-Equal-clause-err : goal.update_two_at-returns-in-Less-Equal-clause-err
update_two_at-returns-in-Less-Equal-clause-err g t c = err_on c.update_and_amend.result (λ h. (h.0, same_sides _ _ _ _ _ _ _ h.1 h.2 refl)) c.update_and_amend.ensures.err

pub update_two_at-returns-in-Less-Greater-clause-err : goal.update_two_at-returns-in-Less-Greater-clause-err
update_two_at-returns-in-Less-Greater-clause-err g t c = err_on c.update_beside.result (λ h. (h.0, same_sides _ _ _ _ _ _ _ h.1 refl h.2)) c.update_beside.ensures.err

pub update_two_at-returns-in-Equal-Less-clause-err : goal.update_two_at-returns-in-Equal-Less-clause-err
update_two_at-returns-in-Equal-Less-clause-err g t c = err_on c.edit_beside.result (λ h. (h.0, same_sides _ _ _ _ _ _ _ h.2 h.1 refl)) c.edit_beside.ensures.err

pub update_two_at-returns-in-Equal-Equal-clause-err : goal.update_two_at-returns-in-Equal-Equal-clause-err
update_two_at-returns-in-Equal-Equal-clause-err g t c = err_on c.edit_and_amend.result (λ h. (h.0, same_sides _ _ _ _ _ _ _ refl h.1 refl)) c.edit_and_amend.ensures.err

pub update_two_at-returns-in-Equal-Greater-clause-err : goal.update_two_at-returns-in-Equal-Greater-clause-err
update_two_at-returns-in-Equal-Greater-clause-err g t c = err_on c.edit_beside-in-Equal-Greater.result (λ h. (h.0, same_sides _ _ _ _ _ _ _ refl h.1 h.2)) c.edit_beside-in-Equal-Greater.ensures.err

pub update_two_at-returns-in-Greater-Less-clause-err : goal.update_two_at-returns-in-Greater-Less-clause-err
update_two_at-returns-in-Greater-Less-clause-err g t c = err_on c.update_beside-in-Greater-Less.result (λ h. (h.0, same_sides _ _ _ _ _ _ _ h.2 refl h.1)) c.update_beside-in-Greater-Less.ensures.err

pub update_two_at-returns-in-Greater-Equal-clause-err : goal.update_two_at-returns-in-Greater-Equal-clause-err
update_two_at-returns-in-Greater-Equal-clause-err g t c = err_on c.update_and_amend-in-Greater-Equal.result (λ h. (h.0, same_sides _ _ _ _ _ _ _ refl h.2 h.1)) c.update_and_amend-in-Greater-Equal.ensures.err

pub update_two_at-returns-in-Greater-Greater-clause-err : goal.update_two_at-returns-in-Greater-Greater-clause-err
update_two_at-returns-in-Greater-Greater-clause-err g t c = err_on c.update_two-in-Greater-Greater.result (λ h. (h.0, same_sides _ _ _ _ _ _ _ refl refl h.1)) c.update_two-in-Greater-Greater.ensures.err

pub update_two-over-requires : goal.update_two-over-requires
update_two-over-requires g t c = record { balanced = c.update_two_over-done.ensures.tree.0; low = c.update_two_over-done.ensures.tree.1 }

pub update_two-returns-clause-ok : goal.update_two-returns-clause-ok
update_two-returns-clause-ok g t c = rw c.over.ensures (rw (← c.in-Some.ensures.top) c.update_two_over-done.ensures.ok)

pub update_two-returns-clause-err : goal.update_two-returns-clause-err
update_two-returns-clause-err g t c = rw c.over.ensures (rw (← c.in-Some.ensures.top) c.update_two_over-done.ensures.err)

pub update_two-returns-clause-shape : goal.update_two-returns-clause-shape
update_two-returns-clause-shape g t c = rw c.over.ensures (rw (← c.in-Some.ensures.top) c.update_two_over-done.ensures.shape)

pub update_two_over-returns-clause-ok : goal.update_two_over-returns-clause-ok
update_two_over-returns-clause-ok g t c = over_own c.args.top.now.value c.in_ok-at.at.now c.update_two_at.new.at (c.make_mut.follows.lender c.update_two_at.new.at).value c.in_ok-at.ensures.value (c.make_mut.follows.holds c.update_two_at.new.at (rw c.in_ok-at.was refl)) (λ x y. OnOk c.update_two_at.result (AreEdited g.K.MapKey.order g.E.Edit.makes (g.A.Amend.makes c.args.amend.now) (g.Q.Sought.key c.args.first.now) (g.Q.Sought.key c.args.second.now) c.args.edit.now c.update_two_at.new.edit x.0 y.0)) c.update_two_at.ensures.ok

pub update_two_over-returns-clause-err : goal.update_two_over-returns-clause-err
update_two_over-returns-clause-err g t c = over_own c.args.top.now.value c.in_ok-at.at.now c.update_two_at.new.at (c.make_mut.follows.lender c.update_two_at.new.at).value c.in_ok-at.ensures.value (c.make_mut.follows.holds c.update_two_at.new.at (rw c.in_ok-at.was refl)) (λ x y. OnErr c.update_two_at.result ((c.update_two_at.new.edit ≡ c.args.edit.now) × (y.0 ≡ x.0))) c.update_two_at.ensures.err

pub update_two_over-returns-clause-tree : goal.update_two_over-returns-clause-tree
update_two_over-returns-clause-tree g t c = own_tree c.args.top.now.value c.in_ok-at.at.now c.update_two_at.new.at (c.make_mut.follows.lender c.update_two_at.new.at).value c.in_ok-at.ensures.value (c.make_mut.follows.holds c.update_two_at.new.at (rw c.in_ok-at.was refl)) c.update_two_at.ensures.left c.update_two_at.ensures.right c.update_two_at.ensures.height c.requires.tree

pub update_two_over-returns-clause-shape : goal.update_two_over-returns-clause-shape
update_two_over-returns-clause-shape g t c = own_shape c.args.top.now.value c.in_ok-at.at.now c.update_two_at.new.at (c.make_mut.follows.lender c.update_two_at.new.at).value c.in_ok-at.ensures.value (c.make_mut.follows.holds c.update_two_at.new.at (rw c.in_ok-at.was refl)) c.update_two_at.ensures.left c.update_two_at.ensures.right c.update_two_at.ensures.height

pub update_two_at-returns-in-Less-Less-clause-left : goal.update_two_at-returns-in-Less-Less-clause-left
update_two_at-returns-in-Less-Less-clause-left g t c = c.update_two.ensures.shape

pub update_two_at-returns-in-Less-Less-clause-right : goal.update_two_at-returns-in-Less-Less-clause-right
update_two_at-returns-in-Less-Less-clause-right g t c = (refl, refl)

pub update_two_at-returns-in-Less-Less-clause-height : goal.update_two_at-returns-in-Less-Less-clause-height
update_two_at-returns-in-Less-Less-clause-height g t c = refl

pub update_two_at-returns-in-Less-Equal-clause-left : goal.update_two_at-returns-in-Less-Equal-clause-left
update_two_at-returns-in-Less-Equal-clause-left g t c = c.update_and_amend.ensures.shape

pub update_two_at-returns-in-Less-Equal-clause-right : goal.update_two_at-returns-in-Less-Equal-clause-right
update_two_at-returns-in-Less-Equal-clause-right g t c = (refl, refl)

pub update_two_at-returns-in-Less-Equal-clause-height : goal.update_two_at-returns-in-Less-Equal-clause-height
update_two_at-returns-in-Less-Equal-clause-height g t c = refl

pub update_two_at-returns-in-Less-Greater-clause-left : goal.update_two_at-returns-in-Less-Greater-clause-left
update_two_at-returns-in-Less-Greater-clause-left g t c = c.update_beside.ensures.shape

pub update_two_at-returns-in-Less-Greater-clause-right : goal.update_two_at-returns-in-Less-Greater-clause-right
update_two_at-returns-in-Less-Greater-clause-right g t c = c.update_beside.ensures.other

pub update_two_at-returns-in-Less-Greater-clause-height : goal.update_two_at-returns-in-Less-Greater-clause-height
update_two_at-returns-in-Less-Greater-clause-height g t c = refl

pub update_two_at-returns-in-Equal-Less-clause-left : goal.update_two_at-returns-in-Equal-Less-clause-left
update_two_at-returns-in-Equal-Less-clause-left g t c = c.edit_beside.ensures.shape

pub update_two_at-returns-in-Equal-Less-clause-right : goal.update_two_at-returns-in-Equal-Less-clause-right
update_two_at-returns-in-Equal-Less-clause-right g t c = (refl, refl)

pub update_two_at-returns-in-Equal-Less-clause-height : goal.update_two_at-returns-in-Equal-Less-clause-height
update_two_at-returns-in-Equal-Less-clause-height g t c = refl

pub update_two_at-returns-in-Equal-Equal-clause-left : goal.update_two_at-returns-in-Equal-Equal-clause-left
update_two_at-returns-in-Equal-Equal-clause-left g t c = (refl, refl)

pub update_two_at-returns-in-Equal-Equal-clause-right : goal.update_two_at-returns-in-Equal-Equal-clause-right
update_two_at-returns-in-Equal-Equal-clause-right g t c = (refl, refl)

pub update_two_at-returns-in-Equal-Equal-clause-height : goal.update_two_at-returns-in-Equal-Equal-clause-height
update_two_at-returns-in-Equal-Equal-clause-height g t c = refl

pub update_two_at-returns-in-Equal-Greater-clause-left : goal.update_two_at-returns-in-Equal-Greater-clause-left
update_two_at-returns-in-Equal-Greater-clause-left g t c = (refl, refl)

pub update_two_at-returns-in-Equal-Greater-clause-right : goal.update_two_at-returns-in-Equal-Greater-clause-right
update_two_at-returns-in-Equal-Greater-clause-right g t c = c.edit_beside-in-Equal-Greater.ensures.shape

pub update_two_at-returns-in-Equal-Greater-clause-height : goal.update_two_at-returns-in-Equal-Greater-clause-height
update_two_at-returns-in-Equal-Greater-clause-height g t c = refl

pub update_two_at-returns-in-Greater-Less-clause-left : goal.update_two_at-returns-in-Greater-Less-clause-left
update_two_at-returns-in-Greater-Less-clause-left g t c = c.update_beside-in-Greater-Less.ensures.other

pub update_two_at-returns-in-Greater-Less-clause-right : goal.update_two_at-returns-in-Greater-Less-clause-right
update_two_at-returns-in-Greater-Less-clause-right g t c = c.update_beside-in-Greater-Less.ensures.shape

pub update_two_at-returns-in-Greater-Less-clause-height : goal.update_two_at-returns-in-Greater-Less-clause-height
update_two_at-returns-in-Greater-Less-clause-height g t c = refl

pub update_two_at-returns-in-Greater-Equal-clause-left : goal.update_two_at-returns-in-Greater-Equal-clause-left
update_two_at-returns-in-Greater-Equal-clause-left g t c = (refl, refl)

pub update_two_at-returns-in-Greater-Equal-clause-right : goal.update_two_at-returns-in-Greater-Equal-clause-right
update_two_at-returns-in-Greater-Equal-clause-right g t c = c.update_and_amend-in-Greater-Equal.ensures.shape

pub update_two_at-returns-in-Greater-Equal-clause-height : goal.update_two_at-returns-in-Greater-Equal-clause-height
update_two_at-returns-in-Greater-Equal-clause-height g t c = refl

pub update_two_at-returns-in-Greater-Greater-clause-left : goal.update_two_at-returns-in-Greater-Greater-clause-left
update_two_at-returns-in-Greater-Greater-clause-left g t c = (refl, refl)

pub update_two_at-returns-in-Greater-Greater-clause-right : goal.update_two_at-returns-in-Greater-Greater-clause-right
update_two_at-returns-in-Greater-Greater-clause-right g t c = c.update_two-in-Greater-Greater.ensures.shape

pub update_two_at-returns-in-Greater-Greater-clause-height : goal.update_two_at-returns-in-Greater-Greater-clause-height
update_two_at-returns-in-Greater-Greater-clause-height g t c = refl
