use Rattle.std.proofs.Common.{◌≡◌, ℕ, ◌<◌, ap, ◌∙◌}
use Rattle.inode_replay.specs.Marks.{mark_at}
use Rattle.inode_replay.proofs.MarkPlaces.{resized_list}
use Rattle.inode_replay.proofs.marks.SharedMarks.resize.Goals as goal
use Rattle.inode_replay.proofs.marks.SharedMarks.resize.Goals.{then-size-len+in_ok-clear_from, else-size-len}

pub returns-clause-ok : goal.returns-clause-ok
returns-clause-ok c =
    let same : (p : ℕ) → p < c.args.size → mark_at c.if-size-len.changed p ≡ mark_at c.in_ok-changed.changed p = λ p l.
    elim c.if-size-len.branch [
      | then-size-len+in_ok-clear_from w ↦ ap (λ l. mark_at l p) w.changed-is ∙ w.in_ok-clear_from.ensures.before p l
      | else-size-len w ↦ ap (λ l. mark_at l p) w.changed-is
    ] in
    resized_list c.args.self.now c.set_size.new.self c.args.size c.set_size.ensures.size
    (λ p l. c.set_size.ensures.same p ∙ same p l ∙ ap (λ l. mark_at l p) c.in_ok-changed.ensures)
