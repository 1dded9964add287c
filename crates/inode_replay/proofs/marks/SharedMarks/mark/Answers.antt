use Rattle.std.proofs.Common.{◌≡◌, ◌+◌, length, max, ap, ◌∙◌, arith}
use Rattle.inode_replay.specs.Marks.{mark_at}
use Rattle.inode_replay.proofs.MarkPlaces.{grown_list}
use Rattle.inode_replay.proofs.marks.SharedMarks.mark.Goals as goal

pub returns-clause-ok : goal.returns-clause-ok
returns-clause-ok c =
    let long : length c.set_size.new.self ≡ max (length c.args.self.now) (c.args.start + c.args.count) = omega arith in
    grown_list c.args.self.now c.set_size.new.self c.fill.new.self c.args.start c.args.count long
    (λ p. c.set_size.ensures.same p ∙ ap (λ l. mark_at l p) c.in_ok-changed.ensures)
    c.in_ok-fill.ensures.size c.in_ok-fill.ensures.set
