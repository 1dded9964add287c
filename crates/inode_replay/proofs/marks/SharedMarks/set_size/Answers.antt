use Rattle.std.proofs.Common.{ap, sym, ◌∙◌}
use Rattle.inode_replay.specs.Marks.{count_marked}
use Rattle.inode_replay.proofs.MarkPlaces.{length-marks_of}
use Rattle.inode_replay.proofs.Steps.{IsRow, resized_apart, resized_same, resized_count}
use Rattle.inode_replay.proofs.marks.SharedMarks.set_size.Goals as goal

pub invariant_of-self : goal.invariant_of-self
invariant_of-self c =
    let row : IsRow c.self.inside.ranges c.self.inside.size c.args.self.now = record { ordered = c.self.invariant.0; apart = c.self.invariant.1; seen = c.self.view_is } in (
      row.ordered,
      resized_apart row c.args.size c.requires,
      c.self.invariant.2 ∙ ap count_marked row.seen ∙ sym (resized_count row c.args.size c.requires),
    )

pub returns-clause-size : goal.returns-clause-size
returns-clause-size c = length-marks_of c.self.inside.ranges c.args.size

pub returns-clause-same : goal.returns-clause-same
returns-clause-same c =
    let row : IsRow c.self.inside.ranges c.self.inside.size c.args.self.now = record { ordered = c.self.invariant.0; apart = c.self.invariant.1; seen = c.self.view_is } in
    resized_same row c.args.size c.requires
