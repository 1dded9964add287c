use Rattle.std.proofs.Common.{◌≡◌, ◌+◌, ◌-◌, ◌≤◌, length, ap, sym, ◌∙◌, arith}
use Rattle.std.proofs.lemmas.List.Sums.{count_by-le-length}
use Rattle.inode_replay.specs.Marks.{count_marked, marks_of}
use Rattle.inode_replay.proofs.MarkPlaces.{length-marks_of}
use Rattle.inode_replay.proofs.Steps.{IsRow, put_in}
use Rattle.inode_replay.proofs.marks.SharedMarks.put_in.Goals as goal

pub overflow_add-self : goal.overflow_add-self
overflow_add-self c =
    let row : IsRow c.self.inside.ranges c.self.inside.size c.args.self.now = record { ordered = c.self.invariant.0; apart = c.self.invariant.1; seen = c.self.view_is } in
    let put = put_in row c.insert.new.self c.args.range c.requires.some c.requires.within c.requires.bare c.in_ok-insert.ensures.ok in
    let new = marks_of c.insert.new.self c.self.inside.size in
    let before : c.self.inside.count ≡ count_marked c.args.self.now = c.self.invariant.2 ∙ ap count_marked row.seen in
    let more : count_marked new ≡ count_marked c.args.self.now + (c.args.range.end - c.args.range.start) = put.more in
    let most : count_marked new ≤ length new = count_by-le-length (λ m. m) new in
    let long : length new ≡ c.self.inside.size = length-marks_of c.insert.new.self c.self.inside.size in
    omega arith

pub invariant_of-self-2 : goal.invariant_of-self-2
invariant_of-self-2 c =
    let row : IsRow c.self.inside.ranges c.self.inside.size c.args.self.now = record { ordered = c.self.invariant.0; apart = c.self.invariant.1; seen = c.self.view_is } in
    let put = put_in row c.insert.new.self c.args.range c.requires.some c.requires.within c.requires.bare c.in_ok-insert.ensures.ok in
    (put.ordered, put.apart, ap (λ n. n + (c.args.range.end - c.args.range.start)) (c.self.invariant.2 ∙ ap count_marked row.seen) ∙ sym put.more)

pub returns-clause-size : goal.returns-clause-size
returns-clause-size c =
    let row : IsRow c.self.inside.ranges c.self.inside.size c.args.self.now = record { ordered = c.self.invariant.0; apart = c.self.invariant.1; seen = c.self.view_is } in
    let put = put_in row c.insert.new.self c.args.range c.requires.some c.requires.within c.requires.bare c.in_ok-insert.ensures.ok in
    put.long

pub returns-clause-set : goal.returns-clause-set
returns-clause-set c =
    let row : IsRow c.self.inside.ranges c.self.inside.size c.args.self.now = record { ordered = c.self.invariant.0; apart = c.self.invariant.1; seen = c.self.view_is } in
    let put = put_in row c.insert.new.self c.args.range c.requires.some c.requires.within c.requires.bare c.in_ok-insert.ensures.ok in
    put.set

pub returns-clause-more : goal.returns-clause-more
returns-clause-more c =
    let row : IsRow c.self.inside.ranges c.self.inside.size c.args.self.now = record { ordered = c.self.invariant.0; apart = c.self.invariant.1; seen = c.self.view_is } in
    let put = put_in row c.insert.new.self c.args.range c.requires.some c.requires.within c.requires.bare c.in_ok-insert.ensures.ok in
    put.more
