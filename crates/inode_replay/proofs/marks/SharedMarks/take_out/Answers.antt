use Rattle.std.proofs.Common.{◌≡◌, ◌+◌, ◌-◌, refl, ap, ◌∙◌, arith}
use Rattle.inode_replay.specs.Marks.{count_marked, marks_of}
use Rattle.inode_replay.proofs.Steps.{IsRow, none_beside, far_behind, take_out}
use Rattle.inode_replay.proofs.marks.SharedMarks.take_out.Goals as goal

pub returns-in_default-clause-none : goal.returns-in_default-clause-none
returns-in_default-clause-none c =
    let row : IsRow c.self.inside.ranges c.self.inside.size c.args.self.now = record { ordered = c.self.invariant.0; apart = c.self.invariant.1; seen = c.self.view_is } in
    (refl, none_beside row c.args.start c.args.end (rw c.in_default.is at c.in_ok-range.ensures.none))

pub returns-then-end-range-clause-none : goal.returns-then-end-range-clause-none
returns-then-end-range-clause-none c =
    let row : IsRow c.self.inside.ranges c.self.inside.size c.args.self.now = record { ordered = c.self.invariant.0; apart = c.self.invariant.1; seen = c.self.view_is } in
    (refl, far_behind row c.args.start c.args.end c.in-Some.range (rw c.in-Some.is at c.in_ok-range.ensures.some) c.if-end-range.true)

pub overflow_sub-self-2 : goal.overflow_sub-self-2
overflow_sub-self-2 c =
    let row : IsRow c.self.inside.ranges c.self.inside.size c.args.self.now = record { ordered = c.self.invariant.0; apart = c.self.invariant.1; seen = c.self.view_is } in
    let first = rw c.in-Some.is at c.in_ok-range.ensures.some in
    let left = take_out row c.remove.new.self c.in-Some.range c.args.start c.args.end first c.if-end-range.false c.in_ok-remove.ensures.ok in
    let before : c.self.inside.count ≡ count_marked c.args.self.now = c.self.invariant.2 ∙ ap count_marked row.seen in
    let fewer : count_marked c.args.self.now ≡ count_marked (marks_of c.remove.new.self c.self.inside.size) + (c.in-Some.range.end - c.in-Some.range.start) = left.taken.fewer in
    omega arith

pub invariant_of-self-2 : goal.invariant_of-self-2
invariant_of-self-2 c =
    let row : IsRow c.self.inside.ranges c.self.inside.size c.args.self.now = record { ordered = c.self.invariant.0; apart = c.self.invariant.1; seen = c.self.view_is } in
    let first = rw c.in-Some.is at c.in_ok-range.ensures.some in
    let left = take_out row c.remove.new.self c.in-Some.range c.args.start c.args.end first c.if-end-range.false c.in_ok-remove.ensures.ok in
    let before : c.self.inside.count ≡ count_marked c.args.self.now = c.self.invariant.2 ∙ ap count_marked row.seen in
    let fewer : count_marked c.args.self.now ≡ count_marked (marks_of c.remove.new.self c.self.inside.size) + (c.in-Some.range.end - c.in-Some.range.start) = left.taken.fewer in
    (left.ordered, left.apart, omega arith)

pub returns-clause-some : goal.returns-clause-some
returns-clause-some c =
    let row : IsRow c.self.inside.ranges c.self.inside.size c.args.self.now = record { ordered = c.self.invariant.0; apart = c.self.invariant.1; seen = c.self.view_is } in
    let first = rw c.in-Some.is at c.in_ok-range.ensures.some in
    let left = take_out row c.remove.new.self c.in-Some.range c.args.start c.args.end first c.if-end-range.false c.in_ok-remove.ensures.ok in
    left.taken
