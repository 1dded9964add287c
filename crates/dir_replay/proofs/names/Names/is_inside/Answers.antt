use Rattle.std.proofs.Common.{◌≡◌, false, sym, ◌∙◌}
use Rattle.tree_model.specs.Tree.{same_key}
use Rattle.tree_model.proofs.Parents.{height_above, inside_above, inside_empty, inside_nothing}
use Rattle.dir_replay.proofs.Above.{name_in_parent, no_name_without_parent}
use Rattle.dir_replay.proofs.names.Names.is_inside.Goals as goal

pub climb-smaller : goal.climb-smaller
climb-smaller c = let up = name_in_parent c.args.self.now c.parent.ensures.sound c.climb.at c.in-Some.above c.climb.invariant.directory c.in-Some.ensures.parent in height_above c.args.self.now c.parent.ensures.sound c.climb.at (c.in-Some.above, up.0) c.climb.invariant.directory up.1

pub climb-preserved : goal.climb-preserved
climb-preserved c =
    let up = name_in_parent c.args.self.now c.parent.ensures.sound c.climb.at c.in-Some.above c.climb.invariant.directory c.in-Some.ensures.parent in
    let other : same_key c.climb.at c.args.dir.now ≡ false = cc in
    record {
      directory = c.parent.ensures.sound.in_directories (c.in-Some.above, up.0) c.climb.at up.1;
      same = sym (inside_above c.args.self.now c.parent.ensures.sound c.climb.at c.args.dir.now (c.in-Some.above, up.0) c.climb.invariant.directory up.1 other) ∙ c.climb.invariant.same;
    }

pub returns-in-None : goal.returns-in-None
returns-in-None c =
    let other : same_key c.climb.at c.args.dir.now ≡ false = cc in
    let unnamed = no_name_without_parent c.args.self.now c.parent.ensures.sound c.climb.at c.climb.invariant.directory c.in-None.ensures.parent in
    sym (inside_nothing c.args.self.now c.parent.ensures.sound c.climb.at c.args.dir.now c.climb.invariant.directory unnamed other) ∙ c.climb.invariant.same

pub returns-then-is_empty : goal.returns-then-is_empty
returns-then-is_empty c = c.same.ensures ∙ sym (inside_empty c.args.self.now c.is_empty.ensures.sound c.args.start.now c.args.dir.now c.requires (sym c.if-is_empty.ensures.empty))
