-- A tree that operations make has the facts of a snapshot's tree.
use Rattle.std.proofs.Common.{List}
use Rattle.ivy_base.specs.declared.operation.Moment.{Moment}
use Rattle.ivy_base.specs.declared.operation.Op.{Op}
use Rattle.tree_model.specs.Apply.{empty_tree, apply_all}
use Rattle.tree_model.proofs.Applied.{records_make_sound_trees}
use Rattle.tree_model.proofs.Climb.{inside_is_exact}
use Rattle.snapshot_model.specs.Reading.{IsWholeTree}
use Rattle.snapshot_loading.proofs.SoundTrees.{whole}

pub made_whole : (ops : List (Moment × Op)) → IsWholeTree (apply_all empty_tree ops)
made_whole ops = whole (apply_all empty_tree ops) (records_make_sound_trees ops) (λ a dir is. (inside_is_exact ops a dir is).0)
