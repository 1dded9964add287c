use Rattle.std.proofs.Common.{◌||◌, ap, ◌∙◌, nat_lt}
use Rattle.tree_model.specs.Tree.{has_name}
use Rattle.dir_replay.proofs.Above.{has_name-counted}
use Rattle.fs_tree.proofs.tree.Tree.live.Goals as goal

pub returns-else-is_root : goal.returns-else-is_root
returns-else-is_root c =
    rw (← c.self.view_is) (
    ap (nat_lt 0) c.names_of.ensures ∙ has_name-counted c.self.inside.names c.args.ino.now
    ∙ ap (λ b. b || has_name c.self.inside.names c.args.ino.now) c.if-is_root.ensures
    )
