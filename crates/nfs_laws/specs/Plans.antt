-- How many records a plan makes.
use Rattle.std.specs.Prelude.{◌≡◌, ℕ, ◌≤◌, List, length}
use Rattle.ivy_base.specs.declared.key.PubKey.{PubKey}
use Rattle.ivy_base.specs.declared.operation.Moment.{Moment}
use Rattle.ivy_base.specs.declared.operation.Op.{Op}
use Rattle.tree_model.specs.Tree.{Tree}
use Rattle.log_model.specs.View.{View}
use Rattle.wire_model.specs.Rpc.{Identity}
use Rattle.nfs_model.specs.declared.arguments.Args.{Args}
use Rattle.nfs_model.specs.Changing.{Operations, plan}

-- A plan of records has one to three of them.
abbrev pub PlansAreFew : Type 0
PlansAreFew = (t : Tree) (view : View) (who : Identity) (args : Args) (now : Moment) (own : PubKey) (seq : ℕ) (ops : List Op)
    → plan t view who args now own seq ≡ Operations ops → (1 ≤ length ops) × (length ops ≤ 3)
