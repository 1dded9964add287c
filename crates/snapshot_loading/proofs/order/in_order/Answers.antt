use Rattle.std.proofs.Common.{◌≡◌, true}
use Rattle.std.specs.FinMap.Entries.{is_sorted}
use Rattle.ivy_base.specs.Naming.{key_cmp}
use Rattle.snapshot_loading.specs.Parts.{tree_of}
use Rattle.snapshot_loading.proofs.Ordered.{order_by_names}
use Rattle.snapshot_loading.proofs.order.in_order.Goals as goal

pub returns : goal.returns
returns c =
    let sorted : is_sorted key_cmp (tree_of c.args.parts.now).inodes ≡ true = cc in
    order_by_names c.args.parts.now sorted c.names_ascend.result c.names_ascend.ensures
