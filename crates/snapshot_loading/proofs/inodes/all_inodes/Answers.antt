use Rattle.std.proofs.Common.{List, sym, ◌∙◌, subst}
use Rattle.snapshot_loading.specs.WholeLaws.{blocks_read}
use Rattle.snapshot_loading.specs.declared.parts.InodeParts.{InodeParts}
use Rattle.snapshot_loading.proofs.Steps.{AreSoFar, none_read, one_read}
use Rattle.snapshot_loading.proofs.inodes.all_inodes.Goals as goal

pub returns-in_default-2 : goal.returns-in_default-2
returns-in_default-2 c =
    none_read (blocks_read c.args.read.now) c.each.left.now c.in-Some.rest.now c.in-Some.first.now c.each.all.items c.in-Some.ensures.cases.0 c.each.invariant (sym c.is_inode.ensures ∙ c.if-is_inode.true)
    c.as_slice.result.now (blocks_read c.within.result.now) c.as_slice.ensures c.within.ensures (rw c.in_default-2.is at c.in_ok-one.ensures)

pub each-preserved-in_ok-push : goal.each-preserved-in_ok-push
each-preserved-in_ok-push c =
    subst (λ (all : List InodeParts). AreSoFar (blocks_read c.args.read.now) (blocks_read c.in-Some.rest.now) all) (sym c.in_ok-push.ensures.items)
    (one_read (blocks_read c.args.read.now) c.each.left.now c.in-Some.rest.now c.in-Some.first.now c.each.all.items c.in-Some.ensures.cases.0 c.each.invariant (sym c.is_inode.ensures ∙ c.if-is_inode.true)
    c.as_slice.result.now (blocks_read c.within.result.now) c.as_slice.ensures c.within.ensures c.in-Some-2.one (rw c.in-Some-2.is at c.in_ok-one.ensures))
