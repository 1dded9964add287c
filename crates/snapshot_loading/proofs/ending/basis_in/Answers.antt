use Rattle.std.proofs.Common.{List, refl, sym, ◌∙◌, subst}
use Rattle.std.specs.List.{AllByRecursion}
use Rattle.snapshot_blocks.specs.Parsed.{root_of}
use Rattle.snapshot_loading.specs.WholeLaws.{blocks_read}
use Rattle.snapshot_loading.specs.declared.parts.InodeParts.{InodeParts}
use Rattle.snapshot_loading.specs.Parts.{HasBody}
use Rattle.snapshot_loading.specs.Picks.{inodes_in}
use Rattle.snapshot_loading.proofs.Built.{bodies_fit}
use Rattle.snapshot_loading.proofs.Ends.{no_tree, not_even, told}
use Rattle.snapshot_loading.proofs.ending.basis_in.Goals as goal

pub returns-then-not-branch : goal.returns-then-not-branch
returns-then-not-branch c = λ b h. not_even c.args.block.now (blocks_read c.args.rest.now) (root_of c.in-Ok.root) c.in-Ok.ensures.ok b h (sym c.in_ok-is_even.ensures ∙ c.if-not-branch.true)

pub build-requires : goal.build-requires
build-requires c =
    subst (λ (ps : List InodeParts). AllByRecursion HasBody ps) (sym c.as_slice.ensures.value) (bodies_fit (inodes_in (blocks_read c.args.rest.now)) c.in-Some.inodes.items (rw c.in-Some.is at c.in_ok-inodes.ensures))

pub returns-in_default-2 : goal.returns-in_default-2
returns-in_default-2 c =
    no_tree c.args.block.now (blocks_read c.args.rest.now) c.in-Some.inodes.items (rw c.in-Some.is at c.in_ok-inodes.ensures)
    (rw (c.in_default-2.is, c.as_slice.ensures.value) at c.in_ok-tree.ensures)

pub returns : goal.returns
returns c =
    told c.args.block.now (blocks_read c.args.rest.now) (root_of c.in-Ok.root) _ c.in-Some.inodes.items c.in-Ok.ensures.ok (sym c.in_ok-is_even.ensures ∙ c.if-not-branch.false) (rw c.in-Some.is at c.in_ok-inodes.ensures) refl refl
    (rw (c.in-Some-2.is, c.as_slice.ensures.value) at c.in_ok-tree.ensures)
