use Rattle.std.proofs.Common.{map, sym, ap, ◌∙◌}
use Rattle.snapshot_blocks.specs.Parsed.{inode_of}
use Rattle.snapshot_loading.specs.WholeLaws.{blocks_read}
use Rattle.snapshot_loading.proofs.Told.{not_contents, not_even}
use Rattle.snapshot_loading.proofs.inode.inode.Goals as goal

pub returns-then-not-branch : goal.returns-then-not-branch
returns-then-not-branch c = λ i h. not_even c.args.block.now (blocks_read c.args.below.now) (inode_of c.in-Some.inode) c.in-Some.ensures.some i h (sym c.in_ok-is_even.ensures ∙ c.if-not-branch.true)

pub returns-in_default-2 : goal.returns-in_default-2
returns-in_default-2 c = λ i h.
    not_contents c.args.block.now (blocks_read c.args.below.now) (inode_of c.in-Some.inode) c.in-Some.ensures.some i h (map (λ b. b.now) c.as_slice.result.now)
    (ap (map (λ b. b.now)) c.as_slice.ensures.value ∙ c.in_ok-items.ensures) (rw c.in_default-2.is at c.in_ok-contents.ensures)
