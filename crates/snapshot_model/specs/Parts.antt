-- Parts of a snapshot's blocks, for their readers and writers.
use Rattle.std.specs.Prelude.{ℕ, ◌≤◌, List, length, ◌++◌}
use Rattle.ivy_base.specs.declared.operation.Kind.{Kind}
use Rattle.wire_model.specs.Xdr.{word, IsAny}
use Rattle.log_model.specs.Spelling.{IsKey, IsTarget}
use Rattle.block_parts.specs.Parts.{IsAtMost}
use Rattle.snapshot_model.specs.Blocks.{InodeBlock, IsListed, AreAttributes, most_content_bytes, most_levels, names_tag}
use Rattle.tree_model.specs.Tree.{longest_file}

-- what a list block of that level begins with
abbrev pub list_tag : ℕ → List ℕ
list_tag level = names_tag ++ word level

-- an inode's parts have their bounds, whatever the kind is
abbrev pub HasInodeParts : InodeBlock → Type 0
HasInodeParts b = (((((Unit {0} × IsKey b.number) × IsAny b.kind) × AreAttributes b.attributes) × IsAtMost longest_file b.size)
    × (length b.target ≤ 1024)) × IsListed 3 b.items

-- and those of which the bounds depend on the kind are of it
abbrev pub FitsKind : Kind → ℕ → List ℕ → ℕ → Type 0
FitsKind kind size target level = (size ≤ most_content_bytes kind) × IsTarget kind target × (level ≤ most_levels kind)
