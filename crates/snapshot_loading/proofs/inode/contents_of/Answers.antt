use Rattle.std.proofs.Common.{IfOk, map, sym, subst}
use Rattle.ivy_base.specs.declared.operation.Kind.{Kind}
use Rattle.snapshot_blocks.specs.Parsed.{inode_of}
use Rattle.snapshot_loading.specs.Answers.{AreContentsOf}
use Rattle.snapshot_loading.proofs.inode.contents_of.Goals as goal

pub returns-in-Dir : goal.returns-in-Dir
returns-in-Dir c =
    subst (λ (k : Kind). IfOk c.directory.result (AreContentsOf k (inode_of c.args.inode.now) (map (λ b. b.now) c.args.items.now))) (sym c.in-Dir.is) (c.directory.ensures (inode_of c.args.inode.now))

pub returns-in-Lnk : goal.returns-in-Lnk
returns-in-Lnk c =
    subst (λ (k : Kind). IfOk c.link.result (AreContentsOf k (inode_of c.args.inode.now) (map (λ b. b.now) c.args.items.now))) (sym c.in-Lnk.is) (c.link.ensures (map (λ b. b.now) c.args.items.now))
