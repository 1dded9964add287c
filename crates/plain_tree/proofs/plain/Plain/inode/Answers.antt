use Rattle.std.proofs.Common.{ap, ◌∙◌}
use Rattle.std.specs.Option.{option_copied}
use Rattle.std.specs.FinMap.Entries.{find as value_at}
use Rattle.ivy_base.specs.Naming.{key_cmp}
use Rattle.plain_tree.proofs.Kept.{inode_found}
use Rattle.plain_tree.proofs.plain.Plain.inode.Goals as goal

pub returns : goal.returns
returns c = inode_found c.self.inside.names.items c.self.inside.inodes.items c.args.self.now c.self.view_is c.args.ino.now (option_copied c.find.result) (c.find.ensures ∙ ap (value_at key_cmp c.args.ino.now) c.deref.ensures.value)
