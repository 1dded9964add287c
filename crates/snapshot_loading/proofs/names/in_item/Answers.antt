use Rattle.std.proofs.Common.{IfErr, sym, subst}
use Rattle.snapshot_loading.specs.declared.role.Item.{Item}
use Rattle.snapshot_loading.specs.Roles.{item_part, RefusesPart}
use Rattle.snapshot_loading.proofs.names.in_item.Goals as goal

pub returns-in-Inode-clause-err : goal.returns-in-Inode-clause-err
returns-in-Inode-clause-err c = subst (λ (i : Item). IfErr c.in_inode.result (RefusesPart (item_part i) c.args.block.now)) (sym c.in-Inode.is) c.in_inode.ensures.err

pub returns-in-Entries-clause-err : goal.returns-in-Entries-clause-err
returns-in-Entries-clause-err c = subst (λ (i : Item). IfErr c.in_entries.result (RefusesPart (item_part i) c.args.block.now)) (sym c.in-Entries.is) c.in_entries.ensures.err
