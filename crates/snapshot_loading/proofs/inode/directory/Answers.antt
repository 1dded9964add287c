use Rattle.snapshot_loading.proofs.inode.directory.Goals as goal

pub returns-in_default : goal.returns-in_default
returns-in_default c = λ said body es h. (rw c.in_default.is at c.in_ok-entries.ensures) es h.1
