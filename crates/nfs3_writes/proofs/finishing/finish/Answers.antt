use Rattle.nfs3_writes.proofs.finishing.finish.Goals as goal

pub returns-in-SetAttr : goal.returns-in-SetAttr
returns-in-SetAttr c = rw (c.in-SetAttr.is, ← c.as_slice.ensures) c.changed.ensures

pub returns-in-Write : goal.returns-in-Write
returns-in-Write c = rw (c.in-Write.is, ← c.as_slice-in-Write.ensures, ← c.taken_part.ensures.taken, ← c.as_slice-in-Write-2.ensures) c.written.ensures

pub returns-in-Remove : goal.returns-in-Remove
returns-in-Remove c = rw (c.in-Remove.is, ← c.as_slice-in-Remove.ensures) c.changed-in-Remove.ensures

pub returns-in-RmDir : goal.returns-in-RmDir
returns-in-RmDir c = rw (c.in-RmDir.is, ← c.as_slice-in-RmDir.ensures) c.changed-in-RmDir.ensures

pub returns-in-Rename : goal.returns-in-Rename
returns-in-Rename c = rw (c.in-Rename.is, ← c.as_slice-in-Rename.ensures, ← c.as_slice-to_dir.ensures) c.renamed.ensures

pub returns-in-Link : goal.returns-in-Link
returns-in-Link c = rw (c.in-Link.is, ← c.as_slice-in-Link.ensures, ← c.as_slice-in-Link-2.ensures) c.linked.ensures
