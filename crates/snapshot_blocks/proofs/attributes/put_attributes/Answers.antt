use Rattle.wire_model.specs.Xdr.{word, moment}
use Rattle.snapshot_blocks.proofs.Appended.{six_steps}
use Rattle.snapshot_blocks.proofs.attributes.put_attributes.Goals as goal

pub returns-clause-written : goal.returns-clause-written
returns-clause-written c =
    let attr = c.args.attr.now in
    six_steps c.args.out.now.written (word attr.mode) (word attr.uid) (word attr.gid) (moment attr.atime) (moment attr.mtime) (moment attr.ctime)
    c.put_u32.ensures.written c.put_u32-2.ensures.written c.put_u32-3.ensures.written c.put_moment.ensures.written c.put_moment-2.ensures.written c.put_moment-3.ensures.written
