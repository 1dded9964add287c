use Rattle.std.proofs.Common.{◌≡◌, OnOk, subst}
use Rattle.ivy_base.specs.declared.operation.Op.TheVariants as op
use Rattle.dir_replay.specs.Effect.{names_after}
use Rattle.dir_replay.proofs.Applied.{after_names_ok, after_new, idle}
use Rattle.dir_replay.proofs.names.Names.apply_names.Goals as goal

pub returns-in-Inode-clause-ok : goal.returns-in-Inode-clause-ok
returns-in-Inode-clause-ok c = after_new c.args.self.now c.laws.ensures.sound c.laws.ensures.bare c.add.result c.add.new.self c.in-Inode.ino c.in-Inode.kind c.in-Inode.mode c.in-Inode.uid c.in-Inode.gid c.in-Inode.target c.add.ensures.ok c.args.op.now c.in-Inode.is

pub returns-in-Link-clause-ok : goal.returns-in-Link-clause-ok
returns-in-Link-clause-ok c = after_names_ok c.args.self.now c.laws.ensures.sound c.laws.ensures.bare c.link.result c.link.new.self (op.Link c.in-Link.dir c.in-Link.name c.in-Link.ino) tt (subst (λ name. OnOk c.link.result (c.link.new.self ≡ names_after c.args.self.now (op.Link c.in-Link.dir name c.in-Link.ino))) c.as_slice.ensures c.link.ensures.ok) c.args.op.now c.in-Link.is

pub returns-in-Unlink-clause-ok : goal.returns-in-Unlink-clause-ok
returns-in-Unlink-clause-ok c = after_names_ok c.args.self.now c.laws.ensures.sound c.laws.ensures.bare c.unlink.result c.unlink.new.self (op.Unlink c.in-Unlink.dir c.in-Unlink.name) tt (subst (λ name. OnOk c.unlink.result (c.unlink.new.self ≡ names_after c.args.self.now (op.Unlink c.in-Unlink.dir name))) c.as_slice-in-Unlink.ensures c.unlink.ensures.ok) c.args.op.now c.in-Unlink.is

pub returns-in-Rename-clause-ok : goal.returns-in-Rename-clause-ok
returns-in-Rename-clause-ok c = after_names_ok c.args.self.now c.laws.ensures.sound c.laws.ensures.bare c.rename.result c.rename.new.self (op.Rename c.in-Rename.dir c.in-Rename.name c.in-Rename.to_dir c.in-Rename.to_name) tt (subst (λ name. OnOk c.rename.result (c.rename.new.self ≡ names_after c.args.self.now (op.Rename c.in-Rename.dir name c.in-Rename.to_dir c.in-Rename.to_name))) c.as_slice-in-Rename.ensures (subst (λ name. OnOk c.rename.result (c.rename.new.self ≡ names_after c.args.self.now (op.Rename c.in-Rename.dir c.as_slice-in-Rename.result.now c.in-Rename.to_dir name))) c.as_slice-in-Rename-2.ensures c.rename.ensures.ok)) c.args.op.now c.in-Rename.is

pub returns-in_default : goal.returns-in_default
returns-in_default c =
    let both = idle c.args.self.now c.laws.ensures.sound c.laws.ensures.bare c.args.op.now c.in_default.not-Inode c.in_default.not-Link c.in_default.not-Unlink c.in_default.not-Rename c.nothing.result c.nothing.ensures in
    record { ok = both.0; touched = both.1; err = tt }
