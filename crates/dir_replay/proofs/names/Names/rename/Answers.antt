use Rattle.std.proofs.Common.{◌&&◌, is_none, ap, ◌∙◌}
use Rattle.dir_replay.specs.Counts.{one_more_if}
use Rattle.dir_replay.proofs.Renamed.{renamed}
use Rattle.dir_replay.proofs.names.Names.rename.Goals as goal

pub invariant_of-self : goal.invariant_of-self
invariant_of-self c =
    (renamed c.self.inside.nodes c.self.invariant c.args.self.now c.self.view_is c.args.dir.now c.args.name.now c.in-Some.moved c.args.to_dir.now c.args.to_name.now c.in-Some.ensures c.if-not-may_rename.ensures
    c.entry-target.result c.entry-target.ensures c.is_directory-directory.result c.is_directory-directory.ensures
    c.in_ok-subdirs.subdirs (c.in_ok-subdirs.ensures ∙ (λ i. one_more_if (c.subdirs.ensures i) ((c.is_new-new.ensures ∙ ap (λ b. b && is_none c.entry-target.result) c.is_directory-directory.ensures) i)))
    c.given_if.result c.given_if.ensures
    c.in_ok-nodes.nodes c.enter.new.self c.unname_any.new.self c.leave.new.self c.set_parent.new.self c.in_ok-nodes.ensures c.in_ok-enter.ensures.ok c.in_ok-unname_any.ensures.ok c.in_ok-leave.ensures.ok c.in_ok-set_parent.ensures.ok).1

pub returns-clause-ok : goal.returns-clause-ok
returns-clause-ok c =
    (renamed c.self.inside.nodes c.self.invariant c.args.self.now c.self.view_is c.args.dir.now c.args.name.now c.in-Some.moved c.args.to_dir.now c.args.to_name.now c.in-Some.ensures c.if-not-may_rename.ensures
    c.entry-target.result c.entry-target.ensures c.is_directory-directory.result c.is_directory-directory.ensures
    c.in_ok-subdirs.subdirs (c.in_ok-subdirs.ensures ∙ (λ i. one_more_if (c.subdirs.ensures i) ((c.is_new-new.ensures ∙ ap (λ b. b && is_none c.entry-target.result) c.is_directory-directory.ensures) i)))
    c.given_if.result c.given_if.ensures
    c.in_ok-nodes.nodes c.enter.new.self c.unname_any.new.self c.leave.new.self c.set_parent.new.self c.in_ok-nodes.ensures c.in_ok-enter.ensures.ok c.in_ok-unname_any.ensures.ok c.in_ok-leave.ensures.ok c.in_ok-set_parent.ensures.ok).0
