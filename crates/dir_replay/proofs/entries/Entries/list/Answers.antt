use Rattle.std.proofs.Common.{map, ap, ◌∙◌}
use Rattle.dir_replay.proofs.Listed.{lent, one_listed}
use Rattle.dir_replay.proofs.entries.Entries.list.Goals as goal

pub names-preserved : goal.names-preserved
names-preserved c =
    one_listed c.deref-name-items.result.now c.args.self.now c.names.pairs.items c.push.new.self.items c.names.name-index c.names-item.result c.in_ok-copy_of.field-0
    (ap (map lent) c.deref-name-items.ensures.value ∙ c.in_ok-entries.ensures ∙ c.self.view_is) c.names.invariant c.names-test.true c.names-item.is (c.in_ok-copy_of.ensures ∙ c.as_slice.ensures) c.in_ok-push.ensures.items
