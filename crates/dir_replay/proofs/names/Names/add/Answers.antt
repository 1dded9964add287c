use Rattle.dir_replay.proofs.Added.{already, added}
use Rattle.dir_replay.proofs.names.Names.add.Goals as goal

pub returns-then-is_some-clause-ok : goal.returns-then-is_some-clause-ok
returns-then-is_some-clause-ok c = rw (← c.self.view_is) (already c.self.inside.nodes c.args.ino c.args.kind c.get.result c.get.ensures c.if-is_some.ensures)

pub invariant_of-self-2 : goal.invariant_of-self-2
invariant_of-self-2 c = (added c.self.inside.nodes c.args.ino c.args.kind c.get.result c.get.ensures c.self.invariant c.if-is_some.ensures c.new_node.result c.new_node.ensures c.insert.new.self c.in_ok-insert.ensures.ok).1

pub returns-clause-ok : goal.returns-clause-ok
returns-clause-ok c = rw (← c.self.view_is) ((added c.self.inside.nodes c.args.ino c.args.kind c.get.result c.get.ensures c.self.invariant c.if-is_some.ensures c.new_node.result c.new_node.ensures c.insert.new.self c.in_ok-insert.ensures.ok).0)
