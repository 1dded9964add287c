use Rattle.fs_tree.proofs.Joined.{names_changed}
use Rattle.fs_tree.proofs.tree.Tree.change_names.Goals as goal

pub invariant_of-self : goal.invariant_of-self
invariant_of-self c =
    (names_changed c.self.inside.names c.self.inside.contents c.self.invariant c.args.moment c.args.op.now c.requires c.in_ok-names.names c.in_ok-names.ensures c.in_ok-contents.contents c.in_ok-contents.ensures c.apply_names.new.self (c.in_ok-touched.ensures.ok c.args.moment) c.in_ok-touched.touched c.in_ok-touched.ensures.touched c.touch_any.new.self c.touch_any-2.new.self c.in_ok-touch_any.ensures.ok c.in_ok-touch_any-2.ensures.ok).1

pub returns-clause-ok : goal.returns-clause-ok
returns-clause-ok c =
    rw (← c.self.view_is) ((names_changed c.self.inside.names c.self.inside.contents c.self.invariant c.args.moment c.args.op.now c.requires c.in_ok-names.names c.in_ok-names.ensures c.in_ok-contents.contents c.in_ok-contents.ensures c.apply_names.new.self (c.in_ok-touched.ensures.ok c.args.moment) c.in_ok-touched.touched c.in_ok-touched.ensures.touched c.touch_any.new.self c.touch_any-2.new.self c.in_ok-touch_any.ensures.ok c.in_ok-touch_any-2.ensures.ok).0)
