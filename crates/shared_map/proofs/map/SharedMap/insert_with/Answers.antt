use Rattle.shared_map.proofs.Counts.{new_count, same_count, unchanged, is_none_by}
use Rattle.shared_map.proofs.map.SharedMap.insert_with.Goals as goal

pub invariant_of-self : goal.invariant_of-self
invariant_of-self g c =
    unchanged g.K.MapKey.order c.self.inside.tree.0 c.insert.new.self.0 c.self.inside.count c.self.invariant.0 c.self.invariant.1 c.in_err-old.ensures.err.0

pub invariant_of-self-then-is_none : goal.invariant_of-self-then-is_none
invariant_of-self-then-is_none g c =
    new_count g.K.MapKey.order g.met.K.MapKey.total c.args.key c.self.inside.tree.0 c.insert.new.self.0 c.self.inside.count (λ v. v.value) c.self.invariant.0 c.self.invariant.1 _ c.in_ok-old.old c.in_ok-old.ensures.before c.in_ok-old.ensures.ok.0 (is_none_by c.in_ok-old.old c.is_none.result _ c.is_none.ensures c.if-is_none.true)

pub invariant_of-self-else-is_none : goal.invariant_of-self-else-is_none
invariant_of-self-else-is_none g c =
    same_count g.K.MapKey.order g.met.K.MapKey.total c.args.key c.self.inside.tree.0 c.insert.new.self.0 c.self.inside.count (λ v. v.value) c.self.invariant.0 c.self.invariant.1 _ c.in_ok-old.old c.in_ok-old.ensures.before c.in_ok-old.ensures.ok.0 (is_none_by c.in_ok-old.old c.is_none.result _ c.is_none.ensures c.if-is_none.false)
