use Rattle.std.proofs.Common.{◌<◌, ◌≤◌, ◌∙◌, Ok, Err, length, sym, ap, subst}
use Rattle.ring_run.specs.Changes.{Joins}
use Rattle.ring_run.specs.Changes.Joins.{joined, known, limit, memory}
use Rattle.ring_run.specs.declared.fault.JoinFault.TheVariants as fault
use Rattle.ring_run.specs.Live.{LiveState}
use Rattle.ring_run.proofs.Numbers.{known_made}
use Rattle.ring_run.proofs.ring.LiveRing.join.Goals as goal

pub returns-then-is_known : goal.returns-then-is_known
returns-then-is_known g c = known (known_made c.args.self.now c.self.inside.made.items c.deref.result.now c.numbered.result c.args.number c.is_known.result _ c.is_known.ensures c.if-is_known.true c.numbered.ensures c.deref.ensures.value (ap (λ (r : LiveState). r.made) c.self.view_is))

pub returns-then-len-ge-MOST_NODES : goal.returns-then-len-ge-MOST_NODES
returns-then-len-ge-MOST_NODES g c =
    limit (known_made c.args.self.now c.self.inside.made.items c.deref.result.now c.numbered.result c.args.number c.is_known.result _ c.is_known.ensures c.if-is_known.false c.numbered.ensures c.deref.ensures.value (ap (λ (r : LiveState). r.made) c.self.view_is))
    (subst (λ n. 256 ≤ n) (c.len.ensures ∙ sym c.deref.ensures.len ∙ ap length c.deref.ensures.value ∙ ap (λ (r : LiveState). length r.made) c.self.view_is) c.if-len-ge-MOST_NODES.true)

pub returns-in-Ok : goal.returns-in-Ok
returns-in-Ok g c =
    subst (Joins c.args.self.now c.args.number (Ok tt)) (sym c.in-Ok.ensures.taken)
    (joined (known_made c.args.self.now c.self.inside.made.items c.deref.result.now c.numbered.result c.args.number c.is_known.result _ c.is_known.ensures c.if-is_known.false c.numbered.ensures c.deref.ensures.value (ap (λ (r : LiveState). r.made) c.self.view_is))
    (subst (λ n. n < 256) (c.len.ensures ∙ sym c.deref.ensures.len ∙ ap length c.deref.ensures.value ∙ ap (λ (r : LiveState). length r.made) c.self.view_is) c.if-len-ge-MOST_NODES.false))

pub returns-in-Err : goal.returns-in-Err
returns-in-Err g c =
    subst (Joins c.args.self.now c.args.number (Err fault.Memory)) (sym c.in-Err.ensures.unchanged)
    (memory (known_made c.args.self.now c.self.inside.made.items c.deref.result.now c.numbered.result c.args.number c.is_known.result _ c.is_known.ensures c.if-is_known.false c.numbered.ensures c.deref.ensures.value (ap (λ (r : LiveState). r.made) c.self.view_is))
    (subst (λ n. n < 256) (c.len.ensures ∙ sym c.deref.ensures.len ∙ ap length c.deref.ensures.value ∙ ap (λ (r : LiveState). length r.made) c.self.view_is) c.if-len-ge-MOST_NODES.false))
