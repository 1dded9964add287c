use Rattle.std.proofs.Common.{◌≡◌, ◌==◌, not, filter, map, sym, ap, ◌∙◌}
use Rattle.std.specs.List.{list_any}
use Rattle.ring_run.specs.Changes.{without_number}
use Rattle.ring_run.specs.Live.{LiveState}
use Rattle.ring_run.proofs.Numbers.{left_is_live}
use Rattle.ring_run.proofs.Seats.{any_mapped, filter_mapped}
use Rattle.ring_run.proofs.ring.LiveRing.stop.Goals as goal

pub returns-clause-lived : goal.returns-clause-lived
returns-clause-lived c =
    c.has_number-lived.ensures ∙ ap (list_any (λ s. s.peer.number == c.args.number)) c.deref.ensures.value
    ∙ sym (any_mapped (λ s. s.peer) (λ p. p.number == c.args.number) c.self.inside.live.items)
    ∙ ap (λ (r : LiveState). list_any (λ p. p.number == c.args.number) r.live) c.self.view_is

pub returns-clause-stopped : goal.returns-clause-stopped
returns-clause-stopped c =
    let left : map (λ s. s.peer) c.drop_number.new.seats.items ≡ filter (λ p. not (p.number == c.args.number)) (map (λ s. s.peer) c.self.inside.live.items) =
    ap (map (λ s. s.peer)) c.drop_number.ensures ∙ sym (filter_mapped (λ s. s.peer) (λ p. not (p.number == c.args.number)) c.self.inside.live.items) in
    (λ i. record { replicas = c.self.inside.replicas; made = c.self.inside.made.items; live = left i }) ∙ ap (λ (r : LiveState). without_number r c.args.number) c.self.view_is

pub invariant_of-self : goal.invariant_of-self
invariant_of-self c =
    left_is_live c.self.inside.replicas c.self.inside.made.items (map (λ s. s.peer) c.self.inside.live.items) (map (λ s. s.peer) c.drop_number.new.seats.items) (λ p. not (p.number == c.args.number)) c.self.invariant
    (ap (map (λ s. s.peer)) c.drop_number.ensures ∙ sym (filter_mapped (λ s. s.peer) (λ p. not (p.number == c.args.number)) c.self.inside.live.items))
