use Rattle.std.proofs.Common.{◌≡◌, List, map, sym, ◌∙◌, subst, rules}
use Rattle.std.specs.List.Sorted.{IsStrictlyIncreasing}
use Rattle.dht_ids.specs.declared.peer.Peer.{Peer}
use Rattle.ring_run.proofs.Numbers.{numbers_ascend}
use Rattle.ring_run.proofs.ring.LiveRing.made.Goals as goal

pub returns-clause-ascending : goal.returns-clause-ascending
returns-clause-ascending c =
    let copied : c.in_ok-to_vec.field-0.items ≡ c.as_slice.result.now = search rules in
    subst (λ (ps : List Peer). IsStrictlyIncreasing (map (λ (p : Peer). p.number) ps)) (sym (c.of.ensures ∙ copied ∙ c.as_slice.ensures.value)) (numbers_ascend c.self.inside.made.items c.self.invariant.ascending)
