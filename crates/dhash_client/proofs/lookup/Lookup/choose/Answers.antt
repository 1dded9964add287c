use Rattle.std.proofs.Common.{rules, reverse, [], subst}
use Rattle.ring_model.specs.Members.{IsAmong}
use Rattle.dht_ids.specs.declared.peer.Peer.{Peer}
use Rattle.dhash_client.specs.Machine.{Follow, IsRest, to_ask}
use Rattle.dhash_client.proofs.Asks.{ends_all_asked, ends_spent, none_not_some}
use Rattle.dhash_client.proofs.lookup.Lookup.choose.Goals as goal
use Rattle.dhash_client.proofs.lookup.Lookup.choose.Goals.{else-is_none-via-then-is_none+else-len-lt-MOST_ASKS, else-is_none-via-else-is_none}

pub returns-then-len-lt-MOST_ASKS-clause-over : goal.returns-then-len-lt-MOST_ASKS-clause-over
returns-then-len-lt-MOST_ASKS-clause-over c = λ e.
    subst (λ s. Follow s [] s.last) c.self.view_is
    (ends_all_asked (reverse c.self.inside.asked.items) c.self.inside.last c.self.inside.rest.items c.next_of-self-inside.new.rest.items c.self.inside.waiting c.next_of-self-inside.result (λ p. IsAmong {X = Peer} p (reverse c.deref.result.now) → ⊥)
    (subst (λ l. IsRest (reverse l) c.self.inside.rest.items (to_ask c.next_of-self-inside.result c.next_of-self-inside.new.rest.items)) c.deref.ensures.value c.next_of-self-inside.ensures.skips)
    c.next_of-self-inside.ensures.next (search rules) e)

pub returns-else-is_none-clause-over : goal.returns-else-is_none-clause-over
returns-else-is_none-clause-over c = λ e.
    elim c.else-is_none.branch [
      | else-is_none-via-then-is_none+else-len-lt-MOST_ASKS w ↦ subst (λ s. Follow s [] s.last) c.self.view_is (ends_spent c.self.inside.asked.items c.self.inside.last (to_ask c.self.inside.waiting c.self.inside.rest.items) (search rules))
      | else-is_none-via-else-is_none w ↦ absurd (none_not_some c.args.self.now.waiting e (search rules))
    ]
