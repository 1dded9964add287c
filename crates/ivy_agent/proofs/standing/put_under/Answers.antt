use Rattle.ivy_agent.proofs.Placed.{stays_at, placed_at}
use Rattle.ivy_agent.proofs.standing.put_under.Goals as goal

pub returns-then-has_log : goal.returns-then-has_log
returns-then-has_log c =
    stays_at c.head_key-log.result _ _ c.args.edges.now.items c.as_slice.result.now c.has_log.result c.as_slice.ensures.value c.head_key-log.ensures c.has_log.ensures c.if-has_log.true

pub returns : goal.returns
returns c = placed_at c.head_key-log.result _ _ c.args.edges.now.items c.as_slice.result.now c.has_log.result c.as_slice.ensures.value c.head_key-log.ensures c.has_log.ensures c.if-has_log.false
    c.insert.new.self.items c.as_slice-2.result.now c.place_of-place.result c.in_ok-copy.field-0 c.as_slice-2.ensures.value c.place_of-place.ensures.value c.in_ok-copy.ensures c.in_ok-insert.ensures.items
