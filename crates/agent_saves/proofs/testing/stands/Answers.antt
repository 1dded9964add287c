use Rattle.agent_saves.proofs.OwnLog.{named_or_not, no_member}
use Rattle.agent_saves.proofs.testing.stands.Goals as goal

pub returns-then-is_among : goal.returns-then-is_among
returns-then-is_among c =
    rw c.in-Some.is (named_or_not c.in-Some.view.now c.args.owner.now c.args.floor.now c.members.result.now c.members.ensures.value c.is_among.result c.is_among.ensures c.entries.result.now c.entries.ensures.entries c.names_all.result c.names_all.ensures c.if-is_among.true)

pub returns-else-is_among : goal.returns-else-is_among
returns-else-is_among c =
    rw c.in-Some.is (no_member c.in-Some.view.now c.args.owner.now c.args.floor.now c.members.result.now c.members.ensures.value c.is_among.result c.is_among.ensures c.if-is_among.false)
