use Rattle.ivy_agent.proofs.ServedTurns.{replies_whatever_is_saved, turn_is_served, writes_are_planned, writes_are_saved}
use Rattle.ivy_agent.proofs.laws.turns_are_served.Goals as goal

pub returns-clause-turn : goal.returns-clause-turn
returns-clause-turn c = turn_is_served

pub returns-clause-replies : goal.returns-clause-replies
returns-clause-replies c = replies_whatever_is_saved

pub returns-clause-writes : goal.returns-clause-writes
returns-clause-writes c = writes_are_saved

pub returns-clause-planned : goal.returns-clause-planned
returns-clause-planned c = writes_are_planned
