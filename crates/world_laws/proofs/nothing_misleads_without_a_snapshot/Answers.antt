use Rattle.world_laws.proofs.NotMisled.{fresh_candidates_are_by_heads, fresh_standings_dont_mislead}
use Rattle.world_laws.proofs.nothing_misleads_without_a_snapshot.Goals as goal

pub returns-clause-standings : goal.returns-clause-standings
returns-clause-standings c = fresh_standings_dont_mislead

pub returns-clause-candidates : goal.returns-clause-candidates
returns-clause-candidates c = fresh_candidates_are_by_heads
