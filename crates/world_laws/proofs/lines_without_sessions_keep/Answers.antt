use Rattle.world_laws.proofs.Lines.{damage_lines_keep, keeper_lines_keep, still_lines_keep, stop_lines_keep}
use Rattle.world_laws.proofs.RingLines.{join_lines_keep, ring_lines_keep, round_lines_keep}
use Rattle.world_laws.proofs.ViewLines.{view_lines_keep}
use Rattle.world_laws.proofs.lines_without_sessions_keep.Goals as goal

pub returns-clause-still : goal.returns-clause-still
returns-clause-still c = still_lines_keep

pub returns-clause-stop : goal.returns-clause-stop
returns-clause-stop c = stop_lines_keep

pub returns-clause-damage : goal.returns-clause-damage
returns-clause-damage c = damage_lines_keep

pub returns-clause-keeper : goal.returns-clause-keeper
returns-clause-keeper c = keeper_lines_keep

pub returns-clause-ring : goal.returns-clause-ring
returns-clause-ring c = ring_lines_keep

pub returns-clause-join : goal.returns-clause-join
returns-clause-join c = join_lines_keep

pub returns-clause-round : goal.returns-clause-round
returns-clause-round c = round_lines_keep

pub returns-clause-view : goal.returns-clause-view
returns-clause-view c = view_lines_keep
