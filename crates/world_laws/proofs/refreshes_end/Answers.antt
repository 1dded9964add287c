use Rattle.world_laws.proofs.FullSessions.{sessions_go_fully}
use Rattle.world_laws.proofs.FullTurns.{done_refreshes_step}
use Rattle.world_laws.proofs.FullRefreshes.{refreshes_end}
use Rattle.world_laws.proofs.FullRuns.{refreshes_run_out}
use Rattle.world_laws.proofs.refreshes_end.Goals as goal

pub returns-clause-wants : goal.returns-clause-wants
returns-clause-wants c = refreshes_end

pub returns-clause-runs : goal.returns-clause-runs
returns-clause-runs c = refreshes_run_out

pub returns-clause-step : goal.returns-clause-step
returns-clause-step c = done_refreshes_step

pub returns-clause-sessions : goal.returns-clause-sessions
returns-clause-sessions c = sessions_go_fully
