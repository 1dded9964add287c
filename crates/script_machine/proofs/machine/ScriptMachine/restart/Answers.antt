use Rattle.std.proofs.Common.{◌≡◌, subst}
use Rattle.world_model.specs.Logs.{RestartLine}
use Rattle.world_model.specs.World.{participant}
use Rattle.script_machine.specs.contracts.machine.ScriptMachine.{the_view}
use Rattle.script_machine.specs.WorldState.{LineDoes, WorldState}
use Rattle.script_machine.proofs.Joined.{restart_taken}
use Rattle.script_machine.proofs.machine.ScriptMachine.restart.Goals as goal

pub returns : goal.returns
returns c =
    subst (λ (s : WorldState). LineDoes (λ w outcome. RestartLine w (participant w.0 c.args.log.now) outcome) s c.in_ok-taken.taken c.end_sessions.new.self) c.self.view_is
    (restart_taken (the_view c.self.inside) c.end_sessions.new.self c.args.log.now c.in_ok-taken.taken c.restart.new.self c.in_ok-taken.ensures (c.end_sessions.ensures.parts, c.end_sessions.ensures.sessions))
