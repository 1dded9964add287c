use Rattle.std.proofs.Common.{◌≡◌, subst}
use Rattle.world_model.specs.Logs.{use_line}
use Rattle.script_machine.specs.contracts.machine.ScriptMachine.{the_view}
use Rattle.script_machine.specs.WorldState.{LineDoes, WorldState}
use Rattle.script_machine.proofs.Joined.{use_taken}
use Rattle.script_machine.proofs.machine.ScriptMachine.use_view.Goals as goal

pub returns : goal.returns
returns c =
    subst (λ (s : WorldState). LineDoes (λ w outcome. outcome ≡ use_line w c.args.log.now c.args.view.now) s c.in_ok-taken.taken c.end_sessions.new.self) c.self.view_is
    (use_taken (the_view c.self.inside) c.end_sessions.new.self c.args.log.now c.args.view.now c.in_ok-taken.taken c.use_view.new.self c.in_ok-taken.ensures (c.end_sessions.ensures.parts, c.end_sessions.ensures.sessions))
