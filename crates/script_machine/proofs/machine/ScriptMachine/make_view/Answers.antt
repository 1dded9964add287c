use Rattle.dhash_model.specs.Signed.{hss_judged}
use Rattle.script_machine.proofs.OtherLines.{played_line}
use Rattle.script_machine.proofs.StayingRing.{view_stays}
use Rattle.world_model.specs.Logs.{ViewLine, keys_of}
use Rattle.script_machine.proofs.machine.ScriptMachine.make_view.Goals as goal

pub returns : goal.returns
returns c = rw (← c.self.view_is, ← c.in_ok-name.ensures) (played_line c.self.inside.sessions.items c.self.inside.parts c.make_view.new.self (λ w outcome. ViewLine hss_judged w c.in_ok-name.name (keys_of w.0 c.args.members.now) (keys_of w.0 c.args.former.now) outcome) c.make_view.result (λ w outcome does. view_stays does) c.make_view.ensures)
