use Rattle.dhash_model.specs.Signed.{hss_judged}
use Rattle.script_machine.proofs.OtherLines.{function_in, function_line, ring_line, untold_line}
use Rattle.script_machine.proofs.StayingRing.{at_stays, damage_stays, join_stays, keep_stays, lose_stays, round_stays, show_stays, stop_stays}
use Rattle.world_model.specs.Faults.{damage_line, lose_line, node_named}
use Rattle.world_model.specs.Logs.{at_line, keep_line}
use Rattle.world_model.specs.Ring.{JoinLine, stop_line}
use Rattle.world_model.specs.Rounds.{RoundLine}
use Rattle.world_model.specs.Shows.{Shows}
use Rattle.script_machine.proofs.machine.ScriptMachine.obey.Goals as goal

pub returns-in-Ring : goal.returns-in-Ring
returns-in-Ring c = rw (← c.self.view_is, c.in-Ring.is) (ring_line c.self.inside.sessions.items c.self.inside.parts c.ring.new.self c.ring.result c.in-Ring.nodes c.in-Ring.replicas c.ring.ensures)

pub returns-in-Log : goal.returns-in-Log
returns-in-Log c = rw (c.in-Log.is, ← c.as_slice.ensures) c.begin_log.ensures

pub returns-in-View : goal.returns-in-View
returns-in-View c = rw (c.in-View.is, ← c.as_slice-in-View.ensures, ← c.as_slice-in-View-2.ensures) c.make_view.ensures

pub returns-in-Use : goal.returns-in-Use
returns-in-Use c = rw (c.in-Use.is, ← c.as_slice-in-Use.ensures, ← c.as_slice-in-Use-2.ensures) c.use_view.ensures

pub returns-in-As : goal.returns-in-As
returns-in-As c = rw (c.in-As.is, ← c.as_slice-in-As.ensures, ← c.as_slice-in-As-2.ensures) c.call.ensures

pub returns-in-Open : goal.returns-in-Open
returns-in-Open c = rw (c.in-Open.is, ← c.as_slice-in-Open.ensures) c.open.ensures

pub returns-in-Step : goal.returns-in-Step
returns-in-Step c = rw (c.in-Step.is, ← c.as_slice-in-Step.ensures) c.step.ensures

pub returns-in-Finish : goal.returns-in-Finish
returns-in-Finish c = rw (c.in-Finish.is, ← c.as_slice-in-Finish.ensures) c.finish.ensures

pub returns-in-Join : goal.returns-in-Join
returns-in-Join c = rw (← c.self-in-Join.view_is, c.in-Join.is) (untold_line c.self-in-Join.inside.sessions.items c.self-in-Join.inside.parts c.join.new.self (λ w outcome. JoinLine hss_judged w c.in-Join.node w.replicas outcome) c.join.result (λ w outcome does. join_stays does) c.join.ensures)

pub returns-in-Stop : goal.returns-in-Stop
returns-in-Stop c = rw (← c.self-in-Stop.view_is, c.in-Stop.is) (function_line c.self-in-Stop.inside.sessions.items c.self-in-Stop.inside.parts c.stop.new.self (λ w. stop_line w (node_named w c.in-Stop.node)) c.stop.result (stop_stays c.in-Stop.node) c.stop.ensures)

pub returns-in-Round : goal.returns-in-Round
returns-in-Round c = rw (← c.self-in-Round.view_is, c.in-Round.is) (untold_line c.self-in-Round.inside.sessions.items c.self-in-Round.inside.parts c.round.new.self (λ w outcome. RoundLine hss_judged w w.replicas outcome) c.round.result (λ w outcome does. round_stays does) c.round.ensures)

pub returns-in-Lose : goal.returns-in-Lose
returns-in-Lose c = rw (← c.self-in-Lose.view_is, c.in-Lose.is) (function_line c.self-in-Lose.inside.sessions.items c.self-in-Lose.inside.parts c.lose.new.self (λ w. lose_line w c.in-Lose.count) c.lose.result (lose_stays c.in-Lose.count) c.lose.ensures)

pub returns-in-Damage : goal.returns-in-Damage
returns-in-Damage c = rw (← c.self-in-Damage.view_is, c.in-Damage.is) (function_line c.self-in-Damage.inside.sessions.items c.self-in-Damage.inside.parts c.damage.new.self (λ w. damage_line w c.in-Damage.node c.in-Damage.key c.in-Damage.offset c.in-Damage.byte) c.damage.result (damage_stays c.in-Damage.node c.in-Damage.key c.in-Damage.offset c.in-Damage.byte) c.damage.ensures)

pub returns-in-Restart : goal.returns-in-Restart
returns-in-Restart c = rw (c.in-Restart.is, ← c.as_slice-in-Restart.ensures) c.restart.ensures

pub returns-in-Keep : goal.returns-in-Keep
returns-in-Keep c = rw (← c.self-in-Keep.view_is, c.in-Keep.is, ← c.as_slice-in-Keep.ensures) (function_line c.self-in-Keep.inside.sessions.items c.self-in-Keep.inside.parts c.keep.new.self (λ w. keep_line w c.as_slice-in-Keep.result.now c.in-Keep.count c.in-Keep.new) c.keep.result (keep_stays c.as_slice-in-Keep.result.now c.in-Keep.count c.in-Keep.new) c.keep.ensures)

pub returns-in-Show : goal.returns-in-Show
returns-in-Show c = rw (← c.self-in-Show.view_is, c.in-Show.is) (untold_line c.self-in-Show.inside.sessions.items c.self-in-Show.inside.parts c.self-in-Show.inside.parts (λ w outcome. Shows w c.in-Show.shown outcome) c.show.result (show_stays c.in-Show.shown) c.show.ensures)

pub returns-in-At : goal.returns-in-At
returns-in-At c = rw (← c.self-in-At.view_is, c.in-At.is) (function_in c.self-in-At.inside.sessions.items c.self-in-At.inside.parts c.at.new.self (λ w. at_line w c.in-At.sec c.in-At.nsec) c.at.result (at_stays c.in-At.sec c.in-At.nsec) c.at.ensures)

pub returns-in-Snap : goal.returns-in-Snap
returns-in-Snap c = rw (c.in-Snap.is, ← c.as_slice-in-Snap.ensures) c.snap.ensures
