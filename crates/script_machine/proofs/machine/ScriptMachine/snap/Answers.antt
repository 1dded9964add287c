use Rattle.std.proofs.Common.{ℕ, List, sym, subst}
use Rattle.dhash_model.specs.Signed.{hss_judged}
use Rattle.script_driver.specs.Run.{Goes}
use Rattle.script_world.specs.declared.snapping.SnapEnd.{SnapEnd}
use Rattle.script_world.specs.declared.snapping.SnapEnd.TheVariants as end
use Rattle.script_world.specs.Snapping.{SnapsIn}
use Rattle.world_model.specs.Logs.{Played, SnapLine}
use Rattle.world_model.specs.World.{participant}
use Rattle.script_machine.specs.contracts.machine.ScriptMachine.{the_view}
use Rattle.script_machine.specs.WorldState.{HasWorld, RepresentsWorld, WorldState}
use Rattle.script_machine.proofs.Snapped.{has_publisher, snap_fails, snap_goes}
use Rattle.script_machine.proofs.machine.ScriptMachine.snap.Goals as goal

pub publish-requires : goal.publish-requires
publish-requires c =
    let snaps : SnapsIn c.args.log.now c.self.inside.parts (end.Made c.in-Made.root) c.begin_snap.new.self = subst (λ (e : SnapEnd). SnapsIn c.args.log.now c.self.inside.parts e c.begin_snap.new.self) c.in-Made.is c.in_ok-root.ensures in
    has_publisher (the_view c.self.inside) c.args.log.now c.in-Made.root c.begin_snap.new.self (subst HasWorld (sym c.self.view_is) c.requires) snaps

pub returns-in_ok-snap_text-in-Made : goal.returns-in_ok-snap_text-in-Made
returns-in_ok-snap_text-in-Made c = λ w shows keeps.
    let snaps : SnapsIn c.args.log.now c.self.inside.parts (end.Made c.in-Made.root) c.begin_snap.new.self = subst (λ (e : SnapEnd). SnapsIn c.args.log.now c.self.inside.parts e c.begin_snap.new.self) c.in-Made.is c.in_ok-root.ensures in
    let from : RepresentsWorld (the_view c.self.inside) w = subst (λ (s : WorldState). RepresentsWorld s w) (sym c.self.view_is) shows in
    subst (λ (text : List ℕ). (next : Played) × SnapLine hss_judged w (participant w.0 c.args.log.now) (Goes next text) × RepresentsWorld (record { parts = c.publish.new.self; sessions = c.self.inside.sessions.items }) next) (sym c.in_ok-snap_text-in-Made.ensures)
    (snap_goes (the_view c.self.inside) c.args.log.now c.in-Made.root c.begin_snap.new.self c.publish.new.self snaps c.in_ok-publish-in-Made.ensures w from keeps)

pub returns-in_ok-snap_failed-in-Failed : goal.returns-in_ok-snap_failed-in-Failed
returns-in_ok-snap_failed-in-Failed c = λ w shows keeps.
    let snaps : SnapsIn c.args.log.now c.self.inside.parts end.Failed c.begin_snap.new.self = subst (λ (e : SnapEnd). SnapsIn c.args.log.now c.self.inside.parts e c.begin_snap.new.self) c.in-Failed.is c.in_ok-root.ensures in
    let from : RepresentsWorld (the_view c.self.inside) w = subst (λ (s : WorldState). RepresentsWorld s w) (sym c.self.view_is) shows in
    subst (λ (text : List ℕ). (next : Played) × SnapLine hss_judged w (participant w.0 c.args.log.now) (Goes next text) × RepresentsWorld (record { parts = c.begin_snap.new.self; sessions = c.self.inside.sessions.items }) next) (sym c.in_ok-snap_failed-in-Failed.ensures)
    (snap_fails (the_view c.self.inside) c.args.log.now c.begin_snap.new.self snaps w from keeps)
