use Rattle.std.proofs.Common.{◌≡◌, ℕ, List, set, get_or, Some, sym, ap, ◌∙◌, subst}
use Rattle.std.specs.List.{position}
use Rattle.std.specs.Str.{bytes_eq}
use Rattle.script_driver.specs.Run.{Goes}
use Rattle.script_machine.specs.contracts.machine.ScriptMachine.{the_view}
use Rattle.world_model.specs.Calls.{StepLine}
use Rattle.world_model.specs.Logs.{Played}
use Rattle.world_model.specs.World.{session_named}
use Rattle.dhash_model.specs.Signed.{hss_judged}
use Rattle.script_world.specs.Running.{HasConfigurationIn, StepsOnIn}
use Rattle.script_machine.specs.WorldState.{HasWorld, OpenState, RepresentsWorld, WorldState}
use Rattle.script_machine.proofs.Lines.{far_steps, has_configuration, none_steps, steps_one}
use Rattle.script_machine.proofs.machine.ScriptMachine.step.Goals as goal

pub returns-in_default : goal.returns-in_default
returns-in_default c = λ w shows keeps.
    none_steps c.args.self.now w shows keeps c.args.name.now c.args.count (sym c.place_of.ensures ∙ c.in_default.is)

pub returns-then-not-is_step_count : goal.returns-then-not-is_step_count
returns-then-not-is_step_count c = λ w shows keeps.
    far_steps c.args.self.now w shows keeps c.args.name.now c.in-Some.place (sym c.place_of.ensures ∙ c.in-Some.is) c.args.count (sym c.if-not-is_step_count.ensures)

pub step_on-requires : goal.step_on-requires
step_on-requires c =
    let at : position (λ (o : OpenState). bytes_eq o.name c.args.name.now) c.self.inside.sessions.items ≡ Some c.in-Some.place = ap (λ (s : WorldState). position (λ (o : OpenState). bytes_eq o.name c.args.name.now) s.sessions) c.self.view_is ∙ sym c.place_of.ensures ∙ c.in-Some.is in
    let o : OpenState = record { name = c.session.inside.name; by = c.session.inside.by; call = c.session.inside.call } in
    let is : o ≡ get_or c.self.inside.sessions.items c.in-Some.place o = subst (λ (x : OpenState). x ≡ get_or c.self.inside.sessions.items c.in-Some.place x) (sym c.session.view_is) c.index_mut-session.ensures.value in
    subst (λ (n : List ℕ). HasConfigurationIn c.self.inside.parts n c.session.inside.call) (sym c.as_slice.ensures)
    (has_configuration (the_view c.self.inside) (subst HasWorld (sym c.self.view_is) c.requires) c.args.name.now c.in-Some.place at o is)

pub returns : goal.returns
returns c = λ w shows keeps.
    let from : RepresentsWorld (the_view c.self.inside) w = subst (λ (s : WorldState). RepresentsWorld s w) (sym c.self.view_is) shows in
    let at : position (λ (o : OpenState). bytes_eq o.name c.args.name.now) c.self.inside.sessions.items ≡ Some c.in-Some.place = ap (λ (s : WorldState). position (λ (o : OpenState). bytes_eq o.name c.args.name.now) s.sessions) c.self.view_is ∙ sym c.place_of.ensures ∙ c.in-Some.is in
    let o : OpenState = record { name = c.session.inside.name; by = c.session.inside.by; call = c.session.inside.call } in
    let is : o ≡ get_or c.self.inside.sessions.items c.in-Some.place o = subst (λ (x : OpenState). x ≡ get_or c.self.inside.sessions.items c.in-Some.place x) (sym c.session.view_is) c.index_mut-session.ensures.value in
    let on : StepsOnIn o.by c.self.inside.parts o.call c.step_on.new.self c.step_on.new.call c.args.count =
    subst (λ (n : List ℕ). StepsOnIn n c.self.inside.parts o.call c.step_on.new.self c.step_on.new.call c.args.count) c.as_slice.ensures c.in_ok-step_on.ensures in
    subst (λ (text : List ℕ). (next : Played) × StepLine hss_judged w c.args.name.now c.args.count (session_named w.0 c.args.name.now) (Goes next text) × RepresentsWorld (record { parts = c.step_on.new.self; sessions = set c.self.inside.sessions.items c.in-Some.place (record { name = c.session.inside.name; by = c.session.inside.by; call = c.step_on.new.call }) }) next) (sym c.new.ensures.items)
    (steps_one (the_view c.self.inside) w from keeps c.args.name.now c.in-Some.place at o is c.args.count (sym c.if-not-is_step_count.ensures) c.step_on.new.self c.step_on.new.call on)
