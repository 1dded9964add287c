use Rattle.std.proofs.Common.{◌≡◌, ℕ, List, get_or, Some, sym, ap, ◌∙◌, subst}
use Rattle.std.specs.List.{position}
use Rattle.std.specs.Str.{bytes_eq}
use Rattle.script_machine.specs.contracts.machine.ScriptMachine.{the_view}
use Rattle.script_world.specs.Running.{HasConfigurationIn}
use Rattle.script_machine.specs.Ends.{EndsIn}
use Rattle.script_machine.specs.WorldState.{HasWorld, OpenState, RepresentsWorld, WorldState}
use Rattle.script_machine.proofs.Lines.{ends_one, has_configuration, none_ends}
use Rattle.script_machine.proofs.machine.ScriptMachine.finish.Goals as goal

pub returns-in_default : goal.returns-in_default
returns-in_default c = λ w shows keeps.
    none_ends c.args.self.now w shows keeps c.args.name.now (sym c.place_of.ensures ∙ c.in_default.is)

pub run_to_end-requires : goal.run_to_end-requires
run_to_end-requires c =
    let at : position (λ (o : OpenState). bytes_eq o.name c.args.name.now) c.self.inside.sessions.items ≡ Some c.in-Some.place = ap (λ (s : WorldState). position (λ (o : OpenState). bytes_eq o.name c.args.name.now) s.sessions) c.self.view_is ∙ sym c.place_of.ensures ∙ c.in-Some.is in
    let o : OpenState = record { name = c.by.inside.name; by = c.by.inside.by; call = c.by.inside.call } in
    let is : o ≡ get_or c.self.inside.sessions.items c.in-Some.place o = subst (λ (x : OpenState). x ≡ get_or c.self.inside.sessions.items c.in-Some.place x) (sym c.by.view_is) c.remove.ensures.value in
    subst (λ (n : List ℕ). HasConfigurationIn c.self.inside.parts n c.by.inside.call) (sym c.as_slice.ensures)
    (has_configuration (the_view c.self.inside) (subst HasWorld (sym c.self.view_is) c.requires) c.args.name.now c.in-Some.place at o is)

pub returns : goal.returns
returns c = λ w shows keeps.
    let from : RepresentsWorld (the_view c.self.inside) w = subst (λ (s : WorldState). RepresentsWorld s w) (sym c.self.view_is) shows in
    let at : position (λ (o : OpenState). bytes_eq o.name c.args.name.now) c.self.inside.sessions.items ≡ Some c.in-Some.place = ap (λ (s : WorldState). position (λ (o : OpenState). bytes_eq o.name c.args.name.now) s.sessions) c.self.view_is ∙ sym c.place_of.ensures ∙ c.in-Some.is in
    let o : OpenState = record { name = c.by.inside.name; by = c.by.inside.by; call = c.by.inside.call } in
    let is : o ≡ get_or c.self.inside.sessions.items c.in-Some.place o = subst (λ (x : OpenState). x ≡ get_or c.self.inside.sessions.items c.in-Some.place x) (sym c.by.view_is) c.remove.ensures.value in
    let ends : EndsIn o.by c.self.inside.parts o.call c.run_to_end.new.parts c.in_ok-text.text.items =
    subst (λ (n : List ℕ). EndsIn n c.self.inside.parts o.call c.run_to_end.new.parts c.in_ok-text.text.items) c.as_slice.ensures c.in_ok-text.ensures in
    let goes = ends_one (the_view c.self.inside) w from keeps c.args.name.now c.in-Some.place at o is c.run_to_end.new.parts c.in_ok-text.text.items ends in
    (goes.0, goes.1, subst (λ (os : List OpenState). RepresentsWorld (record { parts = c.run_to_end.new.parts; sessions = os }) goes.0) (sym c.remove.ensures.items) goes.2)
