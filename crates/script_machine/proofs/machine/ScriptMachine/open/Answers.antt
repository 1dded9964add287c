use Rattle.std.proofs.Common.{◌≡◌, ℕ, List, [], ◌∷◌, ◌++◌, sym, ap, ◌∙◌, subst}
use Rattle.std.specs.List.{position}
use Rattle.std.specs.Str.{bytes_eq}
use Rattle.script_driver.specs.Run.{Goes}
use Rattle.script_machine.specs.contracts.machine.ScriptMachine.{the_view}
use Rattle.dhash_model.specs.Signed.{hss_judged}
use Rattle.world_model.specs.Calls.{OpenLine, sending_of}
use Rattle.world_model.specs.Logs.{Played}
use Rattle.script_machine.specs.WorldState.{HasWorld, OpenState, RepresentsWorld, WorldState}
use Rattle.script_machine.proofs.Hands.{may_call}
use Rattle.script_machine.proofs.Lines.{found_already, not_yet, open_sends_none, opens_one}
use Rattle.script_machine.proofs.machine.ScriptMachine.open.Goals as goal

pub returns-then-is_some : goal.returns-then-is_some
returns-then-is_some c = λ w shows keeps.
    let at : c.place_of.result ≡ position (λ (o : OpenState). bytes_eq o.name c.as_slice.result.now) c.args.self.now.sessions = c.place_of.ensures in
    let by_name : c.place_of.result ≡ position (λ (o : OpenState). bytes_eq o.name c.args.name.now) c.args.self.now.sessions =
    at ∙ ap (λ (n : List ℕ). position (λ (o : OpenState). bytes_eq o.name n) c.args.self.now.sessions) c.as_slice.ensures in
    found_already c.args.self.now w shows keeps c.args.name.now c.place_of.result by_name (sym c.is_some.ensures ∙ c.if-is_some.true) (sending_of w.0 c.args.log.now c.args.pieces.now)

pub begin_call-requires : goal.begin_call-requires
begin_call-requires c = may_call (the_view c.self.inside) (subst HasWorld (sym c.self.view_is) c.requires)

pub returns-in_default : goal.returns-in_default
returns-in_default c = λ w shows keeps.
    let from : RepresentsWorld (the_view c.self.inside) w = subst (λ (s : WorldState). RepresentsWorld s w) (sym c.self.view_is) shows in
    let begun = rw (c.in_default.is, c.as_slice-2.ensures) at c.in_ok-call.ensures in
    open_sends_none (the_view c.self.inside) w from keeps c.args.log.now c.args.pieces.now c.args.name.now (begun w.0 from.parts)

pub returns : goal.returns
returns c = λ w shows keeps.
    let from : RepresentsWorld (the_view c.self.inside) w = subst (λ (s : WorldState). RepresentsWorld s w) (sym c.self.view_is) shows in
    let begun = rw (c.in-Some.is, c.as_slice-2.ensures) at c.in_ok-call.ensures in
    let at : c.place_of.result ≡ position (λ (o : OpenState). bytes_eq o.name c.as_slice.result.now) c.args.self.now.sessions = c.place_of.ensures in
    let by_name : c.place_of.result ≡ position (λ (o : OpenState). bytes_eq o.name c.args.name.now) c.self.inside.sessions.items =
    at ∙ ap (λ (n : List ℕ). position (λ (o : OpenState). bytes_eq o.name n) c.args.self.now.sessions) c.as_slice.ensures
    ∙ ap (λ (s : WorldState). position (λ (o : OpenState). bytes_eq o.name c.args.name.now) s.sessions) (sym c.self.view_is) in
    let pushed : c.push_session.new.sessions.items ≡ c.self.inside.sessions.items ++ record { name = c.args.name.now; by = c.args.log.now; call = c.in-Some.call } ∷ [] = c.in_ok-push_session.ensures in
    subst (λ (text : List ℕ). (next : Played) × OpenLine hss_judged w c.args.name.now (sending_of w.0 c.args.log.now c.args.pieces.now) (Goes next text) × RepresentsWorld (record { parts = c.self.inside.parts; sessions = c.push_session.new.sessions.items }) next)
    (sym c.new.ensures.items)
    (subst
    (λ (os : List OpenState). (next : Played) × OpenLine hss_judged w c.args.name.now (sending_of w.0 c.args.log.now c.args.pieces.now) (Goes next []) × RepresentsWorld (record { parts = c.self.inside.parts; sessions = os }) next) (sym pushed)
    (opens_one (the_view c.self.inside) w from keeps c.args.log.now c.args.pieces.now c.args.name.now (not_yet c.args.name.now c.place_of.result c.self.inside.sessions.items by_name (sym c.is_some.ensures ∙ c.if-is_some.false)) c.in-Some.call
    (begun w.0 from.parts)))
