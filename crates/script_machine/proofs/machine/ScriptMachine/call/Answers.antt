use Rattle.std.proofs.Common.{sym, subst}
use Rattle.script_machine.specs.contracts.machine.ScriptMachine.{the_view}
use Rattle.script_machine.specs.WorldState.{HasWorld, RepresentsWorld, WorldState}
use Rattle.script_machine.proofs.Hands.{begun_configuration, begun_so, may_call}
use Rattle.script_machine.proofs.Lines.{calls_whole, sends_none}
use Rattle.script_machine.proofs.machine.ScriptMachine.call.Goals as goal

pub begin_call-requires : goal.begin_call-requires
begin_call-requires c = may_call (the_view c.self.inside) (subst HasWorld (sym c.self.view_is) c.requires)

pub returns-in_default : goal.returns-in_default
returns-in_default c = λ w shows keeps.
    let from : RepresentsWorld (the_view c.self.inside) w = subst (λ (s : WorldState). RepresentsWorld s w) (sym c.self.view_is) shows in
    let begun = rw c.in_default.is at c.in_ok-call.ensures in
    sends_none (the_view c.self.inside) w from keeps c.args.log.now c.args.pieces.now (begun w.0 from.parts)

pub run_to_end-requires : goal.run_to_end-requires
run_to_end-requires c =
    let world = subst HasWorld (sym c.self.view_is) c.requires in
    let begun = rw c.in-Some.is at c.in_ok-call.ensures in
    let is = begun_so c.self.inside.parts world.0.0 c.args.log.now c.args.pieces.now c.in-Some.call (begun world.0.0 world.1.parts) in
    (_, _, begun_configuration (the_view c.self.inside) world.0 world.1 world.2 c.args.log.now c.args.pieces.now c.in-Some.call is)

pub returns : goal.returns
returns c = λ w shows keeps.
    let from : RepresentsWorld (the_view c.self.inside) w = subst (λ (s : WorldState). RepresentsWorld s w) (sym c.self.view_is) shows in
    let begun = rw c.in-Some.is at c.in_ok-call.ensures in
    calls_whole (the_view c.self.inside) w from keeps c.args.log.now c.args.pieces.now c.in-Some.call (begun w.0 from.parts) c.run_to_end.new.parts c.in_ok-text.text.items c.in_ok-text.ensures
