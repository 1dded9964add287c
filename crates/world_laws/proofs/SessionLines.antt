-- The lines by which sessions go on leave a world in which the invariant holds, and what they show has its cause.
use Rattle.std.proofs.Common.{◌≡◌, ℕ, List, [], Option, Some, refl, sym, ap, ◌∙◌, subst, Contains}
use Rattle.std.specs.Prelude.{map}
use Rattle.std.specs.List.{find}
use Rattle.std.specs.Option.{option_map_or}
use Rattle.std.specs.Str.{bytes_eq}
use Rattle.dhash_model.specs.Signed.{hss_judged}
use Rattle.log_model.specs.View.{View}
use Rattle.script_driver.specs.Run.{Outcome, Goes, Ends, Refuses, Exceeds}
use Rattle.script_model.specs.declared.command.Command.{Command}
use Rattle.script_model.specs.declared.command.Command.TheVariants as command
use Rattle.script_model.specs.declared.command.Piece.{Piece}
use Rattle.script_model.specs.Messages.{message_of}
use Rattle.session_model.specs.Executions.Begins.{alone as begins_alone, refreshes as begins_refreshing}
use Rattle.session_model.specs.Sessions.{Over, Said, Session, Stage}
use Rattle.world_model.specs.Calls.{AsLine, BeginsWith, FinishLine, Sending, StepLine, replied, configuration_of, sending_of, shown_end}
use Rattle.world_model.specs.Calls.AsLine.{sends_nothing, calls}
use Rattle.world_model.specs.Calls.StepLine.{not_open as none_to_step, out_of_range, steps}
use Rattle.world_model.specs.Calls.FinishLine.{not_open as none_to_end, ends}
use Rattle.world_model.specs.World.{World, NamedSession, participant, session_named, with_session, without_session}
use Rattle.world_model.specs.GhostState.{Began, beginning, began_nothing, began_of, having_begun, with_began, without_began}
use Rattle.world_model.specs.Logs.{Played}
use Rattle.world_model.specs.Steps.{RunsOut, Configuration, StepsOn}
use Rattle.world_laws.specs.Causes.{HasCause, said_at}
use Rattle.world_laws.specs.Headline.{HoldsOf}
use Rattle.world_laws.specs.Invariant.{HasSaid, IsInHand, Invariant}
use Rattle.world_laws.specs.Laws.{CallLinesKeep}
use Rattle.world_laws.proofs.Beginning.{calls_begin}
use Rattle.world_laws.proofs.Bringing.{found_named}
use Rattle.world_laws.proofs.HeadlineOfTrails.{trails_are_heard}
use Rattle.world_laws.proofs.Opening.{IsSent, sent_by}
use Rattle.world_laws.proofs.OpenSessions.{back_keeps, begun_keeps, cause_told, closed_keeps, named_hand, replied_keeps}
use Rattle.world_laws.proofs.SessionLinesSteps.{Leads, runs_lead, steps_on_lead}

-- where the outcome goes on, the invariant holds of the world, and the headline holds
abbrev HoldsThen : Played → Command → Outcome Played → Type 0
HoldsThen w c (Goes next output) = Invariant next × HoldsOf w c next output
HoldsThen w c Ends = Unit {0}
HoldsThen w c Refuses = Unit {0}
HoldsThen w c Exceeds = Unit {0}

-- what a session that is over has said has its cause
said_at_end : (c : Configuration) (r : ℕ) (said : Said) → IsInHand c r → c.session.stage ≡ Over (Some said) → HasCause c.ghost_state c.began.number c.session said
said_at_end c r said hand over = subst (λ (x : Stage). HasSaid c.ghost_state c.began.number c.session (said_at x)) over hand.said

begins_same : (w : World) (s : Sending) (t : Session) → BeginsWith w s t → (t.by ≡ s.by.name) × (t.message ≡ s.message) × (t.standing.view ≡ s.view)
begins_same w s _ (begins_alone given by) = (refl, refl, refl)
begins_same w s _ (begins_refreshing xid asked asks) = (refl, refl, refl)

module _ (w : Played) (keeps : Invariant w) where
  -- ---- a whole call

  as_holds : (log : List ℕ) (pieces : List Piece) (o : Option Sending) (out : Outcome Played) → sending_of w.0 log pieces ≡ o → AsLine hss_judged w o out → HoldsThen w (command.As log pieces) out
  as_holds log pieces _ _ is sends_nothing = tt
  as_holds log pieces _ _ is (calls s r t end said ringed begins runs over) = (
    replied_keeps (end.world, end.ghost_state) said led.leaves.0,
    record {
      more = led.leaves.2;
      new = led.leaves.3;
      turns = led.leaves.4;
      caused = λ shows. record {
        end = end;
        said = said;
        ends = record { replicas = r; ringed = ringed; start = start; begins = (s, t, is, begins, refl); runs = its_runs; over = over; leaves = refl; heard = trails_are_heard r t.by its_runs };
        asked_by = (led.same.number, led.same.call.0 ∙ first.0 ∙ named, asked);
        shown = refl;
        cause = said_at_end end r said led.leaves.1 over;
      };
    },
  )
    where
      sent : IsSent w.0 log pieces s
      sent = sent_by w.0 log pieces s is

      named : s.by.name ≡ log
      named = (found_named w.0.participants log s.by sent.is_by).1

      first : (t.by ≡ s.by.name) × (t.message ≡ s.message) × (t.standing.view ≡ s.view)
      first = begins_same w.0 s t begins

      start : Configuration
      start = record { world = w.0; ghost_state = having_begun w.1; session = t; began = beginning w.1 s.by.name }

      hand : IsInHand start r
      hand = calls_begin w r s t keeps ringed (subst (λ (n : List ℕ). participant w.0 n ≡ Some s.by) (sym named) sent.is_by) sent.in_view begins

      its_runs : RunsOut hss_judged r t.by start end
      its_runs = subst (λ (n : List ℕ). RunsOut hss_judged r n start end) (sym first.0) runs

      led : Leads start end r
      led = runs_lead r s.by.name runs first.0 (begun_keeps w keeps r ringed) hand ringed

      asked : message_of w.0.replies end.session.standing.view pieces ≡ Some end.session.message
      asked = ap (λ (v : View). message_of w.0.replies v pieces) (led.same.call.2 ∙ first.2) ∙ sent.is_message ∙ ap (λ (m : List ℕ). Some m) (sym (led.same.call.1 ∙ first.1))

  -- ---- a session that is open

  module _ (name : List ℕ) (s : Session) (is : session_named w.0 name ≡ Some s) (r : ℕ) (ringed : w.0.replicas ≡ Some r) (end : Configuration) where
    abbrev start : Configuration
    start = configuration_of w s (began_of w.1 name)

    hand : IsInHand start r × Contains (map (λ (x : NamedSession). x.name) w.0.sessions) name
    hand = named_hand w keeps r ringed name s is

    stepped : (count : ℕ) → StepsOn hss_judged r s.by count start end → Leads start end r
    stepped count on = steps_on_lead r s.by on refl keeps hand.0 ringed

    ended : RunsOut hss_judged r s.by start end → Leads start end r
    ended runs = runs_lead r s.by runs refl keeps hand.0 ringed

    put_back : Leads start end r → Invariant (with_session end.world name end.session, with_began end.ghost_state name end.began)
    put_back led = back_keeps (end.world, end.ghost_state) led.leaves.0 r (led.same.replicas ∙ ringed) name end.session end.began
        (subst (λ (xs : List NamedSession). Contains (map (λ (x : NamedSession). x.name) xs) name) (sym led.same.sessions) hand.1)
        (led.same.number ∙ ap (λ (bs : List (List ℕ × Began)). (option_map_or (λ (b : List ℕ × Began). b.1) (find (λ (b : List ℕ × Began). bytes_eq b.0 name) bs) began_nothing).number) (sym led.same.told))
        led.leaves.1

    closed : Leads start end r → (said : Said) → Invariant (replied (without_session end.world name) said, without_began end.ghost_state name)
    closed led said = replied_keeps (without_session end.world name, without_began end.ghost_state name) said (closed_keeps (end.world, end.ghost_state) led.leaves.0 r (led.same.replicas ∙ ringed) name)

    step_holds : (count : ℕ) → Leads start end r → HoldsOf w (command.Step name count) (with_session end.world name end.session, with_began end.ghost_state name end.began) []
    step_holds count led = record { more = led.leaves.2; new = led.leaves.3; turns = led.leaves.4; caused = λ shows. absurd shows }

    finish_holds : (said : Said) → end.session.stage ≡ Over (Some said) → RunsOut hss_judged r s.by start end → Leads start end r
        → HoldsOf w (command.Finish name) (replied (without_session end.world name) said, without_began end.ghost_state name) (shown_end end.session said)
    finish_holds said over runs led = record {
      more = led.leaves.2;
      new = led.leaves.3;
      turns = led.leaves.4;
      caused = λ shows. record {
        end = end;
        said = said;
        ends = record { replicas = r; ringed = ringed; start = start; begins = (s, is, refl); runs = runs; over = over; leaves = refl; heard = trails_are_heard r s.by runs };
        asked_by = (s, is, led.same.number, led.same.call.0, led.same.call.1);
        shown = refl;
        cause = cause_told end.ghost_state (without_began end.ghost_state name) end.began.number end.session said refl (said_at_end end r said led.leaves.1 over);
      };
    }

  step_line_holds : (name : List ℕ) (count : ℕ) (o : Option Session) (out : Outcome Played) → session_named w.0 name ≡ o → StepLine hss_judged w name count o out → HoldsThen w (command.Step name count) out
  step_line_holds name count _ _ is none_to_step = tt
  step_line_holds name count _ _ is (out_of_range s far) = tt
  step_line_holds name count _ _ is (steps s r end within ringed on) =
      let led = stepped name s is r ringed end count on in (put_back name s is r ringed end led, step_holds name s is r ringed end count led)

  finish_line_holds : (name : List ℕ) (o : Option Session) (out : Outcome Played) → session_named w.0 name ≡ o → FinishLine hss_judged w name o out → HoldsThen w (command.Finish name) out
  finish_line_holds name _ _ is none_to_end = tt
  finish_line_holds name _ _ is (ends s r end said ringed runs over) =
      let led = ended name s is r ringed end runs in (closed name s is r ringed end led said, finish_holds name s is r ringed end said over runs led)

pub call_lines_keep : CallLinesKeep
call_lines_keep (command.As log pieces) w next output call keeps does = as_holds w keeps log pieces (sending_of w.0 log pieces) (Goes next output) refl does
call_lines_keep (command.Step name count) w next output call keeps does = step_line_holds w keeps name count (session_named w.0 name) (Goes next output) refl does
call_lines_keep (command.Finish name) w next output call keeps does = finish_line_holds w keeps name (session_named w.0 name) (Goes next output) refl does
call_lines_keep _ w next output call keeps does = absurd call
