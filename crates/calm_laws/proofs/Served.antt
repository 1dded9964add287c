-- Each whole call in a calm script, where of each log a head was put, misses nothing.
use Rattle.std.proofs.Common.{◌≡◌, ◌⊎◌, inl, ⊎_elim, Contains, ℕ, List, Option, Some, None, refl, sym, ap, ◌∙◌, subst}
use Rattle.dhash_model.specs.Signed.{hss_judged}
use Rattle.log_model.specs.View.{View}
use Rattle.script_driver.specs.Run.{Goes}
use Rattle.script_model.specs.Lines.{command_of}
use Rattle.script_model.specs.Messages.{message_of}
use Rattle.script_model.specs.Words.{◌>>=◌}
use Rattle.script_model.specs.declared.command.Command.{Command}
use Rattle.script_model.specs.declared.command.Command.TheVariants as command
use Rattle.script_model.specs.declared.command.Piece.{Piece}
use Rattle.session_model.specs.Executions.Begins.{alone as begins_alone, refreshes as begins_refreshing}
use Rattle.session_model.specs.Sessions.{Over, Said, Session, Stage}
use Rattle.world_model.specs.Calls.{AsLine, BeginsWith, Sending, replied, sending_of, shown_end}
use Rattle.world_model.specs.Calls.AsLine.{calls}
use Rattle.world_model.specs.Logs.{Played}
use Rattle.world_model.specs.Step.{Does}
use Rattle.world_model.specs.Steps.{RunsOut, Configuration}
use Rattle.world_model.specs.GhostState.{HadTurn, beginning, having_begun}
use Rattle.world_model.specs.World.{Participant, World, participant}
use Rattle.calm_laws.specs.Calm.{IsCalmAt, Stopped}
use Rattle.world_laws.specs.Causes.{HasCause, said_at}
use Rattle.world_laws.specs.Invariant.{HasSaid, IsInHand, Invariant}
use Rattle.world_laws.proofs.AllLines.{does_line}
use Rattle.world_laws.proofs.Bringing.{found_named}
use Rattle.world_laws.proofs.EachLine.{each_line_keeps}
use Rattle.world_laws.proofs.HeadlineOfTrails.{trails_are_heard}
use Rattle.world_laws.proofs.OneSteps.{GoesWell}
use Rattle.world_laws.proofs.SessionLinesSteps.{Leads, runs_lead}
use Rattle.calm_laws.specs.Completeness.{CallsMissNothingBehindHeads, HaveHeads, IsLineServed}
use Rattle.calm_laws.proofs.CallLines.{IsSentBy, begun_well, sent_by}
use Rattle.calm_laws.proofs.CallSteps.{AreApart, IsInCall, IsPast, begins_on, past_told, runs_apart, runs_on, runs_past}
use Rattle.calm_laws.proofs.Standing.{IsCalmWorld, calm_world}
use Rattle.calm_laws.proofs.Whole.{world_backed}
use Rattle.calm_laws.proofs.BackedWorlds.{IsBackedWorld}

-- what is sent is the message of the pieces
sent_message : (w : World) (name : List ℕ) (pieces : List Piece) (s : Sending) → sending_of w name pieces ≡ Some s → message_of w.replies s.view pieces ≡ Some s.message
sent_message w name pieces s is = by_participant (participant w name) is
  where
    some_sending : (a b : Sending) → Some a ≡ Some b → a ≡ b
    some_sending a b e = cc e

    by_message : (p : Participant) (view : View) (o : Option (List ℕ)) → message_of w.replies view pieces ≡ o → (o >>= λ message. Some (record { by = p; view = view; message = message })) ≡ Some s → message_of w.replies s.view pieces ≡ Some s.message
    by_message p view None at e = cc e
    by_message p view (Some message) at e = subst (λ (x : Sending). message_of w.replies x.view pieces ≡ Some x.message) (some_sending (record { by = p; view = view; message = message }) s e) at

    by_view : (p : Participant) (o : Option View) → (o >>= λ view. message_of w.replies view pieces >>= λ message. Some (record { by = p; view = view; message = message })) ≡ Some s → message_of w.replies s.view pieces ≡ Some s.message
    by_view p None e = cc e
    by_view p (Some view) e = by_message p view (message_of w.replies view pieces) refl e

    by_participant : (o : Option Participant) → (o >>= λ p. p.agent.view >>= λ view. message_of w.replies view pieces >>= λ message. Some (record { by = p; view = view; message = message })) ≡ Some s → message_of w.replies s.view pieces ≡ Some s.message
    by_participant None e = cc e
    by_participant (Some p) e = by_view p p.agent.view e

begins_same : (w : World) (s : Sending) (t : Session) → BeginsWith w s t → (t.by ≡ s.by.name) × (t.message ≡ s.message) × (t.standing.view ≡ s.view)
begins_same w s _ (begins_alone given by) = (refl, refl, refl)
begins_same w s _ (begins_refreshing xid asked asks) = (refl, refl, refl)

said_at_end : (c : Configuration) (r : ℕ) (said : Said) → IsInHand c r → c.session.stage ≡ Over (Some said) → HasCause c.ghost_state c.began.number c.session said
said_at_end c r said hand over = subst (λ (x : Stage). HasSaid c.ghost_state c.began.number c.session (said_at x)) over hand.said

one_number : (a b : ℕ) → Some a ≡ Some b → a ≡ b
one_number a b e = cc e

one_command : (c d : Command) → Some c ≡ Some d → c ≡ d
one_command c d e = cc e

module _ (r : ℕ) (w : Played) (keeps : Invariant w) (world : IsCalmWorld r w) (backed : IsBackedWorld w.0 w.1) (count : ℕ) (lines : List (List ℕ)) (calm : IsCalmAt r w (Stopped count) lines) (have : HaveHeads w) (log : List ℕ) (pieces : List Piece) where
  served : (k : ℕ) → w.0.replicas ≡ Some k → k ≡ r → (s : Sending) → sending_of w.0 log pieces ≡ Some s → (t : Session) (end : Configuration) (said : Said) → BeginsWith w.0 s t
      → RunsOut hss_judged k s.by.name (record { world = w.0; ghost_state = having_begun w.1; session = t; began = beginning w.1 s.by.name }) end → end.session.stage ≡ Over (Some said)
      → (next : Played) → next ≡ (replied end.world said, end.ghost_state) → IsLineServed w (command.As log pieces) next (shown_end end.session said)
  served k also same s sends t end said begins runs over next next_is = record {
    caused = record {
      end = end;
      said = said;
      ends = record { replicas = r; ringed = ringed; start = start; begins = (s, t, sends, begins, refl); runs = its_runs; over = over; leaves = next_is; heard = trails_are_heard r t.by its_runs };
      asked_by = (led.same.number, led.same.call.0 ∙ first.0 ∙ named, asked);
      shown = refl;
      cause = subst (λ st. HasCause st end.began.number end.session said) (sym (ap (λ (n : Played). n.1) next_is)) (said_at_end end r said led.leaves.1 over);
    };
    missed_nothing = ⊎_elim (λ on. runs_on r w world backed calm.apart calm.no_key have mine first.0 on) (λ past. runs_past r mine past) begun;
    apart = subst (λ (n : Played). AreApart w.1.turns n.1.turns) (sym next_is)
        (⊎_elim (λ on. runs_apart r w world backed calm.apart calm.no_key have mine first.0 on) (λ past h c. inl (subst (λ (l : List HadTurn). Contains l h) (past_told r mine past) c)) begun);
  }
    where
      start : Configuration
      start = record { world = w.0; ghost_state = having_begun w.1; session = t; began = beginning w.1 s.by.name }

      sent : IsSentBy w.0 log s
      sent = sent_by w.0 log pieces s sends

      named : s.by.name ≡ log
      named = (found_named w.0.participants log s.by sent.0).1

      by_name : participant w.0 s.by.name ≡ Some s.by
      by_name = ap (participant w.0) named ∙ sent.0

      ringed : w.0.replicas ≡ Some r
      ringed = world.state.still.replicas

      mine : RunsOut hss_judged r s.by.name start end
      mine = subst (λ x. RunsOut hss_judged x s.by.name start end) same runs

      well : GoesWell r start
      well = begun_well w keeps backed r ringed log pieces s sends t begins

      begun : IsInCall r w world backed calm.apart calm.no_key have start ⊎ IsPast start.session
      begun = begins_on r w world backed calm.apart calm.no_key have keeps s t start well by_name sent.1 begins refl

      first : (t.by ≡ s.by.name) × (t.message ≡ s.message) × (t.standing.view ≡ s.view)
      first = begins_same w.0 s t begins

      its_runs : RunsOut hss_judged r t.by start end
      its_runs = subst (λ (n : List ℕ). RunsOut hss_judged r n start end) (sym first.0) mine

      led : Leads start end r
      led = runs_lead r s.by.name mine first.0 well.keeps well.hand ringed

      asked : message_of w.0.replies end.session.standing.view pieces ≡ Some end.session.message
      asked = ap (λ (v : View). message_of w.0.replies v pieces) (led.same.call.2 ∙ first.2) ∙ sent_message w.0 log pieces s sends ∙ ap (λ (m : List ℕ). Some m) (sym (led.same.call.1 ∙ first.1))

  pub as_served : (o : Option Sending) → sending_of w.0 log pieces ≡ o → (next : Played) (output : List ℕ) → AsLine hss_judged w o (Goes next output) → IsLineServed w (command.As log pieces) next output
  as_served _ sends _ _ (calls s k t end said also begins runs over) = served k also (one_number k r (sym also ∙ world.state.still.replicas)) s sends t end said begins runs over _ refl

pub calls_miss_nothing_behind_heads : CallsMissNothingBehindHeads
calls_miss_nothing_behind_heads r w next count lines line name output pieces calm have is step =
    let done = does_line w next output (command_of line) step in
    let world = calm_world r w count lines calm in
    let does : Does hss_judged w (command.As name pieces) (Goes next output) = subst (λ (d : Command). Does hss_judged w d (Goes next output)) (one_command done.0 (command.As name pieces) (sym done.1 ∙ is)) done.2 in
    as_served r w world.keeps world (world_backed each_line_keeps r w (Stopped count) lines calm) count lines calm have name pieces (sending_of w.0 name pieces) refl next output does
