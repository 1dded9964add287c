-- Where no names of the blocks met collide, a line leaves what replies gave and what open sessions were sent and will say in bytes.
use Rattle.std.proofs.Common.{◌≡◌, inl, inr, ℕ, Bool, true, false, cond, List, [], ◌∷◌, ◌++◌, map, Option, Some, refl, sym, subst}
use Rattle.std.specs.Prelude.{is_some}
use Rattle.std.specs.List.{AllByRecursion}
use Rattle.std.specs.Str.{bytes_eq}
use Rattle.ivy_base.specs.Naming.{IsCollisionFree}
use Rattle.dhash_model.specs.Signed.{hss_judged}
use Rattle.log_model.proofs.Lists.{each, each_append, each_from, from_filter}
use Rattle.session_model.specs.Sessions.{Over, Said, Session}
use Rattle.script_driver.specs.Run.{Goes}
use Rattle.script_model.specs.declared.command.Command.{Command}
use Rattle.script_model.specs.declared.command.Command.TheVariants as command
use Rattle.script_model.specs.declared.command.Piece.{Piece}
use Rattle.script_model.specs.Lines.{command_of}
use Rattle.world_model.specs.Calls.{AsLine, FinishLine, OpenLine, Sending, StepLine, replied, sending_of}
use Rattle.world_model.specs.Calls.AsLine.{calls}
use Rattle.world_model.specs.Calls.OpenLine.{opens}
use Rattle.world_model.specs.Calls.StepLine.{steps}
use Rattle.world_model.specs.Calls.FinishLine.{ends}
use Rattle.world_model.specs.Logs.{Played}
use Rattle.world_model.specs.Step.{Does}
use Rattle.world_model.specs.World.{NamedSession, World, named_bytes, session_named, without_session}
use Rattle.world_laws.specs.FullRuns.{BytesCome, EmptyHasBytes, GivesBytes, HasBytes, IsOfBytes, IsSaidWell, given_of, MessagesAreBytes, Sends}
use Rattle.world_laws.specs.FullTurns.{AreBytes}
use Rattle.world_laws.specs.Effects.{IsOfSessions}
use Rattle.world_laws.specs.Invariant.{Invariant}
use Rattle.world_laws.proofs.AllLines.{does_line}
use Rattle.world_laws.proofs.BytesSteps.{begins_bytes, runs_bytes, steps_bytes}
use Rattle.world_laws.proofs.CallConfigurations.{begun_well, open_well}
use Rattle.world_laws.proofs.LineFits.{Fits, command_fits}
use Rattle.world_laws.proofs.OneCalls.{begins_by, found_session, replied_named}
use Rattle.world_laws.proofs.Opening.{sent_by}
use Rattle.world_laws.proofs.PieceBytes as pieces
use Rattle.world_laws.proofs.QuietLines.{StaysQuiet, quiet_command, runs_same, steps_same}

abbrev SessionOfBytes : NamedSession → Type 0
SessionOfBytes s = IsOfBytes s.session

pub empty_has_bytes : EmptyHasBytes
empty_has_bytes = record { replies = tt; sessions = tt }

-- ---- what a line sends

pub messages_are_bytes : MessagesAreBytes
messages_are_bytes w line log ps s h sends is = pieces.message_bytes w.replies h.replies s.view ps s.message (fit sends) (sent_by w log ps s is).is_message
  where
    fit : Sends line log ps → AllByRecursion pieces.IsOfBytes ps
    fit (inl e) = command_fits line (command.As log ps) e
    fit (inr e) = command_fits line (command.Open e.0 log ps) e.1

-- ---- what a session says

over_gives : (s : Session) (said : Said) → s.stage ≡ Over (Some said) → IsOfBytes s → GivesBytes (given_of said)
over_gives s said over h = subst IsSaidWell over h.said

replied_bytes : (w : World) (said : Said) → GivesBytes (given_of said) → HasBytes w → HasBytes (replied w said)
replied_bytes w said gives h = by (is_some said.message)
  where
    by : (t : Bool) → HasBytes (cond t (record w { replies = w.replies ++ record { handle = said.handle; verifier = said.verifier } ∷ [] }) w)
    by true = record { replies = each_append GivesBytes w.replies (given_of said ∷ []) h.replies (gives, tt); sessions = h.sessions }
    by false = h

same_bytes : (w next : World) → (next.replies ≡ w.replies) × (next.sessions ≡ w.sessions) → HasBytes w → HasBytes next
same_bytes w next same h = record { replies = subst (AllByRecursion GivesBytes) (sym same.0) h.replies; sessions = subst (AllByRecursion SessionOfBytes) (sym same.1) h.sessions }

fewer_bytes : (w : World) (name : List ℕ) → HasBytes w → HasBytes (without_session w name)
fewer_bytes w name h = record {
  replies = h.replies;
  sessions = each_from SessionOfBytes (without_session w name).sessions (λ s c. each SessionOfBytes w.sessions s h.sessions (from_filter _ w.sessions s c).0);
}

placed_bytes : (name : List ℕ) (s : Session) (xs : List NamedSession) → IsOfBytes s → AllByRecursion SessionOfBytes xs
    → AllByRecursion SessionOfBytes (map (λ (x : NamedSession). cond (bytes_eq x.name name) (record { name = name; session = s }) x) xs)
placed_bytes name s [] h all = tt
placed_bytes name s (x ∷ xs) h all = (by (bytes_eq x.name name), placed_bytes name s xs h all.1)
  where
    by : (b : Bool) → SessionOfBytes (cond b (record { name = name; session = s }) x)
    by true = h
    by false = all.0

-- ---- lines

module _ (w : Played) (keeps : Invariant w) (h : HasBytes w.0) where
  pub sent_bytes : (log : List ℕ) (ps : List Piece) → AllByRecursion pieces.IsOfBytes ps → (s : Sending) → sending_of w.0 log ps ≡ Some s → AreBytes s.message
  sent_bytes log ps fits s sends = pieces.message_bytes w.0.replies h.replies s.view ps s.message fits (sent_by w.0 log ps s sends).is_message

  pub named_session_bytes : (name : List ℕ) (s : Session) → session_named w.0 name ≡ Some s → IsOfBytes s
  named_session_bytes name s is = (let x = found_session w.0.sessions name s is in subst IsOfBytes x.3 (each SessionOfBytes w.0.sessions x.0 h.sessions x.1))

  as_bytes : (log : List ℕ) (ps : List Piece) → AllByRecursion pieces.IsOfBytes ps → (o : Option Sending) → sending_of w.0 log ps ≡ o → (next : Played) (output : List ℕ) → AsLine hss_judged w o (Goes next output)
      → IsCollisionFree (named_bytes next.0) → HasBytes next.0
  as_bytes log ps fits _ sends _ _ (calls s r t end said ringed begins runs over) apart =
      let well = begun_well w keeps r ringed log ps s sends t begins in
      let spoken = runs_bytes r runs (begins_by w.0 s t begins) well (subst IsCollisionFree (replied_named end.world said) apart) (begins_bytes w.0 s t begins (sent_bytes log ps fits s sends)) in
      replied_bytes end.world said (over_gives end.session said over spoken) (same_bytes w.0 end.world (runs_same runs) h)

  open_bytes : (name log : List ℕ) (ps : List Piece) → AllByRecursion pieces.IsOfBytes ps → (o : Option Sending) → sending_of w.0 log ps ≡ o → (next : Played) (output : List ℕ) → OpenLine hss_judged w name o (Goes next output) → HasBytes next.0
  open_bytes name log ps fits _ sends _ _ (opens s t closed begins) =
      record { replies = h.replies; sessions = each_append SessionOfBytes w.0.sessions (record { name = name; session = t } ∷ []) h.sessions (begins_bytes w.0 s t begins (sent_bytes log ps fits s sends), tt) }

  step_bytes : (name : List ℕ) (count : ℕ) (o : Option Session) → session_named w.0 name ≡ o → (next : Played) (output : List ℕ) → StepLine hss_judged w name count o (Goes next output) → IsCollisionFree (named_bytes next.0) → HasBytes next.0
  step_bytes name count _ is _ _ (steps s r end counts ringed on) apart =
      let then_so = steps_bytes r on refl (open_well w keeps r ringed name s is) apart (named_session_bytes name s is) in
      let all = same_bytes w.0 end.world (steps_same on) h in
      record { replies = all.replies; sessions = placed_bytes name end.session end.world.sessions then_so all.sessions }

  finish_bytes : (name : List ℕ) (o : Option Session) → session_named w.0 name ≡ o → (next : Played) (output : List ℕ) → FinishLine hss_judged w name o (Goes next output) → IsCollisionFree (named_bytes next.0) → HasBytes next.0
  finish_bytes name _ is _ _ (ends s r end said ringed runs over) apart =
      let spoken = runs_bytes r runs refl (open_well w keeps r ringed name s is) (subst IsCollisionFree (replied_named (without_session end.world name) said) apart) (named_session_bytes name s is) in
      replied_bytes (without_session end.world name) said (over_gives end.session said over spoken) (fewer_bytes end.world name (same_bytes w.0 end.world (runs_same runs) h))

  quiet_bytes : (c : Command) → (IsOfSessions c → ⊥) → (next : Played) (output : List ℕ) → Does hss_judged w c (Goes next output) → HasBytes next.0
  quiet_bytes c other next output does =
      let quiet : StaysQuiet w.0 next.0 output = quiet_command w c other (Goes next output) does in record {
        replies = subst (AllByRecursion GivesBytes) (sym quiet.replies) h.replies;
        sessions = each_from SessionOfBytes next.0.sessions (λ s c. each SessionOfBytes w.0.sessions s h.sessions (quiet.sessions s c));
      }

-- ---- the whole

-- a command is of sessions, or isn't
pub data IsWhich : Command → Type 0 where
  as_command : (log : List ℕ) (ps : List Piece) → IsWhich (command.As log ps)
  open_command : (session log : List ℕ) (ps : List Piece) → IsWhich (command.Open session log ps)
  step_command : (session : List ℕ) (count : ℕ) → IsWhich (command.Step session count)
  finish_command : (session : List ℕ) → IsWhich (command.Finish session)
  another : {c : Command} → (IsOfSessions c → ⊥) → IsWhich c

pub which : (c : Command) → IsWhich c
which (command.As log ps) = as_command log ps
which (command.Open session log ps) = open_command session log ps
which (command.Step session count) = step_command session count
which (command.Finish session) = finish_command session
which _ = another (λ no. no)

pub bytes_come : BytesCome
bytes_come w next line output keeps h apart step =
    let done = does_line w next output (command_of line) step in
    by done.0 (which done.0) (command_fits line done.0 done.1) done.2
  where
    by : (c : Command) → IsWhich c → Fits c → Does hss_judged w c (Goes next output) → HasBytes next.0
    by _ (as_command log ps) fits does = as_bytes w keeps h log ps fits (sending_of w.0 log ps) refl next output does apart
    by _ (open_command session log ps) fits does = open_bytes w keeps h session log ps fits (sending_of w.0 log ps) refl next output does
    by _ (step_command session count) fits does = step_bytes w keeps h session count (session_named w.0 session) refl next output does apart
    by _ (finish_command session) fits does = finish_bytes w keeps h session (session_named w.0 session) refl next output does apart
    by c (another other) fits does = quiet_bytes w keeps h c other next output does
