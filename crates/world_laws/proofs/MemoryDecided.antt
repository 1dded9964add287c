-- Of each line it is decided whether memory was there: by how the sessions of the line end.
use Rattle.std.proofs.Common.{◌≡◌, ◌≢◌, ◌⊎◌, inl, inr, ℕ, Bool, cond, List, [], ◌∷◌, ◌++◌, map, Option, Some, None, refl, sym, ap, ◌∙◌, subst, Contains}
use Rattle.std.specs.List.{flat_map}
use Rattle.std.specs.Str.{bytes_eq}
use Rattle.std.proofs.lemmas.Slice.Eq.{bytes_eq-Decides}
use Rattle.wire_model.specs.Rpc.{SystemError, reply}
use Rattle.dhash_model.specs.Signed.{hss_judged}
use Rattle.dht_ids.specs.declared.post.Ack.{Ack}
use Rattle.dht_ids.specs.declared.post.Post.{Post}
use Rattle.log_model.proofs.Lists.{each_append, from_filter}
use Rattle.session_model.specs.Replies.{said_no_memory}
use Rattle.session_model.specs.Sessions.{Over, Publishing, Refreshing, Said, Session, Stage}
use Rattle.script_driver.specs.Run.{Outcome, Goes, Ends, Refuses, Exceeds}
use Rattle.script_model.specs.declared.command.Command.{Command}
use Rattle.script_model.specs.declared.command.Command.TheVariants as command
use Rattle.script_model.specs.declared.command.Piece.{Piece}
use Rattle.script_model.specs.Lines.{command_of}
use Rattle.world_model.specs.Calls.{AsLine, FinishLine, OpenLine, Sending, StepLine, replied, reply_line, sending_of, shown_end, shown_miss, shown_note}
use Rattle.world_model.specs.Calls.AsLine.{sends_nothing as whole_sends_nothing, calls}
use Rattle.world_model.specs.Calls.OpenLine.{sends_nothing as opening_sends_nothing, is_open, opens}
use Rattle.world_model.specs.Calls.StepLine.{not_open as stepping_not_open, out_of_range, steps}
use Rattle.world_model.specs.Calls.FinishLine.{not_open as finishing_not_open, ends}
use Rattle.world_model.specs.Logs.{Played}
use Rattle.world_model.specs.Step.{Does}
use Rattle.world_model.specs.Steps.{RunsOut, Configuration, StepsOn}
use Rattle.world_model.specs.Steps.RunsOut.{is_over as runs_over, more as runs_more}
use Rattle.world_model.specs.GhostState.{beginning, having_begun, with_began, without_began}
use Rattle.world_model.specs.World.{NamedSession, session_named, with_session, without_session}
use Rattle.world_laws.specs.Causes.{HasCause, said_at}
use Rattle.world_laws.specs.FullRuns.{Clashes, LackedMemory, MemoryIsDecided}
use Rattle.world_laws.specs.Invariant.{HasSaid, Invariant}
use Rattle.world_laws.specs.Laws.{HadMemory, HasMemoryIn}
use Rattle.world_laws.proofs.AllLines.{does_line}
use Rattle.world_laws.proofs.BytesLines.{IsWhich, another, as_command, finish_command, open_command, step_command, which}
use Rattle.world_laws.proofs.CallConfigurations.{begun_configuration, begun_well, open_configuration, open_well}
use Rattle.world_laws.proofs.Frames.{into_map}
use Rattle.world_laws.proofs.FullLines.{IsFull, as_before, full, it_stands, no_text, over_stays, put_before, replied_sessions}
use Rattle.world_laws.proofs.FullConfigurations.{begins_memory}
use Rattle.world_laws.proofs.OneCalls.{begins_by, shows_so}
use Rattle.world_laws.proofs.OneSteps.{GoesWell, over_steps}
use Rattle.world_laws.proofs.QuietLines.{Quietly, quiet_command, runs_same, steps_same}
use Rattle.world_laws.proofs.SessionLinesSteps.{runs_lead, steps_on_lead}
use Rattle.world_laws.proofs.ShownReplies.{ShowsOther, cause_shows, lack_shown, said_other}

-- memory was there, or ran out; or names clash
abbrev IsDecided : Played → List ℕ → Outcome Played → Type 0
IsDecided w line outcome = HadMemory w line outcome ⊎ (LackedMemory w line outcome ⊎ Clashes outcome)

-- as where memory was there
decided : (w : Played) (line : List ℕ) (outcome : Outcome Played) → IsFull w line outcome → IsDecided w line outcome
decided w line outcome (inl memory) = inl memory
decided w line outcome (inr clash) = inr (inr clash)

had : (w : Played) (line : List ℕ) (next : Played) (output : List ℕ) → HasMemoryIn w.0 next.0 line output → IsDecided w line (Goes next output)
had w line next output memory = decided w line (Goes next output) (full w line next output memory)

-- ---- how a session ends

-- what it says has its cause
run_cause : (r : ℕ) (c end : Configuration) → GoesWell r c → RunsOut hss_judged r c.session.by c end → (said : Said) → end.session.stage ≡ Over (Some said) → HasCause end.ghost_state end.began.number end.session said
run_cause r c end well runs said over = subst (λ (x : Stage). HasSaid end.ghost_state end.began.number end.session (said_at x)) over (runs_lead r c.session.by runs refl well.keeps well.hand well.ringed).leaves.1.said

steps_cause : (r : ℕ) {count : ℕ} (c end : Configuration) → GoesWell r c → StepsOn hss_judged r c.session.by count c end → (said : Said) → end.session.stage ≡ Over (Some said) → HasCause end.ghost_state end.began.number end.session said
steps_cause r c end well runs said over = subst (λ (x : Stage). HasSaid end.ghost_state end.began.number end.session (said_at x)) over (steps_on_lead r c.session.by runs refl well.keeps well.hand well.ringed).leaves.1.said

-- a session that was over is as it was
run_stays : {r : ℕ} {name : List ℕ} {c end : Configuration} → RunsOut hss_judged r name c end → (o : Option Said) → c.session.stage ≡ Over o → end.session ≡ c.session
run_stays (runs_over said at) o over = refl
run_stays {r = r} (runs_more step rest) o over = absurd (over_steps r step o over)

refreshing_is : (o : Option Said) → Refreshing ≡ Over o → ⊥
refreshing_is o e = cc e

publishing_is : (said : Option Said) (posts : List Post) (acks : List Ack) (o : Option Said) → Publishing said posts acks ≡ Over o → ⊥
publishing_is said posts acks o e = cc e

none_said : (said : Said) → Over None ≡ Over (Some said) → ⊥
none_said said e = cc e

said_is : (a b : Said) → Over (Some a) ≡ Over (Some b) → a ≡ b
said_is a b e = cc e

-- whether a stage is the end
is_over_or_not : (stage : Stage) → ((o : Option Said) × (stage ≡ Over o)) ⊎ ((o : Option Said) → stage ≢ Over o)
is_over_or_not (Over o) = inl (o, refl)
is_over_or_not Refreshing = inr (λ o e. absurd (refreshing_is o e))
is_over_or_not (Publishing said posts acks) = inr (λ o e. absurd (publishing_is said posts acks o e))

-- ---- lines

module _ (w : Played) (line : List ℕ) (keeps : Invariant w) where
  -- what a call that ends shows is another reply
  shows_end : (s : Session) (said : Said) → ShowsOther said.message → (xid : ℕ) (rest : List ℕ) → shown_end s said ≡ reply_line (reply xid SystemError) ++ rest → ⊥
  shows_end s said other xid rest e = other xid (shown_miss s.missed) (flat_map shown_note s.notes) rest e

  -- or that one
  shows_lack : (s : Session) (said : Said) (xid : ℕ) → said ≡ said_no_memory xid → (next : Played) → IsDecided w line (Goes next (shown_end s said))
  shows_lack s said xid is next = inr (inl (inl (xid, shown_miss s.missed ++ flat_map shown_note s.notes, shows_so s xid said is)))

  as_decided : (log : List ℕ) (ps : List Piece) (o : Option Sending) → sending_of w.0 log ps ≡ o → {outcome : Outcome Played} → AsLine hss_judged w o outcome → IsDecided w line outcome
  as_decided log ps _ sends whole_sends_nothing = inl tt
  as_decided log ps _ sends (calls s r t end said ringed begins runs over) =
      let well = begun_well w keeps r ringed log ps s sends t begins in
      let its_runs : RunsOut hss_judged r t.by (begun_configuration w s t) end = subst (λ (n : List ℕ). RunsOut hss_judged r n (begun_configuration w s t) end) (sym (begins_by w.0 s t begins)) runs in
      elim (cause_shows (run_cause r (begun_configuration w s t) end well its_runs said over)) [
        | inl lacks ↦ shows_lack end.session said lacks.0 lacks.1 (replied end.world said, end.ghost_state)
        | inr other ↦ had w line (replied end.world said, end.ghost_state) (shown_end end.session said) (record {
          shown = λ xid rest e. absurd (shows_end end.session said other xid rest e);
          sessions = as_before w.0 (replied end.world said).sessions (λ x c. subst (λ (ss : List NamedSession). Contains ss x) (replied_sessions end.world said ∙ (runs_same runs).1) c);
        })
      ]

  open_decided : (name : List ℕ) (o : Option Sending) {outcome : Outcome Played} → OpenLine hss_judged w name o outcome → IsDecided w line outcome
  open_decided name _ opening_sends_nothing = inl tt
  open_decided name _ (is_open s already) = inl tt
  open_decided name _ (opens s t closed begins) = had w line (record w.0 { sessions = w.0.sessions ++ record { name = name; session = t } ∷ [] }, record (having_begun w.1) { sessions = w.1.sessions ++ (name, beginning w.1 s.by.name) ∷ [] }) [] (record {
    shown = λ xid rest e. absurd (no_text xid rest e);
    sessions = each_append (λ x. (xid : ℕ) → x.session.stage ≡ Over (Some (said_no_memory xid)) → Contains w.0.sessions x) w.0.sessions (record { name = name; session = t } ∷ [])
        (as_before w.0 w.0.sessions (λ x c. c)) ((λ xid over. absurd (begins_memory w.0 s t begins xid over)), tt);
  })

  module _ (name : List ℕ) (s : Session) (is : session_named w.0 name ≡ Some s) (r : ℕ) (ringed : w.0.replicas ≡ Some r) where
    here_well : GoesWell r (open_configuration w name s)
    here_well = open_well w keeps r ringed name s is

    module _ {count : ℕ} (end : Configuration) (on : StepsOn hss_judged r s.by count (open_configuration w name s) end) where
      abbrev stepped : Played
      stepped = (with_session end.world name end.session, with_began end.ghost_state name end.began)

      -- where the session isn't over because memory ran out, but where it was before
      steps_had : ((xid : ℕ) → end.session.stage ≡ Over (Some (said_no_memory xid)) → end.session ≡ s) → IsDecided w line (Goes stepped [])
      steps_had before = had w line stepped [] (record {
        shown = λ xid rest e. absurd (no_text xid rest e);
        sessions = put_before w.0 name end.session end.world.sessions (λ xid over. subst (λ (u : Session). Contains w.0.sessions (record { name = name; session = u })) (sym (before xid over)) (it_stands w.0 name s is))
            (as_before w.0 end.world.sessions (λ x c. subst (λ (ss : List NamedSession). Contains ss x) (steps_same on).1 c));
      })

      -- the session stands in its place
      steps_stand : Contains stepped.0.sessions (record { name = name; session = end.session })
      steps_stand =
          let replaced : NamedSession → NamedSession = λ x. cond (bytes_eq x.name name) (record { name = name; session = end.session }) x in
          let stood : Contains end.world.sessions (record { name = name; session = s }) = subst (λ (ss : List NamedSession). Contains ss (record { name = name; session = s })) (sym (steps_same on).1) (it_stands w.0 name s is) in
          subst (Contains (map replaced end.world.sessions)) (ap (λ (b : Bool). cond b (record { name = name; session = end.session }) (record { name = name; session = s })) ((bytes_eq-Decides name name).1 refl))
          (into_map replaced end.world.sessions (record { name = name; session = s }) stood)

      -- it is over: because memory ran out, before or by these steps, or not
      steps_over : (said : Said) → end.session.stage ≡ Over (Some said) → IsDecided w line (Goes stepped [])
      steps_over said over = elim (cause_shows (steps_cause r (open_configuration w name s) end here_well on said over)) [
        | inr other ↦ steps_had (λ xid over_so. absurd (said_other said other xid (said_is said (said_no_memory xid) (sym over ∙ over_so))))
        | inl lacks ↦ elim (is_over_or_not s.stage) [
          | inl before ↦ steps_had (λ xid over_so. over_stays on before.0 before.1)
          | inr not_over ↦ inr (inl (inr (record {
            name = name;
            before = s;
            after = end.session;
            xid = lacks.0;
            was = is;
            not_over = not_over;
            stands = steps_stand;
            over = over ∙ ap (λ (m : Said). Over (Some m)) lacks.1;
          })))
        ]
      ]

      steps_decided : IsDecided w line (Goes stepped [])
      steps_decided = by end.session.stage refl
        where
          by : (stage : Stage) → end.session.stage ≡ stage → IsDecided w line (Goes stepped [])
          by (Over (Some said)) at = steps_over said at
          by (Over None) at = steps_had (λ xid over. absurd (none_said (said_no_memory xid) (sym at ∙ over)))
          by Refreshing at = steps_had (λ xid over. absurd (refreshing_is (Some (said_no_memory xid)) (sym at ∙ over)))
          by (Publishing said posts acks) at = steps_had (λ xid over. absurd (publishing_is said posts acks (Some (said_no_memory xid)) (sym at ∙ over)))

    -- it is brought to its end
    module _ (is_finish : command_of line ≡ Some (command.Finish name)) (end : Configuration) (said : Said) (runs : RunsOut hss_judged r s.by (open_configuration w name s) end) (over : end.session.stage ≡ Over (Some said)) where
      abbrev finished : Played
      finished = (replied (without_session end.world name) said, without_began end.ghost_state name)

      finish_had : ((xid : ℕ) (rest : List ℕ) → shown_end end.session said ≡ reply_line (reply xid SystemError) ++ rest → s.stage ≡ Over (Some (said_no_memory xid))) → IsDecided w line (Goes finished (shown_end end.session said))
      finish_had before = had w line finished (shown_end end.session said) (record {
        shown = λ xid rest e. (record { name = name; session = s }, it_stands w.0 name s is, is_finish, before xid rest e);
        sessions = as_before w.0 finished.0.sessions (λ x c.
            let left = subst (λ (ss : List NamedSession). Contains ss x) (replied_sessions (without_session end.world name) said) c in
            subst (λ (ss : List NamedSession). Contains ss x) (runs_same runs).1 (from_filter _ end.world.sessions x left).0);
      })

      finish_decided : IsDecided w line (Goes finished (shown_end end.session said))
      finish_decided = elim (cause_shows (run_cause r (open_configuration w name s) end here_well runs said over)) [
        | inr other ↦ finish_had (λ xid rest e. absurd (shows_end end.session said other xid rest e))
        | inl lacks ↦ elim (is_over_or_not s.stage) [
          | inr not_over ↦ shows_lack end.session said lacks.0 lacks.1 finished
          | inl before ↦ finish_had (λ xid rest e.
              let same : said_no_memory lacks.0 ≡ said_no_memory xid = lack_shown lacks.0 xid _ rest (sym (shows_so end.session lacks.0 said lacks.1) ∙ e) in
              ap (λ (t : Session). t.stage) (sym (run_stays runs before.0 before.1)) ∙ over ∙ ap (λ (m : Said). Over (Some m)) (lacks.1 ∙ same))
        ]
      ]

  step_line_decided : (name : List ℕ) (count : ℕ) (o : Option Session) → session_named w.0 name ≡ o → {outcome : Outcome Played} → StepLine hss_judged w name count o outcome → IsDecided w line outcome
  step_line_decided name count _ is stepping_not_open = inl tt
  step_line_decided name count _ is (out_of_range s wrong) = inl tt
  step_line_decided name count _ is (steps s r end counts ringed on) = steps_decided name s is r ringed end on

  finish_line_decided : (name : List ℕ) → command_of line ≡ Some (command.Finish name) → (o : Option Session) → session_named w.0 name ≡ o → {outcome : Outcome Played} → FinishLine hss_judged w name o outcome → IsDecided w line outcome
  finish_line_decided name is_finish _ is finishing_not_open = inl tt
  finish_line_decided name is_finish _ is (ends s r end said ringed runs over) = finish_decided name s is r ringed is_finish end said runs over

  quiet_decided : (outcome : Outcome Played) → Quietly w outcome → IsDecided w line outcome
  quiet_decided (Goes next output) quiet = had w line next output (record { shown = λ xid rest e. absurd (quiet.shown xid rest e); sessions = as_before w.0 next.0.sessions quiet.sessions })
  quiet_decided Ends quiet = inl tt
  quiet_decided Refuses quiet = inl tt
  quiet_decided Exceeds quiet = inl tt

  command_decided : (c : Command) → command_of line ≡ Some c → (outcome : Outcome Played) → Does hss_judged w c outcome → IsDecided w line outcome
  command_decided c is outcome does = by c (which c) is does
    where
      by : (c : Command) → IsWhich c → command_of line ≡ Some c → Does hss_judged w c outcome → IsDecided w line outcome
      by _ (as_command log ps) is does = as_decided log ps (sending_of w.0 log ps) refl does
      by _ (open_command session log ps) is does = open_decided session (sending_of w.0 log ps) does
      by _ (step_command session count) is does = step_line_decided session count (session_named w.0 session) refl does
      by _ (finish_command session) is does = finish_line_decided session is (session_named w.0 session) refl does
      by c (another other) is does = quiet_decided outcome (quiet_command w c other outcome does)

pub memory_is_decided : MemoryIsDecided
memory_is_decided w line (Goes next output) keeps step = (let done = does_line w next output (command_of line) step in command_decided w line keeps done.0 done.1 (Goes next output) done.2)
memory_is_decided w line Ends keeps step = inl tt
memory_is_decided w line Refuses keeps step = inl tt
memory_is_decided w line Exceeds keeps step = inl tt
