-- Where agents have room each line has an outcome in which memory was there, or one in which names clash.
use Rattle.std.proofs.Common.{◌≡◌, ◌⊎◌, inl, inr, ℕ, Bool, true, false, cond, List, [], ◌∷◌, ◌++◌, map, Option, Some, None, refl, sym, ap, ◌∙◌, subst, Contains}
use Rattle.std.specs.Prelude.{IfSome, MatchBool, is_some, length, nat_lt, sum_by}
use Rattle.std.specs.List.{AllByRecursion, flat_map}
use Rattle.std.specs.Str.{bytes_eq}
use Rattle.std.proofs.lemmas.Bool.{ltb-false}
use Rattle.ivy_base.specs.Naming.{HasClash}
use Rattle.wire_model.specs.Rpc.{SystemError, reply}
use Rattle.dhash_model.specs.Signed.{hss_judged}
use Rattle.log_model.proofs.Lists.{each, each_append, each_from, from_filter}
use Rattle.turn_laws.specs.Laws.{HasRoom}
use Rattle.session_model.specs.Replies.{said_no_memory}
use Rattle.session_model.specs.Sessions.{Over, Said, Session, Stage}
use Rattle.script_driver.specs.Run.{Outcome, Goes, Ends, Refuses, Exceeds}
use Rattle.script_model.specs.declared.command.Command.{Command}
use Rattle.script_model.specs.declared.command.Command.TheVariants as command
use Rattle.script_model.specs.declared.command.Piece.{Piece}
use Rattle.script_model.specs.Lines.{command_of}
use Rattle.world_model.specs.Agents.{hss_standing_in}
use Rattle.world_model.specs.Calls.{AsLine, BeginsWith, FinishLine, OpenLine, Sending, StepLine, is_step_count, replied, reply_line, sending_of, shown_end, shown_miss, shown_note}
use Rattle.world_model.specs.Calls.AsLine.{sends_nothing as whole_sends_nothing, calls}
use Rattle.world_model.specs.Calls.OpenLine.{sends_nothing as opening_sends_nothing, is_open, opens}
use Rattle.world_model.specs.Calls.StepLine.{not_open as stepping_not_open, out_of_range, steps}
use Rattle.world_model.specs.Calls.FinishLine.{not_open as finishing_not_open, ends}
use Rattle.world_model.specs.Logs.{Played}
use Rattle.world_model.specs.Step.{Does, MayDo, MayDoFirst, WithinLimit, is_end, most_bytes}
use Rattle.world_model.specs.Steps.{RunsOut, Configuration, StepsOn}
use Rattle.world_model.specs.Steps.StepsOn.{is_over as steps_over, more as steps_more, none as steps_none}
use Rattle.world_model.specs.Steps.RunsOut.{is_over as runs_over, more as runs_more}
use Rattle.world_model.specs.GhostState.{beginning, having_begun, with_began, without_began}
use Rattle.world_model.specs.World.{NamedSession, Participant, World, entries, named_bytes, participant, session_named, with_session, without_session}
use Rattle.world_laws.specs.Causes.{HasCause, said_at}
use Rattle.world_laws.specs.FullRuns.{Clashes, FullLines, HasBytes, HaveRoom, MetLittle}
use Rattle.world_laws.specs.Effects.{IsOfSessions}
use Rattle.world_laws.specs.Invariant.{HasSaid, IsAtStage, Invariant}
use Rattle.world_laws.specs.Laws.{HadMemory, HasMemoryIn}
use Rattle.world_laws.proofs.Apart.{clash_is_decided}
use Rattle.world_laws.proofs.Bringing.{found_named}
use Rattle.world_laws.proofs.BytesLines.{IsWhich, another, as_command, finish_command, named_session_bytes, open_command, sent_bytes, step_command, which}
use Rattle.world_laws.proofs.BytesSteps.{begins_bytes}
use Rattle.world_laws.proofs.CallConfigurations.{begun_configuration, begun_well, open_configuration, open_well}
use Rattle.world_laws.proofs.Existing.{command_does}
use Rattle.world_laws.proofs.ExistingCalls.{some_open, some_participant}
use Rattle.world_laws.proofs.ExistingMessages.{some_session}
use Rattle.world_laws.proofs.FullConfigurations.{LacksBefore, RunsWell, begins_memory, configuration_runs, configuration_steps}
use Rattle.world_laws.proofs.LineFits.{Fits, command_fits}
use Rattle.world_laws.proofs.OneCalls.{begins_by, found_session, replied_named, shows_so}
use Rattle.world_laws.proofs.OneSteps.{GoesWell, over_steps}
use Rattle.world_laws.proofs.Opening.{sent_by}
use Rattle.world_laws.proofs.PieceBytes as pieces
use Rattle.world_laws.proofs.QuietLines.{Quietly, quiet_command, runs_same, steps_same}
use Rattle.world_laws.proofs.SessionLinesSteps.{runs_lead}
use Rattle.world_laws.proofs.ShownReplies.{cause_shows, lack_shown}

-- where the line goes on, memory was there and no names collide, or names clash
abbrev pub IsFull : Played → List ℕ → Outcome Played → Type 0
IsFull w line outcome = HadMemory w line outcome ⊎ Clashes outcome

-- there is such an outcome
abbrev HasFull : Played → List ℕ → (Outcome Played → Type 0) → Type 0
HasFull w line Does = (outcome : Outcome Played) × Does outcome × IsFull w line outcome

-- ---- the end of a session

-- what it says there, and that it shows no reply when out of memory, if it isn't over so
run_over : {r : ℕ} {name : List ℕ} {c end : Configuration} → RunsOut hss_judged r name c end → (o : Option Said) × (end.session.stage ≡ Over o)
run_over (runs_over said over) = (said, over)
run_over (runs_more step rest) = run_over rest

-- it says something; and what is shown of it begins with a reply when out of memory only where that was said before
record IsEnd (c end : Configuration) : Type 0 where
  said : Said
  over : end.session.stage ≡ Over (Some said)
  shown : LacksBefore c end → (xid : ℕ) (rest : List ℕ) → shown_end end.session said ≡ reply_line (reply xid SystemError) ++ rest → c.session.stage ≡ Over (Some (said_no_memory xid))

module _ (r : ℕ) (c end : Configuration) (well : GoesWell r c) (runs : RunsOut hss_judged r c.session.by c end) where
  lacking : LacksBefore c end → (said : Said) → end.session.stage ≡ Over (Some said) → HasCause end.ghost_state end.began.number end.session said → (xid : ℕ) (rest : List ℕ)
      → shown_end end.session said ≡ reply_line (reply xid SystemError) ++ rest → c.session.stage ≡ Over (Some (said_no_memory xid))
  lacking before said over cause xid rest e = elim (cause_shows cause) [
    | inl lacks ↦
        let then_it : said_no_memory lacks.0 ≡ said_no_memory xid = lack_shown lacks.0 xid _ rest (sym (shows_so end.session lacks.0 said lacks.1) ∙ e) in
        before xid (over ∙ ap (λ (m : Said). Over (Some m)) (lacks.1 ∙ then_it))
    | inr other ↦ absurd (other xid (shown_miss end.session.missed) (flat_map shown_note end.session.notes) rest e)
  ]

  its_end : IsEnd c end
  its_end =
      let led = runs_lead r c.session.by runs refl well.keeps well.hand well.ringed in
      let over = run_over runs in
      by over.0 over.1 (subst (IsAtStage end.world r end.session) over.1 led.leaves.1.goes_on.stage) (subst (λ (x : Stage). HasSaid end.ghost_state end.began.number end.session (said_at x)) over.1 led.leaves.1.said)
    where
      by : (o : Option Said) → end.session.stage ≡ Over o → IsAtStage end.world r end.session (Over o) → HasSaid end.ghost_state end.began.number end.session o → IsEnd c end
      by None over some cause = cc some
      by (Some said) over some cause = record { said = said; over = over; shown = λ before xid rest e. lacking before said over cause xid rest e }

-- a session that is over stays
pub over_stays : {r : ℕ} {name : List ℕ} {count : ℕ} {c next : Configuration} → StepsOn hss_judged r name count c next → (o : Option Said) → c.session.stage ≡ Over o → next.session ≡ c.session
over_stays steps_none o over = refl
over_stays (steps_over said at) o over = refl
over_stays {r = r} (steps_more step rest) o over = absurd (over_steps r step o over)

-- ---- lines

-- nothing is shown
pub no_text : (xid : ℕ) (rest : List ℕ) → [] ≡ reply_line (reply xid SystemError) ++ rest → ⊥
no_text xid rest e = cc e

-- a line that goes on, with memory there
pub full : (w : Played) (line : List ℕ) (next : Played) (output : List ℕ) → HasMemoryIn w.0 next.0 line output → IsFull w line (Goes next output)
full w line next output memory = elim (clash_is_decided (named_bytes next.0)) [
  | inl apart ↦ inl (memory, apart)
  | inr clash ↦ inr clash
]

-- or which meets blocks among which names clash
full_or : (w : Played) (line : List ℕ) (next : Played) (output : List ℕ) → HasMemoryIn w.0 next.0 line output ⊎ HasClash (named_bytes next.0) → IsFull w line (Goes next output)
full_or w line next output (inl memory) = full w line next output memory
full_or w line next output (inr clash) = inr clash

-- the sessions of a world that are as they were
abbrev pub AreAsBefore : World → List NamedSession → Type 0
AreAsBefore w ss = AllByRecursion (λ s. (xid : ℕ) → s.session.stage ≡ Over (Some (said_no_memory xid)) → Contains w.sessions s) ss

pub as_before : (w : World) (ss : List NamedSession) → ((s : NamedSession) → Contains ss s → Contains w.sessions s) → AreAsBefore w ss
as_before w ss h = each_from (λ s. (xid : ℕ) → s.session.stage ≡ Over (Some (said_no_memory xid)) → Contains w.sessions s) ss (λ s c xid over. h s c)

pub replied_sessions : (w : World) (said : Said) → (replied w said).sessions ≡ w.sessions
replied_sessions w said = by (is_some said.message)
  where
    by : (t : Bool) → (cond t (record w { replies = w.replies ++ record { handle = said.handle; verifier = said.verifier } ∷ [] }) w).sessions ≡ w.sessions
    by true = refl
    by false = refl

-- an open session in its place
module _ (w : World) (name : List ℕ) where
  -- it stands among the open ones
  pub it_stands : (s : Session) → session_named w name ≡ Some s → Contains w.sessions (record { name = name; session = s })
  it_stands s is =
      let x = found_session w.sessions name s is in
      let same : x.0 ≡ record { name = name; session = s } = (λ i. record { name = x.2 i; session = x.3 i }) in
      subst (Contains w.sessions) same x.1

  pub put_before : (t : Session) (xs : List NamedSession) → ((xid : ℕ) → t.stage ≡ Over (Some (said_no_memory xid)) → Contains w.sessions (record { name = name; session = t })) → AreAsBefore w xs
      → AreAsBefore w (map (λ (x : NamedSession). cond (bytes_eq x.name name) (record { name = name; session = t }) x) xs)
  put_before t [] mine all = tt
  put_before t (x ∷ xs) mine all = (by (bytes_eq x.name name), put_before t xs mine all.1)
    where
      by : (b : Bool) → (xid : ℕ) → (cond b (record { name = name; session = t }) x).session.stage ≡ Over (Some (said_no_memory xid)) → Contains w.sessions (cond b (record { name = name; session = t }) x)
      by true = mine
      by false = all.0

module _ (w : Played) (line : List ℕ) (keeps : Invariant w) (room : HaveRoom w.0) (bytes : HasBytes w.0) where
  room_of : (name : List ℕ) (p : Participant) → participant w.0 name ≡ Some p → HasRoom p.agent
  room_of name p is = each (λ (q : Participant). HasRoom q.agent) w.0.participants p room (found_named w.0.participants name p is).0

  -- a whole call
  as_full : (log : List ℕ) (ps : List Piece) → AllByRecursion pieces.IsOfBytes ps → (o : Option Sending) → sending_of w.0 log ps ≡ o → HasFull w line (AsLine hss_judged w o)
  as_full log ps fits None sends = (Refuses, whole_sends_nothing, inl tt)
  as_full log ps fits (Some s) sends =
      let sent = sent_by w.0 log ps s sends in
      let ring = some_participant w.0 w.1 keeps s.by (found_named w.0.participants log s.by sent.is_by).0 in
      let begins = some_session s.by.name s.message (entries w.0) (hss_standing_in s.by.agent s.view) in
      called s sends ring.0 ring.1 begins.0 begins.1
    where
      called : (s : Sending) → sending_of w.0 log ps ≡ Some s → (r : ℕ) → w.0.replicas ≡ Some r → (t : Session) → BeginsWith w.0 s t → HasFull w line (AsLine hss_judged w (Some s))
      called s sends r ringed t begins =
          let well = begun_well w keeps r ringed log ps s sends t begins in
          let runs : RunsWell r (begun_configuration w s t) = configuration_runs r (begun_configuration w s t) well (begins_bytes w.0 s t begins (sent_bytes w keeps bytes log ps fits s sends)) (λ p is. room_of t.by p is) in
          let end = its_end r (begun_configuration w s t) runs.0 well runs.1 in (
            Goes (replied runs.0.world end.said, runs.0.ghost_state) (shown_end runs.0.session end.said),
            calls s r t runs.0 end.said ringed begins (subst (λ (n : List ℕ). RunsOut hss_judged r n (begun_configuration w s t) runs.0) (begins_by w.0 s t begins) runs.1) end.over,
            full_or w line (replied runs.0.world end.said, runs.0.ghost_state) (shown_end runs.0.session end.said) (elim runs.2 [
              | inl before ↦ inl (record {
                shown = λ xid rest e. absurd (begins_memory w.0 s t begins xid (end.shown before xid rest e));
                sessions = as_before w.0 (replied runs.0.world end.said).sessions (λ x c. subst (λ (ss : List NamedSession). Contains ss x) (replied_sessions runs.0.world end.said ∙ (runs_same runs.1).1) c);
              })
              | inr clash ↦ inr (subst HasClash (sym (replied_named runs.0.world end.said)) clash)
            ]),
          )

  -- a session that is opened
  open_full : (name : List ℕ) (o : Option Sending) → HasFull w line (OpenLine hss_judged w name o)
  open_full name None = (Refuses, opening_sends_nothing, inl tt)
  open_full name (Some s) = by (is_some (session_named w.0 name)) refl
    where
      begins : (t : Session) × BeginsWith w.0 s t
      begins = some_session s.by.name s.message (entries w.0) (hss_standing_in s.by.agent s.view)

      opened : Played
      opened = (record w.0 { sessions = w.0.sessions ++ record { name = name; session = begins.0 } ∷ [] }, record (having_begun w.1) { sessions = w.1.sessions ++ (name, beginning w.1 s.by.name) ∷ [] })

      by : (b : Bool) → is_some (session_named w.0 name) ≡ b → HasFull w line (OpenLine hss_judged w name (Some s))
      by true already = (Refuses, is_open s already, inl tt)
      by false closed = (
        Goes opened [],
        opens s begins.0 closed begins.1,
        full w line opened [] (record {
          shown = λ xid rest e. absurd (no_text xid rest e);
          sessions = each_append (λ x. (xid : ℕ) → x.session.stage ≡ Over (Some (said_no_memory xid)) → Contains w.0.sessions x) w.0.sessions (record { name = name; session = begins.0 } ∷ [])
              (as_before w.0 w.0.sessions (λ x c. c)) ((λ xid over. absurd (begins_memory w.0 s begins.0 begins.1 xid over)), tt);
        }),
      )

  module _ (name : List ℕ) (s : Session) (is : session_named w.0 name ≡ Some s) (r : ℕ) (ringed : w.0.replicas ≡ Some r) where
    here_well : GoesWell r (open_configuration w name s)
    here_well = open_well w keeps r ringed name s is

    here_runs : RunsWell r (open_configuration w name s)
    here_runs = configuration_runs r (open_configuration w name s) here_well (named_session_bytes w keeps bytes name s is) (λ p is_p. room_of s.by p is_p)

    steps_full : (count : ℕ) → is_step_count count ≡ true → HasFull w line (StepLine hss_judged w name count (Some s))
    steps_full count counts =
        let to = configuration_steps r count (open_configuration w name s) here_runs in
        let next : Played = (with_session to.0.world name to.0.session, with_began to.0.ghost_state name to.0.began) in (
          Goes next [],
          steps s r to.0 counts ringed to.1,
          full_or w line next [] (elim to.2 [
            | inl before ↦ inl (record {
              shown = λ xid rest e. absurd (no_text xid rest e);
              sessions = put_before w.0 name to.0.session to.0.world.sessions (λ xid over. subst (λ (u : Session). Contains w.0.sessions (record { name = name; session = u })) (sym (over_stays to.1 (Some (said_no_memory xid)) (before xid over))) (it_stands w.0 name s is))
                  (as_before w.0 to.0.world.sessions (λ x c. subst (λ (ss : List NamedSession). Contains ss x) (steps_same to.1).1 c));
            })
            | inr clash ↦ inr clash
          ]),
        )

    finish_full : command_of line ≡ Some (command.Finish name) → HasFull w line (FinishLine hss_judged w name (Some s))
    finish_full is_finish =
        let end = its_end r (open_configuration w name s) here_runs.0 here_well here_runs.1 in
        let next : Played = (replied (without_session here_runs.0.world name) end.said, without_began here_runs.0.ghost_state name) in (
          Goes next (shown_end here_runs.0.session end.said),
          ends s r here_runs.0 end.said ringed here_runs.1 end.over,
          full_or w line next (shown_end here_runs.0.session end.said) (elim here_runs.2 [
            | inl before ↦ inl (record {
              shown = λ xid rest e. (record { name = name; session = s }, it_stands w.0 name s is, is_finish, end.shown before xid rest e);
              sessions = as_before w.0 (replied (without_session here_runs.0.world name) end.said).sessions (λ x c.
                  let left = subst (λ (ss : List NamedSession). Contains ss x) (replied_sessions (without_session here_runs.0.world name) end.said) c in
                  subst (λ (ss : List NamedSession). Contains ss x) (runs_same here_runs.1).1 (from_filter _ here_runs.0.world.sessions x left).0);
            })
            | inr clash ↦ inr (subst HasClash (sym (replied_named (without_session here_runs.0.world name) end.said)) clash)
          ]),
        )

  step_full : (name : List ℕ) (count : ℕ) (o : Option Session) → session_named w.0 name ≡ o → HasFull w line (StepLine hss_judged w name count o)
  step_full name count None is = (Refuses, stepping_not_open, inl tt)
  step_full name count (Some s) is = by (is_step_count count) refl
    where
      by : (b : Bool) → is_step_count count ≡ b → HasFull w line (StepLine hss_judged w name count (Some s))
      by false wrong = (Refuses, out_of_range s wrong, inl tt)
      by true counts =
          let x = found_session w.0.sessions name s is in
          let ring = some_open w.0 w.1 keeps x.0 x.1 in
          steps_full name s is ring.0 ring.1 count counts

  end_full : (name : List ℕ) → command_of line ≡ Some (command.Finish name) → (o : Option Session) → session_named w.0 name ≡ o → HasFull w line (FinishLine hss_judged w name o)
  end_full name is_finish None is = (Refuses, finishing_not_open, inl tt)
  end_full name is_finish (Some s) is =
      let x = found_session w.0.sessions name s is in
      let ring = some_open w.0 w.1 keeps x.0 x.1 in
      finish_full name s is ring.0 ring.1 is_finish

  -- a line without sessions
  quiet_full : (c : Command) → Fits c → (IsOfSessions c → ⊥) → HasFull w line (Does hss_judged w c)
  quiet_full c fits other =
      let some = (command_does w.0 w.1 keeps c fits).1 w.1 keeps in
      (some.0, some.1, by some.0 (quiet_command w c other some.0 some.1))
    where
      by : (outcome : Outcome Played) → Quietly w outcome → IsFull w line outcome
      by (Goes next output) quiet = full w line next output (record { shown = λ xid rest e. absurd (quiet.shown xid rest e); sessions = as_before w.0 next.0.sessions quiet.sessions })
      by Ends quiet = inl tt
      by Refuses quiet = inl tt
      by Exceeds quiet = inl tt

  command_full : (c : Command) → command_of line ≡ Some c → Fits c → HasFull w line (Does hss_judged w c)
  command_full c is fits = by c (which c) is fits
    where
      by : (c : Command) → IsWhich c → command_of line ≡ Some c → Fits c → HasFull w line (Does hss_judged w c)
      by _ (as_command log ps) is fits = as_full log ps fits (sending_of w.0 log ps) refl
      by _ (open_command session log ps) is fits = open_full session (sending_of w.0 log ps)
      by _ (step_command session count) is fits = step_full session count (session_named w.0 session) refl
      by _ (finish_command session) is fits = end_full session is (session_named w.0 session) refl
      by c (another other) is fits = quiet_full c fits other

  may_do : (o : Option Command) → command_of line ≡ o → HasFull w line (MayDo w o)
  may_do None is = (Refuses, refl, inl tt)
  may_do (Some c) is = command_full c is (command_fits line c is)

-- ---- the whole

module _ (w : Played) (line : List ℕ) where
  in_limit : (b : Bool) → nat_lt most_bytes (sum_by (λ b. length b) w.0.met) ≡ b → (May : Outcome Played → Type 0) → (MetLittle w.0 → HasFull w line May) → HasFull w line (λ outcome. MatchBool b (outcome ≡ Exceeds) (May outcome))
  in_limit true much May has = (Exceeds, refl, inl tt)
  in_limit false little May has = has (ltb-false most_bytes (sum_by (λ b. length b) w.0.met) little)

  within : (o : Option Command) → (MetLittle w.0 → HasFull w line (MayDo w o)) → HasFull w line (WithinLimit w o)
  within o has = in_limit (nat_lt most_bytes (sum_by (λ b. length b) w.0.met)) refl (MayDo w o) has

  or_end : (ends : Bool) (May : Outcome Played → Type 0) → HasFull w line May → HasFull w line (λ outcome. MatchBool ends (outcome ≡ Ends) (May outcome))
  or_end true May has = (Ends, refl, inl tt)
  or_end false May has = has

  first : (o : Option Command) → (MetLittle w.0 → HasFull w line (MayDo w o)) → HasFull w line (MayDoFirst w o)
  first o has = or_end (is_end o) (WithinLimit w o) (within o has)

pub full_lines : FullLines
full_lines w line keeps room bytes = first w line (command_of line) (λ little. may_do w line keeps (room little) bytes (command_of line) refl)
