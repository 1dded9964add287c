-- Lines of calls lead to one world and show one thing, where memory is there and no names collide.
use Rattle.std.proofs.Common.{◌≡◌, ⊎_elim, ℕ, Bool, true, false, cond, List, [], ◌∷◌, ◌++◌, map, Option, Some, refl, sym, ap, ◌∙◌, subst, append_assoc, Contains}
use Rattle.std.specs.Prelude.{is_some, option_map}
use Rattle.std.specs.List.{find, flat_map}
use Rattle.std.specs.Str.{bytes_eq}
use Rattle.std.proofs.lemmas.Slice.Eq.{bytes_eq-Decides}
use Rattle.ivy_base.specs.Naming.{IsCollisionFree}
use Rattle.wire_model.specs.Rpc.{SystemError, reply}
use Rattle.dhash_model.specs.Signed.{hss_judged}
use Rattle.log_model.proofs.Lists.{each, here, in_cons, in_nothing, there}
use Rattle.session_model.specs.Executions.Begins.{alone as begins_alone, refreshes as begins_refreshing}
use Rattle.session_model.specs.Replies.{said_no_memory}
use Rattle.session_model.specs.Sessions.{Over, Said, Session}
use Rattle.script_driver.specs.Run.{Goes}
use Rattle.script_model.specs.declared.command.Command.TheVariants as command
use Rattle.script_model.specs.declared.command.Piece.{Piece}
use Rattle.script_model.specs.Lines.{command_of}
use Rattle.world_model.specs.World.{NamedSession, World, named_bytes, participant, session_named, with_session, without_session}
use Rattle.world_model.specs.GhostState.{began_of, beginning, having_begun, with_began, without_began}
use Rattle.world_model.specs.Logs.{Played}
use Rattle.world_model.specs.Calls.{AsLine, BeginsWith, FinishLine, OpenLine, Sending, StepLine, replied, reply_line, configuration_of, sending_of, shown_end, shown_miss, shown_note}
use Rattle.world_model.specs.Calls.AsLine.{calls}
use Rattle.world_model.specs.Calls.OpenLine.{opens}
use Rattle.world_model.specs.Calls.StepLine.{steps}
use Rattle.world_model.specs.Calls.FinishLine.{ends}
use Rattle.world_model.specs.Steps.{RunsOut, Configuration, StepsOn}
use Rattle.world_model.specs.Steps.RunsOut.{is_over as runs_over, more as runs_more}
use Rattle.world_model.specs.Steps.StepsOn.{none as steps_none, is_over as steps_over, more as steps_more}
use Rattle.world_laws.specs.Invariant.{Invariant}
use Rattle.world_laws.specs.Laws.{HasMemoryIn}
use Rattle.world_laws.proofs.Beginning.{calls_begin}
use Rattle.world_laws.proofs.Bringing.{found_named}
use Rattle.world_laws.proofs.Frames.{one_named}
use Rattle.world_laws.proofs.OneMessages.{one_beginning}
use Rattle.world_laws.proofs.OneSteps.{GoesWell, over_steps, runs_one, steps_one}
use Rattle.world_laws.proofs.Opening.{IsSent, sent_by}
use Rattle.world_laws.proofs.OpenSessions.{begun_keeps, named_hand}
use Rattle.world_laws.proofs.SessionLinesSteps.{Leads, steps_on_lead}

some_number : (a b : ℕ) → Some a ≡ Some b → a ≡ b
some_number a b e = cc e

-- both the worlds and what is shown
abbrev pub AreSame : Played → List ℕ → Played → List ℕ → Type 0
AreSame one text other words = (one ≡ other) × (text ≡ words)

said_over : (s : Session) (a b : Said) → s.stage ≡ Over (Some a) → s.stage ≡ Over (Some b) → a ≡ b
said_over s a b e f = cc (sym e ∙ f)

one_said : (s t : Session) (a b : Said) → s ≡ t → s.stage ≡ Over (Some a) → t.stage ≡ Over (Some b) → a ≡ b
one_said s t a b same e f = said_over t a b (ap (λ (u : Session). u.stage) (sym same) ∙ e) f

-- what a reply leaves has the same blocks and keys
pub replied_named : (w : World) (said : Said) → named_bytes (replied w said) ≡ named_bytes w
replied_named w said = by (is_some said.message)
  where
    by : (t : Bool) → named_bytes (cond t (record w { replies = w.replies ++ record { handle = said.handle; verifier = said.verifier } ∷ [] }) w) ≡ named_bytes w
    by true = refl
    by false = refl

-- what is said because memory ran out is shown
pub shows_so : (s : Session) (xid : ℕ) (said : Said) → said ≡ said_no_memory xid → shown_end s said ≡ reply_line (reply xid SystemError) ++ (shown_miss s.missed ++ flat_map shown_note s.notes)
shows_so s xid said is = ap (shown_end s) is ∙ append_assoc (reply_line (reply xid SystemError)) (shown_miss s.missed) (flat_map shown_note s.notes)

-- ---- where memory runs out at the end only if it was at the beginning

-- at the end only where it was so
abbrev LacksBefore : Configuration → Configuration → Type 0
LacksBefore c end = (xid : ℕ) → end.session.stage ≡ Over (Some (said_no_memory xid)) → c.session.stage ≡ Over (Some (said_no_memory xid))

module _ (r : ℕ) where
  runs_alike : {name : List ℕ} {c one other : Configuration} → RunsOut hss_judged r name c one → RunsOut hss_judged r name c other → c.session.by ≡ name → GoesWell r c → IsCollisionFree (named_bytes one.world)
      → LacksBefore c one → LacksBefore c other → one ≡ other
  runs_alike (runs_over said over) (runs_over word is) named w apart m n = refl
  runs_alike (runs_over said over) (runs_more step rest) named w apart m n = absurd (over_steps r step said over)
  runs_alike (runs_more step rest) (runs_over said over) named w apart m n = absurd (over_steps r step said over)
  runs_alike (runs_more step rest) (runs_more also others) named w apart m n =
      runs_one r (runs_more step rest) (runs_more also others) named w apart (λ xid over. over_steps r step _ (m xid over)) (λ xid over. over_steps r also _ (n xid over))

  steps_alike : {name : List ℕ} {count : ℕ} {c one other : Configuration} → StepsOn hss_judged r name count c one → StepsOn hss_judged r name count c other → c.session.by ≡ name → GoesWell r c → IsCollisionFree (named_bytes one.world)
      → LacksBefore c one → LacksBefore c other → one ≡ other
  steps_alike steps_none steps_none named w apart m n = refl
  steps_alike (steps_over said over) (steps_over word is) named w apart m n = refl
  steps_alike (steps_over said over) (steps_more step rest) named w apart m n = absurd (over_steps r step said over)
  steps_alike (steps_more step rest) (steps_over said over) named w apart m n = absurd (over_steps r step said over)
  steps_alike (steps_more step rest) (steps_more also others) named w apart m n =
      steps_one r (steps_more step rest) (steps_more also others) named w apart (λ xid over. over_steps r step _ (m xid over)) (λ xid over. over_steps r also _ (n xid over))

-- ---- sessions by their names

not_it : (b : Bool) → b ≡ true → b ≡ false → ⊥
not_it b f g = cc (sym f ∙ g)

-- the session that is found stands under its name
pub found_session : (xs : List NamedSession) (name : List ℕ) (s : Session) → option_map (λ (x : NamedSession). x.session) (find (λ x. bytes_eq x.name name) xs) ≡ Some s → (x : NamedSession) × Contains xs x × (x.name ≡ name) × (x.session ≡ s)
found_session [] name s is = cc is
found_session (x ∷ xs) name s is = by (bytes_eq x.name name) refl is (λ h. found_session xs name s h)
  where
    same : (a b : Session) → Some a ≡ Some b → a ≡ b
    same a b e = cc e

    by : (b : Bool) → bytes_eq x.name name ≡ b → option_map (λ (o : NamedSession). o.session) (cond b (Some x) (find (λ o. bytes_eq o.name name) xs)) ≡ Some s
        → (option_map (λ (o : NamedSession). o.session) (find (λ o. bytes_eq o.name name) xs) ≡ Some s → (y : NamedSession) × Contains xs y × (y.name ≡ name) × (y.session ≡ s))
        → (y : NamedSession) × Contains (x ∷ xs) y × (y.name ≡ name) × (y.session ≡ s)
    by true is_name found later = (x, here x xs, (bytes_eq-Decides x.name name).0 is_name, same x.session s found)
    by false other found later = let y = later found in (y.0, there x xs y.0 y.1, y.2, y.3)

module _ (w : Played) (keeps : Invariant w) (name : List ℕ) (s : Session) (is : session_named w.0 name ≡ Some s) where
  -- whoever has its name is it
  only_one : (x : NamedSession) → Contains w.0.sessions x → x.name ≡ name → x.session ≡ s
  only_one x among named =
      let found = found_session w.0.sessions name s is in
      ap (λ (y : NamedSession). y.session) (one_named (λ (y : NamedSession). y.name) w.0.sessions x found.0 keeps.named_once among found.1 (named ∙ sym found.2)) ∙ found.3

  -- put back it is one of those that are open
  put_back : (t : Session) (xs : List NamedSession) → Contains (map (λ (x : NamedSession). x.name) xs) name
      → Contains (map (λ (x : NamedSession). cond (bytes_eq x.name name) (record { name = name; session = t }) x) xs) (record { name = name; session = t })
  put_back t xs among = placed (λ (x : NamedSession). x.name) (record { name = name; session = t }) xs among
    where
      placed : (named : NamedSession → List ℕ) (y : NamedSession) (ys : List NamedSession) → Contains (map (λ (x : NamedSession). x.name) ys) name
          → Contains (map (λ (x : NamedSession). cond (bytes_eq x.name name) y x) ys) y
      placed named y [] c = absurd (in_nothing name c)
      placed named y (x ∷ ys) c = by (bytes_eq x.name name) refl (λ later. placed named y ys later)
        where
          by : (b : Bool) → bytes_eq x.name name ≡ b → (Contains (map (λ (o : NamedSession). o.name) ys) name → Contains (map (λ (o : NamedSession). cond (bytes_eq o.name name) y o) ys) y)
              → Contains (cond b y x ∷ map (λ (o : NamedSession). cond (bytes_eq o.name name) y o) ys) y
          by true same later = here y _
          by false other later = there x _ y (later (⊎_elim (λ e. absurd (not_it (bytes_eq x.name name) ((bytes_eq-Decides x.name name).1 e) other)) (λ more. more) (in_cons x.name (map (λ (o : NamedSession). o.name) ys) name c)))

-- ---- lines

pub begins_by : (w : World) (s : Sending) (t : Session) → BeginsWith w s t → t.by ≡ s.by.name
begins_by w s _ (begins_alone given by) = refl
begins_by w s _ (begins_refreshing xid asked asks) = refl

other_command : (log : List ℕ) (pieces : List Piece) (name : List ℕ) → Some (command.As log pieces) ≡ Some (command.Finish name) → ⊥
other_command log pieces name e = cc e

same_finish : (a b : List ℕ) → Some (command.Finish a) ≡ Some (command.Finish b) → a ≡ b
same_finish a b e = cc e

module _ (w : Played) (keeps : Invariant w) (line : List ℕ) where
  -- a whole call
  module _ (log : List ℕ) (pieces : List Piece) (is_as : command_of line ≡ Some (command.As log pieces)) where
    never_lacks : (c next : Configuration) (said : Said) → next.session.stage ≡ Over (Some said) → HasMemoryIn w.0 (replied next.world said) line (shown_end next.session said) → LacksBefore c next
    never_lacks c next said over memory xid lacking =
        let found = memory.shown xid _ (shows_so next.session xid said (said_over next.session said (said_no_memory xid) over lacking)) in
        absurd (other_command log pieces found.0.name (sym is_as ∙ found.2))

    pub as_one : (o : Option Sending) → sending_of w.0 log pieces ≡ o → (one other : Played) (text words : List ℕ) → AsLine hss_judged w o (Goes one text) → AsLine hss_judged w o (Goes other words)
        → IsCollisionFree (named_bytes one.0) → HasMemoryIn w.0 one.0 line text → HasMemoryIn w.0 other.0 line words → AreSame one text other words
    as_one _ sends _ _ _ _ (calls s r t end said ringed begins runs over) (calls whose number u stop word ringed_too beginning_too running ended) apart m n =
        (λ i. (replied (ends_same i).world (said_same i), (ends_same i).ghost_state), λ i. shown_end (ends_same i).session (said_same i))
      where
        sent : IsSent w.0 log pieces s
        sent = sent_by w.0 log pieces s sends

        named : s.by.name ≡ log
        named = (found_named w.0.participants log s.by sent.is_by).1

        begun : t ≡ u
        begun = one_beginning s.by.name s.message _ _ t u begins beginning_too

        ring : number ≡ r
        ring = some_number number r (sym ringed_too ∙ ringed)

        start : Session → Configuration
        start x = record { world = w.0; ghost_state = having_begun w.1; session = x; began = beginning w.1 s.by.name }

        well : GoesWell r (start t)
        well = record {
          keeps = begun_keeps w keeps r ringed;
          hand = calls_begin w r s t keeps ringed (subst (λ (n : List ℕ). participant w.0 n ≡ Some s.by) (sym named) sent.is_by) sent.in_view begins;
          ringed = ringed;
        }

        second : RunsOut hss_judged r s.by.name (start t) stop
        second = subst (λ (x : Session). RunsOut hss_judged r s.by.name (start x) stop) (sym begun) (subst (λ (k : ℕ). RunsOut hss_judged k s.by.name (start u) stop) ring running)

        by_is : t.by ≡ s.by.name
        by_is = begins_by w.0 s t begins

        ends_same : end ≡ stop
        ends_same = runs_alike r runs second by_is well (subst IsCollisionFree (replied_named end.world said) apart) (never_lacks (start t) end said over m) (never_lacks (start t) stop word ended n)

        said_same : said ≡ word
        said_same = one_said end.session stop.session said word (ap (λ (c : Configuration). c.session) ends_same) over ended

  -- ---- a session that is open

  module _ (name : List ℕ) (s : Session) (is : session_named w.0 name ≡ Some s) (r : ℕ) (ringed : w.0.replicas ≡ Some r) where
    abbrev open_configuration : Configuration
    open_configuration = configuration_of w s (began_of w.1 name)

    well_open : GoesWell r (configuration_of w s (began_of w.1 name))
    well_open = record { keeps = keeps; hand = (named_hand w keeps r ringed name s is).0; ringed = ringed }

    was_over : (x : NamedSession) (o : Option Said) → Contains w.0.sessions x → x.name ≡ name → x.session.stage ≡ Over o → s.stage ≡ Over o
    was_over x o among named over = subst (λ (u : Session). u.stage ≡ Over o) (only_one w keeps name s is x among named) over

    lacked_before : (end : Configuration) (said : Said) → command_of line ≡ Some (command.Finish name) → end.session.stage ≡ Over (Some said)
        → HasMemoryIn w.0 (replied (without_session end.world name) said) line (shown_end end.session said) → LacksBefore open_configuration end
    lacked_before end said is_finish over memory xid lacking =
        let found = memory.shown xid _ (shows_so end.session xid said (said_over end.session said (said_no_memory xid) over lacking)) in
        was_over found.0 (Some (said_no_memory xid)) found.1 (same_finish found.0.name name (sym found.2 ∙ is_finish)) found.3

    lacking_before : (count : ℕ) (end : Configuration) (text : List ℕ) → StepsOn hss_judged r s.by count open_configuration end → HasMemoryIn w.0 (with_session end.world name end.session) line text → LacksBefore open_configuration end
    lacking_before count end text on memory xid lacking =
        let led : Leads open_configuration end r = steps_on_lead r s.by on refl keeps (named_hand w keeps r ringed name s is).0 ringed in
        let among : Contains (map (λ (x : NamedSession). x.name) end.world.sessions) name =
        subst (λ (xs : List NamedSession). Contains (map (λ (x : NamedSession). x.name) xs) name) (sym led.same.sessions) (named_hand w keeps r ringed name s is).1 in
        let kept : Contains w.0.sessions (record { name = name; session = end.session }) =
        each (λ (x : NamedSession). (n : ℕ) → x.session.stage ≡ Over (Some (said_no_memory n)) → Contains w.0.sessions x) (with_session end.world name end.session).sessions (record { name = name; session = end.session }) memory.sessions
        (put_back w keeps name s is end.session end.world.sessions among) xid lacking in
        was_over (record { name = name; session = end.session }) (Some (said_no_memory xid)) kept refl lacking

  pub finish_one : (name : List ℕ) → command_of line ≡ Some (command.Finish name) → (o : Option Session) → session_named w.0 name ≡ o → (one other : Played) (text words : List ℕ) → FinishLine hss_judged w name o (Goes one text)
      → FinishLine hss_judged w name o (Goes other words) → IsCollisionFree (named_bytes one.0) → HasMemoryIn w.0 one.0 line text → HasMemoryIn w.0 other.0 line words → AreSame one text other words
  finish_one name is_finish _ is _ _ _ _ (ends s r end said ringed runs over) (ends whose number stop word ringed_too running ended) apart m n =
      (λ i. (replied (without_session (ends_same i).world name) (said_same i), without_began (ends_same i).ghost_state name), λ i. shown_end (ends_same i).session (said_same i))
    where
      second : RunsOut hss_judged r s.by (configuration_of w s (began_of w.1 name)) stop
      second = subst (λ (k : ℕ). RunsOut hss_judged k s.by (configuration_of w s (began_of w.1 name)) stop) (some_number number r (sym ringed_too ∙ ringed)) running

      ends_same : end ≡ stop
      ends_same = runs_alike r runs second refl (well_open name s is r ringed) (subst IsCollisionFree (replied_named (without_session end.world name) said) apart)
          (lacked_before name s is r ringed end said is_finish over m) (lacked_before name s is r ringed stop word is_finish ended n)

      said_same : said ≡ word
      said_same = one_said end.session stop.session said word (ap (λ (c : Configuration). c.session) ends_same) over ended

  pub step_line_one : (name : List ℕ) (count : ℕ) (o : Option Session) → session_named w.0 name ≡ o → (one other : Played) (text words : List ℕ) → StepLine hss_judged w name count o (Goes one text)
      → StepLine hss_judged w name count o (Goes other words) → IsCollisionFree (named_bytes one.0) → HasMemoryIn w.0 one.0 line text → HasMemoryIn w.0 other.0 line words → AreSame one text other words
  step_line_one name count _ is _ _ _ _ (steps s r end within ringed on) (steps whose number stop inside ringed_too going) apart m n =
      (λ i. (with_session (ends_same i).world name (ends_same i).session, with_began (ends_same i).ghost_state name (ends_same i).began), refl)
    where
      second : StepsOn hss_judged r s.by count (configuration_of w s (began_of w.1 name)) stop
      second = subst (λ (k : ℕ). StepsOn hss_judged k s.by count (configuration_of w s (began_of w.1 name)) stop) (some_number number r (sym ringed_too ∙ ringed)) going

      ends_same : end ≡ stop
      ends_same = steps_alike r on second refl (well_open name s is r ringed) apart (lacking_before name s is r ringed count end [] on m) (lacking_before name s is r ringed count stop [] second n)

-- a session is opened in one way, in any case
pub open_one : (w : Played) (name : List ℕ) (o : Option Sending) (one other : Played) (text words : List ℕ) → OpenLine hss_judged w name o (Goes one text) → OpenLine hss_judged w name o (Goes other words) → AreSame one text other words
open_one w name _ _ _ _ _ (opens s t closed begins) (opens whose u shut beginning_too) =
    let same : t ≡ u = one_beginning s.by.name s.message _ _ t u begins beginning_too in
    (λ i. (record w.0 { sessions = w.0.sessions ++ record { name = name; session = same i } ∷ [] }, record (having_begun w.1) { sessions = w.1.sessions ++ (name, beginning w.1 s.by.name) ∷ [] }), refl)
