-- Lines of calls do something: a whole call, and a session that is opened, goes some steps, or is brought to its end.
use Rattle.std.proofs.Common.{◌≡◌, ℕ, Bool, true, false, cond, List, [], ◌∷◌, ◌++◌, Option, Some, None, refl, ap, ◌∙◌, subst, Contains}
use Rattle.std.specs.Prelude.{is_some, option_map}
use Rattle.std.specs.List.{find}
use Rattle.std.specs.Str.{bytes_eq}
use Rattle.dhash_model.specs.Signed.{hss_judged}
use Rattle.log_model.proofs.Lists.{each, here, in_nothing, there}
use Rattle.script_driver.specs.Run.{Outcome, Goes, Refuses}
use Rattle.script_driver.specs.Seen.{seen}
use Rattle.script_model.specs.declared.command.Piece.{Piece}
use Rattle.dht_ids.specs.declared.peer.Peer.{Peer}
use Rattle.agent_model.specs.Standing.{Standing}
use Rattle.session_model.specs.Executions.{Begins}
use Rattle.session_model.specs.Executions.Begins.{alone, refreshes}
use Rattle.session_model.specs.Sessions.{Session}
use Rattle.world_model.specs.Agents.{hss_standing_in}
use Rattle.world_model.specs.Calls.{AsLine, BeginsWith, FinishLine, OpenLine, Sending, StepLine, is_step_count, replied, sending_of, shown_end}
use Rattle.world_model.specs.Calls.AsLine.{sends_nothing as whole_sends_nothing, calls}
use Rattle.world_model.specs.Calls.OpenLine.{sends_nothing as opening_sends_nothing, is_open, opens}
use Rattle.world_model.specs.Calls.StepLine.{not_open as stepping_not_open, out_of_range, steps}
use Rattle.world_model.specs.Calls.FinishLine.{not_open as finishing_not_open, ends}
use Rattle.world_model.specs.Logs.{Played}
use Rattle.world_model.specs.Steps.{RunsOut}
use Rattle.world_model.specs.GhostState.{GhostState, began_of, beginning, having_begun, with_began, without_began}
use Rattle.world_model.specs.World.{World, NamedSession, Participant, entries, participant, session_named, with_session, without_session}
use Rattle.world_laws.specs.Invariant.{GoesOn, HasRing, Invariant}
use Rattle.world_laws.proofs.Beginning.{calls_begin}
use Rattle.world_laws.proofs.Bringing.{found_named}
use Rattle.world_laws.proofs.ExistingMessages.{some_session}
use Rattle.world_laws.proofs.ExistingPuts.{runs_out, configuration, steps_to}
use Rattle.world_laws.proofs.ExistingSessions.{EndsSo, session_ends}
use Rattle.world_laws.proofs.Opening.{sent_by}

-- what a line may do, whichever ghost state there is, where it does this by each
abbrev pub IsSeen : World → (GhostState → Outcome Played → Type 0) → Type 0
IsSeen w Line = (outcome : Outcome World) × ((st : GhostState) → Invariant (w, st) → (o : Outcome Played) × Line st o × (outcome ≡ seen o))

-- ---- there is a ring

pub some_participant : (w : World) (st : GhostState) → Invariant (w, st) → (p : Participant) → Contains w.participants p → (r : ℕ) × (w.replicas ≡ Some r)
some_participant w st keeps p among = by_ring w.replicas refl
  where
    by_ring : (o : Option ℕ) → w.replicas ≡ o → (r : ℕ) × (w.replicas ≡ Some r)
    by_ring None is = absurd (in_nothing p (subst (λ (ps : List Participant). Contains ps p) (subst (HasRing w) is keeps.ring).1 among))
    by_ring (Some r) is = (r, is)

pub some_open : (w : World) (st : GhostState) → Invariant (w, st) → (s : NamedSession) → Contains w.sessions s → (r : ℕ) × (w.replicas ≡ Some r)
some_open w st keeps s among = by_ring w.replicas refl
  where
    by_ring : (o : Option ℕ) → w.replicas ≡ o → (r : ℕ) × (w.replicas ≡ Some r)
    by_ring None is = absurd (in_nothing s (subst (λ (ss : List NamedSession). Contains ss s) (subst (HasRing w) is keeps.ring).2 among))
    by_ring (Some r) is = (r, is)

found_open : (ss : List NamedSession) (name : List ℕ) (s : Session) → option_map (λ (x : NamedSession). x.session) (find (λ x. bytes_eq x.name name) ss) ≡ Some s → (x : NamedSession) × Contains ss x × (x.session ≡ s)
found_open [] name s e = cc e
found_open (x ∷ ss) name s e = by_test (bytes_eq x.name name) e (λ h. found_open ss name s h)
  where
    by_test : (b : Bool) → option_map (λ (y : NamedSession). y.session) (cond b (Some x) (find (λ y. bytes_eq y.name name) ss)) ≡ Some s
        → (option_map (λ (y : NamedSession). y.session) (find (λ y. bytes_eq y.name name) ss) ≡ Some s → (y : NamedSession) × Contains ss y × (y.session ≡ s)) → (y : NamedSession) × Contains (x ∷ ss) y × (y.session ≡ s)
    by_test true h later = (x, here x ss, cc h)
    by_test false h later = (let y = later h in (y.0, there x ss y.0 y.1, y.2))

-- an open session is in a ring, and goes on
record IsOpen (w : World) (s : Session) : Type 0 where
  r : ℕ
  ringed : w.replicas ≡ Some r
  goes_on : GoesOn w r s

opened : (w : World) (st : GhostState) → Invariant (w, st) → (name : List ℕ) (s : Session) → session_named w name ≡ Some s → IsOpen w s
opened w st keeps name s is =
    let x = found_open w.sessions name s is in
    let ring = some_open w st keeps x.0 x.1 in
    record {
      r = ring.0;
      ringed = ring.1;
      goes_on = subst (GoesOn w ring.0) x.2 (each (λ (y : NamedSession). GoesOn w ring.0 y.session) w.sessions x.0 (subst (HasRing w) ring.1 keeps.ring).3 x.1);
    }

-- ---- lines

begun_by : {by message : List ℕ} {knows : List Peer} {standing : Standing} {t : Session} → Begins by message knows standing t → t.by ≡ by
begun_by (alone given is) = refl
begun_by (refreshes xid asked asks) = refl

module _ (w : World) (st : GhostState) (keeps : Invariant (w, st)) where
  -- of a session that begins with what is sent
  begun : (name : List ℕ) (pieces : List Piece) (s : Sending) → sending_of w name pieces ≡ Some s → (t : Session) → BeginsWith w s t → (r : ℕ) × (w.replicas ≡ Some r) × EndsSo r w t
  begun name pieces s is t begins =
      let sent = sent_by w name pieces s is in
      let found = found_named w.participants name s.by sent.is_by in
      let ring = some_participant w st keeps s.by found.0 in
      let hand = calls_begin (w, st) ring.0 s t keeps ring.1 (ap (participant w) found.1 ∙ sent.is_by) sent.in_view begins in
      (ring.0, ring.1, session_ends w st ring.0 keeps ring.1 t hand.goes_on)

  pub as_line : (name : List ℕ) (pieces : List Piece) (sent : Option Sending) → sending_of w name pieces ≡ sent → IsSeen w (λ su o. AsLine hss_judged (w, su) sent o)
  as_line name pieces None is = (Refuses, λ su fits. (Refuses, whole_sends_nothing, refl))
  as_line name pieces (Some s) is =
      let begins = some_session s.by.name s.message (entries w) (hss_standing_in s.by.agent s.view) in
      let end = begun name pieces s is begins.0 begins.1 in (
        Goes (replied end.2.end.world end.2.said) (shown_end end.2.end.session end.2.said),
        λ su fits.
            let runs = runs_out end.2.end.execution (having_begun su) (beginning su s.by.name) in (
              Goes (replied end.2.end.world end.2.said, runs.0) (shown_end end.2.end.session end.2.said),
              calls s end.0 begins.0 (configuration end.2.end.world runs.0 end.2.end.session (beginning su s.by.name)) end.2.said end.1 begins.1
                  (subst (λ (n : List ℕ). RunsOut hss_judged end.0 n (configuration w (having_begun su) begins.0 (beginning su s.by.name)) (configuration end.2.end.world runs.0 end.2.end.session (beginning su s.by.name))) (begun_by begins.1) runs.1) end.2.end.is_over,
              refl,
            ),
      )

  pub open_line : (session : List ℕ) (sent : Option Sending) → IsSeen w (λ su o. OpenLine hss_judged (w, su) session sent o)
  open_line session None = (Refuses, λ su fits. (Refuses, opening_sends_nothing, refl))
  open_line session (Some s) = by_test (is_some (session_named w session)) refl
    where
      by_test : (b : Bool) → is_some (session_named w session) ≡ b → IsSeen w (λ su o. OpenLine hss_judged (w, su) session (Some s) o)
      by_test true already = (Refuses, λ su fits. (Refuses, is_open s already, refl))
      by_test false closed =
          let begins = some_session s.by.name s.message (entries w) (hss_standing_in s.by.agent s.view) in
          (Goes (record w { sessions = w.sessions ++ record { name = session; session = begins.0 } ∷ [] }) [], λ su fits. (_, opens s begins.0 closed begins.1, refl))

  pub step_line : (name : List ℕ) (count : ℕ) (o : Option Session) → session_named w name ≡ o → IsSeen w (λ su out. StepLine hss_judged (w, su) name count o out)
  step_line name count None is = (Refuses, λ su fits. (Refuses, stepping_not_open, refl))
  step_line name count (Some s) is = by_test (is_step_count count) refl
    where
      by_test : (b : Bool) → is_step_count count ≡ b → IsSeen w (λ su out. StepLine hss_judged (w, su) name count (Some s) out)
      by_test false wrong = (Refuses, λ su fits. (Refuses, out_of_range s wrong, refl))
      by_test true counts =
          let its = opened w st keeps name s is in
          let end = session_ends w st its.r keeps its.ringed s its.goes_on in
          let to = steps_to count end.end.execution in (
            Goes (with_session to.world name to.session) [],
            λ su fits.
                let all = to.steps su (began_of su name) in (
                  Goes (with_session to.world name to.session, with_began all.0 name (began_of su name)) [],
                  steps s its.r (configuration to.world all.0 to.session (began_of su name)) counts its.ringed all.1,
                  refl,
                ),
          )

  pub finish_line : (name : List ℕ) (o : Option Session) → session_named w name ≡ o → IsSeen w (λ su out. FinishLine hss_judged (w, su) name o out)
  finish_line name None is = (Refuses, λ su fits. (Refuses, finishing_not_open, refl))
  finish_line name (Some s) is =
      let its = opened w st keeps name s is in
      let end = session_ends w st its.r keeps its.ringed s its.goes_on in (
        Goes (replied (without_session end.end.world name) end.said) (shown_end end.end.session end.said),
        λ su fits.
            let runs = runs_out end.end.execution su (began_of su name) in (
              Goes (replied (without_session end.end.world name) end.said, without_began runs.0 name) (shown_end end.end.session end.said),
              ends s its.r (configuration end.end.world runs.0 end.end.session (began_of su name)) end.said its.ringed runs.1 end.end.is_over,
              refl,
            ),
      )
