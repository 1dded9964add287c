-- Each line of a tidy script leaves it so: a put of each log's newest head was acknowledged, or an open session has it to put.
use Rattle.std.proofs.Common.{◌≡◌, ◌≢◌, ◌⊎◌, inl, inr, ⊎_elim, ℕ, ◌≤◌, Bool, true, false, cond, not, List, [], ◌∷◌, ◌++◌, map, filter, find, Option, Some, None, refl, sym, ap, ◌∙◌, subst, arith, le_refl, Contains}
use Rattle.std.specs.Prelude.{is_some, option_map}
use Rattle.std.specs.List.{AllByRecursion}
use Rattle.std.specs.Str.{bytes_eq}
use Rattle.std.proofs.lemmas.List.Elements.{Contains-append_cases, Contains-append_left}
use Rattle.ivy_base.specs.declared.key.Key.{Key}
use Rattle.ivy_base.specs.declared.key.PubKey.{PubKey}
use Rattle.ivy_base.specs.Naming.{head_key_of}
use Rattle.ivy_base.proofs.NameLemmas.{bytes-name, length-name}
use Rattle.hash_signature_model.specs.declared.set.Set.{Set}
use Rattle.hash_signature_model.specs.Saved.{IsSigner}
use Rattle.hash_signature_model.specs.Signer.{hss_key_of}
use Rattle.ring_model.proofs.Lists.{all_weaker}
use Rattle.dhash_model.specs.Signed.{hss_judged}
use Rattle.log_model.specs.Chain.{opening}
use Rattle.log_model.specs.Rank.{own_entry}
use Rattle.log_model.specs.View.{View}
use Rattle.log_model.specs.Vector.{reach, seq_of}
use Rattle.log_model.proofs.Lists.{each, each_append, each_from, from_filter, here, in_cons, in_filter, in_nothing, there}
use Rattle.dht_ids.specs.declared.post.Post.{Post}
use Rattle.snapshot_model.specs.Spelling.{root_name, snapshot_blocks}
use Rattle.agent_model.specs.Agent.{entered, failed, head_post, is_head, kept_of, own_key, record_post, restored}
use Rattle.agent_model.specs.Others.{basis_of, block_post, is_pending_block, snapped}
use Rattle.agent_model.specs.SavedBytes.{ArePostsSpelled}
use Rattle.agent_model.specs.Views.{Entered, KeeperFailed, NotMember, entering_with, is_own_member, not_named}
use Rattle.script_driver.specs.Run.{Ends, Goes, Outcome}
use Rattle.script_model.specs.declared.command.Command.{Command}
use Rattle.script_model.specs.declared.command.Command.TheVariants as command
use Rattle.session_model.specs.Executions.Begins.{alone as begins_alone, refreshes as begins_refreshing}
use Rattle.session_model.specs.Sessions.{Over, Said, Session, in_publishing_order}
use Rattle.round_laws.proofs.Nodes.{ties}
use Rattle.world_model.specs.Agents.{HssAgent, HssEntering, IsHssKept, HssKept, hss_entering, hss_signing, hss_opened, own_hss_key as own, own_reach}
use Rattle.world_model.specs.Calls.{AsLine, BeginsWith, FinishLine, OpenLine, Sending, StepLine, replied, configuration_of, sending_of}
use Rattle.world_model.specs.Calls.AsLine.{calls}
use Rattle.world_model.specs.Calls.OpenLine.{opens}
use Rattle.world_model.specs.Calls.StepLine.{steps}
use Rattle.world_model.specs.Calls.FinishLine.{ends}
use Rattle.world_model.specs.Keepers.{asked_to_save, fails_next, fresh_keeper}
use Rattle.world_model.specs.Logs.{LogLine, Played, Publishes, RestartLine, SnapLine, ViewLine, acked_view, after_entering, afresh, afresh_told, fresh_signer, keys_of, new_participant, of_members, snapping_in, to_publish, use_by, use_line, with_new_participant}
use Rattle.world_model.specs.Logs.LogLine.{begins}
use Rattle.world_model.specs.Logs.RestartLine.{starts}
use Rattle.world_model.specs.Logs.SnapLine.{cannot as snap_cannot, fails as snap_fails, makes as snap_makes}
use Rattle.world_model.specs.Logs.ViewLine.{makes}
use Rattle.world_model.specs.Step.{Does, most_bytes}
use Rattle.world_model.specs.Steps.{RunsOut, Configuration, Steps, StepsOn, having_made, met_by}
use Rattle.world_model.specs.Steps.RunsOut.{is_over as runs_over, more as runs_more}
use Rattle.world_model.specs.Steps.StepsOn.{is_over as steps_over, more as steps_more, none as steps_none}
use Rattle.world_model.specs.GhostState.{GhostState, began_nothing, began_of, beginning, having_begun, known_of, without_began}
use Rattle.world_model.specs.World.{NamedSession, Participant, World, participant, session_named, view_named, with_participant, without_session, without_sessions_of}
use Rattle.calm_laws.specs.Calm.{IsQuiet}
use Rattle.world_laws.specs.Invariant.{AreApart as NoneTwice, IsKeptSo, IsSavedWell, Invariant, SignsOnce}
use Rattle.world_laws.specs.Laws.{IsStill}
use Rattle.world_laws.proofs.Bringing.{found_named}
use Rattle.calm_laws.proofs.Finding.{each_filtered, session_in}
use Rattle.calm_laws.proofs.CalmStates.{IsMore, IsOwnPost, found_placed, more_posts, more_then, placed_more, posts_at}
use Rattle.world_laws.proofs.Frames.{into_map}
use Rattle.world_laws.proofs.Lines.{ToSuch}
use Rattle.world_laws.proofs.LineFits.{Fits}
use Rattle.world_laws.proofs.LogLines.{kept_whole}
use Rattle.world_laws.proofs.OneSteps.{GoesWell}
use Rattle.world_laws.proofs.Placed.{same_name}
use Rattle.world_laws.proofs.SessionLinesSteps.{step_leads}
use Rattle.world_laws.proofs.SignedAmong.{met_stays, met_then}
use Rattle.world_laws.proofs.SignedHeads.{from_map, so_of}
use Rattle.world_laws.proofs.Still.{still_lines}
use Rattle.world_laws.proofs.WholePublishing.{each_published}
use Rattle.world_laws.proofs.RingLines.{fates_rest}
use Rattle.calm_laws.proofs.Lines.{entries_are, new_participant_found, new_participant_goes, publishes_go, sent_step}
use Rattle.calm_laws.proofs.Rooms.{total}
use Rattle.calm_laws.proofs.Configurations.{runs_go, steps_go}
use Rattle.calm_laws.proofs.States.{InStep, IsGood, WorldGoes, kept_ring}
use Rattle.calm_laws.proofs.Steps.{placed_good, placed_ring}
use Rattle.calm_laws.proofs.Stretches.{IsRingOf, Stretch}
use Rattle.calm_laws.specs.Completeness.{FitsItsKey, HasNoneOpen, IsTidyAt}
use Rattle.calm_laws.proofs.Backed.{IsBackedIn, IsBackedKept}
use Rattle.calm_laws.proofs.CallLines.{begun_well, open_well}
use Rattle.calm_laws.proofs.CallSteps.{IsPast, step_past}
use Rattle.calm_laws.proofs.FitPosts.{AllFit, HasFit, opened_fit, opening_key, restarted_fit, saved_now, seal_judged, snapped_fit}
use Rattle.calm_laws.proofs.NewestCover.{HasNewest, IsCovered, head_published, newest_weaker}
use Rattle.calm_laws.proofs.NewestConfigurations.{AllSound, FitSession, Flows, FlowsOn, IsGoodIn, flows_weaker, good_then, placed_all, step_flow}
use Rattle.calm_laws.proofs.PutsAcked.{AreFine}
use Rattle.calm_laws.proofs.BackedSteps.{its_backed}
use Rattle.calm_laws.proofs.UseLines.{by_saves}
use Rattle.calm_laws.proofs.Turns.{never_fails}
use Rattle.calm_laws.proofs.BackedWorlds.{IsBackedWorld}

-- ---- sessions by their names

-- one session has that name
one_session : (ss : List NamedSession) (n : List ℕ) (s : Session) → NoneTwice (map (λ t. t.name) ss) → option_map (λ (t : NamedSession). t.session) (find (λ (t : NamedSession). bytes_eq t.name n) ss) ≡ Some s
    → (t : NamedSession) → Contains ss t → bytes_eq t.name n ≡ true → t.session ≡ s
one_session [] n s once is t c named = absurd (in_nothing t c)
one_session (u ∷ ss) n s once is t c named = by (bytes_eq u.name n) refl is (in_cons u ss t c) (λ found later. one_session ss n s once.1 found t later named)
  where
    twice : bytes_eq u.name n ≡ true → Contains ss t → ⊥
    twice e later = once.0 (subst (Contains (map (λ (x : NamedSession). x.name) ss)) (same_name t.name n named ∙ sym (same_name u.name n e)) (into_map (λ (x : NamedSession). x.name) ss t later))

    by : (b : Bool) → bytes_eq u.name n ≡ b → option_map (λ (x : NamedSession). x.session) (cond b (Some u) (find (λ (x : NamedSession). bytes_eq x.name n) ss)) ≡ Some s → (u ≡ t) ⊎ Contains ss t
        → (option_map (λ (x : NamedSession). x.session) (find (λ (x : NamedSession). bytes_eq x.name n) ss) ≡ Some s → Contains ss t → t.session ≡ s) → t.session ≡ s
    by true e found (inl same) rest = let at : u.session ≡ s = cc found in ap (λ (x : NamedSession). x.session) (sym same) ∙ at
    by true e found (inr later) rest = absurd (twice e later)
    by false e found (inl same) rest = absurd (differ (sym e ∙ (ap (λ (x : NamedSession). bytes_eq x.name n) same ∙ named)))
      where
        differ : false ≡ true → ⊥
        differ f = cc f
    by false e found (inr later) rest = rest found later

-- it stands among the sessions then
placed_there : (ss : List NamedSession) (n : List ℕ) (s new : Session) → option_map (λ (t : NamedSession). t.session) (find (λ (t : NamedSession). bytes_eq t.name n) ss) ≡ Some s
    → Contains (map (λ (t : NamedSession). cond (bytes_eq t.name n) (record { name = n; session = new }) t) ss) (record { name = n; session = new })
placed_there [] n s new is = cc is
placed_there (u ∷ ss) n s new is = by (bytes_eq u.name n) is (λ e. placed_there ss n s new e)
  where
    rest : List NamedSession
    rest = map (λ (t : NamedSession). cond (bytes_eq t.name n) (record { name = n; session = new }) t) ss

    by : (b : Bool) → option_map (λ (x : NamedSession). x.session) (cond b (Some u) (find (λ (x : NamedSession). bytes_eq x.name n) ss)) ≡ Some s → (option_map (λ (x : NamedSession). x.session) (find (λ (x : NamedSession). bytes_eq x.name n) ss) ≡ Some s → Contains rest (record { name = n; session = new }))
        → Contains (cond b (record { name = n; session = new }) u ∷ rest) (record { name = n; session = new })
    by true e later = here (record { name = n; session = new }) rest
    by false e later = there u rest (record { name = n; session = new }) (later e)

other_there : (ss : List NamedSession) (n : List ℕ) (new : Session) (t : NamedSession) → Contains ss t → bytes_eq t.name n ≡ false → Contains (map (λ (u : NamedSession). cond (bytes_eq u.name n) (record { name = n; session = new }) u) ss) t
other_there ss n new t c other = subst (Contains (map (λ (u : NamedSession). cond (bytes_eq u.name n) (record { name = n; session = new }) u) ss)) (ap (λ b. cond b (record { name = n; session = new }) t) other) (into_map (λ (u : NamedSession). cond (bytes_eq u.name n) (record { name = n; session = new }) u) ss t c)

placed_fit : (P : Session → Type 0) (name : List ℕ) (s : Session) (xs : List NamedSession) → P s → AllByRecursion (λ x. P x.session) xs → AllByRecursion (λ x. P x.session) (map (λ (x : NamedSession). cond (bytes_eq x.name name) (record { name = name; session = s }) x) xs)
placed_fit P name s [] h all = tt
placed_fit P name s (x ∷ xs) h all = (by (bytes_eq x.name name), placed_fit P name s xs h all.1)
  where
    by : (b : Bool) → P (cond b (record { name = name; session = s }) x).session
    by true = h
    by false = all.0

module _ (ring : Stretch) (met : List (List ℕ)) (fits_it : total met ≤ most_bytes) (all_met : (b : List ℕ) → Contains ring.end.met b → Contains met b) where
  less_up : (v next : World) → IsMore v next → IsMore next ring.end → IsMore v ring.end
  less_up v next more up = more_then v next ring.end more up

  abbrev Up : World → Type 0
  Up v = IsMore v ring.end

  abbrev Fit : Session → Type 0
  Fit s = FitSession ring met fits_it s

  abbrev FlowsIn : List NamedSession → List NamedSession → Configuration → Type 0
  FlowsIn ss others c = Flows ring met fits_it ss others c

  abbrev GoodIn : List NamedSession → List NamedSession → Configuration → Type 0
  GoodIn ss others c = IsGoodIn ring met fits_it ss others all_met c

  saved_at : (v : World) (st : GhostState) → Invariant (v, st) → (name : List ℕ) (p : Participant) → participant v name ≡ Some p → IsHssKept (kept_of p.agent)
  saved_at v st keeps name p is_p = (each (IsKeptSo IsSavedWell) v.participants p keeps.saved (found_named v.participants name p is_p).0).3.agent

  -- ---- runs

  module _ (ss others : List NamedSession) (name : List ℕ) where
    hand_step : {c next : Configuration} → Steps hss_judged ring.r name c next → c.session.by ≡ name → GoesWell ring.r c → GoesWell ring.r next × (next.session.by ≡ name)
    hand_step {c} {next} step named well =
        let led = step_leads ring.r name c next named well.keeps well.hand well.ringed step in
        (record { keeps = led.leaves.0; hand = led.leaves.1; ringed = led.same.replicas ∙ well.ringed }, led.same.call.0 ∙ named)

    one_step : {c next : Configuration} → Steps hss_judged ring.r name c next → c.session.by ≡ name → GoesWell ring.r c → Up next.world → GoodIn ss others c → FlowsIn ss others c → GoodIn ss others next × FlowsIn ss others next
    one_step {c} {next} step named well up good h =
        let then_well = (hand_step step named well).0 in
        let then_good = good_then ring met fits_it ss others all_met name step up good in (
          then_good,
          step_flow ring met fits_it ss others all_met name up good then_good
              (λ at. ((λ p is_p. saved_at c.world c.ghost_state well.keeps name p is_p), (λ p is_p. saved_at next.world next.ghost_state then_well.keeps name p is_p))) step h,
        )

    runs_flow : {c end : Configuration} → RunsOut hss_judged ring.r name c end → c.session.by ≡ name → GoesWell ring.r c → Up end.world → GoodIn ss others c → FlowsIn ss others c → FlowsIn ss others end
    runs_flow (runs_over said over) named well up good h = h
    runs_flow (runs_more {between = between} {next = end} step rest) named well up good h =
        let goes = hand_step step named well in
        let one = one_step step named well (less_up between.world end.world (runs_go ring name rest).grows up) good h in
        runs_flow rest goes.1 goes.0 up one.0 one.1

    steps_flow : {count : ℕ} {c end : Configuration} → StepsOn hss_judged ring.r name count c end → c.session.by ≡ name → GoesWell ring.r c → Up end.world → GoodIn ss others c → FlowsIn ss others c → FlowsIn ss others end
    steps_flow steps_none named well up good h = h
    steps_flow (steps_over said over) named well up good h = h
    steps_flow (steps_more {between = between} {next = end} step rest) named well up good h =
        let goes = hand_step step named well in
        let one = one_step step named well (less_up between.world end.world (steps_go ring name rest).grows up) good h in
        steps_flow rest goes.1 goes.0 up one.0 one.1

    -- of a session that only publishes
    past_flow : {c end : Configuration} → RunsOut hss_judged ring.r name c end → IsPast c.session → Up end.world → GoodIn ss others c → FlowsIn ss others c → FlowsIn ss others end
    past_flow (runs_over said over) past up good h = h
    past_flow (runs_more {between = between} {next = end} step rest) past up good h =
        let up_b = less_up between.world end.world (runs_go ring name rest).grows up in
        let then_good = good_then ring met fits_it ss others all_met name step up_b good in
        past_flow rest (step_past ring.r past step) up then_good (step_flow ring met fits_it ss others all_met name up_b good then_good (λ at. absurd (past.0 at)) step h)

  -- ---- worlds between lines

  pub record IsFlowing (w : Played) : Type 0 where
    pub agents : AllByRecursion (FlowsOn w.1.acked w.0.sessions []) w.0.participants
    pub sessions : AllByRecursion (λ s. FitSession ring met fits_it s.session) w.0.sessions

  -- where a session of a line is over
  over_flow : (ss : List NamedSession) (end : Configuration) (said : Option Said) → end.session.stage ≡ Over said → AllByRecursion (λ s. Fit s.session) ss → FlowsIn ss ss end → IsFlowing (end.world, end.ghost_state)
  over_flow ss end said over fit h = record {
    agents = subst (λ l. AllByRecursion (FlowsOn end.ghost_state.acked l []) end.world.participants) (sym h.sessions) (subst (λ st. AllByRecursion (FlowsOn end.ghost_state.acked ss (posts_at st)) end.world.participants) over h.agents);
    sessions = subst (AllByRecursion (λ (s : NamedSession). Fit s.session)) (sym h.sessions) fit;
  }

  replied_flow : (w : World) (st : GhostState) (said : Said) → IsFlowing (w, st) → IsFlowing (replied w said, st)
  replied_flow w st said h = by (is_some said.message)
    where
      by : (t : Bool) → IsFlowing (cond t (record w { replies = w.replies ++ record { handle = said.handle; verifier = said.verifier } ∷ [] }) w, st)
      by true = record { agents = h.agents; sessions = h.sessions }
      by false = h

  replied_up : (w : World) (said : Said) → Up (replied w said) → Up w
  replied_up w said = by (is_some said.message)
    where
      by : (t : Bool) → Up (cond t (record w { replies = w.replies ++ record { handle = said.handle; verifier = said.verifier } ∷ [] }) w) → Up w
      by true up = record { met = up.met; left = up.left }
      by false up = up

  one_r : (a b : ℕ) → Some a ≡ Some b → a ≡ b
  one_r a b e = cc e

  bare_begins : (w : World) (s : Sending) (t : Session) → BeginsWith w s t → (t.by ≡ s.by.name) × (posts_at t.stage ≡ []) × (t.current ≡ [])
  bare_begins w s _ (begins_alone given by) = (refl, refl, refl)
  bare_begins w s _ (begins_refreshing xid asked asks_it) = (refl, refl, refl)

  -- all that a participant's agent has is published
  publishes_flow : (k : ℕ) → k ≡ ring.r → (v : Played) (p : Participant) (next : Played) → participant v.0 p.name ≡ Some p → IsRingOf ring v.0 → AreFine met v.0 → IsGood ring v.0 v.1 → AllFit p.agent.pending → AllByRecursion (λ s. Fit s.session) v.0.sessions
      → AllByRecursion (FlowsOn v.1.acked v.0.sessions (in_publishing_order p.agent.pending)) v.0.participants → Up v.0 → Up next.0 → Publishes hss_judged k v p next → IsFlowing next
  publishes_flow k same v p next is_p still fine good fit sessions agents up_v up published =
      subst IsFlowing (sym published.2) (by_end published.0 published.1 (subst (λ (x : Played). Up x.0) published.2 up))
    where
      start_at : Configuration
      start_at = record { world = v.0; ghost_state = v.1; session = to_publish v.0 p; began = began_nothing }

      in_step : InStep ring v.0 (to_publish v.0 p)
      in_step = record { entries = entries_are ring v.0 still; posts = each_published (IsOwnPost v.0) p.agent.pending (good.pending p.name p is_p); heard = tt }

      flow : FlowsIn v.0.sessions v.0.sessions start_at
      flow = record {
        well = (still, fine);
        entries = in_step.entries;
        fit = (tt, each_published FitsItsKey p.agent.pending fit);
        posts_met = all_weaker (IsOwnPost v.0) (λ x. Contains met x.bytes) (in_publishing_order p.agent.pending) (λ x own_post. all_met x.bytes (up_v.met x.bytes own_post.0)) in_step.posts;
        sessions = refl;
        agents = agents;
      }

      by_end : (end : Configuration) → RunsOut hss_judged k p.name start_at end → Up end.world → IsFlowing (end.world, end.ghost_state)
      by_end end runs up_end =
          let mine : RunsOut hss_judged ring.r p.name start_at end = subst (λ x. RunsOut hss_judged x p.name start_at end) same runs in
          let over = ends_over mine in
          over_flow v.0.sessions end over.0 over.1 sessions (past_flow v.0.sessions v.0.sessions p.name mine ((λ at. cc at), refl) up_end (record { still = still; good = good; step = in_step }) flow)
        where
          ends_over : {c last : Configuration} → RunsOut hss_judged ring.r p.name c last → (said : Option Said) × (last.session.stage ≡ Over said)
          ends_over (runs_over said over) = (said, over)
          ends_over (runs_more step rest) = ends_over rest

  -- ---- lines

  abbrev others_of : List NamedSession → List ℕ → List NamedSession
  others_of ss name = filter (λ (t : NamedSession). not (bytes_eq t.name name)) ss

  -- the others, and the one of that name
  others_cover : (acked : List Post) (ss : List NamedSession) (name : List ℕ) (s : Session) → ((t : NamedSession) → Contains ss t → bytes_eq t.name name ≡ true → t.session ≡ s) → (x : Post) → IsCovered acked ss [] x → IsCovered acked (others_of ss name) (posts_at s.stage) x
  others_cover acked ss name s one x (inl c) = inl c
  others_cover acked ss name s one x (inr (inl c)) = absurd (in_nothing x c)
  others_cover acked ss name s one x (inr (inr (t, c, among))) = by (bytes_eq t.name name) refl
    where
      by : (b : Bool) → bytes_eq t.name name ≡ b → IsCovered acked (others_of ss name) (posts_at s.stage) x
      by true is = inr (inl (subst (λ (y : Session). Contains (posts_at y.stage) x) (one t c is) among))
      by false is = inr (inr (t, in_filter (λ (u : NamedSession). not (bytes_eq u.name name)) ss t c (ap not is), among))

  -- and back, where the one of that name stands in their place
  placed_cover : (acked : List Post) (ss : List NamedSession) (name : List ℕ) (s new : Session) → option_map (λ (t : NamedSession). t.session) (find (λ (t : NamedSession). bytes_eq t.name name) ss) ≡ Some s → (x : Post) → IsCovered acked (others_of ss name) (posts_at new.stage) x
      → IsCovered acked (map (λ (t : NamedSession). cond (bytes_eq t.name name) (record { name = name; session = new }) t) ss) [] x
  placed_cover acked ss name s new is x (inl c) = inl c
  placed_cover acked ss name s new is x (inr (inl c)) = inr (inr (record { name = name; session = new }, placed_there ss name s new is, c))
  placed_cover acked ss name s new is x (inr (inr (t, c, among))) =
      let from = from_filter (λ (u : NamedSession). not (bytes_eq u.name name)) ss t c in
      inr (inr (t, other_there ss name new t from.0 (not_true (bytes_eq t.name name) from.1), among))
    where
      not_true : (b : Bool) → not b ≡ true → b ≡ false
      not_true true h = cc h
      not_true false h = refl

  more_sessions : (acked : List Post) (ss more : List NamedSession) (posts : List Post) → ((t : NamedSession) → Contains ss t → Contains more t) → (x : Post) → IsCovered acked ss posts x → IsCovered acked more posts x
  more_sessions acked ss more posts grows x (inl c) = inl c
  more_sessions acked ss more posts grows x (inr (inl c)) = inr (inl c)
  more_sessions acked ss more posts grows x (inr (inr (t, c, among))) = inr (inr (t, grows t c, among))

  more_posts_cover : (acked : List Post) (ss : List NamedSession) (posts : List Post) (x : Post) → IsCovered acked ss [] x → IsCovered acked ss posts x
  more_posts_cover acked ss posts x (inl c) = inl c
  more_posts_cover acked ss posts x (inr (inl c)) = absurd (in_nothing x c)
  more_posts_cover acked ss posts x (inr (inr c)) = inr (inr c)

  module _ (w : Played) (keeps : Invariant w) (ringed : w.0.replicas ≡ Some ring.r) (still : IsRingOf ring w.0) (fine : AreFine met w.0) (good : IsGood ring w.0 w.1) (backed : IsBackedWorld w.0 w.1) (up_w : Up w.0) (h : IsFlowing w) where
    good_begun : IsGood ring w.0 (having_begun w.1)
    good_begun = record { orderly = good.orderly; acked = good.acked; pending = good.pending; sessions = good.sessions }

    as_flow : (log : List ℕ) (pieces : _) (o : Option Sending) → sending_of w.0 log pieces ≡ o → (next : Played) (output : List ℕ) → Up next.0 → AsLine hss_judged w o (Goes next output) → IsFlowing next
    as_flow log pieces _ sends _ _ up (calls s k t end said also begins_it runs over) =
        let c : Configuration = record { world = w.0; ghost_state = having_begun w.1; session = t; began = beginning w.1 s.by.name } in
        let mine : RunsOut hss_judged ring.r s.by.name c end = subst (λ x. RunsOut hss_judged x s.by.name c end) (one_r k ring.r (sym also ∙ ringed)) runs in
        let bare = bare_begins w.0 s t begins_it in
        let step = sent_step ring w.0 s t still begins_it in
        let none = subst (AllByRecursion (λ (x : Post). Contains met x.bytes)) (sym bare.1) tt in
        let flow : FlowsIn w.0.sessions w.0.sessions c = record {
          well = (still, fine);
          entries = step.entries;
          fit = (subst (AllSound ring met fits_it) (sym bare.2) tt, subst AllFit (sym bare.1) tt);
          posts_met = none;
          sessions = refl;
          agents = subst (λ ps. AllByRecursion (FlowsOn w.1.acked w.0.sessions ps) w.0.participants) (sym bare.1) h.agents;
        } in
        replied_flow end.world end.ghost_state said (over_flow w.0.sessions end (Some said) over h.sessions
        (runs_flow w.0.sessions w.0.sessions s.by.name mine bare.0 (begun_well w keeps backed ring.r ringed log pieces s sends t begins_it) (replied_up end.world said up) (record { still = still; good = good_begun; step = step }) flow))

    open_flow : (name : List ℕ) (o : Option Sending) (next : Played) (output : List ℕ) → OpenLine hss_judged w name o (Goes next output) → IsFlowing next
    open_flow name _ _ _ (opens s t closed begins_it) =
        let bare = bare_begins w.0 s t begins_it in
        record {
          agents = flows_weaker w.1.acked w.1.acked w.0.sessions (w.0.sessions ++ record { name = name; session = t } ∷ []) [] []
              (more_sessions w.1.acked w.0.sessions (w.0.sessions ++ record { name = name; session = t } ∷ []) [] (λ u c. Contains-append_left w.0.sessions (record { name = name; session = t } ∷ []) u c)) w.0.participants h.agents;
          sessions = each_append (λ (x : NamedSession). Fit x.session) w.0.sessions (record { name = name; session = t } ∷ []) h.sessions ((subst (AllSound ring met fits_it) (sym bare.2) tt, subst AllFit (sym bare.1) tt), tt);
        }

    -- a session that is open goes on
    module _ (name : List ℕ) (s : Session) (is_s : session_named w.0 name ≡ Some s) where
      abbrev at : Configuration
      at = configuration_of w s (began_of w.1 name)

      its_step : InStep ring w.0 s
      its_step = session_in (InStep ring w.0) w.0.sessions name s is_s good.sessions

      its_good : GoodIn w.0.sessions (others_of w.0.sessions name) at
      its_good = record { still = still; good = good; step = its_step }

      its_well : GoesWell ring.r at
      its_well = open_well w keeps backed ring.r ringed name s is_s

      its_flow : FlowsIn w.0.sessions (others_of w.0.sessions name) at
      its_flow = record {
        well = (still, fine);
        entries = its_step.entries;
        fit = session_in Fit w.0.sessions name s is_s h.sessions;
        posts_met = all_weaker (IsOwnPost w.0) (λ x. Contains met x.bytes) (posts_at s.stage) (λ x own_post. all_met x.bytes (up_w.met x.bytes own_post.0)) its_step.posts;
        sessions = refl;
        agents = flows_weaker w.1.acked w.1.acked w.0.sessions (others_of w.0.sessions name) [] (posts_at s.stage) (others_cover w.1.acked w.0.sessions name s (one_session w.0.sessions name s keeps.named_once is_s)) w.0.participants h.agents;
      }

    step_line_flow : (name : List ℕ) (count : ℕ) (o : Option Session) → session_named w.0 name ≡ o → (next : Played) (output : List ℕ) → Up next.0 → StepLine hss_judged w name count o (Goes next output) → IsFlowing next
    step_line_flow name count _ is_s _ _ up (steps s k end counts also on) =
        let mine : StepsOn hss_judged ring.r s.by count (at name s is_s) end = subst (λ x. StepsOn hss_judged x s.by count (at name s is_s) end) (one_r k ring.r (sym also ∙ ringed)) on in
        let flow = steps_flow w.0.sessions (others_of w.0.sessions name) s.by mine refl (its_well name s is_s) (record { met = up.met; left = up.left }) (its_good name s is_s) (its_flow name s is_s) in
        record {
          agents = subst (λ l. AllByRecursion (FlowsOn end.ghost_state.acked (map (λ (t : NamedSession). cond (bytes_eq t.name name) (record { name = name; session = end.session }) t) l) []) end.world.participants) (sym flow.sessions)
              (flows_weaker end.ghost_state.acked end.ghost_state.acked (others_of w.0.sessions name) (map (λ (t : NamedSession). cond (bytes_eq t.name name) (record { name = name; session = end.session }) t) w.0.sessions) (posts_at end.session.stage) []
              (placed_cover end.ghost_state.acked w.0.sessions name s end.session is_s) end.world.participants flow.agents);
          sessions = subst (λ l. AllByRecursion (λ (x : NamedSession). Fit x.session) (map (λ (t : NamedSession). cond (bytes_eq t.name name) (record { name = name; session = end.session }) t) l)) (sym flow.sessions) (placed_fit Fit name end.session w.0.sessions flow.fit h.sessions);
        }

    finish_flow : (name : List ℕ) (o : Option Session) → session_named w.0 name ≡ o → (next : Played) (output : List ℕ) → Up next.0 → FinishLine hss_judged w name o (Goes next output) → IsFlowing next
    finish_flow name _ is_s _ _ up (ends s k end said also runs over) =
        let mine : RunsOut hss_judged ring.r s.by (at name s is_s) end = subst (λ x. RunsOut hss_judged x s.by (at name s is_s) end) (one_r k ring.r (sym also ∙ ringed)) runs in
        let upto = replied_up (without_session end.world name) said up in
        let flow = runs_flow w.0.sessions (others_of w.0.sessions name) s.by mine refl (its_well name s is_s) (record { met = upto.met; left = upto.left }) (its_good name s is_s) (its_flow name s is_s) in
        replied_flow (without_session end.world name) (without_began end.ghost_state name) said (record {
          agents = subst (λ l. AllByRecursion (FlowsOn end.ghost_state.acked (others_of l name) []) end.world.participants) (sym flow.sessions) (subst (λ st. AllByRecursion (FlowsOn end.ghost_state.acked (others_of w.0.sessions name) (posts_at st)) end.world.participants) over flow.agents);
          sessions = subst (λ l. AllByRecursion (λ (x : NamedSession). Fit x.session) (others_of l name)) (sym flow.sessions) (each_filtered (λ (x : NamedSession). Fit x.session) (λ (t : NamedSession). not (bytes_eq t.name name)) w.0.sessions h.sessions);
        })

    -- ---- lines of participants

    its_agent : (name : List ℕ) (p : Participant) → participant w.0 name ≡ Some p → FlowsOn w.1.acked w.0.sessions [] p
    its_agent name p is_p = each (FlowsOn w.1.acked w.0.sessions []) w.0.participants p h.agents (found_named w.0.participants name p is_p).0

    log_flow : (name id seed : List ℕ) (sets : List Set) → IsSigner (fresh_signer id seed sets) → (next : Played) (output : List ℕ) → Up next.0 → LogLine hss_judged w name id seed sets (Goes next output) → IsFlowing next
    log_flow name id seed sets whole next _ up (begins k p _ also new is published) =
        publishes_flow k (one_r k ring.r (sym also ∙ ringed)) (with_new_participant w comer) comer next found still_v fine (goes.good up_v still good) fit h.sessions agents up_v up mine
      where
        comer : Participant
        comer = new_participant name (hss_opened (fresh_signer id seed sets) w.0.now)

        mine : Publishes hss_judged k (with_new_participant w (new_participant name (hss_opened (fresh_signer id seed sets) w.0.now))) (new_participant name (hss_opened (fresh_signer id seed sets) w.0.now)) next
        mine = subst (λ x. Publishes hss_judged k (with_new_participant w x) x next) is published

        at_r : Publishes hss_judged ring.r (with_new_participant w (new_participant name (hss_opened (fresh_signer id seed sets) w.0.now))) (new_participant name (hss_opened (fresh_signer id seed sets) w.0.now)) next
        at_r = subst (λ n. Publishes hss_judged n (with_new_participant w (new_participant name (hss_opened (fresh_signer id seed sets) w.0.now))) (new_participant name (hss_opened (fresh_signer id seed sets) w.0.now)) next) (one_r k ring.r (sym also ∙ ringed)) mine

        found : participant (with_new_participant w (new_participant name (hss_opened (fresh_signer id seed sets) w.0.now))).0 name ≡ Some (new_participant name (hss_opened (fresh_signer id seed sets) w.0.now))
        found = new_participant_found ring w (new_participant name (hss_opened (fresh_signer id seed sets) w.0.now)) new

        before : Participant
        before = record {
          name = name;
          agent = hss_opened (fresh_signer id seed sets) w.0.now;
          keeper = asked_to_save fresh_keeper (Some (kept_of (hss_opened (fresh_signer id seed sets) w.0.now)));
          cache = [];
          made = [];
          printed = None;
          work = 0;
          left = [];
        }

        goes : WorldGoes ring w.0 w.1 (with_new_participant w (new_participant name (hss_opened (fresh_signer id seed sets) w.0.now))).0 (with_new_participant w (new_participant name (hss_opened (fresh_signer id seed sets) w.0.now))).1
        goes = new_participant_goes ring w (new_participant name (hss_opened (fresh_signer id seed sets) w.0.now)) before refl new

        up_v : Up (with_new_participant w (new_participant name (hss_opened (fresh_signer id seed sets) w.0.now))).0
        up_v = less_up (with_new_participant w (new_participant name (hss_opened (fresh_signer id seed sets) w.0.now))).0 next.0
            (publishes_go ring (with_new_participant w (new_participant name (hss_opened (fresh_signer id seed sets) w.0.now))) (new_participant name (hss_opened (fresh_signer id seed sets) w.0.now)) next found at_r).grows up

        still_v : IsRingOf ring (with_new_participant w (new_participant name (hss_opened (fresh_signer id seed sets) w.0.now))).0
        still_v = kept_ring ring w.0 (with_new_participant w (new_participant name (hss_opened (fresh_signer id seed sets) w.0.now))).0 goes.still still

        fit : AllFit (hss_opened (fresh_signer id seed sets) w.0.now).pending
        fit = opened_fit (fresh_signer id seed sets) w.0.now whole

        reaches : own_reach (hss_opened (fresh_signer id seed sets) w.0.now) ≡ 1
        reaches =
            (let key : Key = head_key_of (own (hss_opened (fresh_signer id seed sets) w.0.now)) in
            ap (λ (b : Bool). reach (cond b (Some (own_entry (opening (own_key hss_signing (fresh_signer id seed sets)) w.0.now)).1) None)) (ties key key refl))

        newest : HasNewest w.1.acked w.0.sessions (in_publishing_order (hss_opened (fresh_signer id seed sets) w.0.now).pending) (hss_opened (fresh_signer id seed sets) w.0.now)
        newest = (
          head_post hss_signing (fresh_signer id seed sets) (own_entry (opening (own_key hss_signing (fresh_signer id seed sets)) w.0.now)).1,
          record { seq = 1; name = (opening (own_key hss_signing (fresh_signer id seed sets)) w.0.now).name },
          inr (inl (head_published (hss_opened (fresh_signer id seed sets) w.0.now).pending (head_post hss_signing (fresh_signer id seed sets) (own_entry (opening (own_key hss_signing (fresh_signer id seed sets)) w.0.now)).1) (there (record_post (opening (own_key hss_signing (fresh_signer id seed sets)) w.0.now)) (head_post hss_signing (fresh_signer id seed sets) (own_entry (opening (own_key hss_signing (fresh_signer id seed sets)) w.0.now)).1 ∷ []) (head_post hss_signing (fresh_signer id seed sets) (own_entry (opening (own_key hss_signing (fresh_signer id seed sets)) w.0.now)).1) (here (head_post hss_signing (fresh_signer id seed sets) (own_entry (opening (own_key hss_signing (fresh_signer id seed sets)) w.0.now)).1) [])) refl)),
          refl,
          refl,
          seal_judged (fresh_signer id seed sets) whole (opening (own_key hss_signing (fresh_signer id seed sets)) w.0.now) (omega arith) (omega arith) (opening_key (fresh_signer id seed sets) w.0.now),
          (let one_long = reaches in omega (arith, one_long)),
        )

        agents : AllByRecursion (FlowsOn w.1.acked w.0.sessions (in_publishing_order (hss_opened (fresh_signer id seed sets) w.0.now).pending)) (w.0.participants ++ new_participant name (hss_opened (fresh_signer id seed sets) w.0.now) ∷ [])
        agents = each_append (FlowsOn w.1.acked w.0.sessions (in_publishing_order (hss_opened (fresh_signer id seed sets) w.0.now).pending)) w.0.participants (new_participant name (hss_opened (fresh_signer id seed sets) w.0.now) ∷ [])
            (flows_weaker w.1.acked w.1.acked w.0.sessions w.0.sessions [] (in_publishing_order (hss_opened (fresh_signer id seed sets) w.0.now).pending) (more_posts_cover w.1.acked w.0.sessions (in_publishing_order (hss_opened (fresh_signer id seed sets) w.0.now).pending)) w.0.participants h.agents)
            ((saved_now (hss_opened (fresh_signer id seed sets) w.0.now) fresh_keeper (kept_of (hss_opened (fresh_signer id seed sets) w.0.now)) refl (kept_whole (fresh_signer id seed sets) whole refl w.0.now keeps.moment) fit fit, newest), tt)

    view_flow : (name : List ℕ) (members former : Option (List PubKey)) (next : Played) (output : List ℕ) → ViewLine hss_judged w name members former (Goes next output) → IsFlowing next
    view_flow name _ _ _ _ (makes members former k view next new own_keys small also is put) =
        let same = fates_rest put.fates in
        record {
          agents = subst (λ ps. AllByRecursion (FlowsOn (w.1.acked ++ acked_view view put.came) next.sessions []) ps) (sym (ap (λ (v : World). v.participants) same)) (subst (λ ss. AllByRecursion (FlowsOn (w.1.acked ++ acked_view view put.came) ss []) w.0.participants) (sym (ap (λ (v : World). v.sessions) same))
              (flows_weaker w.1.acked (w.1.acked ++ acked_view view put.came) w.0.sessions w.0.sessions [] [] (more (acked_view view put.came)) w.0.participants h.agents));
          sessions = subst (AllByRecursion (λ (s : NamedSession). Fit s.session)) (sym (ap (λ (v : World). v.sessions) same)) h.sessions;
        }
      where
        more : (posts : List Post) (x : Post) → IsCovered w.1.acked w.0.sessions [] x → IsCovered (w.1.acked ++ posts) w.0.sessions [] x
        more posts x (inl c) = inl (Contains-append_left w.1.acked posts x c)
        more posts x (inr c) = inr c

    -- sessions of others stay
    module _ (p : Participant) (is_p : participant w.0 p.name ≡ Some p) (none_open : HasNoneOpen w.0 p.name) where
      stays_open : (s : NamedSession) → Contains w.0.sessions s → Contains (without_sessions_of w.0 p.name).sessions s
      stays_open s c = in_filter (λ (t : NamedSession). not (bytes_eq t.session.by p.name)) w.0.sessions s c (by (bytes_eq s.session.by p.name) refl)
        where
          by : (b : Bool) → bytes_eq s.session.by p.name ≡ b → not b ≡ true
          by true same = absurd (each (λ (t : NamedSession). t.session.by ≢ p.name) w.0.sessions s none_open c (same_name s.session.by p.name same))
          by false other = refl

      afresh_cover : (x : Post) → IsCovered w.1.acked w.0.sessions [] x → IsCovered w.1.acked (without_sessions_of w.0 p.name).sessions [] x
      afresh_cover = more_sessions w.1.acked w.0.sessions (without_sessions_of w.0 p.name).sessions [] stays_open

      afresh_fit : AllByRecursion (λ s. Fit s.session) (without_sessions_of w.0 p.name).sessions
      afresh_fit = each_filtered (λ (s : NamedSession). Fit s.session) (λ (t : NamedSession). not (bytes_eq t.session.by p.name)) w.0.sessions h.sessions

      its_own : FlowsOn w.1.acked w.0.sessions [] p
      its_own = its_agent p.name p is_p

      -- one in its place, whose floor goes no further in its own log
      afresh_agents : (q : Participant) → HasFit q.agent q.keeper → own q.agent ≡ own p.agent → own_reach q.agent ≤ own_reach p.agent
          → AllByRecursion (FlowsOn w.1.acked (without_sessions_of w.0 p.name).sessions []) (map (λ (o : Participant). cond (bytes_eq o.name q.name) q o) w.0.participants)
      afresh_agents q fit owned less = placed_all (FlowsOn w.1.acked (without_sessions_of w.0 p.name).sessions []) q w.0.participants
          (fit, newest_weaker w.1.acked w.1.acked w.0.sessions (without_sessions_of w.0 p.name).sessions [] [] p.agent q.agent afresh_cover owned less its_own.1)
          (flows_weaker w.1.acked w.1.acked w.0.sessions (without_sessions_of w.0 p.name).sessions [] [] afresh_cover w.0.participants h.agents)

      abbrev ToFlow : Played → Type 0
      ToFlow next = Invariant next → IsFlowing next

      enters_flow : (view : View)
          → ToFlow (afresh w.0 (record p { agent = entered p.agent view; keeper = asked_to_save p.keeper (Some (kept_of (entered p.agent view))) }), afresh_told w p.name (of_members view (known_of w.1 p.name)))
      enters_flow view kept =
          let q : Participant = record p { agent = entered p.agent view; keeper = asked_to_save p.keeper (Some (kept_of (entered p.agent view))); cache = [] } in
          let whole = saved_at (afresh w.0 (record p { agent = entered p.agent view; keeper = asked_to_save p.keeper (Some (kept_of (entered p.agent view))) })) (afresh_told w p.name (of_members view (known_of w.1 p.name))) kept p.name q
          (found_placed w.0 p.name p q w.0.met is_p refl (λ b m. m) (λ b m. m)) in
          record { agents = afresh_agents q (saved_now (entered p.agent view) p.keeper (kept_of (entered p.agent view)) its_own.0.fine whole its_own.0.fit its_own.0.fit) refl (le_refl (own_reach p.agent)); sessions = afresh_fit }

      same_flow : ToFlow (with_participant w.0 (record p { agent = p.agent; keeper = p.keeper }), w.1)
      same_flow kept = record { agents = placed_all (FlowsOn w.1.acked w.0.sessions []) p w.0.participants its_own h.agents; sessions = h.sessions }

      abbrev After : View → HssEntering × Option HssKept → Type 0
      After view came = ToSuch ToFlow (after_entering w p view came.0 came.1)

      with_flow : (view : View) (o : Option Key) → After view (entering_with p.agent view (fails_next p.keeper) o)
      with_flow view (Some log) = tt
      with_flow view None = by_saves (After view) (KeeperFailed p.agent, None) (KeeperFailed (failed p.agent)) (Entered (entered p.agent view)) (Some (kept_of (entered p.agent view))) same_flow (enters_flow view) p.agent.has_failed (fails_next p.keeper) (never_fails p.keeper its_own.0.fine)

      member_flow : (view : View) (b : Bool) → After view (cond b (entering_with p.agent view (fails_next p.keeper) (not_named p.agent view)) (NotMember, None))
      member_flow view true = with_flow view (not_named p.agent view)
      member_flow view false = tt

      entering_flow : (view : View) → After view (hss_entering p.agent view (fails_next p.keeper))
      entering_flow view = member_flow view (is_own_member hss_signing p.agent view)

    its_name : (name : List ℕ) (p : Participant) → participant w.0 name ≡ Some p → (p.name ≡ name) × (participant w.0 p.name ≡ Some p)
    its_name name p is_p = let named = (found_named w.0.participants name p is_p).1 in (named, ap (participant w.0) named ∙ is_p)

    use_flow : (log : List ℕ) (o : Option Participant) (view : Option View) → participant w.0 log ≡ o → HasNoneOpen w.0 log → ToSuch (λ next. Invariant next → IsFlowing next) (use_by w o view)
    use_flow log None view is none = tt
    use_flow log (Some p) None is none = tt
    use_flow log (Some p) (Some view) is none = let at = its_name log p is in entering_flow p at.1 (subst (HasNoneOpen w.0) (sym at.0) none) view

    restart_flow : (log : List ℕ) (o : Option Participant) → participant w.0 log ≡ o → HasNoneOpen w.0 log → (next : Played) (output : List ℕ) → RestartLine w o (Goes next output) → IsFlowing next
    restart_flow log _ is none _ _ (starts p view k set in_view whole held again) = record { agents = afresh_agents p at.1 open_none q (record { fit = fit.fit; fine = fit.fine; kept = fit.kept }) owned less; sessions = afresh_fit p at.1 open_none }
      where
        at : (p.name ≡ log) × (participant w.0 p.name ≡ Some p)
        at = its_name log p is

        open_none : HasNoneOpen w.0 p.name
        open_none = subst (HasNoneOpen w.0) (sym at.0) none

        q : Participant
        q = record (having_made (record p { agent = restored k }) k.pending) { cache = [] }

        fit : HasFit (restored k) p.keeper
        fit = restarted_fit p.agent p.keeper k (its_own p at.1 open_none).0 whole held

        among : Contains w.0.participants p
        among = (found_named w.0.participants p.name p at.1).0

        signs : SignsOnce p k
        signs = so_of SignsOnce p k (each (IsKeptSo SignsOnce) w.0.participants p keeps.signs among) whole held

        owned : own (restored k) ≡ own p.agent
        owned = λ i. record { 0 = hss_key_of (signs.same.0 i) (signs.same.1 i) (signs.same.2 i) }

        its : IsBackedIn w.0.met w.1.acked p (known_of w.1 p.name)
        its = its_backed w.0 w.1 p.name p at.1 backed

        same : IsBackedKept w.1.acked (known_of w.1 p.name) p k
        same = so_of (IsBackedKept w.1.acked (known_of w.1 p.name)) p k its.keeper whole held

        less : own_reach (restored k) ≤ own_reach p.agent
        less = let reach_same = same.same_reach in let mine : own_reach (restored k) ≡ seq_of k.floor (head_key_of (own p.agent)) = ap (λ (o : PubKey). seq_of k.floor (head_key_of o)) owned in omega (arith, reach_same, mine)

    -- ---- a snapshot

    module _ (p : Participant) (is_p : participant w.0 p.name ≡ Some p) (view : View) where
      abbrev snapshot_of : HssAgent
      snapshot_of = snapped p.agent (root_name view (basis_of p.agent.holding)) (snapshot_blocks view (basis_of p.agent.holding))

      abbrev snapping_one : Participant
      snapping_one = record p {
        agent = snapped p.agent (root_name view (basis_of p.agent.holding)) (snapshot_blocks view (basis_of p.agent.holding));
        keeper = asked_to_save p.keeper (Some (kept_of (snapped p.agent (root_name view (basis_of p.agent.holding)) (snapshot_blocks view (basis_of p.agent.holding)))));
        printed = Some (root_name view (basis_of p.agent.holding));
      }

      abbrev new_blocks : List Post
      new_blocks = map block_post (filter (λ b. not (is_pending_block p.agent.pending b)) (snapshot_blocks view (basis_of p.agent.holding)))

      abbrev grown : List (List ℕ)
      grown = met_by w.0.met snapshot_of.pending

      abbrev mid : World
      mid = record (with_participant w.0 snapping_one) { met = grown }

      mine_now : FlowsOn w.1.acked w.0.sessions [] p
      mine_now = its_agent p.name p is_p

      grows_met : (b : List ℕ) → Contains w.0.met b → Contains grown b
      grows_met b c = met_stays w.0.met (map (λ (x : Post). x.bytes) snapshot_of.pending) b c

      found_mid : participant mid p.name ≡ Some snapping_one
      found_mid = found_placed w.0 p.name p snapping_one grown is_p refl grows_met (λ b c. c)

      more_mid : IsMore w.0 mid
      more_mid = placed_more w.0 p.name p snapping_one grown is_p refl grows_met (λ b c. c)

      no_head : false ≡ true → ⊥
      no_head x = cc x

      own_post : (x : Post) → Contains snapshot_of.pending x → IsOwnPost mid x
      own_post x c = (
        met_then w.0.met (map (λ (y : Post). y.bytes) snapshot_of.pending) x.bytes (into_map (λ (y : Post). y.bytes) snapshot_of.pending x c),
        ⊎_elim
            (λ old. (each (IsOwnPost mid) p.agent.pending x (more_posts w.0 mid p.agent.pending more_mid (good.pending p.name p is_p)) old).1)
            (λ late head. absurd (let from = from_map block_post (filter (λ b. not (is_pending_block p.agent.pending b)) (snapshot_blocks view (basis_of p.agent.holding))) x late in no_head (sym (ap (λ (o : Post). is_head o.kind) from.2) ∙ head)))
            (Contains-append_cases p.agent.pending new_blocks x c),
      )

      good_mid : IsGood ring mid w.1
      good_mid = placed_good ring w.0 p.name p snapping_one grown is_p refl grows_met (λ b c. c) w.1 w.1 refl (each_from (IsOwnPost mid) snapshot_of.pending own_post) good

      still_mid : IsRingOf ring mid
      still_mid = kept_ring ring w.0 mid (placed_ring ring w.0 p.name p snapping_one grown is_p refl grows_met (λ b c. c)) still

      makes_flow : ArePostsSpelled snapshot_of.pending → (k : ℕ) → k ≡ ring.r → (next : Played) → Up next.0 → Publishes hss_judged k (mid, w.1) snapping_one next → IsFlowing next
      makes_flow spelled k same next up published =
          publishes_flow k same (mid, w.1) snapping_one next found_mid still_mid fine good_mid fit h.sessions agents up_mid up published
        where
          at_r : Publishes hss_judged ring.r (mid, w.1) snapping_one next
          at_r = subst (λ n. Publishes hss_judged n (mid, w.1) snapping_one next) same published

          up_mid : Up mid
          up_mid = less_up mid next.0 (publishes_go ring (mid, w.1) snapping_one next found_mid at_r).grows up

          before : IsHssKept (kept_of p.agent)
          before = saved_at w.0 w.1 keeps p.name p is_p

          whole : IsHssKept (kept_of snapshot_of)
          whole = record { signer = before.signer; some = before.some; few = before.few; floor = before.floor; view = before.view; posts = spelled; snapshot = record { size = length-name _; each = bytes-name _ } }

          fit : AllFit snapshot_of.pending
          fit = snapped_fit p.agent (root_name view (basis_of p.agent.holding)) (snapshot_blocks view (basis_of p.agent.holding)) mine_now.0.fit

          agents : AllByRecursion (FlowsOn w.1.acked w.0.sessions (in_publishing_order snapshot_of.pending)) mid.participants
          agents = placed_all (FlowsOn w.1.acked w.0.sessions (in_publishing_order snapshot_of.pending)) snapping_one w.0.participants (
            saved_now snapshot_of p.keeper (kept_of snapshot_of) mine_now.0.fine whole fit fit,
            newest_weaker w.1.acked w.1.acked w.0.sessions w.0.sessions [] (in_publishing_order snapshot_of.pending) p.agent snapshot_of (more_posts_cover w.1.acked w.0.sessions (in_publishing_order snapshot_of.pending)) refl (le_refl (own_reach p.agent)) mine_now.1,
          )
              (flows_weaker w.1.acked w.1.acked w.0.sessions w.0.sessions [] (in_publishing_order snapshot_of.pending) (more_posts_cover w.1.acked w.0.sessions (in_publishing_order snapshot_of.pending)) w.0.participants h.agents)

      abbrev trying : (HssAgent × Bool) × Option HssKept → Participant
      trying t = record p { agent = t.0.0; keeper = asked_to_save p.keeper t.1 }

      abbrev Fails : (HssAgent × Bool) × Option HssKept → Type 0
      Fails t = t.0.1 ≡ false → IsFlowing (with_participant w.0 (trying t), w.1)

      abbrev Makes : (HssAgent × Bool) × Option HssKept → Type 0
      Makes t = t.0.1 ≡ true → (k : ℕ) (next : Played) (q : Participant) → k ≡ ring.r → q ≡ record (trying t) { printed = Some (root_name view (basis_of p.agent.holding)) } → ArePostsSpelled q.agent.pending → Up next.0
          → Publishes hss_judged k (record (with_participant w.0 q) { met = met_by w.0.met q.agent.pending }, w.1) q next → IsFlowing next

      fails_flow : Fails (snapping_in p view)
      fails_flow = by_saves Fails ((p.agent, false), None) (failed p.agent, false) (snapshot_of, true) (Some (kept_of snapshot_of))
          (λ none. record { agents = placed_all (FlowsOn w.1.acked w.0.sessions []) (record p { agent = p.agent; keeper = p.keeper }) w.0.participants mine_now h.agents; sessions = h.sessions })
          (λ none. absurd (no_head (sym none))) p.agent.has_failed (fails_next p.keeper) (never_fails p.keeper mine_now.0.fine)

      made_flow : Makes (snapping_in p view)
      made_flow = by_saves Makes ((p.agent, false), None) (failed p.agent, false) (snapshot_of, true) (Some (kept_of snapshot_of))
          (λ some k next q same is spelled up published. absurd (no_head some))
          (λ some k next q same is spelled up published.
          makes_flow (subst (λ (x : Participant). ArePostsSpelled x.agent.pending) is spelled) k same next up
          (subst (λ (x : Participant). Publishes hss_judged k (record (with_participant w.0 x) { met = met_by w.0.met x.agent.pending }, w.1) x next) is published))
          p.agent.has_failed (fails_next p.keeper) (never_fails p.keeper mine_now.0.fine)

    snap_flow : (log : List ℕ) (o : Option Participant) → participant w.0 log ≡ o → (next : Played) (output : List ℕ) → Up next.0 → SnapLine hss_judged w o (Goes next output) → IsFlowing next
    snap_flow log _ is _ _ up (snap_cannot p view in_view unspelled) = h
    snap_flow log _ is _ _ up (snap_fails p view in_view none spelled) = let at = its_name log p is in fails_flow p at.1 view none
    snap_flow log _ is _ _ up (snap_makes p q view k next in_view some also made_so spelled published) = let at = its_name log p is in made_flow p at.1 view some k next q (one_r k ring.r (sym also ∙ ringed)) made_so spelled up published

    -- ---- lines that change no participant

    still_flow : (next : Played) (c : Command) (output : List ℕ) → IsStill c → Does hss_judged w c (Goes next output) → IsFlowing next
    still_flow next c output quiet does =
        let goes = still_lines w next c output quiet does in
        record {
          agents = subst (λ (x : GhostState × World). AllByRecursion (FlowsOn x.0.acked x.1.sessions []) x.1.participants) (λ i. (sym goes.0 i, sym goes.1 i)) h.agents;
          sessions = subst (λ (x : World). AllByRecursion (λ (s : NamedSession). Fit s.session) x.sessions) (sym goes.1) h.sessions;
        }

    -- ---- each line

    such : (next : Played) (output : List ℕ) → Invariant next → (o : Outcome Played) → ToSuch (λ x. Invariant x → IsFlowing x) o → o ≡ Goes next output → IsFlowing next
    such next output kept o s same = (subst (ToSuch (λ x. Invariant x → IsFlowing x)) same s) kept

    pub command_flow : (c : Command) (next : Played) (output : List ℕ) → Invariant next → Up next.0 → IsQuiet c → Fits c → IsTidyAt w.0 c → Does hss_judged w c (Goes next output) → IsFlowing next
    command_flow (command.Log log id seed sets) next output kept up quiet fits tidy does = log_flow log id seed sets fits next output up does
    command_flow (command.View view members former) next output kept up quiet fits tidy does = view_flow view (keys_of w.0 members) (keys_of w.0 former) next output does
    command_flow (command.Use log view) next output kept up quiet fits tidy does = such next output kept (use_line w log view) (use_flow log (participant w.0 log) (view_named w.0 view) refl tidy.0) (sym does)
    command_flow (command.At sec nsec) next output kept up quiet fits tidy does = still_flow next (command.At sec nsec) output tt does
    command_flow (command.As log pieces) next output kept up quiet fits tidy does = as_flow log pieces (sending_of w.0 log pieces) refl next output up does
    command_flow (command.Open session log pieces) next output kept up quiet fits tidy does = open_flow session (sending_of w.0 log pieces) next output does
    command_flow (command.Step session count) next output kept up quiet fits tidy does = step_line_flow session count (session_named w.0 session) refl next output up does
    command_flow (command.Finish session) next output kept up quiet fits tidy does = finish_flow session (session_named w.0 session) refl next output up does
    command_flow (command.Snap log) next output kept up quiet fits tidy does = snap_flow log (participant w.0 log) refl next output up does
    command_flow (command.Restart log) next output kept up quiet fits tidy does = restart_flow log (participant w.0 log) refl tidy next output does
    command_flow (command.Show shown) next output kept up quiet fits tidy does = still_flow next (command.Show shown) output tt does
    command_flow command.Nothing next output kept up quiet fits tidy does = still_flow next command.Nothing output tt does
    command_flow command.End next output kept up quiet fits tidy does = absurd (goes_or_ends does)
      where
        goes_or_ends : Goes next output ≡ Ends → ⊥
        goes_or_ends x = cc x
    command_flow _ next output kept up quiet fits tidy does = absurd quiet
