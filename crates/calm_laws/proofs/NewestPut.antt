-- In calm and tidy scripts a put of each log's newest head was acknowledged, while no session is open.
use Rattle.std.proofs.Common.{◌≡◌, inl, inr, ℕ, ◌+◌, ◌≤◌, List, [], refl, sym, ap, ◌∙◌, subst, Contains}
use Rattle.std.specs.List.{AllByRecursion}
use Rattle.ivy_base.specs.Naming.{IsCollisionFree}
use Rattle.log_model.proofs.Lists.{each, in_nothing}
use Rattle.dht_ids.specs.declared.post.Post.{Post}
use Rattle.dhash_model.specs.Signed.{hss_judged}
use Rattle.script_driver.specs.Run.{Goes}
use Rattle.script_model.specs.Lines.{command_of}
use Rattle.script_model.specs.declared.command.Command.{Command}
use Rattle.script_model.specs.declared.command.Command.TheVariants as command
use Rattle.world_model.specs.Logs.{Played}
use Rattle.world_model.specs.Step.{Does, most_bytes}
use Rattle.world_model.specs.GhostState.{GhostState, empty_ghost_state}
use Rattle.world_model.specs.World.{NamedSession, World, named_bytes}
use Rattle.calm_laws.specs.Calm.{Calmly, IsCalm, Joined, Since, Stopped}
use Rattle.calm_laws.specs.Calm.IsCalm.{joins, other, rounds, stops}
use Rattle.calm_laws.specs.Calm.Calmly.{more as calmly_more, none as calmly_none}
use Rattle.world_laws.specs.Invariant.{Invariant}
use Rattle.world_laws.specs.Laws.{LinesKeep}
use Rattle.calm_laws.proofs.CalmRuns.{first_of}
use Rattle.calm_laws.proofs.CalmStates.{IsMore, same_more}
use Rattle.world_laws.proofs.LineFits.{Fits}
use Rattle.calm_laws.specs.Laws.{IsWithinLimit}
use Rattle.calm_laws.proofs.BlockKinds.{AreApart, fewer_apart}
use Rattle.calm_laws.proofs.Commands.{command_goes}
use Rattle.calm_laws.proofs.Facts.{HasFacts}
use Rattle.calm_laws.proofs.Rooms.{total}
use Rattle.calm_laws.proofs.Runs.{apart_at, calmly, facts_on, first_facts, first_keeps, first_state, fresh, has_room, line_facts, line_state, rings}
use Rattle.calm_laws.proofs.States.{kept_ring}
use Rattle.calm_laws.proofs.Stretches.{Stretch}
use Rattle.calm_laws.proofs.Worlds.{IsStanding, IsState, good_onward, on, stretch}
use Rattle.calm_laws.specs.Completeness.{IsTidyAt}
use Rattle.calm_laws.specs.Takes.{CalmTidily, NewestArePut}
use Rattle.calm_laws.specs.Takes.CalmTidily.{more as calm_tidily_more, none as calm_tidily_none}
use Rattle.calm_laws.proofs.BackedLines.{apart_first, calm_does, calm_line}
use Rattle.calm_laws.proofs.NewestCover.{IsCovered}
use Rattle.calm_laws.proofs.NewestLines.{command_flow}
use Rattle.calm_laws.proofs.NewestConfigurations.{FitSession, FlowsOn}
use Rattle.calm_laws.proofs.PutsAcked.{all_fine}
use Rattle.calm_laws.proofs.RingLines.{ChangesRing, ring_changes}
use Rattle.calm_laws.proofs.Whole.{first_backed}
use Rattle.calm_laws.proofs.BackedWorlds.{IsBackedWorld}

calmly_of : (r : ℕ) {v w : Played} {since after : Since} {lines : List (List ℕ)} → CalmTidily r v since lines w after → Calmly r v since lines w after
calmly_of r calm_tidily_none = calmly_none
calmly_of r (calm_tidily_more c output is calm tidy step rest) = calmly_more c output is calm step (calmly_of r rest)

-- ---- what flows between lines, up to what is met in the end

abbrev Agents : Played → Type 0
Agents v = AllByRecursion (FlowsOn v.1.acked v.0.sessions []) v.0.participants

abbrev Sessions : (r k : ℕ) (met : List (List ℕ)) → total met ≤ most_bytes → (v : Played) → IsStanding r k v.0 v.1 → Type 0
Sessions r k met fits v s = AllByRecursion (λ (x : NamedSession). FitSession (on r k v s) met fits x.session) v.0.sessions

-- while a node joins no session is open
abbrev FlowAt : (r : ℕ) (met : List (List ℕ)) → total met ≤ most_bytes → (v : Played) (since : Since) → IsState r v.0 v.1 since → Type 0
FlowAt r met fits v (Stopped k) s = Agents v × Sessions r k met fits v s
FlowAt r met fits v Joined s = Agents v × (v.0.sessions ≡ [])

agents_at : (r : ℕ) (met : List (List ℕ)) (fits : total met ≤ most_bytes) (v : Played) (since : Since) (s : IsState r v.0 v.1 since) → FlowAt r met fits v since s → Agents v
agents_at r met fits v (Stopped k) s h = h.0
agents_at r met fits v Joined s h = h.0

module _ (r : ℕ) (w : Played) (fits : total w.0.met ≤ most_bytes) (v mid : Played) (output : List ℕ) (keeps : Invariant v) (kept : Invariant mid) (room : IsWithinLimit v.0) (apart : AreApart mid.0) (grows : IsMore v.0 mid.0) (more : IsMore mid.0 w.0) (backed : IsBackedWorld v.0 v.1) where
  -- a line that changes the ring moves no posts
  moved : (c : Command) → ChangesRing c → Does hss_judged v c (Goes mid output) → Agents v → v.0.sessions ≡ [] → Agents mid × (mid.0.sessions ≡ [])
  moved c ring does h none =
      let change = ring_changes (λ kind key bytes. Unit {0}) v mid output c ring does in (
        subst (λ (st : GhostState). AllByRecursion (FlowsOn st.acked mid.0.sessions []) mid.0.participants) (sym change.1)
            (subst (λ ss. AllByRecursion (FlowsOn v.1.acked ss []) mid.0.participants) (sym change.0.sessions) (subst (AllByRecursion (FlowsOn v.1.acked v.0.sessions [])) (sym change.0.participants) h)),
        change.0.sessions ∙ none,
      )

  no_sessions : (k : ℕ) (t : IsStanding r k mid.0 mid.1) → mid.0.sessions ≡ [] → Sessions r k w.0.met fits mid t
  no_sessions k t none = subst (AllByRecursion (λ (x : NamedSession). FitSession (on r k mid t) w.0.met fits x.session)) (sym none) tt

  abbrev Then : Since → Type 0
  Then between = (t : IsState r mid.0 mid.1 between) × FlowAt r w.0.met fits mid between t

  line_flow : {since between : Since} {c : Command} → IsCalm v.0 r since c between → Fits c → IsTidyAt v.0 c → Does hss_judged v c (Goes mid output) → HasFacts r v.0 since → (s : IsState r v.0 v.1 since) → FlowAt r w.0.met fits v since s → Then between
  line_flow (rounds since none) fitting tidy does f s h =
      let t : IsStanding r 0 mid.0 mid.1 = line_state r v mid output (rounds since none) does room apart f s in
      let then_moved = moved command.Round tt does (agents_at r w.0.met fits v since s h) none in
      (t, (then_moved.0, no_sessions 0 t then_moved.1))
  line_flow (joins number none) fitting tidy does f s h = (line_state r v mid output (joins number none) does room apart f s, moved (command.Join number) tt does h.0 none)
  line_flow (stops count node none short two) fitting tidy does f s h =
      let t : IsStanding r (count + 1) mid.0 mid.1 = line_state r v mid output (stops count node none short two) does room apart f s in
      let then_moved = moved (command.Stop node) tt does h.0 none in
      (t, (then_moved.0, no_sessions (count + 1) t then_moved.1))
  line_flow (other count c quiet) fitting tidy does f s h =
      let ring : Stretch = stretch r s.base s.links s.start count s.stands mid.0 apart in
      let good = good_onward (on r count v s) mid.0 apart room grows v.0 v.1 s.good in
      let goes = command_goes ring v mid c output s.still.replicas quiet does in
      let t : IsStanding r count mid.0 mid.1 = record { base = s.base; links = s.links; start = s.start; stands = s.stands; apart = apart; still = kept_ring ring v.0 mid.0 goes.still s.still; good = goes.good (same_more mid.0) s.still good } in
      let flows = command_flow ring w.0.met fits more.met v keeps s.still.replicas s.still (all_fine w.0.met v keeps s.good.orderly (λ b m. more.met b (grows.met b m))) good backed grows
      (record { agents = h.0; sessions = h.1 }) c mid output kept (same_more mid.0) quiet fitting tidy does in
      (t, (flows.agents, flows.sessions))

module _ (lines_keep : LinesKeep) (r : ℕ) where
  runs_newest : {v w : Played} {since after : Since} {lines : List (List ℕ)} → CalmTidily r v since lines w after → (fits : total w.0.met ≤ most_bytes) → AreApart w.0 → IsCollisionFree (named_bytes w.0)
      → Invariant v → HasFacts r v.0 since → (s : IsState r v.0 v.1 since) → IsBackedWorld v.0 v.1 → FlowAt r w.0.met fits v since s → Agents w
  runs_newest {v = v} {since = since} calm_tidily_none fits apart names keeps f s backed h = agents_at r v.0.met fits v since s h
  runs_newest (calm_tidily_more {w = v} {mid = mid} {next = w} {line = line} c output is calm tidy step rest) fits apart names keeps f s backed h =
      let done = calm_does v mid line output c is step in
      let run = calmly_of r rest in
      let kept = lines_keep v mid line output keeps step in
      let one = line_facts r v mid output calm done.1 f in
      let later = facts_on r run one.0 in
      let room = has_room v mid output (command_of line) step in
      let apart_mid = fewer_apart mid.0 w.0 later.1 apart in
      let flows = line_flow r w fits v mid output keeps kept room apart_mid one.1 later.1 backed calm done.0 tidy done.1 f s h in
      runs_newest rest fits apart names kept one.0 flows.0 (calm_line v mid output c keeps kept (apart_first lines_keep run kept names) calm done.0 done.1 backed) flows.1

-- ---- the whole

-- where no session is open a covered post is one of which a put was acknowledged
closed_put : (acked : List Post) (ss : List NamedSession) (x : Post) → ss ≡ [] → IsCovered acked ss [] x → Contains acked x
closed_put acked ss x none (inl c) = c
closed_put acked ss x none (inr (inl c)) = absurd (in_nothing x c)
closed_put acked ss x none (inr (inr (s, c, among))) = absurd (in_nothing s (subst (λ l. Contains l s) none c))

pub newest_are_put : LinesKeep → NewestArePut
newest_are_put lines_keep r w count lines calm tidy closed fits q among =
    let run : CalmTidily r (calm.made, empty_ghost_state) (Stopped 0) lines w (Stopped count) = subst (λ (v : Played). CalmTidily r (calm.made, v.1) (Stopped 0) lines w (Stopped count)) calm.fresh.2 tidy in
    let apart = apart_at r w (Stopped count) lines calm in
    let facts = first_facts r w (Stopped count) lines calm in
    let first = first_of (fresh r w (Stopped count) lines calm) calm.made calm.count r (rings r w (Stopped count) lines calm) in
    let state : IsStanding r 0 calm.made empty_ghost_state = first_state r w (Stopped count) lines calm (fewer_apart calm.made w.0 (facts_on r (calmly r w (Stopped count) lines calm) facts).1 apart) in
    let flows = runs_newest lines_keep r run fits apart calm.apart (first_keeps r w (Stopped count) lines calm) facts state (first_backed r (fresh r w (Stopped count) lines calm) calm.made refl refl first) (
      subst (AllByRecursion (FlowsOn [] calm.made.sessions [])) (sym (ap (λ (v : World). v.participants) first.rest)) tt,
      subst (AllByRecursion (λ (s : NamedSession). FitSession (on r 0 (calm.made, empty_ghost_state) state) w.0.met fits s.session)) (sym (ap (λ (v : World). v.sessions) first.rest)) tt,
    ) in
    let its = (each (FlowsOn w.1.acked w.0.sessions []) w.0.participants q flows among).1 in
    (its.0, its.1, closed_put w.1.acked w.0.sessions its.0 closed its.2, its.3, its.4, its.5, its.6)
