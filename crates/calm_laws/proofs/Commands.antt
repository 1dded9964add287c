-- Each command that changes no node but by asks of sessions goes on so.
use Rattle.std.proofs.Common.{◌≡◌, ◌⊎◌, inl, inr, ⊎_elim, ℕ, Bool, true, false, cond, List, [], ◌∷◌, ◌++◌, map, Some, None, Result, Ok, Err, refl, sym, ap, ◌∙◌, subst, Contains, is_some, filter, not}
use Rattle.std.specs.List.{AllByRecursion}
use Rattle.std.proofs.lemmas.List.Elements.{Contains-append_cases}
use Rattle.ivy_base.specs.declared.key.Key.{Key}
use Rattle.std.specs.Str.{bytes_eq}
use Rattle.dhash_model.specs.Signed.{hss_judged}
use Rattle.log_model.proofs.Lists.{each, each_append, each_from}
use Rattle.log_model.specs.Record.{Record}
use Rattle.log_model.specs.View.{View, view_block, view_name}
use Rattle.snapshot_model.specs.Spelling.{root_name, snapshot_blocks}
use Rattle.dht_ids.specs.Asked.{IsForData, told}
use Rattle.dht_ids.specs.declared.ask.Answer.{Answer}
use Rattle.dht_ids.specs.declared.ask.Ask.{Ask}
use Rattle.dht_ids.specs.declared.ask.Ask.TheVariants as ask
use Rattle.dht_ids.specs.declared.ask.Heard.{Heard}
use Rattle.dht_ids.specs.declared.peer.Peer.{Peer}
use Rattle.dht_ids.specs.declared.post.Post.{Post}
use Rattle.dhash_model.specs.Execution.{IsExecution, Told, told_all}
use Rattle.dhash_model.specs.Puts.{EndsPut}
use Rattle.dhash_model.specs.declared.miss.Miss.{Miss}
use Rattle.agent_model.specs.Agent.{is_head, restored}
use Rattle.agent_model.specs.Others.{basis_of, block_post, is_pending_block, snapped}
use Rattle.session_model.specs.Sessions.{Said, Session, acknowledged, put_question}
use Rattle.script_driver.specs.Run.{Goes}
use Rattle.script_model.specs.declared.command.Command.{Command}
use Rattle.script_model.specs.declared.command.Command.TheVariants as command
use Rattle.world_model.specs.Agents.{HssAgent, hss_opened}
use Rattle.world_model.specs.World.{NamedSession, Participant, World, entries, participant, with_participant, with_session, without_session}
use Rattle.world_model.specs.GhostState.{GhostState, began_nothing, began_of}
use Rattle.world_model.specs.Fates.{Fates, Puts, asking}
use Rattle.world_model.specs.Fates.Fates.{none as fates_end, more as fates_on}
use Rattle.world_model.specs.Steps.{RunsOut, Configuration, StepsOn, having_made, met_by}
use Rattle.world_model.specs.Logs.{Played, acked_view, afresh, afresh_told, fresh_signer, new_participant, to_publish, with_view}
use Rattle.world_model.specs.Calls.{replied, configuration_of}
use Rattle.world_model.specs.Step.{Does}
use Rattle.round_laws.proofs.Fixing.{fates_first, fates_none as fates_nothing}
use Rattle.world_laws.proofs.Frames.{all_mapped, into_map}
use Rattle.world_laws.proofs.Lines.{meets_it, meets_more}
use Rattle.world_laws.proofs.NodeFates.{fate_rest}
use Rattle.world_laws.proofs.SignedAmong.{met_stays, met_then}
use Rattle.world_laws.proofs.SignedHeads.{from_map}
use Rattle.calm_laws.specs.Calm.{IsQuiet}
use Rattle.world_laws.specs.Effects.{Effect, Effects, IsRingCommand, LaterEffect, Plays, PublishesAlone, Renews, Touches, begun_configuration}
use Rattle.world_laws.specs.Effects.Effect.{comes, loses, makes_view, of_nodes, opens, plays, renews, shows, times, touches}
use Rattle.world_laws.specs.Effects.Effects.{once, twice}
use Rattle.world_laws.specs.Effects.LaterEffect.{publishes, replies}
use Rattle.world_laws.specs.Effects.Plays.{calls, ends, steps}
use Rattle.world_laws.specs.Effects.Renews.{enters, starts_again}
use Rattle.world_laws.specs.Effects.Touches.{fails, plans, snaps, unable}
use Rattle.world_laws.proofs.Effects.{lines_have_effects}
use Rattle.calm_laws.proofs.CalmNodes.{HeldStays, KeepsRings, asked_rings}
use Rattle.calm_laws.proofs.CalmStates.{ArePending, IsMore, IsOwnPost, asked_more, asked_pending, found_placed, made_left, made_own, more_post, more_posts, more_then, placed, placed_more, same_more}
use Rattle.calm_laws.proofs.Finding.{each_filtered, session_in}
use Rattle.calm_laws.proofs.Holding.{AreOrderly}
use Rattle.calm_laws.proofs.Stretches.{AreTrue, IsAckHeld, IsRingOf, IsTrueAt, Stretch, put_ends}
use Rattle.calm_laws.proofs.States.{InStep, good_later, kept_ring, more_heard, still_acked}
use Rattle.calm_laws.proofs.Steps.{placed_good, placed_ring, put_data, put_goes, put_told}
use Rattle.calm_laws.proofs.Configurations.{runs_go, steps_go}
use Rattle.calm_laws.proofs.Lines.{LineGoes, changes_go, entries_are, goes_nowhere, goes_then, new_participant_goes, publishes_go, configuration_goes, configuration_goes_to, sent_step}

-- the posts of an agent of which a snapshot was made are those that it had, and blocks
snap_posts : (a : HssAgent) (root : Key) (blocks : List (List ℕ)) (p : Post) → Contains (snapped a root blocks).pending p → is_head p.kind ≡ true → Contains a.pending p
snap_posts a root blocks p c head = ⊎_elim (λ old. old) new (Contains-append_cases a.pending (map block_post made) p c)
  where
    made : List (List ℕ)
    made = filter (λ b. not (is_pending_block a.pending b)) blocks

    new : Contains (map block_post made) p → Contains a.pending p
    new late = let found = from_map block_post made p late in let no : false ≡ true = subst (λ (x : Post). is_head x.kind ≡ true) found.2 head in absurd cc

either : (b : Bool) (P : Session → Type 0) (t : NamedSession) (n : List ℕ) (s : Session) → P t.session → P s → P (cond {A = NamedSession} b (record { name = n; session = s }) t).session
either true P t n s old new = new
either false P t n s old new = old

one_r : (a b : ℕ) → Some a ≡ Some b → a ≡ b
one_r a b e = cc e

module _ (ring : Stretch) where
  -- ---- asks of a put within a line

  pub record AsksGo (w next : World) (p : Post) (more : List Heard) : Type 0 where
    pub grows : IsMore w next
    pub still : KeepsRings w next
    pub pending : ArePending w → ArePending next
    pub sessions : next.sessions ≡ w.sessions
    pub good : IsMore next ring.end → IsRingOf ring w → AreOrderly ring.end w → IsOwnPost w p
        → AreOrderly ring.end next × HeldStays w next × AreTrue ring next (Some p) more

  pub asks_go : (p : Post) (question : Ask) → (question ≡ ask.Route p.key) ⊎ (question ≡ put_question p) → (looks : Told) (asks : List (Peer × (Ask × Answer))) (w next : World) → asks ≡ asking question looks → Fates hss_judged w asks next → AsksGo w next p (told_all question looks)
  asks_go p question is_of [] asks w next e fates =
      subst (λ v. AsksGo w v p []) (fates_nothing hss_judged w next asks e fates)
      (record { grows = same_more w; still = λ n b l t k h. h; pending = λ h. h; sessions = refl; good = λ up h orderly own. (orderly, λ key kind least m i. i, tt) })
  asks_go p question is_of (s ∷ looks) asks w next e fates =
      let one = fates_first hss_judged w next asks s.0 question s.1 (asking question looks) e fates in
      let rest = asks_go p question is_of looks (asking question looks) one.mid next refl one.others in
      record {
        grows = more_then w one.mid next (asked_more one.fate) rest.grows;
        still = λ n b l t k h. rest.still n b l t k (asked_rings w one.mid s.0 question s.1 for_data one.fate n b l t k h);
        pending = λ h. rest.pending (asked_pending one.fate h);
        sessions = rest.sessions ∙ ap (λ (v : World). v.sessions) (fate_rest one.fate);
        good = λ up h orderly own.
            let up_w = more_then w next ring.end (more_then w one.mid next (asked_more one.fate) rest.grows) up in
            let a = put_goes ring w one.mid s.0 question s.1 up_w h one.fate orderly p own is_of in
            let b = rest.good up a.still a.orderly (more_post w one.mid p (asked_more one.fate) own) in (
              b.0,
              λ key kind least m i. b.1 key kind least m (a.held key kind least m i),
              each_append (λ (x : Heard). IsTrueAt ring next (Some p) x.kind x) (told s.0 question s.1) (told_all question looks)
                  (more_heard ring one.mid next (Some p) (told s.0 question s.1) rest.grows b.1 (put_told ring w one.mid s.0 question s.1 up_w h one.fate orderly p own is_of)) b.2,
            );
      }
    where
      for_data : IsForData question
      for_data = ⊎_elim (λ g. subst IsForData (sym g) tt) (λ g. subst IsForData (sym g) (put_data p)) is_of

  pub fates_split : (question : Ask) (looks : Told) (rest asks : List (Peer × (Ask × Answer))) (w next : World) → asks ≡ asking question looks ++ rest → Fates hss_judged w asks next → (mid : World) × Fates hss_judged w (asking question looks) mid × Fates hss_judged mid rest next
  fates_split question [] rest asks w next e fates = (w, fates_end, subst (λ l. Fates hss_judged w l next) e fates)
  fates_split question (s ∷ looks) rest asks w next e fates =
      let one = fates_first hss_judged w next asks s.0 question s.1 (asking question looks ++ rest) e fates in
      let later = fates_split question looks rest (asking question looks ++ rest) one.mid next refl one.others in
      (later.0, fates_on s.0 question s.1 one.fate later.1, later.2)

  -- a whole put of a block
  puts_go : (w : World) (st : GhostState) (block : List ℕ) (next : World) (made : List Post) → Contains w.met block → (put : Puts hss_judged w ring.r (block_post block).key (ask.PutBlock (block_post block).key block) next)
      → (acknowledged put.came ≡ true → IsAckHeld ring next (block_post block) → AllByRecursion (IsAckHeld ring next) made) → (acknowledged put.came ≡ false → made ≡ []) → LineGoes ring w st next (record st { acked = st.acked ++ made })
  puts_go w st block next made met put held_then none_then = record {
    grows = more;
    still = λ n b l t k h. second.still n b l t k (first_part.still n b l t k h);
    good = λ up h g.
        let up_mid = more_then mid next ring.end second.grows up in
        let a = first_part.good up_mid h g.orderly own in
        let b = second.good up (kept_ring ring w mid first_part.still h) a.0 (more_post w mid p first_part.grows own) in
        let held : HeldStays w next = λ key kind least m i. b.1 key kind least m (a.1 key kind least m i) in
        let all = each_append (λ (x : Heard). IsTrueAt ring next (Some p) x.kind x) (told_all (ask.Route p.key) put.looks) (told_all (put_question p) put.asks) (more_heard ring mid next (Some p) (told_all (ask.Route p.key) put.looks) second.grows b.1 a.2) b.2 in
        let ends = put_ends ring next p (told_all (ask.Route p.key) put.looks ++ told_all (put_question p) put.asks) put.came (kept_ring ring mid next second.still (kept_ring ring w mid first_part.still h)) all
        (subst (λ es. IsExecution p.key (put_question p) es (EndsPut ring.r) (told_all (ask.Route p.key) put.looks ++ told_all (put_question p) put.asks) put.came) (entries_are ring w h) put.whole) in
        good_later ring w next st (record st { acked = st.acked ++ made }) g more held b.0 (second.pending (first_part.pending g.pending)) (second.sessions ∙ first_part.sessions)
        (each_append (IsAckHeld ring next) st.acked made (still_acked ring w next st.acked more held g.acked) (came_so (acknowledged put.came) refl ends));
  }
    where
      p : Post
      p = block_post block

      own : IsOwnPost w p
      own = (met, λ head. absurd cc)

      parts : (mid : World) × Fates hss_judged w (asking (ask.Route p.key) put.looks) mid × Fates hss_judged mid (asking (put_question p) put.asks) next
      parts = fates_split (ask.Route p.key) put.looks (asking (put_question p) put.asks) _ w next refl put.fates

      mid : World
      mid = parts.0

      first_part : AsksGo w mid p (told_all (ask.Route p.key) put.looks)
      first_part = asks_go p (ask.Route p.key) (inl refl) put.looks (asking (ask.Route p.key) put.looks) w mid refl parts.1

      second : AsksGo mid next p (told_all (put_question p) put.asks)
      second = asks_go p (put_question p) (inr refl) put.asks (asking (put_question p) put.asks) mid next refl parts.2

      more : IsMore w next
      more = more_then w mid next first_part.grows second.grows

      came_so : (b : Bool) → acknowledged put.came ≡ b → (acknowledged put.came ≡ true → IsAckHeld ring next p) → AllByRecursion (IsAckHeld ring next) made
      came_so true e held = held_then e (held e)
      came_so false e held = subst (AllByRecursion (IsAckHeld ring next)) (sym (none_then e)) tt

  -- a participant in place of another
  placed_goes : (w : World) (st su : GhostState) (n : List ℕ) (p q : Participant) (met : List (List ℕ)) (is_p : participant w n ≡ Some p) (named : q.name ≡ p.name) (grows : (b : List ℕ) → Contains w.met b → Contains met b) (left : (b : List ℕ) → Contains p.left b → Contains q.left b) → su.acked ≡ st.acked
      → ((v : World) → participant v n ≡ Some q → v.met ≡ met → IsMore w v → ArePending w → AllByRecursion (IsOwnPost v) q.agent.pending) → LineGoes ring w st (record (with_participant w q) { met = met }) su
  placed_goes w st su n p q met is_p named grows left e own = record {
    grows = placed_more w n p q met is_p named grows left;
    still = placed_ring ring w n p q met is_p named grows left;
    good = λ up h g. placed_good ring w n p q met is_p named grows left st su e
        (own (placed w n p q met is_p named grows left) (found_placed w n p q met is_p named grows left) refl (placed_more w n p q met is_p named grows left) g.pending) g;
  }

  -- ---- effects

  replied_goes : (w : World) (st : GhostState) (said : Said) → LineGoes ring w st (replied w said) st
  replied_goes w st said = by (is_some said.message)
    where
      by : (t : Bool) → LineGoes ring w st (cond t (record w { replies = w.replies ++ record { handle = said.handle; verifier = said.verifier } ∷ [] }) w) st
      by true = changes_go ring w _ st st refl refl refl refl refl (λ b h. h) (λ i ss. ss) refl
      by false = goes_nowhere ring w st

  no_ring : (k : Command) → IsQuiet k → IsRingCommand k → ⊥
  no_ring (command.Ring nodes replicas) quiet ring_it = quiet
  no_ring (command.Join node) quiet ring_it = quiet
  no_ring (command.Stop node) quiet ring_it = quiet
  no_ring command.Round quiet ring_it = quiet
  no_ring (command.Damage node key offset byte) quiet ring_it = quiet
  no_ring _ quiet ring_it = ring_it

  module _ (w : Played) (ringed : w.0.replicas ≡ Some ring.r) where
    abbrev GoesTo : World → GhostState → Type 0
    GoesTo next st = LineGoes ring w.0 w.1 next st

    -- a view is made
    view_goes : (name : List ℕ) (s : ℕ) (view : View) (next : World) → w.0.replicas ≡ Some s → (put : Puts hss_judged (with_view w.0 name view) s (view_name view) (ask.PutBlock (view_name view) (view_block view)) next)
        → GoesTo next (record w.1 { acked = w.1.acked ++ acked_view view put.came })
    view_goes name s view next also put =
        goes_then ring w.0 (with_view w.0 name view) next w.1 w.1 _
        (changes_go ring w.0 (with_view w.0 name view) w.1 w.1 refl refl refl refl refl (λ b c. meets_more w.0.met (view_block view) b c) (λ i ss. ss) refl)
        (mine s (one_r s ring.r (sym also ∙ ringed)) put)
      where
        yes_so : (came : Result Bool Miss) → acknowledged came ≡ true → IsAckHeld ring next (block_post (view_block view)) → AllByRecursion (IsAckHeld ring next) (acked_view view came)
        yes_so (Ok true) e held = (held, tt)
        yes_so (Ok false) e held = tt
        yes_so (Err miss) e held = tt

        no_so : (came : Result Bool Miss) → acknowledged came ≡ false → acked_view view came ≡ []
        no_so (Ok true) e = absurd cc
        no_so (Ok false) e = refl
        no_so (Err miss) e = refl

        mine : (s : ℕ) → s ≡ ring.r → (put : Puts hss_judged (with_view w.0 name view) s (view_name view) (ask.PutBlock (view_name view) (view_block view)) next)
            → LineGoes ring (with_view w.0 name view) w.1 next (record w.1 { acked = w.1.acked ++ acked_view view put.came })
        mine s e put = puts_go (with_view w.0 name view) w.1 (view_block view) next (acked_view view put.came) (meets_it w.0.met (view_block view))
            (record {
              looks = put.looks;
              asks = put.asks;
              came = put.came;
              fates = put.fates;
              whole = subst (λ k. IsExecution (view_name view) (ask.PutBlock (view_name view) (view_block view)) (entries (with_view w.0 name view)) (EndsPut k) (told_all (ask.Route (view_name view)) put.looks ++ told_all (ask.PutBlock (view_name view) (view_block view)) put.asks) put.came) e put.whole;
            })
            (yes_so put.came) (no_so put.came)

    -- a participant of which an agent has the same to publish
    same_goes : (name : List ℕ) (p q : Participant) → participant w.0 name ≡ Some p → q.name ≡ p.name → q.left ≡ p.left → q.agent.pending ≡ p.agent.pending → GoesTo (with_participant w.0 q) w.1
    same_goes name p q is named left stays =
        placed_goes w.0 w.1 w.1 name p q w.0.met is named (λ b h. h) (λ b h. subst (λ l. Contains l b) (sym left) h) refl
        (λ v at same more pend. subst (AllByRecursion (IsOwnPost v)) (sym stays) (more_posts w.0 v p.agent.pending more (pend name p is)))

    touched_goes : {k : Command} (name : List ℕ) (p q : Participant) {posts : List Post} → IsQuiet k → participant w.0 name ≡ Some p → Touches w.0 p name k q posts → GoesTo (record (with_participant w.0 q) { met = met_by w.0.met posts }) w.1
    touched_goes name p _ quiet is (plans count new) = absurd quiet
    touched_goes name p _ quiet is (unable k saves was) = same_goes name p p is refl refl refl
    touched_goes name p q quiet is (fails k saving was now attempt) = same_goes name p q is refl refl refl
    touched_goes name p t quiet is (snaps view was now in_view spelled) =
        placed_goes w.0 w.1 w.1 name p t (met_by w.0.met t.agent.pending) is refl (λ b c. met_stays w.0.met (map (λ (x : Post). x.bytes) t.agent.pending) b c) (λ b c. c) refl
        (λ v at same more pend. each_from (IsOwnPost v) t.agent.pending (λ post among. (
          subst (λ m. Contains m post.bytes) (sym same) (met_then w.0.met (map (λ (x : Post). x.bytes) t.agent.pending) post.bytes (into_map (λ (x : Post). x.bytes) t.agent.pending post among)),
          λ head. (each (IsOwnPost v) p.agent.pending post (more_posts w.0 v p.agent.pending more (pend name p is)) (snap_posts p.agent (root_name view (basis_of p.agent.holding)) (snapshot_blocks view (basis_of p.agent.holding)) post among head)).1 head,
        )))

    renewed_goes : {k : Command} (name : List ℕ) (p q : Participant) {posts : List Post} {set : List Record} → participant w.0 name ≡ Some p → Renews w p name k q posts set → GoesTo (record (afresh w.0 q) { met = met_by w.0.met posts }) (afresh_told w p.name set)
    renewed_goes name p q is (enters called view is_view member named was now) =
        let mid : World = with_participant w.0 (record q { cache = [] }) in
        goes_then ring w.0 mid _ w.1 w.1 _ (same_goes name p (record q { cache = [] }) is refl refl refl)
        (changes_go ring mid _ w.1 _ refl refl refl refl refl (λ b h. h) (λ i ss. each_filtered (λ (t : NamedSession). InStep ring mid t.session) _ w.0.sessions ss) refl)
    renewed_goes name p _ is (starts_again view k set in_view whole kept known) =
        let before : Participant = record p { agent = restored k; cache = [] } in
        let q : Participant = having_made before k.pending in
        let mid : World = record (with_participant w.0 q) { met = met_by w.0.met k.pending } in
        goes_then ring w.0 mid _ w.1 w.1 _
        (placed_goes w.0 w.1 w.1 name p q (met_by w.0.met k.pending) is refl (λ b c. met_stays w.0.met (map (λ (x : Post). x.bytes) k.pending) b c) (λ b c. made_left before k.pending b c) refl
        (λ v at same more pend. made_own v name before w.0.met k.pending at same))
        (changes_go ring mid _ w.1 _ refl refl refl refl refl (λ b c. c) (λ i ss. each_filtered (λ (t : NamedSession). InStep ring mid t.session) _ w.0.sessions ss) refl)

    -- what an effect leaves, and how many replicas there are where publishing follows
    record Onward (k : Command) (next : Played) : Type 0 where
      goes : GoesTo next.0 next.1
      ringed_then : PublishesAlone k → next.0.replicas ≡ Some ring.r

    played_goes : {k : Command} {s : ℕ} {name : List ℕ} {c end : Configuration} {next : Played} → s ≡ ring.r → Plays hss_judged w s k name c end next → Onward k next
    played_goes same (calls log pieces s t end sends begins runs over) = record {
      goes =
          let c : Configuration = begun_configuration w s t in
          let mine : RunsOut hss_judged ring.r s.by.name c end = subst (λ x. RunsOut hss_judged x s.by.name c end) same runs in
          configuration_goes ring w.0 w.1 c end refl refl (runs_go ring s.by.name mine) (λ h g. sent_step ring w.0 s t h begins);
      ringed_then = λ alone. absurd alone;
    }
    played_goes same (steps name count s end is on) = record {
      goes =
          let c : Configuration = configuration_of w s (began_of w.1 name) in
          let mine : StepsOn hss_judged ring.r s.by count c end = subst (λ x. StepsOn hss_judged x s.by count c end) same on in
          configuration_goes_to ring w.0 w.1 c end (with_session end.world name end.session) _ refl refl (steps_go ring s.by mine)
          (λ i g. session_in (InStep ring w.0) w.0.sessions name s is g.sessions) refl refl refl refl refl (λ b g. g)
          (λ ss mine. all_mapped (λ (x : NamedSession). InStep ring end.world x.session) _ end.world.sessions (λ x among. either (bytes_eq x.name name) (InStep ring end.world) x name end.session (each (λ (x : NamedSession). InStep ring end.world x.session) end.world.sessions x ss among) mine)) refl;
      ringed_then = λ alone. absurd alone;
    }
    played_goes same (ends name s end is runs over) = record {
      goes =
          let c : Configuration = configuration_of w s (began_of w.1 name) in
          let mine : RunsOut hss_judged ring.r s.by c end = subst (λ x. RunsOut hss_judged x s.by c end) same runs in
          configuration_goes_to ring w.0 w.1 c end (without_session end.world name) _ refl refl (runs_go ring s.by mine)
          (λ i g. session_in (InStep ring w.0) w.0.sessions name s is g.sessions) refl refl refl refl refl (λ b g. g)
          (λ ss mine. each_filtered (λ (x : NamedSession). InStep ring end.world x.session) _ end.world.sessions ss) refl;
      ringed_then = λ alone. absurd alone;
    }

    effect_goes : {k : Command} → IsQuiet k → (next : Played) → Effect hss_judged w k next → Onward k next
    effect_goes quiet _ (shows _ is) = record { goes = goes_nowhere ring w.0 w.1; ringed_then = λ alone. ringed }
    effect_goes quiet _ (times sec nsec) = record { goes = changes_go ring w.0 _ w.1 w.1 refl refl refl refl refl (λ b h. h) (λ h ss. ss) refl; ringed_then = λ alone. ringed }
    effect_goes quiet _ (loses count) = absurd quiet
    effect_goes quiet _ (of_nodes k ring_it next is) = absurd (no_ring k quiet ring_it)
    effect_goes quiet _ (makes_view name names others members former s view next are also_are new own_keys small also is put) = record { goes = view_goes name s view next also put; ringed_then = λ alone. absurd alone }
    effect_goes quiet _ (comes name id seed sets new) =
        let a : HssAgent = hss_opened (fresh_signer id seed sets) w.0.now in
        let q : Participant = new_participant name a in
        record { goes = new_participant_goes ring w q (record { name = name; agent = a; keeper = q.keeper; cache = []; made = []; printed = None; work = 0; left = [] }) refl new; ringed_then = λ alone. ringed }
    effect_goes quiet _ (touches k name p q posts is touching) = record { goes = touched_goes name p q quiet is touching; ringed_then = λ alone. ringed }
    effect_goes quiet _ (renews k name p q posts set is renewing) = record { goes = renewed_goes name p q is renewing; ringed_then = λ alone. ringed }
    effect_goes quiet _ (opens name log pieces s t new sends begins) = record {
      goes = changes_go ring w.0 _ w.1 _ refl refl refl refl refl (λ b c. c)
          (λ i ss. each_append (λ (x : NamedSession). InStep ring w.0 x.session) w.0.sessions (record { name = name; session = t } ∷ []) ss (sent_step ring w.0 s t i begins, tt)) refl;
      ringed_then = λ alone. absurd alone;
    }
    effect_goes quiet next (plays _ s name c end _ also is) = played_goes (one_r s ring.r (sym also ∙ ringed)) is

    later_goes : {k : Command} (mid next : Played) → Onward k mid → LaterEffect hss_judged mid k next → GoesTo next.0 next.1
    later_goes mid _ h (publishes k alone s p end also is_p over runs) =
        let same : s ≡ ring.r = one_r s ring.r (sym also ∙ h.ringed_then alone) in
        goes_then ring w.0 mid.0 end.world w.1 mid.1 end.ghost_state h.goes
        (publishes_go ring mid p (end.world, end.ghost_state) is_p (end, subst (λ x. RunsOut hss_judged x p.name (record { world = mid.0; ghost_state = mid.1; session = to_publish mid.0 p; began = began_nothing }) end) same runs, refl))
    later_goes mid _ h (replies k ended said) = goes_then ring w.0 mid.0 (replied mid.0 said) w.1 mid.1 mid.1 h.goes (replied_goes mid.0 mid.1 said)

    effects_go : {k : Command} {next : Played} → IsQuiet k → Effects hss_judged w k next → GoesTo next.0 next.1
    effects_go quiet (once {next = next} effect) = (effect_goes quiet next effect).goes
    effects_go quiet (twice {mid = mid} {next = next} effect later) = later_goes mid next (effect_goes quiet mid effect) later

  pub command_goes : (w next : Played) (c : Command) (output : List ℕ) → w.0.replicas ≡ Some ring.r → IsQuiet c → Does hss_judged w c (Goes next output) → LineGoes ring w.0 w.1 next.0 next.1
  command_goes w next c output ringed quiet does = effects_go w ringed quiet (lines_have_effects w next c output does)
