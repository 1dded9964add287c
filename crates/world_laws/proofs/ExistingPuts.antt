-- A session's posts can be put to their end, whatever its ghost state: each put asks a next node, hears any answer, and is over after
-- finitely many asks; then all is settled.
use Rattle.std.proofs.Common.{◌≡◌, ◌≢◌, ◌⊎◌, inl, inr, ℕ, zero, suc, ◌≤◌, Bool, true, false, cond, List, [], ◌∷◌, ◌++◌, length, map, filter, Option, Some, refl, sym, ap, ◌∙◌, subst, arith, le_refl, Contains, not}
use Rattle.std.specs.List.{AllByRecursion}
use Rattle.std.proofs.lemmas.List.{append_assoc, append-nil}
use Rattle.dhash_model.specs.Signed.{hss_judged}
use Rattle.dht_ids.specs.Asked.{IsForData, told}
use Rattle.dht_ids.specs.declared.ask.Answer.{Answer}
use Rattle.dht_ids.specs.declared.ask.Ask.{Ask}
use Rattle.dht_ids.specs.declared.ask.Ask.TheVariants as ask
use Rattle.dht_ids.specs.declared.ask.Heard.{Heard}
use Rattle.dht_ids.specs.declared.peer.Peer.{Peer}
use Rattle.dht_ids.specs.declared.post.Ack.{Ack}
use Rattle.dht_ids.specs.declared.post.Post.{Post}
use Rattle.ring_model.proofs.Lists.{nil_cons}
use Rattle.agent_model.specs.Agent.{is_head}
use Rattle.agent_model.specs.Others.{settled}
use Rattle.session_model.specs.Asking.{AsksNext, IsBegun}
use Rattle.session_model.specs.Executions.Fails.{goes_on}
use Rattle.session_model.specs.Executions.Settles.{settles as settles_all}
use Rattle.session_model.specs.Sessions.{IsPut, Publishing, Refreshing, Over, Said, Session, acknowledged, after_put, held_back, is_log, put_question}
use Rattle.session_model.specs.Sessions.Hears.{puts_on, puts}
use Rattle.session_model.specs.Sessions.TakesAll.{none as takes_none}
use Rattle.session_laws.proofs.AskedPlans.{Entries, Follows, IsToldBy, Plan, asking, ended, entry, some_follows}
use Rattle.session_laws.proofs.AskedPuts.{kind_of_post, of_post, put_entries, puts_are_deterministic, told_put}
use Rattle.world_model.specs.GhostState.{Began, GhostState}
use Rattle.world_model.specs.World.{World, Participant, participant, with_participant}
use Rattle.world_model.specs.Steps.{Acts, Configuration, Steps, ask_told}
use Rattle.world_model.specs.Steps.Acts.{asks, settles}
use Rattle.world_model.specs.Steps.Steps.{acts}
use Rattle.world_model.specs.Steps.{RunsOut, StepsOn}
use Rattle.world_model.specs.Steps.RunsOut.{is_over as runs_over, more as runs_more}
use Rattle.world_model.specs.Steps.StepsOn.{none as steps_none, is_over as steps_over, more as steps_more}
use Rattle.world_laws.specs.Invariant.{AreApart, IsMetPost, IsPuttingOn}
use Rattle.world_laws.proofs.ExistingFates.{IsAsked, Serves, ask_one}
use Rattle.world_laws.proofs.ExistingPlans.{AsksOnly, IsPlannedOf, Names, left_behind, put_planned}
use Rattle.world_laws.proofs.Frames.{placed_itself}
use Rattle.world_laws.proofs.NodeFates.{PutsMet}
use Rattle.world_laws.proofs.Publishing.{fewer_met, question_fits, short_filter, takes_nothing}

-- ---- steps of which the ghost state decides nothing

abbrev pub configuration : World → GhostState → Session → Began → Configuration
configuration w st s b = record { world = w; ghost_state = st; session = s; began = b }

-- from any ghost state there is this step
abbrev pub MayStep : ℕ → List ℕ → World → Session → World → Session → Type 0
MayStep r name w s v t = (st : GhostState) (b : Began) → (su : GhostState) × Steps hss_judged r name (configuration w st s b) (configuration v su t b)

-- such steps up to the end
pub data Execution (r : ℕ) (name : List ℕ) : World → Session → World → Session → Type 0 where
  over : {w : World} {s : Session} (said : Option Said) → s.stage ≡ Over said → Execution r name w s w s
  more : {w v e : World} {s t u : Session} → MayStep r name w s v t → Execution r name v t e u → Execution r name w s e u

-- a session that says this in the end
pub record Ended (r : ℕ) (name : List ℕ) (w : World) (s : Session) (said : Option Said) : Type 0 where
  pub world : World
  pub session : Session
  pub is_over : session.stage ≡ Over said
  pub execution : Execution r name w s world session

pub after_step : {r : ℕ} {name : List ℕ} {w v : World} {s t : Session} {said : Option Said} → MayStep r name w s v t → Ended r name v t said → Ended r name w s said
after_step step rest = record { world = rest.world; session = rest.session; is_over = rest.is_over; execution = more step rest.execution }

pub runs_out : {r : ℕ} {name : List ℕ} {w e : World} {s u : Session} → Execution r name w s e u → (st : GhostState) (b : Began) → (su : GhostState) × RunsOut hss_judged r name (configuration w st s b) (configuration e su u b)
runs_out (over said is) st b = (st, runs_over said is)
runs_out (more step rest) st b = (let one = step st b in let others = runs_out rest one.0 b in (others.0, runs_more one.1 others.1))

-- so many of these steps
pub record StepsTo (r : ℕ) (name : List ℕ) (count : ℕ) (w : World) (s : Session) : Type 0 where
  pub world : World
  pub session : Session
  pub steps : (st : GhostState) (b : Began) → (su : GhostState) × StepsOn hss_judged r name count (configuration w st s b) (configuration world su session b)

pub steps_to : {r : ℕ} {name : List ℕ} {w e : World} {s u : Session} (count : ℕ) → Execution r name w s e u → StepsTo r name count w s
steps_to {w = w} {s = s} zero execution = record { world = w; session = s; steps = λ st b. (st, steps_none) }
steps_to {w = w} {s = s} (suc count) (over said is) = record { world = w; session = s; steps = λ st b. (st, steps_over said is) }
steps_to (suc count) (more step rest) = (let others = steps_to count rest in record {
  world = others.world;
  session = others.session;
  steps = λ st b. (let one = step st b in let more_of = others.steps one.0 b in (more_of.0, steps_more one.1 more_of.1));
})

-- ---- a participant's session

module _ (r : ℕ) (peers : List Peer) (met : List (List ℕ)) (name : List ℕ) (by : Participant) where
  -- its nodes answer, and the participant is there
  pub record Stands (w : World) : Type 0 where
    pub serves : Serves r peers met w
    pub apart : AreApart (map (λ p. p.name) w.participants)
    pub is_by : participant w name ≡ Some by

  -- what the participant's session does is its step, where it doesn't refresh
  acting : (w v : World) (s t : Session) → Stands w → (s.stage ≡ Refreshing → ⊥) → ((st : GhostState) (b : Began) → (su : GhostState) × Acts hss_judged r by (configuration w st s b) (configuration v su t b)) → MayStep r name w s v t
  acting w v s t stands other act st b =
      let one = act st b in (
        one.0,
        acts by s by.cache (configuration v one.0 t b) stands.is_by (takes_none (λ u after takes. takes_nothing hss_judged r s u by.cache after other takes))
            (subst (λ (u : World). Acts hss_judged r by (configuration u st s b) (configuration v one.0 t b)) (sym (placed_itself w stands.apart name by stands.is_by)) one.1),
      )

  stands_then : (w : World) → Stands w → (node : Peer) (question : Ask) (a : IsAsked r peers met w node question) → Stands a.next
  stands_then w stands node question a = record {
    serves = a.serves;
    apart = subst (λ (v : World). AreApart (map (λ p. p.name) v.participants)) (sym a.rest) stands.apart;
    is_by = ap (λ (v : World). participant v name) a.rest ∙ stands.is_by;
  }

  -- ---- one put

  module _ (said : Option Said) (p : Post) (posts : List Post) (acks : List Ack) (is_met : IsMetPost met p) where
    abbrev entries_of_put : Entries
    entries_of_put = put_entries (kind_of_post (is_head p.kind)) p.bytes p.key

    abbrev asked : Bool → Ask
    asked true = ask.Route p.key
    asked false = put_question p

    told_owners : IsToldBy entries_of_put (put_question p)
    told_owners = of_post (IsToldBy entries_of_put) p (told_put (kind_of_post (is_head p.kind)) p.bytes p.key)

    told_so : (looks : Bool) (node : Peer) (given : Answer) → told node (asked looks) given ≡ entry entries_of_put looks node given ∷ []
    told_so true node given = refl
    told_so false node given = told_owners node given

    is_of : (looks : Bool) → (asked looks ≡ ask.Route p.key) ⊎ (asked looks ≡ put_question p)
    is_of true = inl refl
    is_of false = inr refl

    fits : (looks : Bool) → IsForData (asked looks) × PutsMet met (asked looks)
    fits looks = question_fits met p is_met.0 (asked looks) (is_of looks)

    publishes : (came : Bool) → after_put said p posts acks came ≡ Refreshing → ⊥
    publishes true e = cc e
    publishes false e = cc e

    -- one ask of the put, by which the trail becomes this one
    module _ (node : Peer) (looks : Bool) (w : World) (s : Session) (stands : Stands w) (at : s.stage ≡ Publishing said (p ∷ posts) acks) (a : IsAsked r peers met w node (asked looks))
        (next : AsksNext p.key (put_question p) (IsPut hss_judged r s p) s.current node (asked looks)) where
      abbrev trail : List Heard
      trail = s.current ++ told node (asked looks) a.given

      publishing : s.stage ≡ Refreshing → ⊥
      publishing e = cc (sym at ∙ e)

      itself : with_participant a.next by ≡ a.next
      itself = (let then_so = stands_then w stands node (asked looks) a in placed_itself a.next then_so.apart name by then_so.is_by)

      goes_on_so : (IsPut hss_judged r s p trail → ⊥) → MayStep r name w s a.next (record s { current = trail })
      goes_on_so part = acting w a.next s (record s { current = trail }) stands publishing (λ st b. (
        ask_told st by.name s (record s { current = trail }),
        subst (λ (u : World). Acts hss_judged r by (configuration w st s b) (configuration u (ask_told st by.name s (record s { current = trail })) (record s { current = trail }) b)) itself
            (asks node (asked looks) a.given a.next (record s { current = trail }) (record s { current = trail }) by.cache a.fate (puts_on said p posts acks at next part) (goes_on (λ notes given miss e refreshed. publishing e))),
      ))

      is_put_so : (came : IsPut hss_judged r s p trail) → MayStep r name w s a.next (record s { stage = after_put said p posts acks (acknowledged came.0); current = [] })
      is_put_so came = acting w a.next s (record s { stage = after_put said p posts acks (acknowledged came.0); current = [] }) stands publishing (λ st b. (
        ask_told st by.name s (record s { stage = after_put said p posts acks (acknowledged came.0); current = [] }),
        subst
            (λ (u : World). Acts hss_judged r by (configuration w st s b)
            (configuration u (ask_told st by.name s (record s { stage = after_put said p posts acks (acknowledged came.0); current = [] })) (record s { stage = after_put said p posts acks (acknowledged came.0); current = [] }) b))
            itself
            (asks node (asked looks) a.given a.next (record s { stage = after_put said p posts acks (acknowledged came.0); current = [] }) (record s { stage = after_put said p posts acks (acknowledged came.0); current = [] }) by.cache a.fate
            (puts said p posts acks came.0 at next came.1) (goes_on (λ notes given miss e refreshed. publishes (acknowledged came.0) e))),
      ))

    -- after an ask the put goes on, or is whole
    on : (node : Peer) (looks : Bool) (w : World) (s : Session) → Stands w → s.stage ≡ Publishing said (p ∷ posts) acks
        → ((v : World) (came : Bool) → Stands v → Ended r name v (record s { stage = after_put said p posts acks came; current = [] }) said)
        → (a : IsAsked r peers met w node (asked looks)) (q : Plan) → ((trail : List Heard) → Follows entries_of_put q trail → IsPut hss_judged r s p ((s.current ++ told node (asked looks) a.given) ++ trail))
        → ((IsPut hss_judged r s p (s.current ++ told node (asked looks) a.given) → ⊥) → Ended r name a.next (record s { current = s.current ++ told node (asked looks) a.given }) said) → Ended r name w s said
    on node looks w s stands at later a ended whole go =
        let came : IsPut hss_judged r s p (s.current ++ told node (asked looks) a.given) = subst (IsPut hss_judged r s p) (append-nil (s.current ++ told node (asked looks) a.given)) (whole [] refl) in
        after_step (is_put_so node looks w s stands at a (record { is_of = is_of looks; answer = a.given; more = []; whole = whole [] refl }) came) (later a.next (acknowledged came.0) (stands_then w stands node (asked looks) a))
    on node looks w s stands at later a (asking n l nexts) whole go =
        let some = some_follows entries_of_put (asking n l nexts) in
        let not_yet : IsPut hss_judged r s p (s.current ++ told node (asked looks) a.given) → ⊥ =
        λ came. nil_cons (entry entries_of_put l n some.1.0) some.1.1 (sym ((puts_are_deterministic hss_judged r s p).0 (s.current ++ told node (asked looks) a.given) some.0 came (whole some.0 some.1)) ∙ some.1.2) in
        after_step (goes_on_so node looks w s stands at a (record { is_of = is_of looks; answer = a.given; more = some.0; whole = whole some.0 some.1 }) not_yet) (go not_yet)

    -- after a plan that is left the put goes on to its end
    put_out : (q : Plan) (w : World) (s : Session) → Stands w → s.stage ≡ Publishing said (p ∷ posts) acks → AsksOnly (Contains peers) q
        → ((trail : List Heard) → Follows entries_of_put q trail → IsPut hss_judged r s p (s.current ++ trail)) → (IsPut hss_judged r s p s.current → ⊥)
        → ((v : World) (came : Bool) → Stands v → Ended r name v (record s { stage = after_put said p posts acks came; current = [] }) said) → Ended r name w s said
    put_out ended w s stands at only whole part later = absurd (part (subst (IsPut hss_judged r s p) (append-nil s.current) (whole [] refl)))
    put_out (asking node looks next) w s stands at only whole part later =
        let a = ask_one r peers met w stands.serves node (asked looks) only.0 (fits looks).0 (fits looks).1 in
        let then_stands : Stands a.next = stands_then w stands node (asked looks) a in
        let whole_then : (trail : List Heard) → Follows entries_of_put (next a.given) trail → IsPut hss_judged r s p ((s.current ++ told node (asked looks) a.given) ++ trail) =
        λ trail f. subst (IsPut hss_judged r s p)
        (ap (λ (l : List Heard). s.current ++ (l ++ trail)) (sym (told_so looks node a.given)) ∙ sym (append_assoc s.current (told node (asked looks) a.given) trail))
        (whole (entry entries_of_put looks node a.given ∷ trail) (a.given, trail, refl, f)) in
        on node looks w s stands at later a (next a.given) whole_then
        (λ not_yet. put_out (next a.given) a.next (record s { current = s.current ++ told node (asked looks) a.given }) then_stands at (only.1 a.given a.names) whole_then not_yet later)

    -- from where the put has come to
    put_on : (w : World) (s : Session) → Stands w → s.stage ≡ Publishing said (p ∷ posts) acks → AllByRecursion (Contains peers) s.entries → AllByRecursion (λ h. Names (Contains peers) h.got) s.current
        → IsBegun (IsPut hss_judged r s p) s.current
        → ((v : World) (came : Bool) → Stands v → Ended r name v (record s { stage = after_put said p posts acks came; current = [] }) said) → Ended r name w s said
    put_on w s stands at made named begun later =
        let planned : IsPlannedOf (Contains peers) entries_of_put (IsPut hss_judged r s p) = put_planned entries_of_put (put_question p) told_owners r s.entries (Contains peers) made in
        let left = left_behind (Contains peers) entries_of_put planned.plan s.current begun.1 planned.only named (planned.fits (s.current ++ begun.1) begun.2) in
        put_out left.left w s stands at left.only (λ trail f. planned.back (s.current ++ trail) (left.whole trail f)) begun.0 later

  -- ---- all of them

  settle : (w : World) (s : Session) (said : Option Said) (acks : List Ack) → Stands w → s.stage ≡ Publishing said [] acks → Ended r name w s said
  settle w s said acks stands at = record {
    world = with_participant w (record by { agent = settled by.agent acks });
    session = record s { stage = Over said };
    is_over = refl;
    execution = more
        (acting w (with_participant w (record by { agent = settled by.agent acks })) s (record s { stage = Over said }) stands (λ e. cc (sym at ∙ e)) (λ st b. (st, settles (settled by.agent acks) (record s { stage = Over said }) (settles_all said acks at))))
        (over said refl);
  }

  short_held : (p : Post) (posts : List Post) → length (held_back p posts) ≤ length posts
  short_held p posts = by_kind (is_log p.kind)
    where
      by_kind : (b : Bool) → length (cond b (filter (λ (q : Post). not (is_head q.kind)) posts) posts) ≤ length posts
      by_kind true = short_filter (λ (q : Post). not (is_head q.kind)) posts
      by_kind false = le_refl (length posts)

  -- after a put the next one begins
  next_put : (p : Post) (posts : List Post) (w : World) (s : Session) (said : Option Said) (acks : List Ack)
      → ((v : World) (t : Session) (others : List Post) (more_acks : List Ack) → length others ≤ length posts → Stands v → t.stage ≡ Publishing said others more_acks → t.current ≡ [] → t.entries ≡ s.entries
      → AllByRecursion (IsMetPost met) others → Ended r name v t said)
      → AllByRecursion (IsMetPost met) posts → (v : World) (came : Bool) → Stands v → Ended r name v (record s { stage = after_put said p posts acks came; current = [] }) said
  next_put p posts w s said acks out are_met v true stands = out v (record s { stage = after_put said p posts acks true; current = [] }) posts _ (le_refl (length posts)) stands refl refl refl are_met
  next_put p posts w s said acks out are_met v false stands =
      out v (record s { stage = after_put said p posts acks false; current = [] }) (held_back p posts) acks (short_held p posts) stands refl refl refl (fewer_met met p posts are_met)

  pub all_out : (n : ℕ) (posts : List Post) → length posts ≤ n → (w : World) (s : Session) (said : Option Said) (acks : List Ack) → Stands w → s.stage ≡ Publishing said posts acks → s.current ≡ [] → s.entries ≢ []
      → AllByRecursion (Contains peers) s.entries → AllByRecursion (IsMetPost met) posts → Ended r name w s said
  all_out n [] few w s said acks stands at fresh some made are_met = settle w s said acks stands at
  all_out zero (p ∷ posts) few w s said acks stands at fresh some made are_met = absurd (omega (arith, few))
  all_out (suc n) (p ∷ posts) few w s said acks stands at fresh some made are_met =
      put_on said p posts acks are_met.0 w s stands at made (subst (AllByRecursion (λ h. Names (Contains peers) h.got)) (sym fresh) tt) (subst (IsBegun (IsPut hss_judged r s p)) (sym fresh) ((puts_are_deterministic hss_judged r s p).3 some))
      (next_put p posts w s said acks (λ v t others more_acks fewer stands_v goes_on fresh_t same are_met_then.
      all_out n others (omega (arith, few, fewer)) v t said more_acks stands_v goes_on fresh_t (subst (λ (l : List Peer). l ≢ []) (sym same) some) (subst (AllByRecursion (Contains peers)) (sym same) made) are_met_then) are_met.1)

  -- from where a session has come to
  pub all_on : (posts : List Post) (w : World) (s : Session) (said : Option Said) (acks : List Ack) → Stands w → s.stage ≡ Publishing said posts acks → s.entries ≢ [] → AllByRecursion (Contains peers) s.entries
      → AllByRecursion (λ h. Names (Contains peers) h.got) s.current → AllByRecursion (IsMetPost met) posts → IsPuttingOn r s posts → Ended r name w s said
  all_on [] w s said acks stands at some made named are_met putting = settle w s said acks stands at
  all_on (p ∷ posts) w s said acks stands at some made named are_met putting =
      put_on said p posts acks are_met.0 w s stands at made named putting
      (next_put p posts w s said acks (λ v t others more_acks fewer stands_v goes_on fresh_t same are_met_then.
      all_out (length posts) others fewer v t said more_acks stands_v goes_on fresh_t (subst (λ (l : List Peer). l ≢ []) (sym same) some) (subst (AllByRecursion (Contains peers)) (sym same) made) are_met_then) are_met.1)
