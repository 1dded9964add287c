-- A get of a session that refreshes ends, in steps in none of which memory runs out: then its refresh has failed, or goes on with what it
-- was brought.
use Rattle.std.proofs.Common.{◌≡◌, ◌⊎◌, inl, inr, ℕ, suc, Bool, true, false, List, [], ◌∷◌, ◌++◌, map, get_or, Some, refl, sym, ap, ◌∙◌, subst, Contains}
use Rattle.std.specs.List.{AllByRecursion}
use Rattle.std.proofs.lemmas.List.{append_assoc, append-nil}
use Rattle.dhash_model.specs.Signed.{hss_judged}
use Rattle.dhash_model.specs.declared.miss.Miss.{Miss}
use Rattle.wire_model.specs.Rpc.{Success, SystemError, reply}
use Rattle.nfs_model.specs.declared.replies.Reply.{Reply}
use Rattle.dht_ids.specs.Asked.{IsForData, told}
use Rattle.dht_ids.specs.declared.ask.Answer.{Answer}
use Rattle.dht_ids.specs.declared.ask.Ask.{Ask}
use Rattle.dht_ids.specs.declared.ask.Ask.TheVariants as ask
use Rattle.dht_ids.specs.declared.ask.Heard.{Heard}
use Rattle.dht_ids.specs.declared.peer.Peer.{Peer}
use Rattle.ring_model.proofs.Lists.{all_weaker, nil_cons}
use Rattle.agent_model.specs.Standing.{Refresh}
use Rattle.session_model.specs.Asking.{AsksNext, IsBegun}
use Rattle.session_model.specs.Brought.{Brought, Part, WantedOfRing, brought_in}
use Rattle.session_model.specs.Executions.{Fails, ended as session_ended}
use Rattle.session_model.specs.Executions.Fails.{fails, goes_on}
use Rattle.session_model.specs.Refreshing.{Done, FailsBy, Needs, Note, RefreshEnd, Refreshes}
use Rattle.session_model.specs.Replies.{missed_reply, said_no_memory, said_of}
use Rattle.session_model.specs.Sessions.{Cache, Gets, IsGet, Over, Refreshing, Said, Session, Takes, TakesAll, Wants, keeping, wanted_key}
use Rattle.session_model.specs.Sessions.Gets.{heads as got_heads, content as got_content}
use Rattle.session_model.specs.Sessions.Hears.{got, gets_on}
use Rattle.session_model.specs.Sessions.Takes.{posted, cached}
use Rattle.session_model.specs.Sessions.TakesAll.{none as takes_none}
use Rattle.session_laws.specs.Going.{ComesTo, IsOfWant}
use Rattle.session_laws.proofs.AskedGets.{get_entries, gets_are_deterministic}
use Rattle.session_laws.proofs.AskedPlans.{Follows, Plan, asking, ended, entry, some_follows}
use Rattle.session_laws.proofs.OneRefresh.{refresh_is_deterministic}
use Rattle.world_model.specs.GhostState.{Began, GhostState}
use Rattle.world_model.specs.Steps.{Configuration, Steps, StepsOn, ask_told}
use Rattle.world_model.specs.Steps.Acts.{asks}
use Rattle.world_model.specs.Steps.Steps.{acts}
use Rattle.world_model.specs.Steps.StepsOn.{none as steps_none, more as steps_more}
use Rattle.world_model.specs.World.{World, Participant, participant, peer_of, with_participant}
use Rattle.world_laws.specs.Invariant.{IsAtStage, IsInHand, IsRefreshing, IsRefreshingOn, Invariant}
use Rattle.world_laws.specs.Laws.{HasMemoryAt, RefreshIsOver}
use Rattle.world_laws.specs.Laws.RefreshIsOver.{has_failed}
use Rattle.world_laws.proofs.EachStep.{all_some}
use Rattle.world_laws.proofs.ExistingFates.{IsAsked, Serves, ask_one, names_made, serves_so}
use Rattle.world_laws.proofs.ExistingPlans.{AsksOnly, Names, left_behind}
use Rattle.world_laws.proofs.ExistingPuts.{configuration}
use Rattle.world_laws.proofs.FullPlans.{get_planned}
use Rattle.world_laws.proofs.NodeFates.{PutsMet}
use Rattle.world_laws.proofs.SessionLinesSteps.{step_leads}
use Rattle.world_laws.proofs.TakingOn.{comes_with, taking_keeps}

-- ---- what is said

answered_status : (xid : ℕ) (result : List ℕ) → get_or (reply xid (Success result)) 23 0 ≡ 0
answered_status xid result = refl

error_status : (xid : ℕ) → get_or (reply xid SystemError) 23 0 ≡ 5
error_status xid = refl

some_bytes : (a b : List ℕ) → Some a ≡ Some b → a ≡ b
some_bytes a b e = cc e

answered_otherwise : (xid other : ℕ) (result : List ℕ) → Some (reply xid (Success result)) ≡ Some (reply other SystemError) → ⊥
answered_otherwise xid other result e = cc (sym (answered_status xid result) ∙ ap (λ (l : List ℕ). get_or l 23 0) (some_bytes (reply xid (Success result)) (reply other SystemError) e) ∙ error_status other)

same_said : (a b : Said) → Over (Some a) ≡ Over (Some b) → a ≡ b
same_said a b e = cc e

-- a reply isn't that memory ran out
pub reply_has_memory : (s : Session) (xid : ℕ) (r : Reply) → s.stage ≡ Over (Some (said_of xid r)) → HasMemoryAt s
reply_has_memory s xid r at other is = answered_otherwise xid other _ (ap (λ (m : Said). m.message) (same_said (said_of xid r) (said_no_memory other) (sym at ∙ is)))

pub refreshing_has_memory : (s : Session) → s.stage ≡ Refreshing → HasMemoryAt s
refreshing_has_memory s at xid is = cc (sym at ∙ is)

of_gets : {r : ℕ} {entries : List Peer} {want : WantedOfRing} {asks : List Heard} {brought : Brought} → Gets hss_judged r entries want asks brought → IsOfWant want brought
of_gets (got_heads came h) = refl
of_gets (got_content came h) = refl

fails_or_needs : (miss : Miss) (want : WantedOfRing) → FailsBy miss ≡ Needs want → ⊥
fails_or_needs miss want e = cc e

fails_or_done : (miss : Miss) → FailsBy miss ≡ Done → ⊥
fails_or_done miss e = cc e

-- ---- configurations of a session that refreshes

module _ (r : ℕ) (s : Session) (refreshing : s.stage ≡ Refreshing) (b : Began) where
  -- the session with these parts, and the asks of the get on its way
  abbrev pub at : List Part → List Heard → Session
  at parts current = record s { parts = parts; current = current }

  abbrev pub with_parts : World → GhostState → List Part → List Heard → Configuration
  with_parts w st parts current = configuration w st (at parts current) b

  pub record Stands (c : Configuration) : Type 0 where
    pub keeps : Invariant (c.world, c.ghost_state)
    pub hand : IsInHand c r
    pub ringed : c.world.replicas ≡ Some r

  -- steps to where the refresh is done or has failed
  pub record Out (c : Configuration) : Type 0 where
    pub count : ℕ
    pub next : Configuration
    pub steps : StepsOn hss_judged r s.by count c next
    pub memory : HasMemoryAt next.session
    pub same_starts : next.session.starts ≡ s.starts
    pub over : RefreshIsOver r next

  after : (c between : Configuration) → Steps hss_judged r s.by c between → Out between → Out c
  after c between step out = record { count = suc out.count; next = out.next; steps = steps_more step out.steps; memory = out.memory; same_starts = out.same_starts; over = out.over }

  stands_then : (c next : Configuration) → c.session.by ≡ s.by → Stands c → Steps hss_judged r s.by c next → Stands next
  stands_then c next named stands step =
      let led = step_leads r s.by c next named stands.keeps stands.hand stands.ringed step in
      record { keeps = led.leaves.0; hand = led.leaves.1; ringed = led.same.replicas ∙ stands.ringed }

  -- once what is available is taken
  module _ (w : World) (st : GhostState) (before : List Part) (early : List Heard) (stands : Stands (with_parts w st before early)) (p : Participant) (is_p : participant w s.by ≡ Some p) (parts : List Part) (current : List Heard) (cache : Cache)
      (all : TakesAll hss_judged r (at before early) p.cache (at parts current) cache) where
    then_so : Invariant (with_participant w (record p { cache = cache }), st) × IsInHand (with_parts (with_participant w (record p { cache = cache })) st parts current) r
    then_so = taking_keeps (with_parts w st before early) r p (at parts current) cache stands.keeps stands.hand is_p (all_some all)

    pub refreshes_now : IsRefreshing r (at parts current)
    refreshes_now = subst (IsAtStage (with_participant w (record p { cache = cache })) r (at parts current)) refreshing then_so.1.goes_on.stage

  -- ---- one get

  module _ (want : WantedOfRing) (parts : List Part) (notes : List Note) (given : Refresh) (wanted : Refreshes s.standing (brought_in parts) notes given (Needs want)) where
    abbrev asked : Bool → Ask
    asked true = ask.Route (wanted_key want)
    asked false = ask.Get (wanted_key want)

    abbrev IsAll : List Heard → Type 0
    IsAll trail = IsGet hss_judged r s.entries want trail

    told_so : (looks : Bool) (node : Peer) (answer : Answer) → told node (asked looks) answer ≡ entry (get_entries (wanted_key want)) looks node answer ∷ []
    told_so true node answer = refl
    told_so false node answer = refl

    is_of : (looks : Bool) → (asked looks ≡ ask.Route (wanted_key want)) ⊎ (asked looks ≡ ask.Get (wanted_key want))
    is_of true = inl refl
    is_of false = inr refl

    fits : (met : List (List ℕ)) (looks : Bool) → IsForData (asked looks) × PutsMet met (asked looks)
    fits met true = (tt, tt)
    fits met false = (tt, tt)

    wants : (current : List Heard) → Wants hss_judged r (at parts current) want
    wants current = (refreshing, notes, given, wanted)

    not_failed : (other : List Note) (also : Refresh) (miss : Miss) → Refreshes s.standing (brought_in parts) other also (FailsBy miss) → ⊥
    not_failed other also miss failed = fails_or_needs miss want (refresh_is_deterministic s.standing (brought_in parts) other notes also given (FailsBy miss) (Needs want) failed wanted).2

    -- with what came of it
    abbrev pub more_parts : Brought → List Heard → List Part
    more_parts came trail = parts ++ record { brought = came; asks = trail } ∷ []

    abbrev pub Later : Type 0
    Later = (came : Brought) (trail : List Heard) (w : World) (st : GhostState) → IsOfWant want came → Stands (with_parts w st (more_parts came trail) []) → Out (with_parts w st (more_parts came trail) [])

    -- from where the session stands, once what is available is taken
    module _ (w : World) (st : GhostState) (before : List Part) (early : List Heard) (stands : Stands (with_parts w st before early)) (p : Participant) (is_p : participant w s.by ≡ Some p) (current : List Heard) (cache : Cache)
        (all : TakesAll hss_judged r (at before early) p.cache (at parts current) cache) where
      abbrev here : Configuration
      here = with_parts w st before early

      abbrev holder : Participant
      holder = record p { cache = cache }

      abbrev taken_world : World
      taken_world = with_participant w holder

      now : IsRefreshing r (at parts current)
      now = refreshes_now w st before early stands p is_p parts current cache all

      module _ (node : Peer) (looks : Bool) (peers : List Peer) (a : IsAsked r peers taken_world.met taken_world node (asked looks)) (next : AsksNext (wanted_key want) (ask.Get (wanted_key want)) IsAll current node (asked looks)) where
        abbrev trail : List Heard
        trail = current ++ told node (asked looks) a.given

        -- the configuration after the ask, by which the session became this one
        abbrev asked_configuration : Session → Cache → Configuration
        asked_configuration t kept = configuration (with_participant a.next (record holder { cache = kept })) (ask_told st p.name (at parts current) t) t b

        on_step : (IsAll trail → ⊥) → Steps hss_judged r s.by here (asked_configuration (at parts trail) cache)
        on_step part = acts p (at parts current) cache (asked_configuration (at parts trail) cache) is_p all
            (asks node (asked looks) a.given a.next (at parts trail) (at parts trail) cache a.fate (gets_on want (wants current) next part) (goes_on (λ other also miss e failed. not_failed other also miss failed)))

        got_step : (came : Brought) → Gets hss_judged r s.entries want trail came → (t : Session) → Fails (at (more_parts came trail) []) t → Steps hss_judged r s.by here (asked_configuration t (keeping hss_judged r came cache))
        got_step came gets t failed = acts p (at parts current) cache (asked_configuration t (keeping hss_judged r came cache)) is_p all
            (asks node (asked looks) a.given a.next (at (more_parts came trail) []) t (keeping hss_judged r came cache) a.fate (got want came (wants current) next gets) failed)

        got_out : (came : Brought) → Gets hss_judged r s.entries want trail came → Later → Out here
        got_out came gets later = by comes.end refl
          where
            comes : ComesTo s.standing (brought_in (more_parts came trail))
            comes = comes_with r (at parts current) want came trail (wants current) (of_gets gets)

            on : ((miss : Miss) → FailsBy miss ≡ comes.end → ⊥) → Out here
            on not =
                let step = got_step came gets (at (more_parts came trail) [])
                (goes_on (λ other also miss e failed. not miss (refresh_is_deterministic s.standing (brought_in (more_parts came trail)) other comes.notes also comes.given (FailsBy miss) comes.end failed comes.refreshes).2)) in
                after here (asked_configuration (at (more_parts came trail) []) (keeping hss_judged r came cache)) step
                (later came trail _ _ (of_gets gets) (stands_then here (asked_configuration (at (more_parts came trail) []) (keeping hss_judged r came cache)) refl stands step))

            gone : (miss : Miss) → comes.end ≡ FailsBy miss → Out here
            gone miss is =
                let t : Session = session_ended (at (more_parts came trail) []) (said_of now.xid (missed_reply now.asked miss)) comes.notes (Some miss) in
                let step = got_step came gets t
                (fails comes.notes comes.given miss now.xid now.asked refreshing (subst (Refreshes s.standing (brought_in (more_parts came trail)) comes.notes comes.given) is comes.refreshes) now.asks) in
                record {
                  count = 1;
                  next = asked_configuration t (keeping hss_judged r came cache);
                  steps = steps_more step steps_none;
                  memory = reply_has_memory t now.xid (missed_reply now.asked miss) refl;
                  same_starts = refl;
                  over = has_failed (said_of now.xid (missed_reply now.asked miss)) miss refl refl;
                }

            by : (end : RefreshEnd) → comes.end ≡ end → Out here
            by (Needs other) is = on (λ miss e. fails_or_needs miss other (e ∙ is))
            by (FailsBy miss) is = gone miss is
            by Done is = on (λ miss e. fails_or_done miss (e ∙ is))

        -- after the ask the get is over, or goes on
        asked_out : (q : Plan) → ((more : List Heard) → Follows (get_entries (wanted_key want)) q more → IsAll (trail ++ more)) → Later
            → ((part : IsAll trail → ⊥) → Stands (asked_configuration (at parts trail) cache) → Out (asked_configuration (at parts trail) cache)) → Out here
        asked_out ended whole later go = (let came : IsAll trail = subst IsAll (append-nil trail) (whole [] refl) in got_out came.0 came.1 later)
        asked_out (asking n l nexts) whole later go =
            let some = some_follows (get_entries (wanted_key want)) (asking n l nexts) in
            let part : IsAll trail → ⊥ = λ came. nil_cons (entry (get_entries (wanted_key want)) l n some.1.0) some.1.1 (sym ((gets_are_deterministic hss_judged r s.entries want).0 trail some.0 came (whole some.0 some.1)) ∙ some.1.2) in
            let step = on_step part in
            after here (asked_configuration (at parts trail) cache) step (go part (stands_then here (asked_configuration (at parts trail) cache) refl stands step))

    -- after an ask nothing is available
    nothing_taken : (current : List Heard) → (current ≡ [] → ⊥) → (cache : Cache) → TakesAll hss_judged r (at parts current) cache (at parts current) cache
    nothing_taken current some cache = takes_none (λ t kept takes. some (fresh takes))
      where
        fresh : {x t : Session} {c kept : Cache} → Takes hss_judged r x c t kept → x.current ≡ []
        fresh (posted key bytes want none is) = none
        fresh (cached key bytes want none missing is) = none

    some_told : (current : List Heard) (looks : Bool) (node : Peer) (answer : Answer) → current ++ told node (asked looks) answer ≡ [] → ⊥
    some_told [] looks node answer e = nil_cons (entry (get_entries (wanted_key want)) looks node answer) [] (sym e ∙ told_so looks node answer)
    some_told (h ∷ current) looks node answer e = nil_cons h (current ++ told node (asked looks) answer) (sym e)

    get_out : (q : Plan) (peers : List Peer) (w : World) (st : GhostState) (before : List Part) (early : List Heard) (stands : Stands (with_parts w st before early)) (p : Participant) (is_p : participant w s.by ≡ Some p) (current : List Heard)
        (cache : Cache) → TakesAll hss_judged r (at before early) p.cache (at parts current) cache → map peer_of w.nodes ≡ peers → AsksOnly (Contains peers) q
        → ((more : List Heard) → Follows (get_entries (wanted_key want)) q more → IsAll (current ++ more)) → (IsAll current → ⊥) → Later → Out (with_parts w st before early)
    get_out ended peers w st before early stands p is_p current cache all same only whole part later = absurd (part (subst IsAll (append-nil current) (whole [] refl)))
    get_out (asking node looks next) peers w st before early stands p is_p current cache all same only whole part later =
        let taken : World = with_participant w (record p { cache = cache }) in
        let keeps : Invariant (taken, st) = (then_so w st before early stands p is_p parts current cache all).0 in
        let serves : Serves r peers taken.met taken = subst (λ (ps : List Peer). Serves r ps taken.met taken) same (serves_so taken st r keeps stands.ringed) in
        let a = ask_one r peers taken.met taken serves node (asked looks) only.0 (fits taken.met looks).0 (fits taken.met looks).1 in
        let whole_then : (more : List Heard) → Follows (get_entries (wanted_key want)) (next a.given) more → IsAll ((current ++ told node (asked looks) a.given) ++ more) =
        λ more f. subst IsAll
        (ap (λ (l : List Heard). current ++ (l ++ more)) (sym (told_so looks node a.given)) ∙ sym (append_assoc current (told node (asked looks) a.given) more))
        (whole (entry (get_entries (wanted_key want)) looks node a.given ∷ more) (a.given, more, refl, f)) in
        let some = some_follows (get_entries (wanted_key want)) (next a.given) in
        asked_out w st before early stands p is_p current cache all node looks peers a (record { is_of = is_of looks; answer = a.given; more = some.0; whole = whole_then some.0 some.1 }) (next a.given) whole_then later
        (λ not_yet stands_on. get_out (next a.given) peers _ _ parts (current ++ told node (asked looks) a.given) stands_on stands_on.hand.goes_on.by stands_on.hand.goes_on.is_by (current ++ told node (asked looks) a.given)
        stands_on.hand.goes_on.by.cache (nothing_taken (current ++ told node (asked looks) a.given) (some_told current looks node a.given) stands_on.hand.goes_on.by.cache) a.serves.same_peers (only.1 a.given a.names) whole_then not_yet later)

    -- from where the get has come to
    pub get_on : (w : World) (st : GhostState) (before : List Part) (early : List Heard) (stands : Stands (with_parts w st before early)) (p : Participant) (is_p : participant w s.by ≡ Some p) (current : List Heard) (cache : Cache)
        → TakesAll hss_judged r (at before early) p.cache (at parts current) cache → Later → Out (with_parts w st before early)
    get_on w st before early stands p is_p current cache all later =
        let hand = (then_so w st before early stands p is_p parts current cache all).1 in
        let now = refreshes_now w st before early stands p is_p parts current cache all in
        let begun : IsBegun IsAll current = subst (IsRefreshingOn r (at parts current)) (refresh_is_deterministic s.standing (brought_in parts) now.notes notes now.given given now.end (Needs want) now.refreshed wanted).2 now.goes_on in
        let peers : List Peer = map peer_of w.nodes in
        let planned = get_planned r s.entries (Contains peers) stands.hand.goes_on.entries want in
        let named : AllByRecursion (λ (h : Heard). Names (Contains peers) h.got) current = all_weaker _ _ current (λ (h : Heard) i. names_made (with_participant w (record p { cache = cache })) peers refl h.got i) hand.goes_on.heard in
        let left = left_behind (Contains peers) (get_entries (wanted_key want)) planned.plan current begun.1 planned.only named (planned.fits (current ++ begun.1) begun.2) in
        get_out left.left peers w st before early stands p is_p current cache all refl left.only (λ more f. planned.back (current ++ more) (left.whole more f)) begun.0 later
