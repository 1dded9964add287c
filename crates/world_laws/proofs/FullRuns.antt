-- Where memory is there, a refresh of a session in hand runs out: what is available is taken, and each get ends, up to where it is done or
-- has failed.
use Rattle.std.proofs.Common.{◌≡◌, ◌⊎◌, inl, inr, ⊎_elim, ℕ, zero, List, [], ◌∷◌, ◌++◌, Option, Some, None, Ok, refl, sym, ap, ◌∙◌, subst}
use Rattle.ivy_base.specs.declared.key.Key.{Key}
use Rattle.ivy_base.specs.declared.key.PubKey.{PubKey}
use Rattle.dhash_model.specs.Cache.{block_of, moved_to_front}
use Rattle.dhash_model.specs.Signed.{hss_judged}
use Rattle.dhash_model.specs.declared.miss.Miss.{Miss}
use Rattle.dht_ids.specs.declared.ask.Heard.{Heard}
use Rattle.ring_model.proofs.Lists.{nil_cons}
use Rattle.agent_model.specs.Standing.{Refresh}
use Rattle.session_model.specs.Brought.{BlockOf, Brought, Content, Heads, Part, WantedOfRing, brought_in}
use Rattle.session_model.specs.Refreshing.{Done, FailsBy, Needs, Note, RefreshEnd, Refreshes}
use Rattle.session_model.specs.Sessions.{Cache, Refreshing, Session, Takes, TakesAll, Wants, pending_block}
use Rattle.session_model.specs.Sessions.Takes.{posted, cached}
use Rattle.session_model.specs.Sessions.TakesAll.{none as takes_none, more as takes_more}
use Rattle.session_laws.specs.Going.{IsOfWant}
use Rattle.session_laws.proofs.OneRefresh.{refresh_is_deterministic}
use Rattle.world_model.specs.GhostState.{Began, GhostState}
use Rattle.world_model.specs.Steps.{Configuration}
use Rattle.world_model.specs.Steps.StepsOn.{none as steps_none}
use Rattle.world_model.specs.World.{World, Participant, participant}
use Rattle.world_laws.specs.Invariant.{IsAtStage, IsInHand, IsRefreshing, IsRefreshingOn, Invariant}
use Rattle.world_laws.specs.Laws.{EndsAtLast, RefreshesRunOut}
use Rattle.world_laws.specs.Laws.EndsAtLast.{refresh_comes_to}
use Rattle.world_laws.specs.Laws.RefreshIsOver.{is_done}
use Rattle.world_laws.proofs.FullGets.{Out, Stands, at, get_on, refreshes_now, refreshing_has_memory, with_parts}
use Rattle.world_laws.proofs.FullRefreshes.{refreshes_end}
use Rattle.world_laws.proofs.TakingOn.{brought_then}

-- ---- what is available

-- what was taken was wanted, and was there
record WasThere (r : ℕ) (x : Session) (cache : Cache) : Type 0 where
  key : Key
  fresh : x.current ≡ []
  wants : Wants hss_judged r x (Content key)
  bytes : List ℕ
  there : (pending_block key x.standing.pending ≡ Some bytes) ⊎ (block_of key cache ≡ Some bytes)

was_there : {r : ℕ} {x t : Session} {cache after : Cache} → Takes hss_judged r x cache t after → WasThere r x cache
was_there (posted key bytes wants none is) = record { key = key; fresh = none; wants = wants; bytes = bytes; there = inl is }
was_there (cached key bytes wants none missing is) = record { key = key; fresh = none; wants = wants; bytes = bytes; there = inr is }

same_content : (a b : Key) → Needs (Content a) ≡ Needs (Content b) → a ≡ b
same_content a b e = cc e

none_or_some : (o : Option (List ℕ)) (bytes : List ℕ) → o ≡ None → o ≡ Some bytes → ⊥
none_or_some o bytes none some = cc (sym none ∙ some)

done_or_needs : (want : WantedOfRing) → Done ≡ Needs want → ⊥
done_or_needs want e = cc e

fails_or_needs : (miss : Miss) (want : WantedOfRing) → FailsBy miss ≡ Needs want → ⊥
fails_or_needs miss want e = cc e

heads_or_content : (owner : PubKey) (key : Key) → Needs (Heads owner) ≡ Needs (Content key) → ⊥
heads_or_content owner key e = cc e

module _ (r : ℕ) (s : Session) (refreshing : s.stage ≡ Refreshing) (b : Began) where
  abbrev now : List Part → List Heard → Session
  now = at r s refreshing b

  -- something is available, or nothing is
  data Available (end : RefreshEnd) (parts : List Part) (current : List Heard) (cache : Cache) : Type 0 where
    something : (key : Key) (bytes : List ℕ) (after : Cache) → end ≡ Needs (Content key) → Takes hss_judged r (now parts current) cache (now (parts ++ record { brought = BlockOf key (Ok bytes); asks = [] } ∷ []) []) after → Available end parts current cache
    nothing : ((t : Session) (after : Cache) → Takes hss_judged r (now parts current) cache t after → ⊥) → Available end parts current cache

  available : (parts : List Part) (current : List Heard) (cache : Cache) (notes : List Note) (given : Refresh) (end : RefreshEnd) → Refreshes s.standing (brought_in parts) notes given end → Available end parts current cache
  available parts (h ∷ current) cache notes given end refreshes = nothing (λ t after takes. nil_cons h current (sym (was_there takes).fresh))
  available parts [] cache notes given end refreshes = by end refreshes
    where
      -- it is what the refresh wants
      one_end : (stand : RefreshEnd) → Refreshes s.standing (brought_in parts) notes given stand → (w : WasThere r (now parts []) cache) → stand ≡ Needs (Content w.key)
      one_end stand refreshed w = (refresh_is_deterministic s.standing (brought_in parts) notes w.wants.1 given w.wants.2 stand (Needs (Content w.key)) refreshed w.wants.3).2

      by_key : (key : Key) → Refreshes s.standing (brought_in parts) notes given (Needs (Content key)) → (in_posts : Option (List ℕ)) → pending_block key s.standing.pending ≡ in_posts → (in_cache : Option (List ℕ)) → block_of key cache ≡ in_cache
          → Available (Needs (Content key)) parts [] cache
      by_key key refreshed (Some bytes) is in_cache also = something key bytes cache refl (posted key bytes (refreshing, notes, given, refreshed) refl is)
      by_key key refreshed None is (Some bytes) also = something key bytes (moved_to_front key cache) refl (cached key bytes (refreshing, notes, given, refreshed) refl is also)
      by_key key refreshed None is None also = nothing (λ t after takes.
          let w = was_there takes in
          let same : key ≡ w.key = same_content key w.key (one_end (Needs (Content key)) refreshed w) in
          ⊎_elim (λ posts. none_or_some (pending_block key s.standing.pending) w.bytes is (ap (λ (k : Key). pending_block k s.standing.pending) same ∙ posts))
          (λ blocks. none_or_some (block_of key cache) w.bytes also (ap (λ (k : Key). block_of k cache) same ∙ blocks)) w.there)

      by : (stand : RefreshEnd) → Refreshes s.standing (brought_in parts) notes given stand → Available stand parts [] cache
      by Done refreshed = nothing (λ t after takes. done_or_needs (Content (was_there takes).key) (one_end Done refreshed (was_there takes)))
      by (FailsBy miss) refreshed = nothing (λ t after takes. fails_or_needs miss (Content (was_there takes).key) (one_end (FailsBy miss) refreshed (was_there takes)))
      by (Needs (Heads owner)) refreshed = nothing (λ t after takes. heads_or_content owner (was_there takes).key (one_end (Needs (Heads owner)) refreshed (was_there takes)))
      by (Needs (Content key)) refreshed = by_key key refreshed (pending_block key s.standing.pending) refl (block_of key cache) refl

  -- ---- steps

  abbrev here : World → GhostState → List Part → List Heard → Configuration
  here = with_parts r s refreshing b

  -- from where a session stands, with what was taken since
  module _ (w : World) (st : GhostState) (before : List Part) (early : List Heard) (stands : Stands r s refreshing b (here w st before early)) (p : Participant) (is_p : participant w s.by ≡ Some p) (parts : List Part) (current : List Heard)
      (cache : Cache) (fits : (t : Session) (after : Cache) → TakesAll hss_judged r (now parts current) cache t after → TakesAll hss_judged r (now before early) p.cache t after) where
    drive_on : (notes : List Note) (given : Refresh) (end : RefreshEnd) → Refreshes s.standing (brought_in parts) notes given end → Available end parts current cache
        → ((key : Key) (bytes : List ℕ) (after : Cache) → end ≡ Needs (Content key) → Takes hss_judged r (now parts current) cache (now (parts ++ record { brought = BlockOf key (Ok bytes); asks = [] } ∷ []) []) after
        → Out r s refreshing b (here w st before early))
        → ((want : WantedOfRing) (came : Brought) (trail : List Heard) (v : World) (su : GhostState) → end ≡ Needs want → IsOfWant want came → Stands r s refreshing b (here v su (parts ++ record { brought = came; asks = trail } ∷ []) [])
        → Out r s refreshing b (here v su (parts ++ record { brought = came; asks = trail } ∷ []) []))
        → Out r s refreshing b (here w st before early)
    drive_on notes given end refreshes (something key bytes after is takes) taken got = taken key bytes after is takes
    drive_on notes given Done refreshes (nothing none) taken got = record {
      count = zero;
      next = here w st before early;
      steps = steps_none;
      memory = refreshing_has_memory (now before early) refreshing;
      same_starts = refl;
      over = is_done p (now parts current) cache notes given is_p (fits (now parts current) cache (takes_none none)) (refreshing, refreshes);
    }
    drive_on notes given (FailsBy miss) refreshes (nothing none) taken got =
        let on = refreshes_now r s refreshing b w st before early stands p is_p parts current cache (fits (now parts current) cache (takes_none none)) in
        absurd (subst (IsRefreshingOn r (now parts current)) (refresh_is_deterministic s.standing (brought_in parts) on.notes notes on.given given on.end (FailsBy miss) on.refreshed refreshes).2 on.goes_on)
    drive_on notes given (Needs want) refreshes (nothing none) taken got =
        get_on r s refreshing b want parts notes given refreshes w st before early stands p is_p current cache (fits (now parts current) cache (takes_none none)) (λ came trail v su of stands_on. got want came trail v su refl of stands_on)

  drive : {brought : List Brought} → EndsAtLast s.standing brought → (w : World) (st : GhostState) (before : List Part) (early : List Heard) → Stands r s refreshing b (here w st before early) → (p : Participant) → participant w s.by ≡ Some p
      → (parts : List Part) (current : List Heard) (cache : Cache) → brought_in parts ≡ brought
      → ((t : Session) (after : Cache) → TakesAll hss_judged r (now parts current) cache t after → TakesAll hss_judged r (now before early) p.cache t after) → Out r s refreshing b (here w st before early)
  drive (refresh_comes_to notes given end refreshes next) w st before early stands p is_p parts current cache same fits =
      let refreshed : Refreshes s.standing (brought_in parts) notes given end = subst (λ (l : List Brought). Refreshes s.standing l notes given end) (sym same) refreshes in
      drive_on w st before early stands p is_p parts current cache fits notes given end refreshed (available parts current cache notes given end refreshed)
      (λ key bytes after is takes. drive (next (Content key) (BlockOf key (Ok bytes)) is refl) w st before early stands p is_p (parts ++ record { brought = BlockOf key (Ok bytes); asks = [] } ∷ []) [] after
      (brought_then parts (BlockOf key (Ok bytes)) [] ∙ ap (λ (l : List Brought). l ++ BlockOf key (Ok bytes) ∷ []) same) (λ t kept rest. fits t kept (takes_more takes rest)))
      (λ want came trail v su is of on. drive (next want came is of) v su (parts ++ record { brought = came; asks = trail } ∷ []) [] on on.hand.goes_on.by on.hand.goes_on.is_by (parts ++ record { brought = came; asks = trail } ∷ []) []
      on.hand.goes_on.by.cache (brought_then parts came trail ∙ ap (λ (l : List Brought). l ++ came ∷ []) same) (λ t kept rest. rest))

pub refresh_out : (c : Configuration) (r : ℕ) → Invariant (c.world, c.ghost_state) → IsInHand c r → c.world.replicas ≡ Some r → (refreshing : c.session.stage ≡ Refreshing) → Out r c.session refreshing c.began c
refresh_out c r keeps hand ringed refreshing =
    let s : Session = c.session in
    let on : IsRefreshing r s = subst (IsAtStage c.world r s) refreshing hand.goes_on.stage in
    drive r s refreshing c.began (refreshes_end s.standing (brought_in s.parts) on.notes on.given on.end on.refreshed) c.world c.ghost_state s.parts s.current (record { keeps = keeps; hand = hand; ringed = ringed }) hand.goes_on.by hand.goes_on.is_by
    s.parts s.current hand.goes_on.by.cache refl (λ t kept rest. rest)

pub refreshes_run_out : RefreshesRunOut
refreshes_run_out c r keeps hand ringed refreshing = (let out = refresh_out c r keeps hand ringed refreshing in (out.count, out.next, out.steps, out.memory, out.over))
