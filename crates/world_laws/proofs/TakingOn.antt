-- What is available is taken, and the refresh goes on: that leaves a world in which the invariant holds, and such a session.
use Rattle.std.proofs.Common.{◌≡◌, ◌≢◌, ◌⊎◌, inl, inr, ⊎_elim, ℕ, List, [], ◌∷◌, ◌++◌, Option, Some, None, Ok, refl, sym, ap, ◌∙◌, subst, arith}
use Rattle.std.specs.Prelude.{IfSome}
use Rattle.std.specs.List.{AllByRecursion}
use Rattle.ivy_base.specs.declared.key.Key.{Key}
use Rattle.ivy_base.specs.Naming.{IsCollisionFree}
use Rattle.dhash_model.specs.Signed.{hss_judged}
use Rattle.log_model.proofs.Lists.{each}
use Rattle.dht_ids.specs.declared.ask.Heard.{Heard}
use Rattle.dhash_model.specs.declared.miss.Miss.{Miss}
use Rattle.session_model.specs.Brought.{Brought, BlockOf, Content, Part, WantedOfRing, brought_in}
use Rattle.session_model.specs.Refreshing.{Done, FailsBy, Needs, RefreshEnd, Refreshes}
use Rattle.session_model.specs.Sessions.{Cache, Session, Refreshing, Stage, TakesSome, Wants, with_part}
use Rattle.session_model.specs.Sessions.Takes.{posted, cached}
use Rattle.session_model.specs.Sessions.TakesSome.{none as some_none, more as some_more}
use Rattle.session_laws.specs.Going.{ComesTo, IsMissed, IsOfWant, SnapshotsAreDecided}
use Rattle.session_laws.proofs.DecidedSnapshots.{snapshots_are_decided}
use Rattle.session_laws.proofs.Going.{refresh_goes_on}
use Rattle.session_laws.proofs.Missing.{fails_by_the_last}
use Rattle.session_laws.proofs.AskedGets.{gets_are_deterministic}
use Rattle.world_model.specs.World.{World, Participant, named_bytes, participant, with_participant}
use Rattle.world_model.specs.Steps.{Configuration}
use Rattle.world_laws.specs.Causes.{said_at}
use Rattle.world_laws.specs.Invariant.{GoesOn, HasSaid, IsAnswerIn, IsAtStage, IsInHand, IsRefreshing, IsRefreshingOn, IsSoundSession, Invariant}
use Rattle.world_laws.specs.Frames.{Change, IsChangeWithinFrame, changed, unchanged}
use Rattle.world_laws.specs.Laws.{TakingKeeps}
use Rattle.world_laws.proofs.Bringing.{found_named}
use Rattle.world_laws.proofs.Frames.{participant_keeps, same_keys}
use Rattle.world_laws.proofs.InHand.{goes_on_then, sound_then}
use Rattle.world_laws.proofs.LackingSteps.{sound_taken}
use Rattle.world_laws.proofs.Taking.{HasTaken, takes_some_so}

-- ---- the refresh goes on

pub brought_then : (parts : List Part) (b : Brought) (asks : List Heard) → brought_in (parts ++ record { brought = b; asks = asks } ∷ []) ≡ brought_in parts ++ b ∷ []
brought_then [] b asks = refl
brought_then (q ∷ parts) b asks = ap (λ (l : List Brought). q.brought ∷ l) (brought_then parts b asks)

same_last : (xs ys : List Brought) (x y : Brought) → xs ++ x ∷ [] ≡ ys ++ y ∷ [] → x ≡ y
same_last [] [] x y e = cc e
same_last [] (b ∷ []) x y e = cc e
same_last [] (b ∷ c ∷ ys) x y e = cc e
same_last (a ∷ []) [] x y e = cc e
same_last (a ∷ c ∷ xs) [] x y e = cc e
same_last (a ∷ xs) (b ∷ ys) x y e = same_last xs ys x y (cc e)

-- of any blocks it is known whether they are a snapshot, so also where there is one to load
decided_for : (o : Option Key) → IfSome o (λ root. SnapshotsAreDecided)
decided_for None = tt
decided_for (Some root) = snapshots_are_decided

-- with a part more, the session's refresh has come to this
pub comes_with : (r : ℕ) (s : Session) (want : WantedOfRing) (b : Brought) (asks : List Heard) → Wants hss_judged r s want → IsOfWant want b → ComesTo s.standing (brought_in (s.parts ++ record { brought = b; asks = asks } ∷ []))
comes_with r s want b asks wants of =
    subst (ComesTo s.standing) (sym (brought_then s.parts b asks)) (refresh_goes_on s.standing (brought_in s.parts) wants.1 wants.2 want b (decided_for s.standing.to_load) wants.3 of)

-- it hasn't failed, where something came
block_came : (key : Key) (bytes : List ℕ) (miss : Miss) → IsMissed miss (BlockOf key (Ok bytes)) → ⊥
block_came key bytes miss h = h

-- where it hasn't failed, the session goes on
pub on_so : (r : ℕ) (t : Session) → t.entries ≢ [] → t.current ≡ [] → (end : RefreshEnd) → ((miss : Miss) → end ≡ FailsBy miss → ⊥) → IsRefreshingOn r t end
on_so r t some fresh (Needs want) goes = subst (λ asks. IsRefreshingOn r (record t { current = asks }) (Needs want)) (sym fresh) ((gets_are_deterministic hss_judged r t.entries want).3 some)
on_so r t some fresh (FailsBy miss) goes = absurd (goes miss refl)
on_so r t some fresh Done goes = fresh

module _ (r : ℕ) (s : Session) (key : Key) (bytes : List ℕ) (some : s.entries ≢ []) (wants : Wants hss_judged r s (Content key)) where
  abbrev then_on : Session
  then_on = with_part s (BlockOf key (Ok bytes)) []

  taken_on : (w : World) → IsAtStage w r s s.stage → IsAtStage w r then_on s.stage
  taken_on w at = subst (IsAtStage w r then_on) (sym wants.0) (by (subst (IsAtStage w r s) wants.0 at))
    where
      came : ComesTo s.standing (brought_in then_on.parts)
      came = comes_with r s (Content key) (BlockOf key (Ok bytes)) [] wants refl

      goes : (miss : Miss) → came.end ≡ FailsBy miss → ⊥
      goes miss is =
          let last = fails_by_the_last s.standing (brought_in then_on.parts) came.notes came.given miss (subst (Refreshes s.standing (brought_in then_on.parts) came.notes came.given) is came.refreshes) in
          let same : BlockOf key (Ok bytes) ≡ last.1 = same_last (brought_in s.parts) last.0 (BlockOf key (Ok bytes)) last.1 (sym (brought_then s.parts (BlockOf key (Ok bytes)) []) ∙ last.2) in
          block_came key bytes miss (subst (IsMissed miss) (sym same) last.3)

      by : IsRefreshing r s → IsRefreshing r then_on
      by h = record { xid = h.xid; asked = h.asked; asks = h.asks; notes = came.notes; given = came.given; end = came.end; refreshed = came.refreshes; goes_on = on_so r then_on some refl came.end goes }

-- ---- all that is available

record GoesSo (w : World) (r : ℕ) (s t : Session) : Type 0 where
  parts : List Part
  current : List Heard
  is : t ≡ record s { parts = parts; current = current }
  heard : AllByRecursion (λ a. IsAnswerIn w a.got) current
  stage : IsAtStage w r (record s { parts = parts; current = current }) s.stage
  refreshing : (s.stage ≡ Refreshing) ⊎ (t ≡ s)

takes_on : (w : World) (r : ℕ) {s t : Session} {cache after : Cache} → TakesSome hss_judged r s cache t after → s.entries ≢ [] → AllByRecursion (λ a. IsAnswerIn w a.got) s.current → IsAtStage w r s s.stage
    → GoesSo w r s t
takes_on w r (some_none {s = s}) some heard at = record { parts = s.parts; current = s.current; is = refl; heard = heard; stage = at; refreshing = inr refl }
takes_on w r (some_more {s = s} (posted key bytes wants none is) rest) some heard at =
    let g = takes_on w r rest some tt (taken_on r s key bytes some wants w at) in record { parts = g.parts; current = g.current; is = g.is; heard = g.heard; stage = g.stage; refreshing = inl wants.0 }
takes_on w r (some_more {s = s} (cached key bytes wants none missing is) rest) some heard at =
    let g = takes_on w r rest some tt (taken_on r s key bytes some wants w at) in record { parts = g.parts; current = g.current; is = g.is; heard = g.heard; stage = g.stage; refreshing = inl wants.0 }

-- ---- the law

module _ (c : Configuration) (r : ℕ) (p : Participant) (taken : Session) (cache : Cache) (keeps : Invariant (c.world, c.ghost_state)) (hand : IsInHand c r) (is_p : participant c.world c.session.by ≡ Some p)
    (takes : TakesSome hss_judged r c.session p.cache taken cache) where
  abbrev d : Change
  d = record (unchanged p) { cache = cache }

  has : HasTaken c.world.met c.session taken cache
  has = takes_some_so c.world.met takes hand.goes_on.pending (each _ c.world.participants p keeps.met.cached (found_named c.world.participants c.session.by p is_p).0)

  abbrev then_world : World
  then_world = with_participant c.world (record p { cache = cache })

  within_frame : IsChangeWithinFrame c.world.met p d
  within_frame = record { kept = refl; pending = λ post h. h; fewer = omega arith; cached = has.cache }

  apart_before : IsCollisionFree (named_bytes then_world) → IsCollisionFree (named_bytes c.world)
  apart_before apart = subst (λ keys. IsCollisionFree (c.world.met ++ keys)) (same_keys c.world keeps.apart c.session.by p is_p (changed p d) refl refl) apart

  on : GoesOn then_world r c.session
  on = goes_on_then c r p keeps hand is_p d

  goes : GoesSo then_world r c.session taken
  goes = takes_on then_world r takes on.some_entry on.heard on.stage

  goes_then : GoesOn then_world r taken
  goes_then = subst (GoesOn then_world r) (sym goes.is) (record {
    by = on.by;
    is_by = on.is_by;
    in_view = on.in_view;
    own_key = on.own_key;
    some_entry = on.some_entry;
    entries = on.entries;
    heard = goes.heard;
    pending = on.pending;
    stage = goes.stage;
  })

  has_said : HasSaid c.ghost_state c.began.number taken (said_at taken.stage)
  has_said = ⊎_elim
      (λ at. subst (λ (u : Session). HasSaid c.ghost_state c.began.number u (said_at u.stage)) (sym goes.is)
      (subst (λ (x : Stage). HasSaid c.ghost_state c.began.number (record c.session { parts = goes.parts; current = goes.current }) (said_at x)) (sym at) tt))
      (λ same. subst (λ (u : Session). HasSaid c.ghost_state c.began.number u (said_at u.stage)) (sym same) hand.said)
      goes.refreshing

  sound_so : IsCollisionFree (named_bytes then_world) → IsSoundSession then_world c.ghost_state taken c.began
  sound_so apart = subst (λ (u : Session). IsSoundSession then_world c.ghost_state u c.began) (sym has.is)
      (sound_taken then_world c.ghost_state c.session c.began has.parts has.current c.session.stage c.session.notes c.session.missed has.taken (sound_then c r p keeps hand is_p d (hand.sound (apart_before apart))))

  taken_so : Invariant (then_world, c.ghost_state) × IsInHand (record c { world = then_world; session = taken }) r
  taken_so = (participant_keeps (c.world, c.ghost_state) c.session.by p d keeps is_p within_frame, record { number = hand.number; goes_on = goes_then; said = has_said; sound = sound_so })

pub taking_keeps : TakingKeeps
taking_keeps c r p taken cache keeps hand is_p takes = taken_so c r p taken cache keeps hand is_p takes
