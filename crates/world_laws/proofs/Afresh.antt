-- A participant begins afresh: it changes, its open sessions are gone, and it knows another set.
use Rattle.std.proofs.Common.{◌≡◌, ℕ, ◌<◌, Bool, true, false, cond, List, ◌++◌, map, filter, Option, Some, None, refl, sym, ap, ◌∙◌, subst, Contains, not}
use Rattle.std.specs.Prelude.{IfSome}
use Rattle.std.specs.List.{AllByRecursion, find, list_any}
use Rattle.std.specs.Option.{option_map_or}
use Rattle.std.specs.Str.{bytes_eq}
use Rattle.ring_model.proofs.Lists.{all_weaker}
use Rattle.ivy_base.specs.Naming.{IsCollisionFree}
use Rattle.log_model.proofs.Lists.{each, each_from, from_filter, in_filter, some_passes, who_passes}
use Rattle.log_model.specs.Record.{Record}
use Rattle.log_model.specs.Vector.{Entry}
use Rattle.log_model.specs.View.{View}
use Rattle.turn_model.specs.Basis.{nothing_held}
use Rattle.block_cache.specs.Blocks.{IsCache}
use Rattle.session_laws.specs.Loading.{IsSnapshotOf}
use Rattle.session_model.specs.Brought.{all_heads, brought_in}
use Rattle.session_model.specs.Sessions.{Said, Session}
use Rattle.world_model.specs.Agents.{own_hss_key}
use Rattle.world_model.specs.World.{World, NamedSession, Participant, named_bytes, participant, with_participant, without_sessions_of}
use Rattle.world_model.specs.GhostState.{Began, Knowing, GhostState, began_nothing, began_of, knowing_nothing, knowing_of, known_of}
use Rattle.world_model.specs.Logs.{Played, afresh_told, names_of_sessions}
use Rattle.world_laws.specs.Causes.{HasCause, said_at}
use Rattle.world_laws.specs.Causes.HasCause.{alone, missed, turned, no_memory}
use Rattle.world_laws.specs.Invariant.{AreApart, AreNumbered, AreSound, GoesOn, HasRing, HasSaid, IsKeptSo, IsMetHead, IsMetPost, IsSavedWell, AreParticipants, EntersOwned, IsSoundIn, IsSoundKeptIn, IsSoundSession, Invariant, KeepsUp, SignsOnce}
use Rattle.world_laws.specs.Frames.{unchanged}
use Rattle.world_laws.proofs.Bringing.{found_named}
use Rattle.world_laws.proofs.Frames.{all_mapped, goes_on_still, held_more, into_map, one_named, same_keys, same_map, sound_still, still_participants}
use Rattle.world_laws.proofs.MoreMet.{grows_before, more_heads, more_kept_in, more_posts, more_snapshots, more_sound, more_to_load, some_weaker}
use Rattle.world_laws.proofs.Placed.{apart_left, differ, find_left, find_other, find_own, found_among, found_some, is_name, names_left, names_placed, other_name, placed, same_left, same_name}
use Rattle.world_laws.proofs.SignedHeads.{from_map}

-- ---- sessions under another ghost state

-- the ghost state tells the same of the session's participant
pub session_told : (v : World) (st other : GhostState) (s : Session) (b : Began) → knowing_of other s.by ≡ knowing_of st s.by → IsSoundSession v st s b → IsSoundSession v other s b
session_told v st other s b same h = record {
  by = h.by;
  is_by = h.is_by;
  of = h.of;
  knows = h.knows;
  held = h.held;
  edges = h.edges;
  to_load = h.to_load;
  known = subst (λ (k : Knowing). (r : Record) → Contains b.knew r → Contains k.known r) (sym same) h.known;
  floor = h.floor;
  keeps_up = subst (λ (k : Knowing). KeepsUp s h.of h.by.agent k.known) (sym same) h.keeps_up;
  anew = h.anew;
  stays_fresh = h.stays_fresh;
  received = subst (λ (k : Knowing). (e : Entry) → Contains (all_heads (brought_in s.parts)) e → Contains k.received e) (sym same) h.received;
  blocks = h.blocks;
}

cause_told : (st : GhostState) (ks : List Knowing) (bs : List (List ℕ × Began)) (n : ℕ) (s : Session) (said : Said) → HasCause st n s said → HasCause (record st { participants = ks; sessions = bs }) n s said
cause_told st ks bs n s _ (alone given by) = alone given by
cause_told st ks bs n s _ (missed xid asked given miss asks refreshed is) = missed xid asked given miss asks refreshed is
cause_told st ks bs n s _ (turned h xid asked given among of asks refreshed) = turned h xid asked given among of asks refreshed
cause_told st ks bs n s _ (no_memory xid asked asks) = no_memory xid asked asks

pub said_told : (st : GhostState) (ks : List Knowing) (bs : List (List ℕ × Began)) (n : ℕ) (s : Session) (o : Option Said) → HasSaid st n s o → HasSaid (record st { participants = ks; sessions = bs }) n s o
said_told st ks bs n s None h = tt
said_told st ks bs n s (Some said) h = cause_told st ks bs n s said h

-- ---- the participant

abbrev by_name : Participant → List ℕ
by_name p = p.name

abbrev told_name : Knowing → List ℕ
told_name k = k.name

abbrev began_name : List ℕ × Began → List ℕ
began_name b = b.0

abbrev session_name : NamedSession → List ℕ
session_name s = s.name

-- the world in which q stands in p's place, without its sessions, and more is met
abbrev pub afresh_world : World → Participant → Participant → List (List ℕ) → World
afresh_world w p q met = record (without_sessions_of (with_participant w q) p.name) { met = met }

-- what is told of p where it knows that set
abbrev pub knowing_afresh : Played → Participant → List Record → Knowing
knowing_afresh w p set = record (knowing_of w.1 p.name) { known = set }

-- What has to hold of q: in any case, and where no names collide.
pub record IsFit (w : Played) (p q : Participant) (met : List (List ℕ)) (set : List Record) : Type 0 where
  pub named : q.name ≡ p.name
  pub owned : own_hss_key q.agent ≡ own_hss_key p.agent
  pub pending : AllByRecursion (IsMetPost met) q.agent.pending
  pub cached : IsCache q.cache × AllByRecursion (λ e. Contains met e.1) q.cache
  pub signs : IsKeptSo SignsOnce q
  pub saved : IsKeptSo IsSavedWell q
  pub entered : EntersOwned w.0 q
  pub agent : IsCollisionFree (named_bytes (afresh_world w.0 p q met)) → IsSoundIn met q (knowing_afresh w p set) q.agent.view
  pub keeper : IsCollisionFree (named_bytes (afresh_world w.0 p q met)) → IsKeptSo (λ o k. IsSoundKeptIn met o (knowing_afresh w p set) k k.view) q
  pub to_load : IsCollisionFree (named_bytes (afresh_world w.0 p q met)) → IfSome q.agent.view (λ view. IfSome q.agent.to_load (λ root. (q.agent.holding ≡ nothing_held) × IsSnapshotOf met view set root))
  pub snapshots : IsCollisionFree (named_bytes (afresh_world w.0 p q met)) → IfSome q.agent.view (λ view. IfSome q.agent.snapshot (IsSnapshotOf met view set))

module _ (w : Played) (keeps : Invariant w) (p : Participant) (is_p : participant w.0 p.name ≡ Some p) (q : Participant) (named : q.name ≡ p.name) (owned : own_hss_key q.agent ≡ own_hss_key p.agent)
    (met : List (List ℕ)) (grows : (b : List ℕ) → Contains w.0.met b → Contains met b) (set : List Record) where
  abbrev v : World
  v = afresh_world w.0 p q met

  abbrev su : GhostState
  su = afresh_told w p.name set

  abbrev put : Participant → Participant
  put = placed by_name q

  among : Contains w.0.participants p
  among = (found_named w.0.participants p.name p is_p).0

  -- ---- who is there

  -- q, and the others as they were
  all_put : (P : Participant → Type 0) → P q → ((o : Participant) → Contains w.0.participants o → bytes_eq o.name q.name ≡ false → P o) → AllByRecursion P v.participants
  all_put P new others = all_mapped P put w.0.participants (λ o o_in. by o o_in (bytes_eq o.name q.name) refl)
    where
      by : (o : Participant) → Contains w.0.participants o → (b : Bool) → bytes_eq o.name q.name ≡ b → P (cond b q o)
      by o o_in true is = new
      by o o_in false is = others o o_in is

  found_other : (name : List ℕ) (o : Participant) → bytes_eq name p.name ≡ false → participant w.0 name ≡ Some o → participant v name ≡ Some o
  found_other name o other is = find_other by_name q name (other_name p.name q.name name (sym named) other) w.0.participants ∙ is

  names : map by_name v.participants ≡ map by_name w.0.participants
  names = names_placed by_name q w.0.participants

  -- ---- what is told

  told : (k : Knowing) × (find (λ (l : Knowing). bytes_eq l.name p.name) w.1.participants ≡ Some k)
  told = found_some told_name w.1.participants p.name (subst (λ ns. Contains ns p.name) (sym keeps.fits.participants) (into_map by_name w.0.participants p among))

  knowing_is : knowing_of w.1 p.name ≡ told.0
  knowing_is = ap (λ o. option_map_or (λ (k : Knowing). k) o (knowing_nothing p.name)) told.1

  told_named : (knowing_of w.1 p.name).name ≡ p.name
  told_named = ap told_name knowing_is ∙ (found_among told_name w.1.participants p.name told.0 told.1).1

  knowing_then : knowing_of su p.name ≡ knowing_afresh w p set
  knowing_then =
      ap (λ o. option_map_or (λ (k : Knowing). k) o (knowing_nothing p.name))
      (subst (λ n. find (λ (l : Knowing). bytes_eq l.name n) su.participants ≡ Some (knowing_afresh w p set)) told_named
      (find_own told_name (knowing_afresh w p set) w.1.participants (subst (Contains (map told_name w.1.participants)) (sym told_named) (subst (λ ns. Contains ns p.name) (sym keeps.fits.participants) (into_map by_name w.0.participants p among)))))

  knowing_other : (name : List ℕ) → bytes_eq name p.name ≡ false → knowing_of su name ≡ knowing_of w.1 name
  knowing_other name other =
      ap (λ o. option_map_or (λ (k : Knowing). k) o (knowing_nothing name)) (find_other told_name (knowing_afresh w p set) name (other_name p.name (knowing_of w.1 p.name).name name (sym told_named) other) w.1.participants)

  -- ---- sessions

  abbrev stays : NamedSession → Bool
  stays s = not (bytes_eq s.session.by p.name)

  abbrev left_by : List ℕ → Bool
  left_by n = not (list_any (bytes_eq n) (names_of_sessions w.0 p.name))

  same_test : (s : NamedSession) → Contains w.0.sessions s → left_by s.name ≡ stays s
  same_test s s_in = ap not (by (list_any (bytes_eq s.name) (names_of_sessions w.0 p.name)) (bytes_eq s.session.by p.name) refl refl)
    where
      gone : NamedSession → Bool
      gone t = bytes_eq t.session.by p.name

      by : (b c : Bool) → list_any (bytes_eq s.name) (names_of_sessions w.0 p.name) ≡ b → bytes_eq s.session.by p.name ≡ c → b ≡ c
      by true true any is = refl
      by false false any is = refl
      by true false any is =
          let who = who_passes (bytes_eq s.name) (names_of_sessions w.0 p.name) any in
          let found = from_map session_name (filter gone w.0.sessions) who.0 who.1 in
          let its = from_filter gone w.0.sessions found.0 found.1 in
          let one : found.0 ≡ s = one_named session_name w.0.sessions found.0 s keeps.named_once its.0 s_in (sym found.2 ∙ sym (same_name s.name who.0 who.2)) in
          absurd (differ (bytes_eq s.session.by p.name) (subst (λ (t : NamedSession). bytes_eq t.session.by p.name ≡ true) one its.1) is)
      by false true any is =
          absurd (differ (list_any (bytes_eq s.name) (names_of_sessions w.0 p.name))
          (some_passes (bytes_eq s.name) (names_of_sessions w.0 p.name) s.name (into_map session_name (filter gone w.0.sessions) s (in_filter gone w.0.sessions s s_in is)) (is_name s.name s.name refl)) any)

  -- a session that stays is another's
  not_its : (s : NamedSession) → Contains v.sessions s → Contains w.0.sessions s × (bytes_eq s.session.by p.name ≡ false)
  not_its s s_in = let its = from_filter stays w.0.sessions s s_in in (its.0, by (bytes_eq s.session.by p.name) its.1)
    where
      by : (b : Bool) → not b ≡ true → b ≡ false
      by true e = cc e
      by false e = refl

  began_then : (s : NamedSession) → Contains v.sessions s → began_of su s.name ≡ began_of w.1 s.name
  began_then s s_in =
      let its = from_filter stays w.0.sessions s s_in in
      ap (λ o. option_map_or (λ (b : List ℕ × Began). b.1) o began_nothing) (find_left began_name left_by s.name (same_test s its.0 ∙ its.1) w.1.sessions)

  told_sessions : map began_name su.sessions ≡ map session_name v.sessions
  told_sessions =
      names_left began_name left_by w.1.sessions ∙ ap (filter left_by) keeps.fits.sessions ∙ sym (names_left session_name left_by w.0.sessions)
      ∙ ap (map session_name) (same_left (λ (s : NamedSession). left_by s.name) stays w.0.sessions same_test)

  each_left : (P : NamedSession → Type 0) → ((s : NamedSession) → Contains w.0.sessions s → Contains v.sessions s → bytes_eq s.session.by p.name ≡ false → P s) → AllByRecursion P v.sessions
  each_left P h = each_from P v.sessions (λ s s_in. let its = not_its s s_in in h s its.0 s_in its.1)

  goes_on : (r : ℕ) → AllByRecursion (λ (s : NamedSession). GoesOn w.0 r s.session) w.0.sessions → AllByRecursion (λ (s : NamedSession). GoesOn v r s.session) v.sessions
  goes_on r h = each_left (λ s. GoesOn v r s.session) (λ s before s_in other.
      let g : GoesOn w.0 r s.session = each (λ (t : NamedSession). GoesOn w.0 r t.session) w.0.sessions s h before in
      goes_on_still w.0 v grows (λ o i. i) r s.session g (unchanged g.by) (found_other s.session.by g.by other g.is_by))

  ring : (o : Option ℕ) → HasRing w.0 o → HasRing v o
  ring None h = (h.0, ap (map put) h.1, ap (filter stays) h.2)
  ring (Some r) h = (h.0, h.1, h.2, goes_on r h.3)

  numbers : AreNumbered v su
  numbers = record {
    apart = λ s t s_in t_in same. keeps.numbers.apart s t (not_its s s_in).0 (not_its t t_in).0 (ap (λ (b : Began). b.number) (sym (began_then s s_in)) ∙ same ∙ ap (λ (b : Began). b.number) (began_then t t_in));
    sessions = each_left (λ s. (began_of su s.name).number < su.begun) (λ s before s_in other.
        subst (λ (b : Began). b.number < w.1.begun) (sym (began_then s s_in)) (each (λ (t : NamedSession). (began_of w.1 t.name).number < w.1.begun) w.0.sessions s keeps.numbers.sessions before));
    turns = keeps.numbers.turns;
  }

  said : AllByRecursion (λ (s : NamedSession). HasSaid su (began_of su s.name).number s.session (said_at s.session.stage)) v.sessions
  said = each_left (λ s. HasSaid su (began_of su s.name).number s.session (said_at s.session.stage)) (λ s before s_in other.
      subst (λ (b : Began). HasSaid su b.number s.session (said_at s.session.stage)) (sym (began_then s s_in))
      (said_told w.1 su.participants su.sessions (began_of w.1 s.name).number s.session (said_at s.session.stage)
      (each (λ (t : NamedSession). HasSaid w.1 (began_of w.1 t.name).number t.session (said_at t.session.stage)) w.0.sessions s keeps.said before)))

  received : AllByRecursion (λ (k : Knowing). AllByRecursion (IsMetHead met) k.received) su.participants
  received = all_mapped (λ (k : Knowing). AllByRecursion (IsMetHead met) k.received) (placed told_name (knowing_afresh w p set)) w.1.participants (λ k k_in. by k k_in (bytes_eq k.name (knowing_of w.1 p.name).name))
    where
      before : (k : Knowing) → Contains w.1.participants k → AllByRecursion (IsMetHead met) k.received
      before k k_in = more_heads w.0.met met grows k.received (each (λ (l : Knowing). AllByRecursion (IsMetHead w.0.met) l.received) w.1.participants k keeps.received k_in)

      by : (k : Knowing) → Contains w.1.participants k → (b : Bool) → AllByRecursion (IsMetHead met) (cond b (knowing_afresh w p set) k).received
      by k k_in true = subst (λ (l : Knowing). AllByRecursion (IsMetHead met) l.received) (sym knowing_is) (before told.0 (found_among told_name w.1.participants p.name told.0 told.1).0)
      by k k_in false = before k k_in

  -- ---- views

  owners : map (λ (o : Participant). own_hss_key o.agent) v.participants ≡ map (λ (o : Participant). own_hss_key o.agent) w.0.participants
  owners = same_map (λ (o : Participant). own_hss_key o.agent) put w.0.participants (λ o o_in. by o o_in (bytes_eq o.name q.name) refl)
    where
      by : (o : Participant) → Contains w.0.participants o → (b : Bool) → bytes_eq o.name q.name ≡ b → own_hss_key (cond b q o).agent ≡ own_hss_key o.agent
      by o o_in true is =
          let one : p ≡ o = one_named by_name w.0.participants p o keeps.apart among o_in (sym (same_name o.name q.name is ∙ named)) in
          owned ∙ ap (λ (x : Participant). own_hss_key x.agent) one
      by o o_in false is = refl

  owned_then : (view : View) → AreParticipants w.0 view → AreParticipants v view
  owned_then view h = still_participants w.0 v owners view h

  entered_then : (o : Participant) → EntersOwned w.0 o → EntersOwned v o
  entered_then o h = record {
    agent = some_weaker _ _ o.agent.view owned_then h.agent;
    keeper = (h.keeper.0, h.keeper.1, h.keeper.2, some_weaker _ _ h.keeper.0.view owned_then h.keeper.3);
  }

  -- ---- where no names collide

  keys : map (λ (o : Participant). (own_hss_key o.agent).0) v.participants ≡ map (λ (o : Participant). (own_hss_key o.agent).0) w.0.participants
  keys = same_keys w.0 keeps.apart p.name p is_p q named owned

  pub apart_before : IsCollisionFree (named_bytes v) → IsCollisionFree (named_bytes w.0)
  apart_before apart a b in_a in_b same = apart a b (more a in_a) (more b in_b) same
    where
      more : (b : List ℕ) → Contains (named_bytes w.0) b → Contains (named_bytes v) b
      more b h = subst (λ ks. Contains (met ++ ks) b) (sym keys) (grows_before w.0.met met grows (map (λ (o : Participant). (own_hss_key o.agent).0) w.0.participants) b h)

  told_of_q : knowing_of su q.name ≡ knowing_afresh w p set
  told_of_q = ap (knowing_of su) named ∙ knowing_then

  told_of : (o : Participant) → bytes_eq o.name q.name ≡ false → knowing_of su o.name ≡ knowing_of w.1 o.name
  told_of o other = knowing_other o.name (subst (λ n. bytes_eq o.name n ≡ false) named other)

  sound : IsFit w p q met set → IsCollisionFree (named_bytes v) → AreSound v su
  sound fit apart = record {
    agents = all_put (λ o. IsSoundIn met o (knowing_of su o.name) o.agent.view) (subst (λ k. IsSoundIn met q k q.agent.view) (sym told_of_q) (fit.agent apart))
        (λ o o_in other. subst (λ k. IsSoundIn met o k o.agent.view) (sym (told_of o other)) (more_sound w.0.met met grows o (unchanged o) (knowing_of w.1 o.name) o.agent.view (each (λ (x : Participant). IsSoundIn w.0.met x (knowing_of w.1 x.name) x.agent.view) w.0.participants o old.agents o_in)));
    keepers = all_put (IsKeptSo (λ o k. IsSoundKeptIn met o (knowing_of su o.name) k k.view)) (let so = fit.keeper apart in (so.0, so.1, so.2, subst (λ l. IsSoundKeptIn met q l so.0 so.0.view) (sym told_of_q) so.3))
        (λ o o_in other.
        let so : IsKeptSo (λ x k. IsSoundKeptIn w.0.met x (knowing_of w.1 x.name) k k.view) o = each (IsKeptSo (λ x k. IsSoundKeptIn w.0.met x (knowing_of w.1 x.name) k k.view)) w.0.participants o old.keepers o_in in
        (so.0, so.1, so.2, subst (λ l. IsSoundKeptIn met o l so.0 so.0.view) (sym (told_of o other)) (more_kept_in w.0.met met grows o (unchanged o) (knowing_of w.1 o.name) so.0 so.0.view so.3)));
    to_load = all_put (λ o. IfSome o.agent.view (λ view. IfSome o.agent.to_load (λ root. (o.agent.holding ≡ nothing_held) × IsSnapshotOf met view (known_of su o.name) root)))
        (subst (λ (k : Knowing). IfSome q.agent.view (λ view. IfSome q.agent.to_load (λ root. (q.agent.holding ≡ nothing_held) × IsSnapshotOf met view k.known root))) (sym told_of_q) (fit.to_load apart))
        (λ o o_in other. subst (λ (k : Knowing). IfSome o.agent.view (λ view. IfSome o.agent.to_load (λ root. (o.agent.holding ≡ nothing_held) × IsSnapshotOf met view k.known root))) (sym (told_of o other))
        (more_to_load w.0.met met grows o (known_of w.1 o.name) o.agent.view
        (each (λ (x : Participant). IfSome x.agent.view (λ view. IfSome x.agent.to_load (λ root. (x.agent.holding ≡ nothing_held) × IsSnapshotOf w.0.met view (known_of w.1 x.name) root))) w.0.participants o old.to_load o_in)));
    snapshots = all_put (λ o. IfSome o.agent.view (λ view. IfSome o.agent.snapshot (IsSnapshotOf met view (known_of su o.name))))
        (subst (λ (k : Knowing). IfSome q.agent.view (λ view. IfSome q.agent.snapshot (IsSnapshotOf met view k.known))) (sym told_of_q) (fit.snapshots apart))
        (λ o o_in other. subst (λ (k : Knowing). IfSome o.agent.view (λ view. IfSome o.agent.snapshot (IsSnapshotOf met view k.known))) (sym (told_of o other))
        (more_snapshots w.0.met met grows o (known_of w.1 o.name) o.agent.view
        (each (λ (x : Participant). IfSome x.agent.view (λ view. IfSome x.agent.snapshot (IsSnapshotOf w.0.met view (known_of w.1 x.name)))) w.0.participants o old.snapshots o_in)));
    sessions = each_left (λ s. IsSoundSession v su s.session (began_of su s.name)) (λ s before s_in other.
        let g : IsSoundSession w.0 w.1 s.session (began_of w.1 s.name) = each (λ (t : NamedSession). IsSoundSession w.0 w.1 t.session (began_of w.1 t.name)) w.0.sessions s old.sessions before in
        subst (IsSoundSession v su s.session) (sym (began_then s s_in))
        (session_told v w.1 su s.session (began_of w.1 s.name) (knowing_other s.session.by other)
        (sound_still w.0 v w.1 grows s.session (began_of w.1 s.name) g (unchanged g.by) w.1.acked (found_other s.session.by g.by other g.is_by))));
  }
    where
      old : AreSound w.0 w.1
      old = keeps.sound (apart_before apart)

  pub keeps_afresh : IsFit w p q met set → Invariant (v, su)
  keeps_afresh fit = record {
    fits = record { participants = names_placed told_name (knowing_afresh w p set) w.1.participants ∙ keeps.fits.participants ∙ sym names; sessions = told_sessions };
    ring = ring w.0.replicas keeps.ring;
    met = record {
      held = held_more w keeps met grows;
      pending = all_put (λ o. AllByRecursion (IsMetPost met) o.agent.pending) fit.pending
          (λ o o_in other. more_posts w.0.met met grows o.agent.pending (each (λ (x : Participant). AllByRecursion (IsMetPost w.0.met) x.agent.pending) w.0.participants o keeps.met.pending o_in));
      cached = all_put (λ o. IsCache o.cache × AllByRecursion (λ e. Contains met e.1) o.cache) fit.cached (λ o o_in other.
          let old : IsCache o.cache × AllByRecursion (λ e. Contains w.0.met e.1) o.cache = each (λ (x : Participant). IsCache x.cache × AllByRecursion (λ e. Contains w.0.met e.1) x.cache) w.0.participants o keeps.met.cached o_in in
          (old.0, all_weaker _ _ o.cache (λ e h. grows e.1 h) old.1));
      views = all_weaker _ _ w.0.views (λ x h. (h.0, h.1, owned_then x.view h.2)) keeps.met.views;
    };
    peers = record { named = keeps.peers.named; apart = keeps.peers.apart; few = keeps.peers.few; known = keeps.peers.known };
    signs = all_put (IsKeptSo SignsOnce) fit.signs (λ o o_in other. each (IsKeptSo SignsOnce) w.0.participants o keeps.signs o_in);
    saved = all_put (IsKeptSo IsSavedWell) fit.saved (λ o o_in other. each (IsKeptSo IsSavedWell) w.0.participants o keeps.saved o_in);
    entered = all_put (EntersOwned v) (entered_then q fit.entered) (λ o o_in other. entered_then o (each (EntersOwned w.0) w.0.participants o keeps.entered o_in));
    apart = subst AreApart (sym names) keeps.apart;
    named_once = apart_left session_name stays w.0.sessions keeps.named_once;
    moment = keeps.moment;
    received = received;
    numbers = numbers;
    said = said;
    sound = sound fit;
  }
