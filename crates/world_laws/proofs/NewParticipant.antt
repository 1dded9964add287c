-- A participant more, whose log opens: the others, and the open sessions, stay as they are.
use Rattle.std.proofs.Common.{◌≡◌, ⊎_elim, ℕ, Bool, true, false, cond, List, [], ◌∷◌, ◌++◌, map, Option, Some, None, refl, sym, ap, ◌∙◌, subst, Contains}
use Rattle.std.specs.Prelude.{IfSome, is_some}
use Rattle.std.specs.List.{AllByRecursion, find}
use Rattle.std.specs.Option.{option_map_or}
use Rattle.std.specs.Str.{bytes_eq}
use Rattle.std.proofs.lemmas.List.{map-append}
use Rattle.std.proofs.lemmas.List.Elements.{Contains-append_left, Contains-append_right, Contains-append_cases}
use Rattle.std.proofs.lemmas.Slice.Eq.{bytes_eq-Decides}
use Rattle.ring_model.proofs.Lists.{all_weaker}
use Rattle.ivy_base.specs.Naming.{IsCollisionFree}
use Rattle.log_model.proofs.Lists.{each, each_append, each_from, here, in_cons, in_nothing, there}
use Rattle.log_model.specs.View.{View}
use Rattle.block_cache.specs.Blocks.{IsCache}
use Rattle.session_laws.specs.Loading.{IsSnapshotOf}
use Rattle.turn_model.specs.Basis.{nothing_held}
use Rattle.world_model.specs.Agents.{own_hss_key}
use Rattle.world_model.specs.World.{World, NamedSession, Participant, named_bytes, participant}
use Rattle.world_model.specs.GhostState.{Knowing, GhostState, began_of, knowing_nothing, knowing_of, known_of}
use Rattle.world_model.specs.Logs.{Played}
use Rattle.world_laws.specs.Causes.{said_at}
use Rattle.world_laws.specs.Invariant.{AreApart, AreParticipants, AreSound, EntersOwned, GoesOn, HasRing, HasSaid, IsKeptSo, IsMetHead, IsMetPost, IsSavedWell, IsSoundIn, IsSoundKeptIn, IsSoundSession, Invariant, SignsOnce}
use Rattle.world_laws.specs.Frames.{unchanged}
use Rattle.world_laws.proofs.Afresh.{said_told, session_told}
use Rattle.world_laws.proofs.Bringing.{found_named}
use Rattle.world_laws.proofs.Frames.{goes_on_still, held_more, into_map, ring_of, sound_still}
use Rattle.world_laws.proofs.MoreMet.{more_heads, more_kept_in, more_posts, more_snapshots, more_sound, more_to_load, some_weaker}
use Rattle.world_laws.proofs.Placed.{found_among, found_some}

-- ---- lists

pub found_before : {A : Type 0} (test : A → Bool) (xs ys : List A) (x : A) → find test xs ≡ Some x → find test (xs ++ ys) ≡ Some x
found_before test [] ys x is = cc is
found_before test (y ∷ xs) ys x is = by (test y) is (found_before test xs ys x)
  where
    by : (b : Bool) → cond b (Some y) (find test xs) ≡ Some x → (find test xs ≡ Some x → find test (xs ++ ys) ≡ Some x) → cond b (Some y) (find test (xs ++ ys)) ≡ Some x
    by true h later = h
    by false h later = later h

pub found_after : {A : Type 0} (test : A → Bool) (xs ys : List A) → find test xs ≡ None → find test (xs ++ ys) ≡ find test ys
found_after test [] ys none = refl
found_after test (x ∷ xs) ys none = by (test x) none (found_after test xs ys)
  where
    by : (b : Bool) → cond b (Some x) (find test xs) ≡ None → (find test xs ≡ None → find test (xs ++ ys) ≡ find test ys) → cond b (Some x) (find test (xs ++ ys)) ≡ find test ys
    by true h later = cc h
    by false h later = later h

pub apart_more : (ns : List (List ℕ)) (n : List ℕ) → AreApart ns → (Contains ns n → ⊥) → AreApart (ns ++ n ∷ [])
apart_more [] n apart new = (in_nothing n, tt)
apart_more (m ∷ ns) n apart new = (
  λ c. ⊎_elim apart.0 (λ last. ⊎_elim (λ e. new (subst (Contains (m ∷ ns)) (sym e) (here m ns))) (λ none. in_nothing m none) (in_cons n [] m last)) (Contains-append_cases ns (n ∷ []) m c),
  apart_more ns n apart.1 (λ c. new (there m ns n c)),
)

pub none_named : {A : Type 0} (o : Option A) → is_some o ≡ false → o ≡ None
none_named None h = refl
none_named (Some x) h = cc h

-- ---- the new participant

-- what has to hold of it, and of what it knows
pub record IsFitToCome (met : List (List ℕ)) (p : Participant) (now : Knowing) : Type 0 where
  pub named : now.name ≡ p.name
  pub nothing_received : now.received ≡ []
  pub pending : AllByRecursion (IsMetPost met) p.agent.pending
  pub cached : IsCache p.cache × AllByRecursion (λ e. Contains met e.1) p.cache
  pub signs : IsKeptSo SignsOnce p
  pub saved : IsKeptSo IsSavedWell p
  pub outside : p.agent.view ≡ None
  pub keeper_outside : IsKeptSo (λ o k. k.view ≡ None) p
  pub agent : IsSoundIn met p now p.agent.view
  pub keeper : IsKeptSo (λ o k. IsSoundKeptIn met o now k k.view) p

module _ (w : Played) (keeps : Invariant w) (r : ℕ) (ringed : w.0.replicas ≡ Some r) (p : Participant) (new : is_some (participant w.0 p.name) ≡ false) (now : Knowing)
    (met : List (List ℕ)) (grows : (b : List ℕ) → Contains w.0.met b → Contains met b) (fit : IsFitToCome met p now) where
  abbrev v : World
  v = record w.0 { participants = w.0.participants ++ p ∷ []; met = met }

  abbrev su : GhostState
  su = record w.1 { participants = w.1.participants ++ now ∷ [] }

  abbrev by_name : Participant → List ℕ
  by_name o = o.name

  abbrev told_name : Knowing → List ℕ
  told_name k = k.name

  is_new : participant w.0 p.name ≡ None
  is_new = none_named (participant w.0 p.name) new

  not_among : Contains (map by_name w.0.participants) p.name → ⊥
  not_among c = let found = found_some by_name w.0.participants p.name c in cc (sym is_new ∙ found.1)

  -- ---- who is found

  found_old : (name : List ℕ) (o : Participant) → participant w.0 name ≡ Some o → participant v name ≡ Some o
  found_old name o is = found_before (λ (x : Participant). bytes_eq x.name name) w.0.participants (p ∷ []) o is

  pub found_new : participant v p.name ≡ Some p
  found_new = found_after (λ (x : Participant). bytes_eq x.name p.name) w.0.participants (p ∷ []) is_new ∙ ap (λ b. cond b (Some p) None) ((bytes_eq-Decides p.name p.name).1 refl)

  knowing_old : (o : Participant) → Contains w.0.participants o → knowing_of su o.name ≡ knowing_of w.1 o.name
  knowing_old o o_in =
      let told = found_some told_name w.1.participants o.name (subst (λ ns. Contains ns o.name) (sym keeps.fits.participants) (into_map by_name w.0.participants o o_in)) in
      ap (λ x. option_map_or (λ (k : Knowing). k) x (knowing_nothing o.name)) (found_before (λ (k : Knowing). bytes_eq k.name o.name) w.1.participants (now ∷ []) told.0 told.1 ∙ sym told.1)

  nothing_told : (x : Option Knowing) → find (λ (k : Knowing). bytes_eq k.name p.name) w.1.participants ≡ x → x ≡ None
  nothing_told None is = refl
  nothing_told (Some k) is =
      let found = found_among told_name w.1.participants p.name k is in
      absurd (not_among (subst (λ ns. Contains ns p.name) keeps.fits.participants (subst (Contains (map told_name w.1.participants)) found.1 (into_map told_name w.1.participants k found.0))))

  knowing_new : knowing_of su p.name ≡ now
  knowing_new = ap (λ x. option_map_or (λ (k : Knowing). k) x (knowing_nothing p.name))
      (found_after (λ (k : Knowing). bytes_eq k.name p.name) w.1.participants (now ∷ []) (nothing_told _ refl) ∙ ap (λ b. cond b (Some now) None) ((bytes_eq-Decides now.name p.name).1 fit.named))

  -- by the session's participant
  knowing_by : (name : List ℕ) (o : Participant) → participant w.0 name ≡ Some o → knowing_of su name ≡ knowing_of w.1 name
  knowing_by name o is = let its = found_named w.0.participants name o is in subst (λ n. knowing_of su n ≡ knowing_of w.1 n) its.1 (knowing_old o its.0)

  -- ---- each

  all_then : (P : Participant → Type 0) → ((o : Participant) → Contains w.0.participants o → P o) → P p → AllByRecursion P v.participants
  all_then P others its = each_append P w.0.participants (p ∷ []) (each_from P w.0.participants others) (its, tt)

  names : map by_name v.participants ≡ map by_name w.0.participants ++ p.name ∷ []
  names = map-append by_name w.0.participants (p ∷ [])

  owned_then : (view : View) → AreParticipants w.0 view → AreParticipants v view
  owned_then view h = all_weaker _ _ view.members (λ k c. subst (λ ks. Contains ks k) (sym (map-append (λ (o : Participant). own_hss_key o.agent) w.0.participants (p ∷ [])))
      (Contains-append_left (map (λ (o : Participant). own_hss_key o.agent) w.0.participants) (own_hss_key p.agent ∷ []) k c)) h

  entered_then : (o : Participant) → EntersOwned w.0 o → EntersOwned v o
  entered_then o h = record {
    agent = some_weaker _ _ o.agent.view owned_then h.agent;
    keeper = (h.keeper.0, h.keeper.1, h.keeper.2, some_weaker _ _ h.keeper.0.view owned_then h.keeper.3);
  }

  entered_new : EntersOwned v p
  entered_new = record {
    agent = subst (λ o. IfSome o (AreParticipants v)) (sym fit.outside) tt;
    keeper = (fit.keeper_outside.0, fit.keeper_outside.1, fit.keeper_outside.2, subst (λ o. IfSome o (AreParticipants v)) (sym fit.keeper_outside.3) tt);
  }

  -- ---- sessions

  goes_on : AllByRecursion (λ (s : NamedSession). GoesOn w.0 r s.session) w.0.sessions → AllByRecursion (λ (s : NamedSession). GoesOn v r s.session) w.0.sessions
  goes_on h = all_weaker (λ (s : NamedSession). GoesOn w.0 r s.session) (λ (s : NamedSession). GoesOn v r s.session) w.0.sessions
      (λ s g. goes_on_still w.0 v grows (λ o c. c) r s.session g (unchanged g.by) (found_old s.session.by g.by g.is_by)) h

  ring : HasRing v (Some r)
  ring = let h = ring_of w keeps ringed in (h.0, h.1, h.2, goes_on h.3)

  -- ---- where no names collide

  apart_before : IsCollisionFree (named_bytes v) → IsCollisionFree (named_bytes w.0)
  apart_before apart a b in_a in_b same = apart a b (more a in_a) (more b in_b) same
    where
      keys : List Participant → List (List ℕ)
      keys ps = map (λ (o : Participant). (own_hss_key o.agent).0) ps

      more : (b : List ℕ) → Contains (named_bytes w.0) b → Contains (named_bytes v) b
      more b h = ⊎_elim
          (λ c. Contains-append_left met (keys v.participants) b (grows b c))
          (λ c. Contains-append_right met (keys v.participants) b (subst (λ ks. Contains ks b) (sym (map-append (λ (o : Participant). (own_hss_key o.agent).0) w.0.participants (p ∷ [])))
          (Contains-append_left (keys w.0.participants) ((own_hss_key p.agent).0 ∷ []) b c)))
          (Contains-append_cases w.0.met (keys w.0.participants) b h)

  sound : AreSound w.0 w.1 → AreSound v su
  sound old = record {
    agents = all_then (λ o. IsSoundIn met o (knowing_of su o.name) o.agent.view)
        (λ o o_in. subst (λ k. IsSoundIn met o k o.agent.view) (sym (knowing_old o o_in)) (more_sound w.0.met met grows o (unchanged o) (knowing_of w.1 o.name) o.agent.view (each (λ (x : Participant). IsSoundIn w.0.met x (knowing_of w.1 x.name) x.agent.view) w.0.participants o old.agents o_in)))
        (subst (λ k. IsSoundIn met p k p.agent.view) (sym knowing_new) fit.agent);
    keepers = all_then (IsKeptSo (λ o k. IsSoundKeptIn met o (knowing_of su o.name) k k.view))
        (λ o o_in.
        let so : IsKeptSo (λ x k. IsSoundKeptIn w.0.met x (knowing_of w.1 x.name) k k.view) o = each (IsKeptSo (λ x k. IsSoundKeptIn w.0.met x (knowing_of w.1 x.name) k k.view)) w.0.participants o old.keepers o_in in
        (so.0, so.1, so.2, subst (λ l. IsSoundKeptIn met o l so.0 so.0.view) (sym (knowing_old o o_in)) (more_kept_in w.0.met met grows o (unchanged o) (knowing_of w.1 o.name) so.0 so.0.view so.3)))
        (let so = fit.keeper in (so.0, so.1, so.2, subst (λ l. IsSoundKeptIn met p l so.0 so.0.view) (sym knowing_new) so.3));
    to_load = all_then (λ o. IfSome o.agent.view (λ view. IfSome o.agent.to_load (λ root. (o.agent.holding ≡ nothing_held) × IsSnapshotOf met view (known_of su o.name) root)))
        (λ o o_in. subst (λ (k : Knowing). IfSome o.agent.view (λ view. IfSome o.agent.to_load (λ root. (o.agent.holding ≡ nothing_held) × IsSnapshotOf met view k.known root))) (sym (knowing_old o o_in))
        (more_to_load w.0.met met grows o (known_of w.1 o.name) o.agent.view
        (each (λ (x : Participant). IfSome x.agent.view (λ view. IfSome x.agent.to_load (λ root. (x.agent.holding ≡ nothing_held) × IsSnapshotOf w.0.met view (known_of w.1 x.name) root))) w.0.participants o old.to_load o_in)))
        (subst (λ x. IfSome x (λ view. IfSome p.agent.to_load (λ root. (p.agent.holding ≡ nothing_held) × IsSnapshotOf met view (known_of su p.name) root))) (sym fit.outside) tt);
    snapshots = all_then (λ o. IfSome o.agent.view (λ view. IfSome o.agent.snapshot (IsSnapshotOf met view (known_of su o.name))))
        (λ o o_in. subst (λ (k : Knowing). IfSome o.agent.view (λ view. IfSome o.agent.snapshot (IsSnapshotOf met view k.known))) (sym (knowing_old o o_in))
        (more_snapshots w.0.met met grows o (known_of w.1 o.name) o.agent.view
        (each (λ (x : Participant). IfSome x.agent.view (λ view. IfSome x.agent.snapshot (IsSnapshotOf w.0.met view (known_of w.1 x.name)))) w.0.participants o old.snapshots o_in)))
        (subst (λ x. IfSome x (λ view. IfSome p.agent.snapshot (IsSnapshotOf met view (known_of su p.name)))) (sym fit.outside) tt);
    sessions = all_weaker (λ (s : NamedSession). IsSoundSession w.0 w.1 s.session (began_of w.1 s.name)) (λ (s : NamedSession). IsSoundSession v su s.session (began_of w.1 s.name)) w.0.sessions
        (λ s g. session_told v w.1 su s.session (began_of w.1 s.name) (knowing_by s.session.by g.by g.is_by)
        (sound_still w.0 v w.1 grows s.session (began_of w.1 s.name) g (unchanged g.by) w.1.acked (found_old s.session.by g.by g.is_by))) old.sessions;
  }

  pub comes : Invariant (v, su)
  comes = record {
    fits = record {
      participants = map-append told_name w.1.participants (now ∷ []) ∙ (λ i. keeps.fits.participants i ++ fit.named i ∷ []) ∙ sym names;
      sessions = keeps.fits.sessions;
    };
    ring = subst (HasRing v) (sym ringed) ring;
    met = record {
      held = held_more w keeps met grows;
      pending = all_then (λ o. AllByRecursion (IsMetPost met) o.agent.pending)
          (λ o o_in. more_posts w.0.met met grows o.agent.pending (each (λ (x : Participant). AllByRecursion (IsMetPost w.0.met) x.agent.pending) w.0.participants o keeps.met.pending o_in)) fit.pending;
      cached = all_then (λ o. IsCache o.cache × AllByRecursion (λ e. Contains met e.1) o.cache) (λ o o_in.
          let old : IsCache o.cache × AllByRecursion (λ e. Contains w.0.met e.1) o.cache = each (λ (x : Participant). IsCache x.cache × AllByRecursion (λ e. Contains w.0.met e.1) x.cache) w.0.participants o keeps.met.cached o_in in
          (old.0, all_weaker _ _ o.cache (λ e h. grows e.1 h) old.1)) fit.cached;
      views = all_weaker _ _ w.0.views (λ x h. (h.0, h.1, owned_then x.view h.2)) keeps.met.views;
    };
    peers = record { named = keeps.peers.named; apart = keeps.peers.apart; few = keeps.peers.few; known = keeps.peers.known };
    signs = all_then (IsKeptSo SignsOnce) (λ o o_in. each (IsKeptSo SignsOnce) w.0.participants o keeps.signs o_in) fit.signs;
    saved = all_then (IsKeptSo IsSavedWell) (λ o o_in. each (IsKeptSo IsSavedWell) w.0.participants o keeps.saved o_in) fit.saved;
    entered = all_then (EntersOwned v) (λ o o_in. entered_then o (each (EntersOwned w.0) w.0.participants o keeps.entered o_in)) entered_new;
    apart = subst AreApart (sym names) (apart_more (map by_name w.0.participants) p.name keeps.apart not_among);
    named_once = keeps.named_once;
    moment = keeps.moment;
    received = each_append (λ (k : Knowing). AllByRecursion (IsMetHead met) k.received) w.1.participants (now ∷ [])
        (all_weaker _ _ w.1.participants (λ k g. more_heads w.0.met met grows k.received g) keeps.received) (subst (AllByRecursion (IsMetHead met)) (sym fit.nothing_received) tt, tt);
    numbers = record { apart = keeps.numbers.apart; sessions = keeps.numbers.sessions; turns = keeps.numbers.turns };
    said = all_weaker (λ (s : NamedSession). HasSaid w.1 (began_of w.1 s.name).number s.session (said_at s.session.stage)) (λ (s : NamedSession). HasSaid su (began_of w.1 s.name).number s.session (said_at s.session.stage)) w.0.sessions
        (λ s g. said_told w.1 su.participants w.1.sessions (began_of w.1 s.name).number s.session (said_at s.session.stage) g) keeps.said;
    sound = λ apart. sound (keeps.sound (apart_before apart));
  }
