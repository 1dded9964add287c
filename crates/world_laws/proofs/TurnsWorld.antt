-- A participant changes by a turn and knows another set, and its open sessions stay.
use Rattle.std.proofs.Common.{◌≡◌, ℕ, ◌≤◌, ◌<◌, Bool, true, false, cond, List, ◌++◌, map, Option, Some, None, refl, sym, ap, ◌∙◌, subst, Contains}
use Rattle.std.specs.Prelude.{IfSome}
use Rattle.std.specs.List.{AllByRecursion, find}
use Rattle.std.specs.Option.{option_map_or}
use Rattle.std.specs.Str.{bytes_eq}
use Rattle.std.proofs.lemmas.List.Elements.{Contains-append_left}
use Rattle.ring_model.proofs.Lists.{all_weaker}
use Rattle.ivy_base.specs.Naming.{IsCollisionFree}
use Rattle.log_model.proofs.Lists.{each, each_append, each_from, in_nothing}
use Rattle.log_model.specs.Record.{Record}
use Rattle.log_model.specs.Vector.{Dominates}
use Rattle.log_model.specs.View.{View}
use Rattle.turn_model.specs.Basis.{Holding, fresh_basis, nothing_held}
use Rattle.block_cache.specs.Blocks.{IsCache}
use Rattle.session_laws.specs.Loading.{IsSnapshotOf}
use Rattle.session_model.specs.Sessions.{Said, Session}
use Rattle.world_model.specs.Agents.{HssAgent, own_hss_key}
use Rattle.world_model.specs.World.{World, NamedSession, Participant, named_bytes, participant, with_participant}
use Rattle.world_model.specs.GhostState.{Began, HadTurn, Knowing, GhostState, began_nothing, began_of, knowing_nothing, knowing_of, knowing_now, known_of}
use Rattle.world_model.specs.Logs.{Played}
use Rattle.world_laws.specs.Causes.{HasCause, said_at}
use Rattle.world_laws.specs.Causes.HasCause.{alone, missed, turned, no_memory}
use Rattle.world_laws.specs.Invariant.{AreApart, AreNumbered, AreParticipants, AreSound, BeganFresh, EntersOwned, GoesOn, HasRing, HasSaid, IsKeptSo, IsMetHead, IsMetPost, IsSavedWell, IsSoundIn, IsSoundKeptIn, IsSoundSession, Invariant, KeepsUp, SignsOnce}
use Rattle.world_laws.specs.Frames.{unchanged}
use Rattle.world_laws.proofs.Afresh.{session_told}
use Rattle.world_laws.proofs.Bringing.{found_named, some_same}
use Rattle.world_laws.proofs.Frames.{all_mapped, answer_stays, goes_on_still, held_more, into_map, one_named, same_keys, same_map, sound_still, stage_stays, still_participants}
use Rattle.world_laws.proofs.MoreMet.{grows_before, more_heads, more_kept_in, more_posts, more_snapshot, more_snapshots, more_sound, more_to_load, some_weaker}
use Rattle.world_laws.proofs.Placed.{find_other, find_own, found_among, found_some, names_placed, other_name, placed, same_name}

abbrev by_name : Participant → List ℕ
by_name p = p.name

abbrev told_name : Knowing → List ℕ
told_name k = k.name

-- ---- what is told then

-- the participant knows that set, and more turns were answered
pub record ToldThen (w : Played) (p : Participant) (set : List Record) (more : List HadTurn) (su : GhostState) : Type 0 where
  pub names : map told_name su.participants ≡ map told_name w.1.participants
  pub its : knowing_of su p.name ≡ record (knowing_of w.1 p.name) { known = set }
  pub others : (name : List ℕ) → bytes_eq name p.name ≡ false → knowing_of su name ≡ knowing_of w.1 name
  pub received : AllByRecursion (λ k. AllByRecursion (IsMetHead w.0.met) k.received) su.participants
  pub sessions : su.sessions ≡ w.1.sessions
  pub begun : su.begun ≡ w.1.begun
  pub turns : su.turns ≡ w.1.turns ++ more

module _ (w : Played) (keeps : Invariant w) (p : Participant) (is_p : participant w.0 p.name ≡ Some p) where
  its_name : Contains (map told_name w.1.participants) p.name
  its_name = subst (λ ns. Contains ns p.name) (sym keeps.fits.participants) (into_map by_name w.0.participants p (found_named w.0.participants p.name p is_p).0)

  told : (k : Knowing) × (find (λ (l : Knowing). bytes_eq l.name p.name) w.1.participants ≡ Some k)
  told = found_some told_name w.1.participants p.name its_name

  knowing_is : knowing_of w.1 p.name ≡ told.0
  knowing_is = ap (λ o. option_map_or (λ (k : Knowing). k) o (knowing_nothing p.name)) told.1

  pub told_named : (knowing_of w.1 p.name).name ≡ p.name
  told_named = ap told_name knowing_is ∙ (found_among told_name w.1.participants p.name told.0 told.1).1

  module _ (set : List Record) (turns : List HadTurn) where
    abbrev its_then : Knowing
    its_then = record (knowing_of w.1 p.name) { known = set }

    abbrev su : GhostState
    su = record (knowing_now w.1 p.name set) { turns = w.1.turns ++ turns }

    pub told_now : ToldThen w p set turns su
    told_now = record {
      names = names_placed told_name its_then w.1.participants;
      its = ap (λ o. option_map_or (λ (k : Knowing). k) o (knowing_nothing p.name))
          (subst (λ n. find (λ (l : Knowing). bytes_eq l.name n) su.participants ≡ Some its_then) told_named
          (find_own told_name its_then w.1.participants (subst (Contains (map told_name w.1.participants)) (sym told_named) its_name)));
      others = λ name other.
          ap (λ o. option_map_or (λ (k : Knowing). k) o (knowing_nothing name)) (find_other told_name its_then name (other_name p.name (knowing_of w.1 p.name).name name (sym told_named) other) w.1.participants);
      received = all_mapped (λ (k : Knowing). AllByRecursion (IsMetHead w.0.met) k.received) (placed told_name its_then) w.1.participants (λ k k_in. by k k_in (bytes_eq k.name (knowing_of w.1 p.name).name));
      sessions = refl;
      begun = refl;
      turns = refl;
    }
      where
        before : (k : Knowing) → Contains w.1.participants k → AllByRecursion (IsMetHead w.0.met) k.received
        before k k_in = each (λ (l : Knowing). AllByRecursion (IsMetHead w.0.met) l.received) w.1.participants k keeps.received k_in

        by : (k : Knowing) → Contains w.1.participants k → (b : Bool) → AllByRecursion (IsMetHead w.0.met) (cond b its_then k).received
        by k k_in true = subst (λ (l : Knowing). AllByRecursion (IsMetHead w.0.met) l.received) (sym knowing_is) (before told.0 (found_among told_name w.1.participants p.name told.0 told.1).0)
        by k k_in false = before k k_in

-- ---- what has to hold of the participant then

-- a session of it that was sound is sound then
pub record StaysSound (s : Session) (b : Began) (of : Holding) (a : HssAgent) (set : List Record) : Type 0 where
  pub known : (r : Record) → Contains b.knew r → Contains set r
  pub floor : Dominates a.floor s.standing.floor
  pub keeps_up : KeepsUp s of a set
  pub anew : 1 ≤ s.starts → (a.to_load ≡ None) × (a.holding.basis ≡ fresh_basis)
  pub stays_fresh : BeganFresh s of → (a.to_load ≡ None) × (a.holding.basis ≡ fresh_basis)

-- what is known of it then
abbrev pub knowing_then : Played → Participant → List Record → Knowing
knowing_then w p set = record (knowing_of w.1 p.name) { known = set }

pub record FitsTurn (w : Played) (p q : Participant) (met : List (List ℕ)) (set : List Record) : Type 0 where
  pub named : q.name ≡ p.name
  pub owned : own_hss_key q.agent ≡ own_hss_key p.agent
  pub in_view : q.agent.view ≡ p.agent.view
  pub pending : AllByRecursion (IsMetPost met) q.agent.pending
  pub cached : q.cache ≡ p.cache
  pub signs : IsKeptSo SignsOnce q
  pub saved : IsKeptSo IsSavedWell q
  pub entered : EntersOwned w.0 q
  pub agent : IsCollisionFree (named_bytes w.0) → IsSoundIn met q (knowing_then w p set) q.agent.view
  pub keeper : IsCollisionFree (named_bytes w.0) → IsKeptSo (λ o k. IsSoundKeptIn met o (knowing_then w p set) k k.view) q
  pub to_load : IsCollisionFree (named_bytes w.0) → IfSome q.agent.view (λ view. IfSome q.agent.to_load (λ root. (q.agent.holding ≡ nothing_held) × IsSnapshotOf met view set root))
  pub snapshots : IsCollisionFree (named_bytes w.0) → IfSome q.agent.view (λ view. IfSome q.agent.snapshot (IsSnapshotOf met view set))
  pub sessions : IsCollisionFree (named_bytes w.0) → (s : Session) (b : Began) (h : IsSoundSession w.0 w.1 s b) → s.by ≡ p.name → p.agent.view ≡ Some s.standing.view → StaysSound s b h.of q.agent set

-- the world in which q stands in p's place, and more is met
abbrev pub world_then : World → Participant → List (List ℕ) → World
world_then w q met = record (with_participant w q) { met = met }

module _ (w : Played) (keeps : Invariant w) (p : Participant) (is_p : participant w.0 p.name ≡ Some p) (q : Participant) (met : List (List ℕ)) (grows : (b : List ℕ) → Contains w.0.met b → Contains met b)
    (set : List Record) (fit : FitsTurn w p q met set) (more : List HadTurn) (numbered : (h : HadTurn) → Contains more h → h.began.number < w.1.begun) (su : GhostState) (tells : ToldThen w p set more su) where
  abbrev v : World
  v = world_then w.0 q met

  abbrev put : Participant → Participant
  put = placed by_name q

  among : Contains w.0.participants p
  among = (found_named w.0.participants p.name p is_p).0

  -- ---- who is there

  all_put : (P : Participant → Type 0) → P q → ((o : Participant) → Contains w.0.participants o → bytes_eq o.name q.name ≡ false → P o) → AllByRecursion P v.participants
  all_put P new others = all_mapped P put w.0.participants (λ o o_in. by o o_in (bytes_eq o.name q.name) refl)
    where
      by : (o : Participant) → Contains w.0.participants o → (b : Bool) → bytes_eq o.name q.name ≡ b → P (cond b q o)
      by o o_in true is = new
      by o o_in false is = others o o_in is

  found_other : (name : List ℕ) (o : Participant) → bytes_eq name p.name ≡ false → participant w.0 name ≡ Some o → participant v name ≡ Some o
  found_other name o other is = find_other by_name q name (other_name p.name q.name name (sym fit.named) other) w.0.participants ∙ is

  pub found_its : (name : List ℕ) → bytes_eq name p.name ≡ true → participant v name ≡ Some q
  found_its name is = subst (λ n. participant v n ≡ Some q) (fit.named ∙ sym (same_name name p.name is))
      (find_own by_name q w.0.participants (subst (Contains (map by_name w.0.participants)) (sym fit.named) (into_map by_name w.0.participants p among)))

  its_own : (name : List ℕ) (o : Participant) → bytes_eq name p.name ≡ true → participant w.0 name ≡ Some o → o ≡ p
  its_own name o is found = some_same o p (sym found ∙ ap (participant w.0) (same_name name p.name is) ∙ is_p)

  names : map by_name v.participants ≡ map by_name w.0.participants
  names = names_placed by_name q w.0.participants

  -- ---- sessions

  began_then : (name : List ℕ) → began_of su name ≡ began_of w.1 name
  began_then name = ap (λ bs. option_map_or (λ (b : List ℕ × Began). b.1) (find (λ (b : List ℕ × Began). bytes_eq b.0 name) bs) began_nothing) tells.sessions

  pub goes_then : (r : ℕ) (s : Session) → GoesOn w.0 r s → GoesOn v r s
  goes_then r s g = by (bytes_eq s.by p.name) refl
    where
      by : (b : Bool) → bytes_eq s.by p.name ≡ b → GoesOn v r s
      by false other = goes_on_still w.0 v grows (λ o i. i) r s g (unchanged g.by) (found_other s.by g.by other g.is_by)
      by true is = let one : g.by ≡ p = its_own s.by g.by is g.is_by in record {
        by = q;
        is_by = found_its s.by is;
        in_view = fit.in_view ∙ ap (λ (o : Participant). o.agent.view) (sym one) ∙ g.in_view;
        own_key = g.own_key ∙ ap (λ (o : Participant). own_hss_key o.agent) one ∙ sym fit.owned;
        some_entry = g.some_entry;
        entries = g.entries;
        heard = all_weaker _ _ s.current (λ a i. answer_stays w.0 v grows (λ o j. j) a.got i) g.heard;
        pending = more_posts w.0.met met grows s.standing.pending g.pending;
        stage = stage_stays w.0 v grows r s s.stage g.stage;
      }

  ring : (o : Option ℕ) → HasRing w.0 o → HasRing v o
  ring None h = (h.0, ap (map put) h.1, h.2)
  ring (Some r) h = (h.0, h.1, h.2, all_weaker (λ (s : NamedSession). GoesOn w.0 r s.session) (λ (s : NamedSession). GoesOn v r s.session) w.0.sessions (λ s g. goes_then r s.session g) h.3)

  numbers : AreNumbered v su
  numbers = record {
    apart = λ s t s_in t_in same. keeps.numbers.apart s t s_in t_in (ap (λ (b : Began). b.number) (sym (began_then s.name)) ∙ same ∙ ap (λ (b : Began). b.number) (began_then t.name));
    sessions = each_from _ w.0.sessions (λ s s_in. subst (λ n. (began_of su s.name).number < n) (sym tells.begun)
        (subst (λ (b : Began). b.number < w.1.begun) (sym (began_then s.name)) (each (λ (t : NamedSession). (began_of w.1 t.name).number < w.1.begun) w.0.sessions s keeps.numbers.sessions s_in)));
    turns = subst (λ ts. AllByRecursion (λ (h : HadTurn). h.began.number < su.begun) ts) (sym tells.turns)
        (subst (λ n. AllByRecursion (λ (h : HadTurn). h.began.number < n) (w.1.turns ++ more)) (sym tells.begun)
        (each_append (λ (h : HadTurn). h.began.number < w.1.begun) w.1.turns more keeps.numbers.turns (each_from (λ (h : HadTurn). h.began.number < w.1.begun) more numbered)));
  }

  cause_then : (n : ℕ) (s : Session) (said : Said) → HasCause w.1 n s said → HasCause su n s said
  cause_then n s _ (alone given by) = alone given by
  cause_then n s _ (missed xid asked given miss asks refreshed is) = missed xid asked given miss asks refreshed is
  cause_then n s _ (turned h xid asked given stands of asks refreshed) =
      turned h xid asked given (subst (λ ts. Contains ts h) (sym tells.turns) (Contains-append_left w.1.turns more h stands)) of asks refreshed
  cause_then n s _ (no_memory xid asked asks) = no_memory xid asked asks

  said_then : (n : ℕ) (s : Session) (o : Option Said) → HasSaid w.1 n s o → HasSaid su n s o
  said_then n s None h = tt
  said_then n s (Some said) h = cause_then n s said h

  said : AllByRecursion (λ (s : NamedSession). HasSaid su (began_of su s.name).number s.session (said_at s.session.stage)) w.0.sessions
  said = each_from _ w.0.sessions (λ s s_in.
      subst (λ (b : Began). HasSaid su b.number s.session (said_at s.session.stage)) (sym (began_then s.name))
      (said_then (began_of w.1 s.name).number s.session (said_at s.session.stage)
      (each (λ (t : NamedSession). HasSaid w.1 (began_of w.1 t.name).number t.session (said_at t.session.stage)) w.0.sessions s keeps.said s_in)))

  -- ---- views

  owners : map (λ (o : Participant). own_hss_key o.agent) v.participants ≡ map (λ (o : Participant). own_hss_key o.agent) w.0.participants
  owners = same_map (λ (o : Participant). own_hss_key o.agent) put w.0.participants (λ o o_in. by o o_in (bytes_eq o.name q.name) refl)
    where
      by : (o : Participant) → Contains w.0.participants o → (b : Bool) → bytes_eq o.name q.name ≡ b → own_hss_key (cond b q o).agent ≡ own_hss_key o.agent
      by o o_in true is =
          let one : p ≡ o = one_named by_name w.0.participants p o keeps.apart among o_in (sym (same_name o.name q.name is ∙ fit.named)) in
          fit.owned ∙ ap (λ (x : Participant). own_hss_key x.agent) one
      by o o_in false is = refl

  owned_then : (view : View) → AreParticipants w.0 view → AreParticipants v view
  owned_then view h = still_participants w.0 v owners view h

  entered_then : (o : Participant) → EntersOwned w.0 o → EntersOwned v o
  entered_then o h = record {
    agent = some_weaker _ _ o.agent.view owned_then h.agent;
    keeper = (h.keeper.0, h.keeper.1, h.keeper.2, some_weaker _ _ h.keeper.0.view owned_then h.keeper.3);
  }

  -- ---- where no names collide

  keys : map (λ (o : Participant). (own_hss_key o.agent).0) v.participants ≡ map (λ (o : Participant). (own_hss_key o.agent).0) w.0.participants
  keys = same_keys w.0 keeps.apart p.name p is_p q fit.named fit.owned

  pub apart_before : IsCollisionFree (named_bytes v) → IsCollisionFree (named_bytes w.0)
  apart_before apart a b in_a in_b same = apart a b (more_named a in_a) (more_named b in_b) same
    where
      more_named : (b : List ℕ) → Contains (named_bytes w.0) b → Contains (named_bytes v) b
      more_named b h = subst (λ ks. Contains (met ++ ks) b) (sym keys) (grows_before w.0.met met grows (map (λ (o : Participant). (own_hss_key o.agent).0) w.0.participants) b h)

  told_of_q : knowing_of su q.name ≡ knowing_then w p set
  told_of_q = ap (knowing_of su) fit.named ∙ tells.its

  told_of : (o : Participant) → bytes_eq o.name q.name ≡ false → knowing_of su o.name ≡ knowing_of w.1 o.name
  told_of o other = tells.others o.name (subst (λ n. bytes_eq o.name n ≡ false) fit.named other)

  its_told : (name : List ℕ) → bytes_eq name p.name ≡ true → knowing_of su name ≡ knowing_then w p set
  its_told name is = ap (knowing_of su) (same_name name p.name is) ∙ tells.its

  pub sound_session : IsCollisionFree (named_bytes w.0) → (r : ℕ) (s : Session) (b : Began) → GoesOn w.0 r s → IsSoundSession w.0 w.1 s b → IsSoundSession v su s b
  sound_session apart r s b g h = by (bytes_eq s.by p.name) refl
    where
      by : (t : Bool) → bytes_eq s.by p.name ≡ t → IsSoundSession v su s b
      by false other = session_told v w.1 su s b (tells.others s.by other) (sound_still w.0 v w.1 grows s b h (unchanged h.by) w.1.acked (found_other s.by h.by other h.is_by))
      by true is =
          let stays = fit.sessions apart s b h (same_name s.by p.name is) (ap (λ (o : Participant). o.agent.view) (sym (its_own s.by g.by is g.is_by)) ∙ g.in_view) in
          record {
            by = q;
            is_by = found_its s.by is;
            of = h.of;
            knows = h.knows;
            held = h.held;
            edges = h.edges;
            to_load = some_weaker _ _ s.standing.to_load (λ root i. (i.0, more_snapshot w.0.met met grows s.standing.view b.knew root i.1)) h.to_load;
            known = λ x c. subst (λ (k : Knowing). Contains k.known x) (sym (its_told s.by is)) (stays.known x c);
            floor = stays.floor;
            keeps_up = subst (λ (k : Knowing). KeepsUp s h.of q.agent k.known) (sym (its_told s.by is)) stays.keeps_up;
            anew = stays.anew;
            stays_fresh = stays.stays_fresh;
            received = λ e c. subst (λ (k : Knowing). Contains k.received e) (sym (its_told s.by is)) (subst (λ n. Contains (knowing_of w.1 n).received e) (same_name s.by p.name is) (h.received e c));
            blocks = λ key bytes c. ((h.blocks key bytes c).0, grows bytes (h.blocks key bytes c).1);
          }

  sessions_go : (o : Option ℕ) → HasRing w.0 o → (s : NamedSession) → Contains w.0.sessions s → (r : ℕ) × GoesOn w.0 r s.session
  sessions_go None h s c = absurd (in_nothing s (subst (λ ss. Contains ss s) h.2 c))
  sessions_go (Some r) h s c = (r, each (λ (t : NamedSession). GoesOn w.0 r t.session) w.0.sessions s h.3 c)

  sound : IsCollisionFree (named_bytes w.0) → AreSound v su
  sound apart = record {
    agents = all_put (λ o. IsSoundIn met o (knowing_of su o.name) o.agent.view) (subst (λ k. IsSoundIn met q k q.agent.view) (sym told_of_q) (fit.agent apart))
        (λ o o_in other. subst (λ k. IsSoundIn met o k o.agent.view) (sym (told_of o other)) (more_sound w.0.met met grows o (unchanged o) (knowing_of w.1 o.name) o.agent.view (each (λ (x : Participant). IsSoundIn w.0.met x (knowing_of w.1 x.name) x.agent.view) w.0.participants o old.agents o_in)));
    keepers = all_put (IsKeptSo (λ o k. IsSoundKeptIn met o (knowing_of su o.name) k k.view)) (let so = fit.keeper apart in (so.0, so.1, so.2, subst (λ l. IsSoundKeptIn met q l so.0 so.0.view) (sym told_of_q) so.3))
        (λ o o_in other.
        let so : IsKeptSo (λ x k. IsSoundKeptIn w.0.met x (knowing_of w.1 x.name) k k.view) o = each (IsKeptSo (λ x k. IsSoundKeptIn w.0.met x (knowing_of w.1 x.name) k k.view)) w.0.participants o old.keepers o_in in
        (so.0, so.1, so.2, subst (λ l. IsSoundKeptIn met o l so.0 so.0.view) (sym (told_of o other)) (more_kept_in w.0.met met grows o (unchanged o) (knowing_of w.1 o.name) so.0 so.0.view so.3)));
    to_load = all_put (λ o. IfSome o.agent.view (λ view. IfSome o.agent.to_load (λ root. (o.agent.holding ≡ nothing_held) × IsSnapshotOf met view (known_of su o.name) root)))
        (subst (λ (k : Knowing). IfSome q.agent.view (λ view. IfSome q.agent.to_load (λ root. (q.agent.holding ≡ nothing_held) × IsSnapshotOf met view k.known root))) (sym told_of_q) (fit.to_load apart))
        (λ o o_in other. subst (λ (k : Knowing). IfSome o.agent.view (λ view. IfSome o.agent.to_load (λ root. (o.agent.holding ≡ nothing_held) × IsSnapshotOf met view k.known root))) (sym (told_of o other))
        (more_to_load w.0.met met grows o (known_of w.1 o.name) o.agent.view
        (each (λ (x : Participant). IfSome x.agent.view (λ view. IfSome x.agent.to_load (λ root. (x.agent.holding ≡ nothing_held) × IsSnapshotOf w.0.met view (known_of w.1 x.name) root))) w.0.participants o old.to_load o_in)));
    snapshots = all_put (λ o. IfSome o.agent.view (λ view. IfSome o.agent.snapshot (IsSnapshotOf met view (known_of su o.name))))
        (subst (λ (k : Knowing). IfSome q.agent.view (λ view. IfSome q.agent.snapshot (IsSnapshotOf met view k.known))) (sym told_of_q) (fit.snapshots apart))
        (λ o o_in other. subst (λ (k : Knowing). IfSome o.agent.view (λ view. IfSome o.agent.snapshot (IsSnapshotOf met view k.known))) (sym (told_of o other))
        (more_snapshots w.0.met met grows o (known_of w.1 o.name) o.agent.view
        (each (λ (x : Participant). IfSome x.agent.view (λ view. IfSome x.agent.snapshot (IsSnapshotOf w.0.met view (known_of w.1 x.name)))) w.0.participants o old.snapshots o_in)));
    sessions = each_from (λ (s : NamedSession). IsSoundSession v su s.session (began_of su s.name)) w.0.sessions (λ s s_in.
        let goes = sessions_go w.0.replicas keeps.ring s s_in in
        subst (IsSoundSession v su s.session) (sym (began_then s.name))
        (sound_session apart goes.0 s.session (began_of w.1 s.name) goes.1 (each (λ (t : NamedSession). IsSoundSession w.0 w.1 t.session (began_of w.1 t.name)) w.0.sessions s old.sessions s_in)));
  }
    where
      old : AreSound w.0 w.1
      old = keeps.sound apart

  pub keeps_then : Invariant (v, su)
  keeps_then = record {
    fits = record { participants = tells.names ∙ keeps.fits.participants ∙ sym names; sessions = ap (map (λ (b : List ℕ × Began). b.0)) tells.sessions ∙ keeps.fits.sessions };
    ring = ring w.0.replicas keeps.ring;
    met = record {
      held = held_more w keeps met grows;
      pending = all_put (λ o. AllByRecursion (IsMetPost met) o.agent.pending) fit.pending
          (λ o o_in other. more_posts w.0.met met grows o.agent.pending (each (λ (x : Participant). AllByRecursion (IsMetPost w.0.met) x.agent.pending) w.0.participants o keeps.met.pending o_in));
      cached = all_put (λ o. IsCache o.cache × AllByRecursion (λ e. Contains met e.1) o.cache)
          (subst (λ cache. IsCache cache × AllByRecursion (λ e. Contains met e.1) cache) (sym fit.cached) (cached p among)) (λ o o_in other. cached o o_in);
      views = all_weaker _ _ w.0.views (λ x h. (h.0, h.1, owned_then x.view h.2)) keeps.met.views;
    };
    peers = record { named = keeps.peers.named; apart = keeps.peers.apart; few = keeps.peers.few; known = keeps.peers.known };
    signs = all_put (IsKeptSo SignsOnce) fit.signs (λ o o_in other. each (IsKeptSo SignsOnce) w.0.participants o keeps.signs o_in);
    saved = all_put (IsKeptSo IsSavedWell) fit.saved (λ o o_in other. each (IsKeptSo IsSavedWell) w.0.participants o keeps.saved o_in);
    entered = all_put (EntersOwned v) (entered_then q fit.entered) (λ o o_in other. entered_then o (each (EntersOwned w.0) w.0.participants o keeps.entered o_in));
    apart = subst AreApart (sym names) keeps.apart;
    named_once = keeps.named_once;
    moment = keeps.moment;
    received = all_weaker _ _ su.participants (λ k h. more_heads w.0.met met grows k.received h) tells.received;
    numbers = numbers;
    said = said;
    sound = λ apart. sound (apart_before apart);
  }
    where
      cached : (o : Participant) → Contains w.0.participants o → IsCache o.cache × AllByRecursion (λ e. Contains met e.1) o.cache
      cached o o_in =
          let old : IsCache o.cache × AllByRecursion (λ e. Contains w.0.met e.1) o.cache = each (λ (x : Participant). IsCache x.cache × AllByRecursion (λ e. Contains w.0.met e.1) x.cache) w.0.participants o keeps.met.cached o_in in
          (old.0, all_weaker _ _ o.cache (λ e h. grows e.1 h) old.1)
