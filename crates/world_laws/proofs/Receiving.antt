-- More heads that a participant received, and which were met, leave a world in which the invariant holds.
use Rattle.std.proofs.Common.{◌≡◌, ◌⊎◌, inl, inr, ⊎_elim, ℕ, Bool, true, false, cond, List, [], ◌∷◌, ◌++◌, map, Option, Some, None, refl, sym, ap, ◌∙◌, subst, Contains}
use Rattle.std.specs.Prelude.{IfSome}
use Rattle.std.specs.List.{AllByRecursion, find}
use Rattle.std.specs.Option.{option_map_or}
use Rattle.std.specs.Str.{bytes_eq}
use Rattle.std.proofs.lemmas.List.Elements.{Contains-append_left, Contains-append_right}
use Rattle.std.proofs.lemmas.Slice.Eq.{bytes_eq-Decides}
use Rattle.ring_model.proofs.Lists.{all_weaker}
use Rattle.ivy_base.specs.declared.key.PubKey.{PubKey}
use Rattle.log_model.proofs.Lists.{each, each_append}
use Rattle.log_model.specs.View.{View}
use Rattle.log_model.specs.Vector.{Entry, Vector}
use Rattle.log_model.specs.Record.{Record}
use Rattle.turn_model.specs.Known.{IsBacked, IsVerified}
use Rattle.session_model.specs.Sessions.{Said, Session}
use Rattle.session_laws.specs.Loading.{IsSnapshotOf}
use Rattle.turn_model.specs.Basis.{nothing_held}
use Rattle.world_model.specs.Agents.{HssKept}
use Rattle.world_model.specs.World.{World, Participant}
use Rattle.world_model.specs.GhostState.{Began, Knowing, GhostState, began_of, knowing_nothing, knowing_of, receiving}
use Rattle.world_laws.specs.Causes.{HasCause, said_at}
use Rattle.world_laws.specs.Causes.HasCause.{alone, missed, turned, no_memory}
use Rattle.world_laws.specs.Invariant.{AreSound, HasSaid, IsKeptSo, IsMetHead, IsSoundIn, IsSoundKeptIn, IsSoundSession, Invariant, KeepsUp}
use Rattle.world_laws.specs.Laws.{ReceivingKeeps}
use Rattle.world_laws.proofs.Frames.{all_mapped, same_map}
use Rattle.world_laws.proofs.Publishing.{found_knowing}

-- what is found among changed elements that keep their names
found_changed : (f : Knowing → Knowing) → ((k : Knowing) → (f k).name ≡ k.name) → (name : List ℕ) (nothing : Knowing) (ks : List Knowing) (o : Option Knowing) → find (λ k. bytes_eq k.name name) ks ≡ o
    → option_map_or (λ k. k) (find (λ k. bytes_eq k.name name) (map f ks)) nothing ≡ option_map_or f o nothing
found_changed f same name nothing [] o is = ap (λ (x : Option Knowing). option_map_or f x nothing) is
found_changed f same name nothing (k ∷ ks) o is =
    subst (λ (n : List ℕ). option_map_or (λ l. l) (cond (bytes_eq n name) (Some (f k)) (find (λ l. bytes_eq l.name name) (map f ks))) nothing ≡ option_map_or f o nothing) (sym (same k))
    (by (bytes_eq k.name name) is (λ h. found_changed f same name nothing ks o h))
  where
    by : (b : Bool) → cond b (Some k) (find (λ l. bytes_eq l.name name) ks) ≡ o
        → (find (λ l. bytes_eq l.name name) ks ≡ o → option_map_or (λ l. l) (find (λ l. bytes_eq l.name name) (map f ks)) nothing ≡ option_map_or f o nothing)
        → option_map_or (λ l. l) (cond b (Some (f k)) (find (λ l. bytes_eq l.name name) (map f ks))) nothing ≡ option_map_or f o nothing
    by true h later = ap (λ (x : Option Knowing). option_map_or f x nothing) h
    by false h later = later h

module _ (st : GhostState) (name : List ℕ) (heads : List Entry) where
  -- what is known of the participant, before and then
  abbrev before : Knowing
  before = knowing_of st name

  abbrev more : Knowing → Knowing
  more k = record k { received = k.received ++ heads }

  abbrev then_it : Knowing → Knowing
  then_it k = cond (bytes_eq k.name before.name) (more before) k

  abbrev then_told : GhostState
  then_told = receiving st name heads

  before_found : (o : Option Knowing) → find (λ k. bytes_eq k.name name) st.participants ≡ o → before ≡ option_map_or (λ k. k) o (knowing_nothing name)
  before_found o is = ap (λ (x : Option Knowing). option_map_or (λ k. k) x (knowing_nothing name)) is

  named : before.name ≡ name
  named = by (find (λ k. bytes_eq k.name name) st.participants) refl
    where
      by : (o : Option Knowing) → find (λ k. bytes_eq k.name name) st.participants ≡ o → before.name ≡ name
      by None is = ap (λ (k : Knowing). k.name) (before_found None is)
      by (Some k) is = ap (λ (x : Knowing). x.name) (before_found (Some k) is) ∙ (found_knowing st.participants name k is).1

  pub same_names : (k : Knowing) → (then_it k).name ≡ k.name
  same_names k = by (bytes_eq k.name before.name) refl
    where
      by : (b : Bool) → bytes_eq k.name before.name ≡ b → (cond b (more before) k).name ≡ k.name
      by true same = sym ((bytes_eq-Decides k.name before.name).0 same)
      by false other = refl

  -- what is known of each then
  knowing_then : (n : List ℕ) → (knowing_of then_told n ≡ knowing_of st n) ⊎ ((n ≡ name) × (knowing_of then_told n ≡ more before))
  knowing_then n = by (find (λ k. bytes_eq k.name n) st.participants) refl
    where
      of_one : (k : Knowing) → k.name ≡ n → (b : Bool) → bytes_eq k.name before.name ≡ b → (cond b (more before) k ≡ k) ⊎ ((n ≡ name) × (cond b (more before) k ≡ more before))
      of_one k is_n true same = inr (sym is_n ∙ (bytes_eq-Decides k.name before.name).0 same ∙ named, refl)
      of_one k is_n false other = inl refl

      by : (o : Option Knowing) → find (λ k. bytes_eq k.name n) st.participants ≡ o → (knowing_of then_told n ≡ knowing_of st n) ⊎ ((n ≡ name) × (knowing_of then_told n ≡ more before))
      by None is = inl (found_changed then_it same_names n (knowing_nothing n) st.participants None is ∙ sym (ap (λ (x : Option Knowing). option_map_or (λ k. k) x (knowing_nothing n)) is))
      by (Some k) is =
          let found : knowing_of then_told n ≡ then_it k = found_changed then_it same_names n (knowing_nothing n) st.participants (Some k) is in
          let was : knowing_of st n ≡ k = ap (λ (x : Option Knowing). option_map_or (λ l. l) x (knowing_nothing n)) is in
          ⊎_elim (λ same. inl (found ∙ same ∙ sym was)) (λ new. inr (new.0, found ∙ new.1)) (of_one k (found_knowing st.participants n k is).1 (bytes_eq k.name before.name) refl)

  -- what holds of what is known, whatever more is received, holds then
  pub holds_then : (P : Knowing → Type 0) → ((k : Knowing) → P k → P (more k)) → (n : List ℕ) → P (knowing_of st n) → P (knowing_of then_told n)
  holds_then P weaker n h = ⊎_elim (λ same. subst P (sym same) h) (λ new. subst P (sym new.1) (weaker before (subst (λ (m : List ℕ). P (knowing_of st m)) new.0 h))) (knowing_then n)

  -- who is told of has received them
  pub has_received : (k : Knowing) → find (λ l. bytes_eq l.name name) st.participants ≡ Some k → (e : Entry) → Contains heads e → Contains (knowing_of then_told name).received e
  has_received k is e h =
      let one : before ≡ k = before_found (Some k) is in
      let itself : bytes_eq k.name before.name ≡ true = (bytes_eq-Decides k.name before.name).1 (ap (λ (x : Knowing). x.name) (sym one)) in
      let found : knowing_of then_told name ≡ then_it k = found_changed then_it same_names name (knowing_nothing name) st.participants (Some k) is in
      let new : then_it k ≡ more before = ap (λ (b : Bool). cond b (more before) k) itself in
      subst (λ (x : Knowing). Contains x.received e) (sym (found ∙ new)) (Contains-append_right before.received heads e h)

  -- ---- what stays

  backed_more : (blocks : List (List ℕ)) (owner : PubKey) (floor : Vector) (received : List Entry) (r : Record) → IsBacked blocks owner floor received r → IsBacked blocks owner floor (received ++ heads) r
  backed_more blocks owner floor received r (inl f) = inl f
  backed_more blocks owner floor received r (inr f) = inr (
    f.0,
    record {
      head = f.1.head;
      received = Contains-append_left received heads f.1.head f.1.received;
      log = f.1.log;
      linked = f.1.linked;
      stand = f.1.stand;
      of_log = f.1.of_log;
      ends = f.1.ends;
      below = f.1.below;
    },
  )

  verified_more : (blocks : List (List ℕ)) (view : View) (owner : PubKey) (floor : Vector) (received : List Entry) (known : List Record) → IsVerified blocks view owner floor received known → IsVerified blocks view owner floor (received ++ heads) known
  verified_more blocks view owner floor received known h = record { chains = h.chains; backed = all_weaker _ _ known (λ r b. backed_more blocks owner floor received r b) h.backed }

  sound_more : (met : List (List ℕ)) (p : Participant) (o : Option View) (k : Knowing) → IsSoundIn met p k o → IsSoundIn met p (more k) o
  sound_more met p None k h = h
  sound_more met p (Some view) k h = record { knows = h.knows; stand = h.stand; verified = verified_more _ view _ _ k.received k.known h.verified; covers = h.covers }

  kept_more : (met : List (List ℕ)) (p : Participant) (kept : HssKept) (o : Option View) (k : Knowing) → IsSoundKeptIn met p k kept o → IsSoundKeptIn met p (more k) kept o
  kept_more met p kept None k h = h
  kept_more met p kept (Some view) k h = record {
    known = h.known;
    by_floor = h.by_floor;
    closed = h.closed;
    stand = h.stand;
    verified = verified_more _ view _ _ k.received h.known h.verified;
    covers = h.covers;
    snapshot = h.snapshot;
    goes_on = h.goes_on;
    heads = h.heads;
  }

  pub session_more : (w : World) (s : Session) (b : Began) → IsSoundSession w st s b → IsSoundSession w then_told s b
  session_more w s b h = record {
    by = h.by;
    is_by = h.is_by;
    of = h.of;
    knows = h.knows;
    held = h.held;
    edges = h.edges;
    to_load = h.to_load;
    known = λ r c. holds_then (λ k. Contains k.known r) (λ k g. g) s.by (h.known r c);
    floor = h.floor;
    keeps_up = holds_then (λ k. KeepsUp s h.of h.by.agent k.known) (λ k g. g) s.by h.keeps_up;
    anew = h.anew;
    stays_fresh = h.stays_fresh;
    received = λ e c. holds_then (λ k. Contains k.received e) (λ k g. Contains-append_left k.received heads e g) s.by (h.received e c);
    blocks = h.blocks;
  }

  cause_then : (n : ℕ) (s : Session) (said : Said) → HasCause st n s said → HasCause then_told n s said
  cause_then n s _ (alone given by) = alone given by
  cause_then n s _ (missed xid asked given miss asks refreshed is) = missed xid asked given miss asks refreshed is
  cause_then n s _ (turned h xid asked given among of asks refreshed) = turned h xid asked given among of asks refreshed
  cause_then n s _ (no_memory xid asked asks) = no_memory xid asked asks

  pub said_then : (n : ℕ) (s : Session) (o : Option Said) → HasSaid st n s o → HasSaid then_told n s o
  said_then n s None h = tt
  said_then n s (Some said) h = cause_then n s said h

  module _ (w : World) (keeps : Invariant (w, st)) (met_heads : AllByRecursion (IsMetHead w.met) heads) where
    received_before : AllByRecursion (IsMetHead w.met) before.received
    received_before = by (find (λ k. bytes_eq k.name name) st.participants) refl
      where
        by : (o : Option Knowing) → find (λ k. bytes_eq k.name name) st.participants ≡ o → AllByRecursion (IsMetHead w.met) before.received
        by None is = subst (λ (k : Knowing). AllByRecursion (IsMetHead w.met) k.received) (sym (before_found None is)) tt
        by (Some k) is = subst (λ (x : Knowing). AllByRecursion (IsMetHead w.met) x.received) (sym (before_found (Some k) is))
            (each (λ (x : Knowing). AllByRecursion (IsMetHead w.met) x.received) st.participants k keeps.received (found_knowing st.participants name k is).0)

    one_received : (k : Knowing) → Contains st.participants k → AllByRecursion (IsMetHead w.met) (then_it k).received
    one_received k among = by (bytes_eq k.name before.name)
      where
        by : (b : Bool) → AllByRecursion (IsMetHead w.met) (cond b (more before) k).received
        by true = each_append (IsMetHead w.met) before.received heads received_before met_heads
        by false = each (λ (x : Knowing). AllByRecursion (IsMetHead w.met) x.received) st.participants k keeps.received among

    sound_then : AreSound w st → AreSound w then_told
    sound_then h = record {
      agents = all_weaker _ _ w.participants (λ p g. holds_then (λ k. IsSoundIn w.met p k p.agent.view) (λ k f. sound_more w.met p p.agent.view k f) p.name g) h.agents;
      keepers = all_weaker _ _ w.participants (λ p g. holds_then (λ k. IsKeptSo (λ (q : Participant) (kept : HssKept). IsSoundKeptIn w.met q k kept kept.view) p)
          (λ k f. (f.0, f.1, f.2, kept_more w.met p f.0 f.0.view k f.3)) p.name g) h.keepers;
      to_load = all_weaker _ _ w.participants (λ p g. holds_then (λ k. IfSome p.agent.view (λ view. IfSome p.agent.to_load (λ root. (p.agent.holding ≡ nothing_held) × IsSnapshotOf w.met view k.known root)))
          (λ k f. f) p.name g) h.to_load;
      snapshots = all_weaker _ _ w.participants (λ p g. holds_then (λ k. IfSome p.agent.view (λ view. IfSome p.agent.snapshot (IsSnapshotOf w.met view k.known))) (λ k f. f) p.name g) h.snapshots;
      sessions = all_weaker _ _ w.sessions (λ s g. session_more w s.session (began_of st s.name) g) h.sessions;
    }

    keeps_then : Invariant (w, then_told)
    keeps_then = record {
      fits = record { participants = same_map (λ (k : Knowing). k.name) then_it st.participants (λ k among. same_names k) ∙ keeps.fits.participants; sessions = keeps.fits.sessions };
      ring = keeps.ring;
      met = keeps.met;
      peers = keeps.peers;
      signs = keeps.signs;
      saved = keeps.saved;
      apart = keeps.apart;
      named_once = keeps.named_once;
      moment = keeps.moment;
      entered = keeps.entered;
      received = all_mapped (λ (k : Knowing). AllByRecursion (IsMetHead w.met) k.received) then_it st.participants one_received;
      numbers = record { apart = keeps.numbers.apart; sessions = keeps.numbers.sessions; turns = keeps.numbers.turns };
      said = all_weaker _ _ w.sessions (λ s g. said_then (began_of st s.name).number s.session (said_at s.session.stage) g) keeps.said;
      sound = λ apart. sound_then (keeps.sound apart);
    }

pub receiving_keeps : ReceivingKeeps
receiving_keeps w st name heads keeps met_heads = keeps_then st name heads w keeps met_heads
