-- Open sessions: each is in hand, and where others that are stand in their place the invariant holds of the world.
use Rattle.std.proofs.Common.{◌≡◌, ℕ, ◌+◌, ◌≤◌, ◌<◌, Bool, true, false, cond, List, [], ◌∷◌, ◌++◌, map, filter, Option, Some, None, refl, sym, ap, ◌∙◌, subst, arith, le_refl, Contains, not}
use Rattle.std.specs.Prelude.{is_some, option_map}
use Rattle.std.specs.List.{find}
use Rattle.std.specs.Option.{option_map_or}
use Rattle.std.specs.Str.{bytes_eq}
use Rattle.log_model.proofs.Lists.{each, each_from, from_filter}
use Rattle.script_model.specs.Messages.{Given}
use Rattle.session_model.specs.Sessions.{Said, Session}
use Rattle.world_model.specs.Calls.{replied, configuration_of}
use Rattle.world_model.specs.World.{World, NamedSession, session_named, with_session, without_session}
use Rattle.world_model.specs.GhostState.{Began, HadTurn, GhostState, began_nothing, began_of, having_begun, with_began, without_began}
use Rattle.world_model.specs.Logs.{Played}
use Rattle.world_model.specs.Steps.{Configuration}
use Rattle.world_laws.specs.Causes.{HasCause, said_at}
use Rattle.world_laws.specs.Causes.HasCause.{alone, missed, turned, no_memory}
use Rattle.world_laws.specs.Frames.{unchanged}
use Rattle.world_laws.specs.Invariant.{AreApart, EntersOwned, GoesOn, HasRing, HasSaid, IsInHand, IsSoundSession, Invariant}
use Rattle.world_laws.proofs.Frames.{goes_on_still, into_map, no_changes, of_ring, ring_of, unchanged_within_frame, world_changes}
use Rattle.world_laws.proofs.Placed.{apart_left, find_left, find_other, find_own, found_among, names_left, names_placed, other_name, placed, same_name}
use Rattle.world_laws.proofs.SignedHeads.{from_map}

abbrev session_name : NamedSession → List ℕ
session_name s = s.name

abbrev Named : Type 0
Named = List ℕ × Began

abbrev began_name : Named → List ℕ
began_name b = b.0

-- ---- causes and soundness, where the ghost state tells of other sessions

pub cause_told : (st su : GhostState) (n : ℕ) (s : Session) (said : Said) → su.turns ≡ st.turns → HasCause st n s said → HasCause su n s said
cause_told st su n s _ same (alone given by) = alone given by
cause_told st su n s _ same (missed xid asked given miss asks refreshed is) = missed xid asked given miss asks refreshed is
cause_told st su n s _ same (turned h xid asked given among of asks refreshed) = turned h xid asked given (subst (λ (turns : List HadTurn). Contains turns h) (sym same) among) of asks refreshed
cause_told st su n s _ same (no_memory xid asked asks) = no_memory xid asked asks

pub said_told : (st su : GhostState) (n : ℕ) (s : Session) (o : Option Said) → su.turns ≡ st.turns → HasSaid st n s o → HasSaid su n s o
said_told st su n s None same h = tt
said_told st su n s (Some said) same h = cause_told st su n s said same h

-- a session stays sound where other sessions are open, and other calls began
sound_moved : (w : World) (st : GhostState) (sessions : List NamedSession) (told : List Named) (begun : ℕ) (s : Session) (b : Began) → IsSoundSession w st s b
    → IsSoundSession (record w { sessions = sessions }) (record st { sessions = told; begun = begun }) s b
sound_moved w st sessions told begun s b h = record {
  by = h.by;
  is_by = h.is_by;
  of = h.of;
  knows = h.knows;
  held = h.held;
  edges = h.edges;
  to_load = h.to_load;
  known = h.known;
  floor = h.floor;
  keeps_up = h.keeps_up;
  anew = h.anew;
  stays_fresh = h.stays_fresh;
  received = h.received;
  blocks = h.blocks;
}

-- ---- open sessions

module _ (w : Played) (keeps : Invariant w) (r : ℕ) (ringed : w.0.replicas ≡ Some r) where
  -- the session of that name and number in the world, of which so many calls began
  abbrev pub configuration : ℕ → Session → Began → Configuration
  configuration begun s b = record { world = w.0; ghost_state = record w.1 { begun = begun }; session = s; began = b }

  -- each open session is in hand, however many calls begin after it
  pub open_hand : (begun : ℕ) → w.1.begun ≤ begun → (x : NamedSession) → Contains w.0.sessions x → IsInHand (configuration begun x.session (began_of w.1 x.name)) r
  open_hand begun later x among = record {
    number = let below = each (λ (y : NamedSession). (began_of w.1 y.name).number < w.1.begun) w.0.sessions x keeps.numbers.sessions among in omega (arith, below, later);
    goes_on = each (λ (y : NamedSession). GoesOn w.0 r y.session) w.0.sessions x (ring_of w keeps ringed).3 among;
    said = said_told w.1 (record w.1 { begun = begun }) (began_of w.1 x.name).number x.session (said_at x.session.stage) refl
        (each (λ (y : NamedSession). HasSaid w.1 (began_of w.1 y.name).number y.session (said_at y.session.stage)) w.0.sessions x keeps.said among);
    sound = λ apart. sound_moved w.0 w.1 w.0.sessions w.1.sessions begun x.session (began_of w.1 x.name)
        (each (λ (y : NamedSession). IsSoundSession w.0 w.1 y.session (began_of w.1 y.name)) w.0.sessions x (keeps.sound apart).sessions among);
  }

  -- the session of that name is in hand
  pub named_hand : (name : List ℕ) (s : Session) → session_named w.0 name ≡ Some s → IsInHand (configuration_of w s (began_of w.1 name)) r × Contains (map session_name w.0.sessions) name
  named_hand name s is = by (find (λ (x : NamedSession). bytes_eq x.name name) w.0.sessions) refl is
    where
      by : (o : Option NamedSession) → find (λ (x : NamedSession). bytes_eq x.name name) w.0.sessions ≡ o → option_map (λ (x : NamedSession). x.session) o ≡ Some s
          → IsInHand (configuration_of w s (began_of w.1 name)) r × Contains (map session_name w.0.sessions) name
      by None found e = cc e
      by (Some x) found e =
          let its = found_among session_name w.0.sessions name x found in
          let same : x.session ≡ s = cc e in (
            subst (λ (t : Session). IsInHand (configuration_of w t (began_of w.1 name)) r) same
                (subst (λ (n : List ℕ). IsInHand (configuration_of w x.session (began_of w.1 n)) r) its.1 (open_hand w.1.begun (le_refl w.1.begun) x its.0)),
            subst (Contains (map session_name w.0.sessions)) its.1 (into_map session_name w.0.sessions x its.0),
          )

  -- other open sessions
  module _ (sessions : List NamedSession) (told : List Named) (begun : ℕ) (later : w.1.begun ≤ begun) where
    abbrev v : World
    v = record w.0 { sessions = sessions }

    abbrev su : GhostState
    su = record w.1 { sessions = told; begun = begun }

    -- What has to hold of them: they are told of, each has its name and its number alone, and each is in hand.
    pub record AreOpen : Type 0 where
      pub told_of : map began_name told ≡ map session_name sessions
      pub named_once : AreApart (map session_name sessions)
      pub numbered : (x y : NamedSession) → Contains sessions x → Contains sessions y → (began_of su x.name).number ≡ (began_of su y.name).number → x ≡ y
      pub each_hand : (x : NamedSession) → Contains sessions x → IsInHand (configuration begun x.session (began_of su x.name)) r

    pub sessions_keep : AreOpen → Invariant (v, su)
    sessions_keep open_so = record {
      fits = record { participants = keeps.fits.participants; sessions = open_so.told_of };
      ring = subst (HasRing v) (sym ringed) (
        (ring_of w keeps ringed).0,
        (ring_of w keeps ringed).1,
        (ring_of w keeps ringed).2,
        each_from (λ (x : NamedSession). GoesOn v r x.session) sessions (λ x among.
            let g : GoesOn w.0 r x.session = (open_so.each_hand x among).goes_on in goes_on_still w.0 v (λ b h. h) (λ q h. h) r x.session g (unchanged g.by) g.is_by),
      );
      met = record { held = keeps.met.held; pending = keeps.met.pending; cached = keeps.met.cached; views = keeps.met.views };
      peers = record { named = keeps.peers.named; apart = keeps.peers.apart; few = keeps.peers.few; known = keeps.peers.known };
      signs = keeps.signs;
      saved = keeps.saved;
      entered = each_from (EntersOwned v) w.0.participants (λ p among. let its = each (EntersOwned w.0) w.0.participants p keeps.entered among in record { agent = its.agent; keeper = its.keeper });
      apart = keeps.apart;
      named_once = open_so.named_once;
      moment = keeps.moment;
      received = keeps.received;
      numbers = record {
        apart = open_so.numbered;
        sessions = each_from (λ (x : NamedSession). (began_of su x.name).number < begun) sessions (λ x among. (open_so.each_hand x among).number);
        turns = each_from (λ (h : HadTurn). h.began.number < begun) w.1.turns (λ h among. let below = each (λ (x : HadTurn). x.began.number < w.1.begun) w.1.turns h keeps.numbers.turns among in omega (arith, below, later));
      };
      said = each_from (λ (x : NamedSession). HasSaid su (began_of su x.name).number x.session (said_at x.session.stage)) sessions
          (λ x among. said_told (record w.1 { begun = begun }) su (began_of su x.name).number x.session (said_at x.session.stage) refl (open_so.each_hand x among).said);
      sound = λ apart. let old = keeps.sound apart in record {
        agents = old.agents;
        keepers = old.keepers;
        to_load = old.to_load;
        snapshots = old.snapshots;
        sessions = each_from (λ (x : NamedSession). IsSoundSession v su x.session (began_of su x.name)) sessions
            (λ x among. sound_moved w.0 (record w.1 { begun = begun }) sessions told begun x.session (began_of su x.name) ((open_so.each_hand x among).sound apart));
      };
    }

  -- ---- one call more began

  pub begun_keeps : Invariant (w.0, having_begun w.1)
  begun_keeps = sessions_keep w.0.sessions w.1.sessions (w.1.begun + 1) (omega arith) (record {
    told_of = keeps.fits.sessions;
    named_once = keeps.named_once;
    numbered = keeps.numbers.apart;
    each_hand = open_hand (w.1.begun + 1) (omega arith);
  })

  -- ---- a session is put back

  module _ (name : List ℕ) (s : Session) (b : Began) (opened : Contains (map session_name w.0.sessions) name) (number : b.number ≡ (began_of w.1 name).number) (hand : IsInHand (configuration_of w s b) r) where
    abbrev new : NamedSession
    new = record { name = name; session = s }

    abbrev put : NamedSession → NamedSession
    put = placed session_name new

    abbrev told_then : GhostState
    told_then = with_began w.1 name b

    began_new : began_of told_then name ≡ b
    began_new = ap (λ (o : Option Named). option_map_or (λ (x : Named). x.1) o began_nothing) (find_own began_name (name, b) w.1.sessions (subst (λ (names : List (List ℕ)). Contains names name) (sym keeps.fits.sessions) opened))

    began_other : (n : List ℕ) → bytes_eq n name ≡ false → began_of told_then n ≡ began_of w.1 n
    began_other n other = ap (λ (o : Option Named). option_map_or (λ (x : Named). x.1) o began_nothing) (find_other began_name (name, b) n (other_name name name n refl other) w.1.sessions)

    number_then : (x : NamedSession) → (began_of told_then (put x).name).number ≡ (began_of w.1 x.name).number
    number_then x = by (bytes_eq x.name name) refl
      where
        by : (t : Bool) → bytes_eq x.name name ≡ t → (began_of told_then (cond t new x).name).number ≡ (began_of w.1 x.name).number
        by true is = ap (λ (o : Began). o.number) began_new ∙ number ∙ ap (λ (n : List ℕ). (began_of w.1 n).number) (sym (same_name x.name name is))
        by false other = ap (λ (o : Began). o.number) (began_other x.name other)

    hand_then : (x : NamedSession) → Contains w.0.sessions x → IsInHand (configuration w.1.begun (put x).session (began_of told_then (put x).name)) r
    hand_then x among = by (bytes_eq x.name name) refl
      where
        by : (t : Bool) → bytes_eq x.name name ≡ t → IsInHand (configuration w.1.begun (cond t new x).session (began_of told_then (cond t new x).name)) r
        by true is = subst (λ (o : Began). IsInHand (configuration w.1.begun s o) r) (sym began_new) hand
        by false other = subst (λ (o : Began). IsInHand (configuration w.1.begun x.session o) r) (sym (began_other x.name other)) (open_hand w.1.begun (le_refl w.1.begun) x among)

    names : map session_name (map put w.0.sessions) ≡ map session_name w.0.sessions
    names = names_placed session_name new w.0.sessions

    pub back_keeps : Invariant (with_session w.0 name s, told_then)
    back_keeps = sessions_keep (map put w.0.sessions) told_then.sessions w.1.begun (le_refl w.1.begun) (record {
      told_of = names_placed began_name (name, b) w.1.sessions ∙ keeps.fits.sessions ∙ sym names;
      named_once = subst AreApart (sym names) keeps.named_once;
      numbered = λ x y x_in y_in same.
          let a = from_map put w.0.sessions x x_in in
          let c = from_map put w.0.sessions y y_in in
          let is : began_number x ≡ (began_of w.1 a.0.name).number = ap began_number a.2 ∙ number_then a.0 in
          let also : began_number y ≡ (began_of w.1 c.0.name).number = ap began_number c.2 ∙ number_then c.0 in
          a.2 ∙ ap put (keeps.numbers.apart a.0 c.0 a.1 c.1 (sym is ∙ same ∙ also)) ∙ sym c.2;
      each_hand = λ x x_in.
          let a = from_map put w.0.sessions x x_in in
          subst (λ (y : NamedSession). IsInHand (configuration w.1.begun y.session (began_of told_then y.name)) r) (sym a.2) (hand_then a.0 a.1);
    })
      where
        began_number : NamedSession → ℕ
        began_number x = (began_of told_then x.name).number

  -- ---- a session is closed

  pub closed_keeps : (name : List ℕ) → Invariant (without_session w.0 name, without_began w.1 name)
  closed_keeps name = sessions_keep (filter stays w.0.sessions) (without_began w.1 name).sessions w.1.begun (le_refl w.1.begun) (record {
    told_of = names_left began_name other w.1.sessions ∙ ap (filter other) keeps.fits.sessions ∙ sym (names_left session_name other w.0.sessions);
    named_once = apart_left session_name stays w.0.sessions keeps.named_once;
    numbered = λ x y x_in y_in same. keeps.numbers.apart x y (left x x_in).0 (left y y_in).0 (ap (λ (b : Began). b.number) (sym (same_began x x_in)) ∙ same ∙ ap (λ (b : Began). b.number) (same_began y y_in));
    each_hand = λ x x_in. subst (λ (b : Began). IsInHand (configuration w.1.begun x.session b) r) (sym (same_began x x_in)) (open_hand w.1.begun (le_refl w.1.begun) x (left x x_in).0);
  })
    where
      other : List ℕ → Bool
      other n = not (bytes_eq n name)

      stays : NamedSession → Bool
      stays x = other x.name

      left : (x : NamedSession) → Contains (filter stays w.0.sessions) x → Contains w.0.sessions x × (stays x ≡ true)
      left x x_in = from_filter stays w.0.sessions x x_in

      same_began : (x : NamedSession) → Contains (filter stays w.0.sessions) x → began_of (without_began w.1 name) x.name ≡ began_of w.1 x.name
      same_began x x_in = ap (λ (o : Option Named). option_map_or (λ (b : Named). b.1) o began_nothing) (find_left began_name other x.name (left x x_in).1 w.1.sessions)

-- ---- a reply is shown

pub replied_keeps : (w : Played) (said : Said) → Invariant w → Invariant (replied w.0 said, w.1)
replied_keeps w said keeps = by (is_some said.message)
  where
    counts : (replies : List Given) → Invariant (record w.0 { replies = replies }, w.1)
    counts replies = world_changes w (record (no_changes w) { replies = replies }) keeps (record {
      peers = λ p h. h;
      made = keeps.peers;
      ring = of_ring w.0 w.0.replicas keeps.ring;
      held = keeps.met.held;
      views = keeps.met.views;
      moment = keeps.moment;
      grows = λ b h. h;
      each = unchanged_within_frame w keeps w.0.met (λ b h. h);
    })

    by : (t : Bool) → Invariant (cond t (record w.0 { replies = w.0.replies ++ record { handle = said.handle; verifier = said.verifier } ∷ [] }) w.0, w.1)
    by true = counts (w.0.replies ++ record { handle = said.handle; verifier = said.verifier } ∷ [])
    by false = keeps
