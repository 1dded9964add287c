-- A participant whose keeper holds other bytes, and whose agent signs, knows and holds what it did.
use Rattle.std.proofs.Common.{◌≡◌, ℕ, Bool, true, false, cond, List, ◌++◌, map, Option, Some, None, refl, sym, ap, ◌∙◌, subst, Contains}
use Rattle.std.specs.Prelude.{IfSome}
use Rattle.std.specs.List.{AllByRecursion}
use Rattle.std.specs.Str.{bytes_eq}
use Rattle.ring_model.proofs.Lists.{all_weaker}
use Rattle.ivy_base.specs.Naming.{IsCollisionFree}
use Rattle.log_model.proofs.Lists.{each}
use Rattle.log_model.specs.View.{View}
use Rattle.block_cache.specs.Blocks.{IsCache}
use Rattle.session_laws.specs.Loading.{IsSnapshotOf}
use Rattle.turn_model.specs.Basis.{nothing_held}
use Rattle.world_model.specs.Agents.{own_hss_key}
use Rattle.world_model.specs.World.{World, NamedSession, Participant, named_bytes, participant, with_participant}
use Rattle.world_model.specs.GhostState.{began_of, knowing_of, known_of}
use Rattle.world_model.specs.Logs.{Played}
use Rattle.world_laws.specs.Invariant.{AreApart, AreParticipants, AreSound, EntersOwned, GoesOn, HasRing, IsKeptSo, IsMetPost, IsSavedWell, IsSoundIn, IsSoundKeptIn, Invariant, SignsOnce}
use Rattle.world_laws.specs.Frames.{Change, changed, unchanged}
use Rattle.world_laws.proofs.Bringing.{found_named}
use Rattle.world_laws.proofs.Frames.{all_mapped, found_mapped, goes_on_still, one_named, same_keys, same_map, sound_still, still_participants}
use Rattle.world_laws.proofs.MoreMet.{more_sound, some_weaker}
use Rattle.world_laws.proofs.Placed.{names_placed, placed, same_name}

abbrev by_name : Participant → List ℕ
by_name p = p.name

-- What has to hold of it with its keeper's bytes.
pub record HoldsOther (w : Played) (p q : Participant) : Type 0 where
  pub cached : IsCache q.cache × AllByRecursion (λ e. Contains w.0.met e.1) q.cache
  pub signs : IsKeptSo SignsOnce q
  pub saved : IsKeptSo IsSavedWell q
  pub entered : IsKeptSo (λ o k. IfSome k.view (AreParticipants w.0)) q
  pub sound : IsCollisionFree (named_bytes w.0) → IsKeptSo (λ o k. IsSoundKeptIn w.0.met o (knowing_of w.1 o.name) k k.view) q

module _ (w : Played) (keeps : Invariant w) (p : Participant) (is_p : participant w.0 p.name ≡ Some p) (d : Change) (same_posts : d.pending ≡ p.agent.pending) (holds : HoldsOther w p (changed p d)) where
  abbrev q : Participant
  q = changed p d

  abbrev v : World
  v = with_participant w.0 q

  abbrev put : Participant → Participant
  put = placed by_name q

  among : Contains w.0.participants p
  among = (found_named w.0.participants p.name p is_p).0

  all_put : (P : Participant → Type 0) → P q → ((o : Participant) → Contains w.0.participants o → P o) → AllByRecursion P v.participants
  all_put P new others = all_mapped P put w.0.participants (λ o o_in. by o o_in (bytes_eq o.name q.name))
    where
      by : (o : Participant) → Contains w.0.participants o → (b : Bool) → P (cond b q o)
      by o o_in true = new
      by o o_in false = others o o_in

  put_name : (o : Participant) → (put o).name ≡ o.name
  put_name o = by (bytes_eq o.name q.name) refl
    where
      by : (b : Bool) → bytes_eq o.name q.name ≡ b → (cond b q o).name ≡ o.name
      by true is = sym (same_name o.name q.name is)
      by false is = refl

  -- each is as it was, but for such a change
  put_is : (o : Participant) → Contains w.0.participants o → (e : Change) × (put o ≡ changed o e)
  put_is o o_in = by (bytes_eq o.name q.name) refl
    where
      by : (b : Bool) → bytes_eq o.name q.name ≡ b → (e : Change) × (cond b q o ≡ changed o e)
      by true is = (d, ap (λ x. changed x d) (one_named by_name w.0.participants p o keeps.apart among o_in (sym (same_name o.name q.name is))))
      by false is = (unchanged o, refl)

  found : (name : List ℕ) (o : Participant) → participant w.0 name ≡ Some o → (e : Change) × (participant v name ≡ Some (changed o e))
  found name o is =
      let its = put_is o (found_named w.0.participants name o is).0 in
      (its.0, found_mapped put put_name w.0.participants name o is ∙ ap Some its.1)

  goes_on : (r : ℕ) → AllByRecursion (λ (s : NamedSession). GoesOn w.0 r s.session) w.0.sessions → AllByRecursion (λ (s : NamedSession). GoesOn v r s.session) w.0.sessions
  goes_on r h = all_weaker (λ (s : NamedSession). GoesOn w.0 r s.session) (λ (s : NamedSession). GoesOn v r s.session) w.0.sessions
      (λ s g. let its = found s.session.by g.by g.is_by in goes_on_still w.0 v (λ b c. c) (λ o c. c) r s.session g its.0 its.1) h

  ring : (o : Option ℕ) → HasRing w.0 o → HasRing v o
  ring None h = (h.0, ap (map put) h.1, h.2)
  ring (Some r) h = (h.0, h.1, h.2, goes_on r h.3)

  names : map by_name v.participants ≡ map by_name w.0.participants
  names = names_placed by_name q w.0.participants

  owners : map (λ (o : Participant). own_hss_key o.agent) v.participants ≡ map (λ (o : Participant). own_hss_key o.agent) w.0.participants
  owners = same_map (λ (o : Participant). own_hss_key o.agent) put w.0.participants (λ o o_in. ap (λ (x : Participant). own_hss_key x.agent) (put_is o o_in).1)

  owned_then : (view : View) → AreParticipants w.0 view → AreParticipants v view
  owned_then view h = still_participants w.0 v owners view h

  keeper_owned : (o : Participant) → IsKeptSo (λ x k. IfSome k.view (AreParticipants w.0)) o → IsKeptSo (λ x k. IfSome k.view (AreParticipants v)) o
  keeper_owned o h = (h.0, h.1, h.2, some_weaker _ _ h.0.view owned_then h.3)

  entered_old : (o : Participant) → Contains w.0.participants o → EntersOwned w.0 o
  entered_old o o_in = each (EntersOwned w.0) w.0.participants o keeps.entered o_in

  apart_before : IsCollisionFree (named_bytes v) → IsCollisionFree (named_bytes w.0)
  apart_before apart = subst (λ ks. IsCollisionFree (w.0.met ++ ks)) (same_keys w.0 keeps.apart p.name p is_p q refl refl) apart

  sound : IsCollisionFree (named_bytes w.0) → AreSound v w.1
  sound apart = record {
    agents = all_put (λ o. IsSoundIn w.0.met o (knowing_of w.1 o.name) o.agent.view)
        (more_sound w.0.met w.0.met (λ b c. c) p d (knowing_of w.1 p.name) p.agent.view (each (λ (o : Participant). IsSoundIn w.0.met o (knowing_of w.1 o.name) o.agent.view) w.0.participants p old.agents among))
        (λ o o_in. each (λ (x : Participant). IsSoundIn w.0.met x (knowing_of w.1 x.name) x.agent.view) w.0.participants o old.agents o_in);
    keepers = all_put (IsKeptSo (λ o k. IsSoundKeptIn w.0.met o (knowing_of w.1 o.name) k k.view)) (holds.sound apart) (λ o o_in. each (IsKeptSo (λ x k. IsSoundKeptIn w.0.met x (knowing_of w.1 x.name) k k.view)) w.0.participants o old.keepers o_in);
    to_load = all_put to_load_of (each to_load_of w.0.participants p old.to_load among) (λ o o_in. each to_load_of w.0.participants o old.to_load o_in);
    snapshots = all_put snapshot_of (each snapshot_of w.0.participants p old.snapshots among) (λ o o_in. each snapshot_of w.0.participants o old.snapshots o_in);
    sessions = all_weaker _ _ w.0.sessions (λ s g. let its = found s.session.by g.by g.is_by in sound_still w.0 v w.1 (λ b c. c) s.session (began_of w.1 s.name) g its.0 w.1.acked its.1) old.sessions;
  }
    where
      old : AreSound w.0 w.1
      old = keeps.sound apart

      to_load_of : Participant → Type 0
      to_load_of o = IfSome o.agent.view (λ view. IfSome o.agent.to_load (λ root. (o.agent.holding ≡ nothing_held) × IsSnapshotOf w.0.met view (known_of w.1 o.name) root))

      snapshot_of : Participant → Type 0
      snapshot_of o = IfSome o.agent.view (λ view. IfSome o.agent.snapshot (IsSnapshotOf w.0.met view (known_of w.1 o.name)))

  pub other_bytes_so : Invariant (v, w.1)
  other_bytes_so = record {
    fits = record { participants = keeps.fits.participants ∙ sym names; sessions = keeps.fits.sessions };
    ring = ring w.0.replicas keeps.ring;
    met = record {
      held = keeps.met.held;
      pending = all_put (λ o. AllByRecursion (IsMetPost w.0.met) o.agent.pending) (subst (AllByRecursion (IsMetPost w.0.met)) (sym same_posts) (each (λ (o : Participant). AllByRecursion (IsMetPost w.0.met) o.agent.pending) w.0.participants p keeps.met.pending among))
          (λ o o_in. each (λ (x : Participant). AllByRecursion (IsMetPost w.0.met) x.agent.pending) w.0.participants o keeps.met.pending o_in);
      cached = all_put (λ o. IsCache o.cache × AllByRecursion (λ e. Contains w.0.met e.1) o.cache) holds.cached
          (λ o o_in. each (λ (x : Participant). IsCache x.cache × AllByRecursion (λ e. Contains w.0.met e.1) x.cache) w.0.participants o keeps.met.cached o_in);
      views = all_weaker _ _ w.0.views (λ x h. (h.0, h.1, owned_then x.view h.2)) keeps.met.views;
    };
    peers = record { named = keeps.peers.named; apart = keeps.peers.apart; few = keeps.peers.few; known = keeps.peers.known };
    signs = all_put (IsKeptSo SignsOnce) holds.signs (λ o o_in. each (IsKeptSo SignsOnce) w.0.participants o keeps.signs o_in);
    saved = all_put (IsKeptSo IsSavedWell) holds.saved (λ o o_in. each (IsKeptSo IsSavedWell) w.0.participants o keeps.saved o_in);
    entered = all_put (EntersOwned v) (record { agent = some_weaker _ _ p.agent.view owned_then (entered_old p among).agent; keeper = keeper_owned q holds.entered })
        (λ o o_in. record { agent = some_weaker _ _ o.agent.view owned_then (entered_old o o_in).agent; keeper = keeper_owned o (entered_old o o_in).keeper });
    apart = subst AreApart (sym names) keeps.apart;
    named_once = keeps.named_once;
    moment = keeps.moment;
    received = keeps.received;
    numbers = record { apart = keeps.numbers.apart; sessions = keeps.numbers.sessions; turns = keeps.numbers.turns };
    said = keeps.said;
    sound = λ apart. sound (apart_before apart);
  }

pub other_bytes_keep : (w : Played) → Invariant w → (p : Participant) → participant w.0 p.name ≡ Some p → (d : Change) → d.pending ≡ p.agent.pending → HoldsOther w p (changed p d) → Invariant (with_participant w.0 (changed p d), w.1)
other_bytes_keep = other_bytes_so
