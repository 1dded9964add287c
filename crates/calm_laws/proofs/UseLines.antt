-- The line by which a participant enters a view leaves it so.
use Rattle.std.proofs.Common.{◌≡◌, ℕ, Bool, true, false, cond, List, [], Option, Some, None, refl, ap, ◌∙◌, Contains}
use Rattle.ivy_base.specs.Naming.{IsCollisionFree}
use Rattle.ivy_base.specs.declared.key.Key.{Key}
use Rattle.log_model.specs.Record.{Record}
use Rattle.log_model.specs.View.{View}
use Rattle.log_model.proofs.Lists.{each, from_filter}
use Rattle.agent_model.specs.Agent.{entered, failed, kept_of}
use Rattle.agent_model.specs.Views.{Entered, KeeperFailed, NotMember, entering_with, is_own_member, not_named}
use Rattle.world_model.specs.Agents.{HssEntering, IsHssKept, HssKept, hss_entering, hss_signing, own_hss_key}
use Rattle.world_model.specs.Keepers.{asked_to_save, fails_next}
use Rattle.world_model.specs.Logs.{Played, after_entering, afresh_told, of_members, use_by, afresh}
use Rattle.world_model.specs.GhostState.{Knowing, known_of}
use Rattle.world_model.specs.World.{Participant, named_bytes, participant, with_participant}
use Rattle.world_laws.specs.Invariant.{IsKeptSo, IsSavedWell, Invariant}
use Rattle.world_laws.proofs.Bringing.{found_named}
use Rattle.calm_laws.proofs.Finding.{each_filtered}
use Rattle.world_laws.proofs.Frames.{found_placed}
use Rattle.world_laws.proofs.Lines.{ToSuch}
use Rattle.world_laws.proofs.TurnsWorld.{told_now}
use Rattle.calm_laws.proofs.Backed.{IsBackedBy, IsBackedIn, backed_more}
use Rattle.calm_laws.proofs.BackedSteps.{its_backed, received_told}
use Rattle.calm_laws.proofs.Turns.{fine_now, kept_now, never_fails, same_in}
use Rattle.calm_laws.proofs.BackedWorlds.{IsBackedWorld, IsStagedIn, placed_backed}

-- where the line goes on to a world in which the invariant holds, all is so there
abbrev pub IsThenBacked : Played → Type 0
IsThenBacked next = Invariant next → IsCollisionFree (named_bytes next.0) → IsBackedWorld next.0 next.1

-- a participant in whose agent and keeper nothing of this changed, and the ghost state as it was
pub tried_so : (w : Played) (p q : Participant) → participant w.0 p.name ≡ Some p → q.name ≡ p.name → q.agent.pending ≡ p.agent.pending → q.agent.signer ≡ p.agent.signer → q.agent.floor ≡ p.agent.floor → q.keeper ≡ p.keeper
    → IsBackedWorld w.0 w.1 → IsBackedWorld (with_participant w.0 q) w.1
tried_so w p q is_p named pending signer floor keeper h =
    placed_backed w.0 w.1 w.1 p q w.0.met named (λ b c. c) (known_of w.1 p.name) refl (λ n other. refl) refl (λ n. refl) (with_participant w.0 q) refl refl refl h.sessions
    (same_in w.0.met w.1.acked p q (known_of w.1 p.name) pending signer floor keeper (its_backed w.0 w.1 p.name p is_p h)) h

-- what comes of an agent by whether a save failed before, and whether this one does, which it doesn't
pub by_saves : {X Y : Type 0} (P : X × Y → Type 0) (before : X × Y) (lost saved : X) (saving : Y) → P before → P (saved, saving) → (has_failed failing : Bool) → failing ≡ false → P (cond has_failed before (cond failing lost saved, saving))
by_saves P before lost saved saving f g true failing e = f
by_saves P before lost saved saving f g false true e = cc e
by_saves P before lost saved saving f g false false e = g

module _ (w : Played) (keeps : Invariant w) (p : Participant) (is_p : participant w.0 p.name ≡ Some p) (view : View) (h : IsBackedWorld w.0 w.1) where
  its : IsBackedIn w.0.met w.1.acked p (known_of w.1 p.name)
  its = its_backed w.0 w.1 p.name p is_p h

  less : (one : Record) → Contains (of_members view (known_of w.1 p.name)) one → one.owner ≡ own_hss_key p.agent → Contains (known_of w.1 p.name) one
  less one c mine = (from_filter _ (known_of w.1 p.name) one c).0

  abbrev k : HssKept
  k = kept_of (entered p.agent view)

  abbrev q : Participant
  q = record p { agent = entered p.agent view; keeper = asked_to_save p.keeper (Some (kept_of (entered p.agent view))); cache = [] }

  entered_in : IsHssKept (kept_of (entered p.agent view)) → IsBackedIn w.0.met w.1.acked (record p { agent = entered p.agent view; keeper = asked_to_save p.keeper (Some (kept_of (entered p.agent view))); cache = [] }) (of_members view (known_of w.1 p.name))
  entered_in whole = record {
    agent = backed;
    pending = its.pending;
    fine = fine_now p.keeper (kept_of (entered p.agent view)) its.fine;
    keeper = (kept_of (entered p.agent view), whole, kept_now p.keeper (kept_of (entered p.agent view)) its.fine, record { same_reach = refl; backed = backed });
  }
    where
      backed : IsBackedBy w.1.acked (own_hss_key p.agent) (of_members view (known_of w.1 p.name)) p.agent.pending
      backed = backed_more w.1.acked w.1.acked (λ x c. c) (own_hss_key p.agent) (known_of w.1 p.name) (of_members view (known_of w.1 p.name)) p.agent.pending less its.agent

  enters_so : IsThenBacked (afresh w.0 (record p { agent = entered p.agent view; keeper = asked_to_save p.keeper (Some (kept_of (entered p.agent view))) }), afresh_told w p.name (of_members view (known_of w.1 p.name)))
  enters_so kept apart =
      let told = told_now w keeps p is_p (of_members view (known_of w.1 p.name)) [] in
      let found = found_placed w.0 keeps.apart p.name p is_p q refl in
      let whole = (each (IsKeptSo IsSavedWell) (with_participant w.0 q).participants q kept.saved (found_named (with_participant w.0 q).participants p.name q found).0).3.agent in
      placed_backed w.0 w.1 (afresh_told w p.name (of_members view (known_of w.1 p.name))) p q w.0.met refl (λ b c. c) (of_members view (known_of w.1 p.name))
      (ap (λ (x : Knowing). x.known) told.its) (λ n other. ap (λ (x : Knowing). x.known) (told.others n other)) refl (received_told w keeps p is_p (of_members view (known_of w.1 p.name)) []) _ refl refl refl
      (each_filtered (IsStagedIn w.0 w.1) _ w.0.sessions h.sessions) (entered_in whole) h

  abbrev After : HssEntering × Option HssKept → Type 0
  After came = ToSuch IsThenBacked (after_entering w p view came.0 came.1)

  with_so : (o : Option Key) → After (entering_with p.agent view (fails_next p.keeper) o)
  with_so (Some log) = tt
  with_so None = by_saves After (KeeperFailed p.agent, None) (KeeperFailed (failed p.agent)) (Entered (entered p.agent view)) (Some (kept_of (entered p.agent view)))
      (λ kept apart. tried_so w p (record p { agent = p.agent; keeper = p.keeper }) is_p refl refl refl refl refl h) enters_so p.agent.has_failed (fails_next p.keeper) (never_fails p.keeper its.fine)

  member_so : (b : Bool) → After (cond b (entering_with p.agent view (fails_next p.keeper) (not_named p.agent view)) (NotMember, None))
  member_so true = with_so (not_named p.agent view)
  member_so false = tt

  pub entering_so : After (hss_entering p.agent view (fails_next p.keeper))
  entering_so = member_so (is_own_member hss_signing p.agent view)

pub use_so : (w : Played) → Invariant w → (name : List ℕ) (o : Option Participant) (view : Option View) → participant w.0 name ≡ o → IsBackedWorld w.0 w.1 → ToSuch IsThenBacked (use_by w o view)
use_so w keeps name None view is h = tt
use_so w keeps name (Some p) None is h = tt
use_so w keeps name (Some p) (Some view) is h = entering_so w keeps p (ap (participant w.0) (found_named w.0.participants name p is).1 ∙ is) view h
