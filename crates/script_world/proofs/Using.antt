-- A participant that enters a view.
use Rattle.std.proofs.Common.{◌≡◌, ℕ, List, [], set, get_or, refl, sym, ap, ◌∙◌, subst, Option, Some, None}
use Rattle.std.specs.Prelude.{codes, IfOk, Result, Ok, Err}
use Rattle.ivy_base.specs.declared.memory.Memory.{Memory}
use Rattle.script_driver.specs.declared.machine.Taken.{Taken}
use Rattle.script_driver.specs.Machine.{outcome_told}
use Rattle.std.specs.List.{position}
use Rattle.std.specs.Str.{bytes_eq}
use Rattle.log_model.specs.View.{View}
use Rattle.agent_model.specs.Views.Entering.{Entered, NotMember, NotNamed, KeeperFailed}
use Rattle.script_driver.specs.Run.{Outcome, Goes, Refuses}
use Rattle.world_model.specs.Agents.{HssEntering, HssKept, hss_entering}
use Rattle.world_model.specs.Keepers.{asked_to_save, fails_next}
use Rattle.world_model.specs.Logs.{Played, after_entering, afresh, afresh_told, failed_text, of_members, use_by, use_line}
use Rattle.world_model.specs.GhostState.{known_of}
use Rattle.world_model.specs.World.{Participant, World, participant, view_named, with_participant}
use Rattle.ring_nodes.proofs.Places.{none_found}
use Rattle.script_participants.specs.declared.end.EnterEnd.{EnterEnd}
use Rattle.script_participants.specs.declared.end.EnterEnd.TheVariants as end
use Rattle.script_participants.specs.InView.{entering_view, having_entered}
use Rattle.script_participants.specs.ParticipantState.{AreNamedApart, ParticipantState, state_of}
use Rattle.script_world.specs.Ends.{use_outcome}
use Rattle.script_world.specs.PartsState.{EndsSessionsIn, HasParts, IsTaken, PartsState}
use Rattle.script_world.proofs.Keeping.{changed_has, found_so, named_so, nobody_in}
use Rattle.script_world.proofs.Taking.{refused_as, taken_as}

-- what such an end comes to
abbrev pub ComesTo : Played → List ℕ → List ℕ → EnterEnd → PartsState → Type 0
ComesTo w log view end.Entered after = (next : Played) × (Goes next [] ≡ use_line w log view) × HasParts next.0 after
ComesTo w log view end.Refused after = Refuses ≡ use_line w log view
ComesTo w log view end.Failed after = (next : Played) × (Goes next (failed_text (codes "use") log) ≡ use_line w log view) × HasParts next.0 after

ends_so : (w : Played) (log view : List ℕ) (end : EnterEnd) (after : PartsState) (how : Taken) → ((v : Played) → outcome_told how v ≡ use_outcome log end v) → ComesTo w log view end after
    → IsTaken (λ (next : Played). HasParts next.0 after) (λ (outcome : Outcome Played). outcome ≡ use_line w log view) how
ends_so w log view end.Entered after how told its = taken_as (λ (next : Played). HasParts next.0 after) (λ (outcome : Outcome Played). outcome ≡ use_line w log view) how its.0 (Goes its.0 []) (told its.0) its.1 its.2
ends_so w log view end.Refused after how told its = refused_as (λ (next : Played). HasParts next.0 after) (λ (outcome : Outcome Played). outcome ≡ use_line w log view) how w (told w) its
ends_so w log view end.Failed after how told its = taken_as (λ (next : Played). HasParts next.0 after) (λ (outcome : Outcome Played). outcome ≡ use_line w log view) how its.0 (Goes its.0 (failed_text (codes "use") log)) (told its.0) its.1 its.2

module _ (w : Played) (s : PartsState) (has : HasParts w.0 s) (log view : List ℕ) where
  pub nobody_enters : position (λ (q : ParticipantState). bytes_eq q.name log) s.participants ≡ None → Refuses ≡ use_line w log view
  nobody_enters none = by (view_named w.0 view) ∙ ap (λ (o : Option Participant). use_by w o (view_named w.0 view)) (sym (nobody_in w.0 s has log (none_found (λ (q : ParticipantState). bytes_eq q.name log) s.participants none)))
    where
      by : (v : Option View) → Refuses ≡ use_by w None v
      by None = refl
      by (Some v) = refl

  module _ (place : ℕ) (old : ParticipantState) (v : View) (apart : AreNamedApart s.participants) (found : position (λ (q : ParticipantState). bytes_eq q.name log) s.participants ≡ Some place)
      (is : old ≡ get_or s.participants place old) (in_view : view_named w.0 view ≡ Some v) where
    abbrev its : (p : Participant) × (participant w.0 log ≡ Some p) × (state_of p ≡ old)
    its = found_so w.0 s has log place old found is

    abbrev came : HssEntering × Option HssKept
    came = hss_entering its.0.agent v (fails_next its.0.keeper)

    named : its.0.name ≡ log
    named = named_so w.0 s has log its.0 its.1

    came_is : came ≡ hss_entering old.agent v (fails_next old.keeper)
    came_is = ap (λ (x : ParticipantState). hss_entering x.agent v (fails_next x.keeper)) its.2

    line_is : use_line w log view ≡ after_entering w its.0 v came.0 came.1
    line_is = (λ i. use_by w (its.1 i) (in_view i))

    by : (e : HssEntering) (saving : Option HssKept) → came.0 ≡ e → came.1 ≡ saving → ComesTo w log view (having_entered old e saving).0 (record s { participants = set s.participants place (having_entered old e saving).1 })
    by (Entered after) saving e_is saving_is =
        let p : Participant = record its.0 { agent = after; keeper = asked_to_save its.0.keeper saving; cache = [] } in
        let h = changed_has w.0 s has log place (record old { agent = after; keeper = asked_to_save old.keeper saving; cache = [] }) p apart found
        (ap (λ (x : ParticipantState). record x { agent = after; keeper = asked_to_save x.keeper saving; cache = [] }) its.2) named in (
          (afresh w.0 (record its.0 { agent = after; keeper = asked_to_save its.0.keeper saving }), afresh_told w its.0.name (of_members v (known_of w.1 its.0.name))),
          sym (line_is ∙ (λ i. after_entering w its.0 v (e_is i) (saving_is i))),
          record { replicas = h.replicas; nodes = h.nodes; participants = h.participants; views = h.views; replies = h.replies; moment = h.moment; met = h.met },
        )
    by NotMember saving e_is saving_is = sym (line_is ∙ (λ i. after_entering w its.0 v (e_is i) (saving_is i)))
    by (NotNamed other) saving e_is saving_is = sym (line_is ∙ (λ i. after_entering w its.0 v (e_is i) (saving_is i)))
    by (KeeperFailed after) saving e_is saving_is =
        let p : Participant = record its.0 { agent = after; keeper = asked_to_save its.0.keeper saving } in (
          (with_participant w.0 p, w.1),
          (λ i. Goes (with_participant w.0 p, w.1) (failed_text (codes "use") (sym named i))) ∙ sym (line_is ∙ (λ i. after_entering w its.0 v (e_is i) (saving_is i))),
          changed_has w.0 s has log place (record old { agent = after; keeper = asked_to_save old.keeper saving }) p apart found
              (ap (λ (x : ParticipantState). record x { agent = after; keeper = asked_to_save x.keeper saving }) its.2) named,
        )

    -- what comes of it, and the participant then
    comes : (how : EnterEnd) (next : ParticipantState) → (how, next) ≡ entering_view old v → ComesTo w log view how (record s { participants = set s.participants place next })
    comes how next e =
        subst (λ (x : EnterEnd × ParticipantState). ComesTo w log view x.0 (record s { participants = set s.participants place x.1 })) (sym e)
        (by (hss_entering old.agent v (fails_next old.keeper)).0 (hss_entering old.agent v (fails_next old.keeper)).1 (ap (λ (x : HssEntering × Option HssKept). x.0) came_is) (ap (λ (x : HssEntering × Option HssKept). x.1) came_is))

-- a participant enters a view, or what becomes of it is told
pub enters_in : (before s : PartsState) → s ≡ before → (log view : List ℕ) (place : ℕ) (old next : ParticipantState) (v : View) (how : EnterEnd) (result : Result Taken Memory) → AreNamedApart s.participants
    → position (λ (q : ParticipantState). bytes_eq q.name log) s.participants ≡ Some place → old ≡ get_or s.participants place old → ((w : World) → HasParts w before → Some v ≡ view_named w view)
    → (how, next) ≡ entering_view old v → IfOk result (λ (taken : Taken). (w : Played) → outcome_told taken w ≡ use_outcome log how w)
    → IfOk result (λ (taken : Taken). EndsSessionsIn (λ w outcome. outcome ≡ use_line w log view) before taken (record s { participants = set s.participants place next }))
enters_in before s same log view place old next v how (Ok taken) apart found is in_view e told = λ w has.
    let from : HasParts w.0 s = subst (HasParts w.0) (sym same) has in
    ends_so w log view how (record s { participants = set s.participants place next }) taken told (comes w s from log view place old v apart found is (sym (in_view w.0 has)) how next e)
enters_in before s same log view place old next v how (Err fault) apart found is in_view e told = tt

-- it has its name still
pub name_stays : (old next : ParticipantState) (v : View) (how : EnterEnd) → (how, next) ≡ entering_view old v → next.name ≡ old.name
name_stays old next v how e = ap (λ (x : EnterEnd × ParticipantState). x.1.name) e ∙ by (hss_entering old.agent v (fails_next old.keeper)).0 (hss_entering old.agent v (fails_next old.keeper)).1
  where
    by : (e : HssEntering) (saving : Option HssKept) → (having_entered old e saving).1.name ≡ old.name
    by (Entered after) saving = refl
    by NotMember saving = refl
    by (NotNamed other) saving = refl
    by (KeeperFailed after) saving = refl
