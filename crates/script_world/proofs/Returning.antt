-- A participant that starts again.
use Rattle.std.proofs.Common.{◌≡◌, ◌⊎◌, inl, inr, ℕ, List, [], set, get_or, refl, sym, ap, ◌∙◌, subst, Option, Some, None}
use Rattle.std.specs.Prelude.{is_some, IsTrue}
use Rattle.std.specs.List.{position}
use Rattle.std.specs.Str.{bytes_eq}
use Rattle.log_model.proofs.Lists.{each}
use Rattle.log_model.specs.Record.{Record}
use Rattle.log_model.specs.View.{View}
use Rattle.dht_ids.specs.declared.post.Post.{Post}
use Rattle.agent_model.specs.Agent.{restored}
use Rattle.script_driver.specs.Run.{Outcome, Goes, Refuses}
use Rattle.world_model.specs.Agents.{IsHssKept, HssKept, hss_kept_bytes}
use Rattle.world_model.specs.Logs.{IsKnownAgain, Played, RestartLine, afresh_told, restarted}
use Rattle.world_model.specs.Logs.RestartLine.{nobody, outside, starts}
use Rattle.world_model.specs.Steps.{having_made, met_by}
use Rattle.world_model.specs.World.{Participant, participant}
use Rattle.world_laws.specs.Invariant.{IsKeptSo, IsSavedWell, Invariant}
use Rattle.world_laws.proofs.Bringing.{found_named}
use Rattle.world_laws.proofs.ExistingLines.{restart_line}
use Rattle.world_laws.proofs.KeptBytes.{kept_once}
use Rattle.session_steps.specs.MetState.{AreMet, MetState}
use Rattle.ring_nodes.proofs.Places.{none_found}
use Rattle.script_participants.specs.declared.end.RestartEnd.{RestartEnd}
use Rattle.script_participants.specs.declared.end.RestartEnd.TheVariants as end
use Rattle.script_participants.specs.ParticipantState.{AreNamedApart, ParticipantState, counting, state_of}
use Rattle.script_participants.specs.Restarting.{HasStartedAgain, HoldsNobody, returned}
use Rattle.script_world.specs.PartsState.{HasParts, PartsState}
use Rattle.script_world.proofs.Keeping.{changed_has, found_so, named_so, nobody_in}

some_bytes : (a b : List ℕ) → Some a ≡ Some b → a ≡ b
some_bytes a b e = cc e

the_view : (o : Option View) → IsTrue (is_some o) → (v : View) × (o ≡ Some v)
the_view None some = cc some
the_view (Some v) some = (v, refl)

-- a line by which the agent started again from something that may be saved tells what it knows
known_by : (w : Played) (p : Participant) (view : View) → p.agent.view ≡ Some view → (k : HssKept) → IsHssKept k → p.keeper.kept ≡ Some (hss_kept_bytes k) → (out : Outcome Played) → RestartLine w (Some p) out
    → (set : List Record) × IsKnownAgain (restarted w.0 p k) k set
known_by w _ view in_view k whole held _ (outside p none) = let e : None ≡ Some view = sym none ∙ in_view in cc e
known_by w _ view in_view k whole held _ (starts p look l set within well holding known) =
    let same : l ≡ k = kept_once l k well whole (some_bytes (hss_kept_bytes l) (hss_kept_bytes k) (sym holding ∙ held)) in
    (set, subst (λ (x : HssKept). IsKnownAgain (restarted w.0 p x) x set) same known)

module _ (w : Played) (s : PartsState) (has : HasParts w.0 s) (log : List ℕ) where
  abbrev Line : Outcome Played → Type 0
  Line out = RestartLine w (participant w.0 log) out

  pub nobody_starts : position (λ (q : ParticipantState). bytes_eq q.name log) s.participants ≡ None → Line Refuses
  nobody_starts none = subst (λ (o : Option Participant). RestartLine w o Refuses) (sym (nobody_in w.0 s has log (none_found (λ (q : ParticipantState). bytes_eq q.name log) s.participants none))) nobody

  module _ (keeps : Invariant w) (place : ℕ) (old : ParticipantState) (apart : AreNamedApart s.participants) (found : position (λ (q : ParticipantState). bytes_eq q.name log) s.participants ≡ Some place)
      (is : old ≡ get_or s.participants place old) where
    abbrev its : (p : Participant) × (participant w.0 log ≡ Some p) × (state_of p ≡ old)
    its = found_so w.0 s has log place old found is

    line_is : (out : Outcome Played) → RestartLine w (Some its.0) out → Line out
    line_is out line = subst (λ (o : Option Participant). RestartLine w o out) (sym its.1) line

    stays_outside : old.agent.view ≡ None → Line Refuses
    stays_outside none = line_is Refuses (outside its.0 (ap (λ (x : ParticipantState). x.agent.view) its.2 ∙ none))

    -- its keeper holds the bytes of something
    never_lost : HoldsNobody old.keeper.kept → ⊥
    never_lost nobodys =
        let kept = each (IsKeptSo IsSavedWell) w.0.participants its.0 keeps.saved (found_named w.0.participants log its.0 its.1).0 in
        nobodys kept.0 kept.1 (ap (λ (x : ParticipantState). x.keeper.kept) (sym its.2) ∙ kept.2)

    pub refused_so : (how : RestartEnd) (next : ParticipantState) → HasStartedAgain old how next → (how ≡ end.Outside) ⊎ (how ≡ end.Lost) → Line Refuses
    refused_so how next h (inl out) = stays_outside (subst (λ (e : RestartEnd). HasStartedAgain old e next) out h).0
    refused_so how next h (inr lost) = absurd (never_lost (subst (λ (e : RestartEnd). HasStartedAgain old e next) lost h).0)

    module _ (next : ParticipantState) (again : HasStartedAgain old end.Restarted next) (posts : List Post) (posts_are : posts ≡ next.agent.pending) (met : MetState)
        (meets_them : (blocks : List (List ℕ)) → AreMet blocks s.met → AreMet (met_by blocks posts) met) where
      abbrev k : HssKept
      k = again.0

      view : (v : View) × (its.0.agent.view ≡ Some v)
      view = the_view its.0.agent.view (subst (λ (x : ParticipantState). IsTrue (is_some x.agent.view)) (sym its.2) again.1)

      held : its.0.keeper.kept ≡ Some (hss_kept_bytes k)
      held = ap (λ (x : ParticipantState). x.keeper.kept) its.2 ∙ again.3

      known : (set : List Record) × IsKnownAgain (restarted w.0 its.0 k) k set
      known =
          let line = (restart_line w.0 w.1 keeps log (Some its.0) its.1).1 w.1 keeps in
          known_by w its.0 view.0 view.1 k again.2 held line.0 line.1

      abbrev there : Participant
      there = record (having_made (record its.0 { agent = restored k }) k.pending) { cache = [] }

      there_is : state_of there ≡ next
      there_is = ap (λ (x : ParticipantState). counting (returned x k)) its.2 ∙ sym again.4

      pending_are : posts ≡ k.pending
      pending_are = posts_are ∙ ap (λ (x : ParticipantState). x.agent.pending) again.4

      pub starts_again : (output : List ℕ) → output ≡ [] → (after : Played) × Line (Goes after output) × HasParts after.0 (record s { participants = set s.participants place next; met = met })
      starts_again output nothing =
          let h = changed_has w.0 s has log place next there apart found there_is (named_so w.0 s has log its.0 its.1) in (
            (restarted w.0 its.0 k, afresh_told w its.0.name known.0),
            subst (λ (text : List ℕ). Line (Goes (restarted w.0 its.0 k, afresh_told w its.0.name known.0) text)) (sym nothing)
                (line_is (Goes (restarted w.0 its.0 k, afresh_told w its.0.name known.0) []) (starts its.0 view.0 k known.0 view.1 again.2 held known.1)),
            record {
              replicas = h.replicas;
              nodes = h.nodes;
              participants = h.participants;
              views = h.views;
              replies = h.replies;
              moment = h.moment;
              met = subst (λ (l : List Post). AreMet (met_by w.0.met l) met) pending_are (meets_them w.0.met has.met);
            },
          )
