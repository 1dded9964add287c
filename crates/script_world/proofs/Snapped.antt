-- A participant that makes a snapshot.
use Rattle.std.proofs.Common.{◌≡◌, ℕ, Bool, true, false, List, set, get_or, refl, sym, ap, ◌∙◌, subst, Option, Some, None}
use Rattle.std.specs.Prelude.{codes, IfSome, IsSomeAnd, if◌then◌else◌}
use Rattle.std.specs.List.{position}
use Rattle.std.specs.Str.{bytes_eq}
use Rattle.ivy_base.specs.declared.key.Key.{Key}
use Rattle.log_model.specs.View.{View}
use Rattle.dht_ids.specs.declared.judge.Judged.{Judged}
use Rattle.dht_ids.specs.declared.post.Post.{Post}
use Rattle.snapshot_model.specs.Spelling.{root_name, snapshot_blocks}
use Rattle.agent_model.specs.Agent.{failed, kept_of}
use Rattle.agent_model.specs.Others.{basis_of, snapped}
use Rattle.agent_model.specs.SavedBytes.{ArePostsSpelled}
use Rattle.script_driver.specs.Run.{Outcome, Goes, Refuses}
use Rattle.world_model.specs.Agents.{HssAgent, IsHssKept, HssKept}
use Rattle.world_model.specs.Keepers.{fails_next}
use Rattle.world_model.specs.Logs.{Played, SnapLine, failed_text, having_snapped, having_tried}
use Rattle.world_model.specs.Logs.SnapLine.{nobody, outside, fails}
use Rattle.world_model.specs.Steps.{met_by}
use Rattle.world_model.specs.World.{Participant, participant, with_participant}
use Rattle.session_steps.specs.MetState.{AreMet, MetState}
use Rattle.ring_nodes.proofs.Places.{none_found}
use Rattle.script_participants.specs.ParticipantState.{AreNamedApart, ParticipantState, state_of}
use Rattle.script_participants.specs.Snapping.{HasSnapped, tried}
use Rattle.script_world.specs.PartsState.{GoesOn, HasParts, PartsState}
use Rattle.script_world.specs.Snapping.{HasSnapshot}
use Rattle.script_world.proofs.Keeping.{changed_has, found_so, named_so, nobody_in}

-- what may be saved is spelled
posts_spelled : (o : Option HssKept) → IfSome o IsHssKept → IfSome o (λ k. ArePostsSpelled k.pending)
posts_spelled None h = tt
posts_spelled (Some k) h = h.posts

-- what is pending once a snapshot is made was saved, so it is spelled
module _ (a : HssAgent) (root : Key) (blocks : List (List ℕ)) where
  abbrev after : HssAgent
  after = snapped a root blocks

  abbrev by : Bool → Bool → (HssAgent × Bool) × Option HssKept
  by has_failed planned = if has_failed then ((a, false), None) else (if planned then (failed a, false) else (after, true), Some (kept_of after))

  made_spelled : (has_failed planned : Bool) → (by has_failed planned).0.1 ≡ true → IfSome (by has_failed planned).1 IsHssKept → ArePostsSpelled (by has_failed planned).0.0.pending
  made_spelled true planned some kept = cc some
  made_spelled false true some kept = cc some
  made_spelled false false some kept = kept.posts

-- it has its name still
pub named_still : (old next : ParticipantState) (o : Option View) (root : Option Key) → IsSomeAnd o (λ view. Unit {0}) → IfSome o (λ view. HasSnapped view old root next) → next.name ≡ old.name
named_still old next None root some snapped = absurd some
named_still old next (Some view) None some snapped = ap (λ (x : ParticipantState). x.name) snapped.2
named_still old next (Some view) (Some root) some snapped = ap (λ (x : ParticipantState). x.name) snapped.3

module _ (w : Played) (s : PartsState) (has : HasParts w.0 s) (log : List ℕ) where
  abbrev Line : (Key → List ℕ → Option Judged) → Outcome Played → Type 0
  Line judged out = SnapLine judged w (participant w.0 log) out

  pub nobody_snaps : (judged : Key → List ℕ → Option Judged) → position (λ (q : ParticipantState). bytes_eq q.name log) s.participants ≡ None → Line judged Refuses
  nobody_snaps judged none = subst (λ (o : Option Participant). SnapLine judged w o Refuses) (sym (nobody_in w.0 s has log (none_found (λ (q : ParticipantState). bytes_eq q.name log) s.participants none))) nobody

  module _ (place : ℕ) (old : ParticipantState) (apart : AreNamedApart s.participants) (found : position (λ (q : ParticipantState). bytes_eq q.name log) s.participants ≡ Some place) (is : old ≡ get_or s.participants place old) where
    abbrev its : (p : Participant) × (participant w.0 log ≡ Some p) × (state_of p ≡ old)
    its = found_so w.0 s has log place old found is

    abbrev p : Participant
    p = its.0

    named : p.name ≡ log
    named = named_so w.0 s has log p its.1

    line_is : (judged : Key → List ℕ → Option Judged) (out : Outcome Played) → SnapLine judged w (Some p) out → Line judged out
    line_is judged out line = subst (λ (o : Option Participant). SnapLine judged w o out) (sym its.1) line

    pub stays_outside : (judged : Key → List ℕ → Option Judged) → old.agent.view ≡ None → Line judged Refuses
    stays_outside judged none = line_is judged Refuses (outside p (ap (λ (x : ParticipantState). x.agent.view) its.2 ∙ none))

    module _ (view : View) (in_view : old.agent.view ≡ Some view) (next : ParticipantState) where
      its_view : p.agent.view ≡ Some view
      its_view = ap (λ (x : ParticipantState). x.agent.view) its.2 ∙ in_view

      its_own : (root : Option Key) → HasSnapped view old root next → HasSnapped view (state_of p) root next
      its_own root snapped = subst (λ (x : ParticipantState). HasSnapped view x root next) (sym its.2) snapped

      -- the save failed
      fails_in : HasSnapped view old None next → (judged : Key → List ℕ → Option Judged)
          → (after : Played) × Line judged (Goes after (failed_text (codes "snap") log)) × GoesOn w.0 (record s { participants = set s.participants place next }) after.0 × (after.0.replicas ≡ w.0.replicas)
      fails_in snapped judged =
          let own = its_own None snapped in
          let left : Played = (with_participant w.0 (having_tried p view), w.1) in (
            left,
            subst (λ (n : List ℕ). Line judged (Goes left (failed_text (codes "snap") n))) named
                (line_is judged (Goes left (failed_text (codes "snap") p.name)) (fails p view its_view own.0 (posts_spelled _ own.1))),
            (changed_has w.0 s has log place next (having_tried p view) apart found (sym own.2) named, refl),
            refl,
          )

      -- or there is a snapshot
      module _ (root : Key) (snapped : HasSnapped view old (Some root) next) (posts : List Post) (posts_are : posts ≡ next.agent.pending) (met : MetState)
          (meets_them : (blocks : List (List ℕ)) → AreMet blocks s.met → AreMet (met_by blocks posts) met) where
        own : HasSnapped view (state_of p) (Some root) next
        own = its_own (Some root) snapped

        there : Participant
        there = having_snapped p view

        there_is : state_of (having_snapped p view) ≡ next
        there_is = (λ i. record (tried (state_of p) view) { printed = Some (sym own.1 i) }) ∙ sym own.3

        pending_are : posts ≡ (having_snapped p view).agent.pending
        pending_are = posts_are ∙ ap (λ (x : ParticipantState). x.agent.pending) own.3

        makes_in : HasSnapshot w log root (record s { participants = set s.participants place next; met = met })
        makes_in =
            let h = changed_has w.0 s has log place next (having_snapped p view) apart found there_is named in
            record {
              one = p;
              view = view;
              is_there = its.1;
              in_view = its_view;
              made = own.0;
              root_is = own.1;
              spelled = made_spelled p.agent (root_name view (basis_of p.agent.holding)) (snapshot_blocks view (basis_of p.agent.holding)) p.agent.has_failed (fails_next p.keeper) own.0 own.2;
              goes_on = (
                record {
                  replicas = h.replicas;
                  nodes = h.nodes;
                  participants = h.participants;
                  views = h.views;
                  replies = h.replies;
                  moment = h.moment;
                  met = subst (λ (l : List Post). AreMet (met_by w.0.met l) met) pending_are (meets_them w.0.met has.met);
                },
                refl,
              );
            }

    -- in the view that it is in
    pub fails_so : (o : Option View) → old.agent.view ≡ o → IsSomeAnd o (λ view. Unit {0}) → (next : ParticipantState) → IfSome o (λ view. HasSnapped view old None next) → (judged : Key → List ℕ → Option Judged)
        → (after : Played) × Line judged (Goes after (failed_text (codes "snap") log)) × GoesOn w.0 (record s { participants = set s.participants place next }) after.0 × (after.0.replicas ≡ w.0.replicas)
    fails_so None is_in some next snapped judged = absurd some
    fails_so (Some view) is_in some next snapped judged = fails_in view is_in next snapped judged

    pub makes_so : (o : Option View) → old.agent.view ≡ o → IsSomeAnd o (λ view. Unit {0}) → (next : ParticipantState) (root : Key) → IfSome o (λ view. HasSnapped view old (Some root) next) → (posts : List Post) → posts ≡ next.agent.pending
        → (met : MetState) → ((blocks : List (List ℕ)) → AreMet blocks s.met → AreMet (met_by blocks posts) met) → HasSnapshot w log root (record s { participants = set s.participants place next; met = met })
    makes_so None is_in some next root snapped posts posts_are met meets = absurd some
    makes_so (Some view) is_in some next root snapped posts posts_are met meets = makes_in view is_in next root snapped posts posts_are met meets
