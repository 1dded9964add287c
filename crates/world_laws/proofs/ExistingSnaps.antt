-- A line that makes a snapshot does something.
use Rattle.std.proofs.Common.{◌≡◌, inl, inr, ℕ, Bool, true, false, cond, List, map, Option, Some, None, refl, sym, ap, ◌∙◌, subst}
use Rattle.std.specs.Prelude.{IfSome, codes}
use Rattle.std.specs.List.{AllByRecursion}
use Rattle.dhash_model.specs.Signed.{hss_judged}
use Rattle.log_model.proofs.Lists.{each, each_from}
use Rattle.log_model.specs.View.{View}
use Rattle.dht_ids.specs.declared.post.Post.{Post}
use Rattle.snapshot_model.specs.Spelling.{root_name, snapshot_blocks}
use Rattle.agent_model.specs.Agent.{failed, kept_of}
use Rattle.agent_model.specs.Others.{basis_of, snapped}
use Rattle.agent_model.specs.SavedBytes.{ArePostsSpelled}
use Rattle.script_driver.specs.Run.{Goes, Refuses}
use Rattle.world_model.specs.Agents.{HssAgent, HssKept}
use Rattle.world_model.specs.Keepers.{fails_next}
use Rattle.world_model.specs.Logs.{SnapLine, having_snapped, having_tried, failed_text, snap_text, snapping_in, to_publish}
use Rattle.world_model.specs.Logs.SnapLine.{nobody, outside, fails, makes, cannot}
use Rattle.world_model.specs.Steps.{met_by}
use Rattle.world_model.specs.GhostState.{GhostState, began_nothing}
use Rattle.world_model.specs.World.{World, Participant, participant, with_participant}
use Rattle.world_laws.specs.Invariant.{AreApart, IsMetPost, Invariant}
use Rattle.world_laws.proofs.Bringing.{found_named}
use Rattle.world_laws.proofs.ExistingCalls.{IsSeen, some_participant}
use Rattle.world_laws.proofs.ExistingLines.{serves_more}
use Rattle.world_laws.proofs.ExistingPuts.{Ended, runs_out, configuration}
use Rattle.world_laws.proofs.ExistingSessions.{publishes_all}
use Rattle.world_laws.proofs.Frames.{found_placed, into_map, ring_of}
use Rattle.world_laws.proofs.Placed.{names_placed}
use Rattle.world_laws.proofs.SignedAmong.{met_stays, met_then}
use Rattle.world_laws.proofs.SpelledPosts.{spelled_or_not}

-- what is published of a snapshot that was made is what was to be saved
abbrev IsSpelledSo : (HssAgent × Bool) × Option HssKept → Type 0
IsSpelledSo s = s.0.1 ≡ true → IfSome s.1 (λ k. ArePostsSpelled k.pending) → ArePostsSpelled s.0.0.pending

spelled_so : (a tried made : HssAgent) (k : HssKept) → k.pending ≡ made.pending → (before now : Bool) → IsSpelledSo (cond before ((a, false), None) (cond now (tried, false) (made, true), Some k))
spelled_so a tried made k same true now e spelled = cc e
spelled_so a tried made k same false true e spelled = cc e
spelled_so a tried made k same false false e spelled = subst ArePostsSpelled same spelled

module _ (w : World) (st : GhostState) (keeps : Invariant (w, st)) (log : List ℕ) (p : Participant) (is_p : participant w log ≡ Some p) (view : View) (in_view : p.agent.view ≡ Some view)
    (spelled : IfSome (snapping_in p view).1 (λ k. ArePostsSpelled k.pending)) where
  abbrev q : Participant
  q = having_snapped p view

  abbrev v : World
  v = record (with_participant w q) { met = met_by w.met q.agent.pending }

  posts_spelled : (snapping_in p view).0.1 ≡ true → ArePostsSpelled q.agent.pending
  posts_spelled tried =
      let made : HssAgent = snapped p.agent (root_name view (basis_of p.agent.holding)) (snapshot_blocks view (basis_of p.agent.holding)) in
      spelled_so p.agent (failed p.agent) made (kept_of made) refl p.agent.has_failed (fails_next p.keeper) tried spelled

  posts_met : ArePostsSpelled q.agent.pending → AllByRecursion (IsMetPost v.met) q.agent.pending
  posts_met h = each_from (IsMetPost v.met) q.agent.pending (λ post c. (
    met_then w.met (map (λ (o : Post). o.bytes) q.agent.pending) post.bytes (into_map (λ (o : Post). o.bytes) q.agent.pending post c),
    (each _ q.agent.pending post h.each c).1,
  ))

  names_apart : AreApart (map (λ (o : Participant). o.name) v.participants)
  names_apart = subst AreApart (sym (names_placed (λ (o : Participant). o.name) q w.participants)) keeps.apart

  named : p.name ≡ log
  named = (found_named w.participants log p is_p).1

  found : participant v q.name ≡ Some q
  found = ap (participant v) named ∙ found_placed w keeps.apart log p is_p q refl

  published : (r : ℕ) → w.replicas ≡ Some r → ArePostsSpelled q.agent.pending → Ended r q.name v (to_publish v q) None
  published r ringed h =
      publishes_all v r q (serves_more w st r keeps ringed v.participants w.views v.met (λ b c. met_stays w.met (map (λ (o : Post). o.bytes) q.agent.pending) b c)) names_apart found (ring_of (w, st) keeps ringed).1 (posts_met h)

  snaps : IsSeen w (λ su out. SnapLine hss_judged (w, su) (Some p) out)
  snaps = by_test (snapping_in p view).0.1 refl
    where
      by_test : (b : Bool) → (snapping_in p view).0.1 ≡ b → IsSeen w (λ su out. SnapLine hss_judged (w, su) (Some p) out)
      by_test false tried = (Goes (with_participant w (having_tried p view)) (failed_text (codes "snap") p.name), λ su fits. (_, fails p view in_view tried spelled, refl))
      by_test true tried =
          let h = posts_spelled tried in
          let ring = some_participant w st keeps p (found_named w.participants log p is_p).0 in
          let end = published ring.0 ring.1 h in (
            Goes end.world (snap_text p.name (root_name view (basis_of p.agent.holding))),
            λ su fits. let runs = runs_out end.execution su began_nothing in (
              Goes (end.world, runs.0) (snap_text p.name (root_name view (basis_of p.agent.holding))),
              makes p q view ring.0 (end.world, runs.0) in_view tried ring.1 refl h (configuration end.world runs.0 end.session began_nothing, runs.1, refl),
              refl,
            ),
          )

pub snap_line : (w : World) (st : GhostState) → Invariant (w, st) → (log : List ℕ) (o : Option Participant) → participant w log ≡ o → IsSeen w (λ su out. SnapLine hss_judged (w, su) o out)
snap_line w st keeps log None is = (Refuses, λ su fits. (Refuses, nobody, refl))
snap_line w st keeps log (Some p) is = by_view p.agent.view refl
  where
    by_view : (o : Option View) → p.agent.view ≡ o → IsSeen w (λ su out. SnapLine hss_judged (w, su) (Some p) out)
    by_view None out_of = (Refuses, λ su fits. (Refuses, outside p out_of, refl))
    by_view (Some view) in_view = elim (spelled_or_not (snapping_in p view).1) [
      | inl spelled ↦ snaps w st keeps log p is view in_view spelled
      | inr unspelled ↦ (Goes w (failed_text (codes "snap") p.name), λ su fits. (Goes (w, su) (failed_text (codes "snap") p.name), cannot p view in_view unspelled, refl))
    ]
