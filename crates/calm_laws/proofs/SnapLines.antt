-- The line by which a participant makes a snapshot leaves it so.
use Rattle.std.proofs.Common.{◌≡◌, inl, inr, ⊎_elim, ℕ, Bool, true, false, not, List, ◌++◌, map, filter, Option, Some, None, refl, sym, ap, ◌∙◌, subst}
use Rattle.std.proofs.lemmas.List.Elements.{Contains-append_left, Contains-append_cases}
use Rattle.ivy_base.specs.Naming.{IsCollisionFree}
use Rattle.ivy_base.specs.declared.key.Key.{Key}
use Rattle.ivy_base.specs.declared.key.PubKey.{PubKey}
use Rattle.ivy_base.proofs.NameLemmas.{bytes-name, length-name}
use Rattle.dhash_model.specs.Signed.{hss_judged}
use Rattle.log_model.specs.Record.{Record}
use Rattle.log_model.specs.View.{View}
use Rattle.log_model.proofs.Lists.{each}
use Rattle.dht_ids.specs.declared.post.Post.{Post}
use Rattle.snapshot_model.specs.Spelling.{root_name, snapshot_blocks}
use Rattle.agent_model.specs.Agent.{failed, is_head, kept_of}
use Rattle.agent_model.specs.Others.{basis_of, block_post, is_pending_block, snapped}
use Rattle.agent_model.specs.SavedBytes.{ArePostsSpelled}
use Rattle.script_driver.specs.Run.{Outcome}
use Rattle.world_model.specs.Agents.{HssAgent, IsHssKept, HssKept, own_hss_key}
use Rattle.world_model.specs.Keepers.{asked_to_save, fails_next}
use Rattle.world_model.specs.Logs.{Played, Publishes, SnapLine, snapping_in}
use Rattle.world_model.specs.Logs.SnapLine.{cannot, fails, makes, nobody, outside}
use Rattle.world_model.specs.Steps.{met_by}
use Rattle.world_model.specs.GhostState.{known_of}
use Rattle.world_model.specs.World.{Participant, participant, with_participant}
use Rattle.world_laws.specs.Invariant.{IsKeptSo, IsSavedWell, Invariant}
use Rattle.world_laws.proofs.Bringing.{found_named}
use Rattle.world_laws.proofs.Frames.{found_placed}
use Rattle.world_laws.proofs.Lines.{ToSuch}
use Rattle.world_laws.proofs.SignedAmong.{met_stays}
use Rattle.world_laws.proofs.SignedHeads.{from_map}
use Rattle.calm_laws.specs.Put.{IsPutOr}
use Rattle.calm_laws.proofs.Backed.{IsBackedBy, IsBackedIn, heads_weaker}
use Rattle.calm_laws.proofs.Publishes.{publishes_so}
use Rattle.calm_laws.proofs.BackedSteps.{its_backed, met_apart}
use Rattle.calm_laws.proofs.Turns.{all_posts_met, fine_now, kept_now, never_fails}
use Rattle.calm_laws.proofs.UseLines.{IsThenBacked, by_saves, tried_so}
use Rattle.calm_laws.proofs.BackedWorlds.{IsBackedWorld, placed_backed}

-- more blocks to publish
more_blocks : (acked : List Post) (owner : PubKey) (known : List Record) (posts : List Post) (blocks : List (List ℕ)) → IsBackedBy acked owner known posts → IsBackedBy acked owner known (posts ++ map block_post blocks)
more_blocks acked owner known posts blocks h = record {
  records = λ one c mine. still one (h.records one c mine);
  heads = λ x c is. heads_weaker acked acked posts (posts ++ map block_post blocks) still x (h.heads x (⊎_elim (λ old. old) (λ new. absurd (let from = from_map block_post blocks x new in no_head (sym (ap (λ (o : Post). is_head o.kind) from.2) ∙ is))) (Contains-append_cases posts (map block_post blocks) x c)) is);
}
  where
    no_head : false ≡ true → ⊥
    no_head e = cc e

    still : (one : Record) → IsPutOr acked posts one → IsPutOr acked (posts ++ map block_post blocks) one
    still one (inl put) = inl put
    still one (inr c) = inr (Contains-append_left posts (map block_post blocks) _ c)

module _ (w : Played) (keeps : Invariant w) (p : Participant) (is_p : participant w.0 p.name ≡ Some p) (view : View) (h : IsBackedWorld w.0 w.1) where
  its : IsBackedIn w.0.met w.1.acked p (known_of w.1 p.name)
  its = its_backed w.0 w.1 p.name p is_p h

  abbrev root : Key
  root = root_name view (basis_of p.agent.holding)

  abbrev blocks : List (List ℕ)
  blocks = snapshot_blocks view (basis_of p.agent.holding)

  abbrev new : List (List ℕ)
  new = filter (λ b. not (is_pending_block p.agent.pending b)) (snapshot_blocks view (basis_of p.agent.holding))

  abbrev after : HssAgent
  after = snapped p.agent (root_name view (basis_of p.agent.holding)) (snapshot_blocks view (basis_of p.agent.holding))

  saved : IsHssKept (kept_of p.agent)
  saved = (each (IsKeptSo IsSavedWell) w.0.participants p keeps.saved (found_named w.0.participants p.name p is_p).0).3.agent

  abbrev made : Participant
  made = record p {
    agent = snapped p.agent (root_name view (basis_of p.agent.holding)) (snapshot_blocks view (basis_of p.agent.holding));
    keeper = asked_to_save p.keeper (Some (kept_of (snapped p.agent (root_name view (basis_of p.agent.holding)) (snapshot_blocks view (basis_of p.agent.holding)))));
    printed = Some (root_name view (basis_of p.agent.holding));
  }

  module _ (spelled : ArePostsSpelled after.pending) where
    whole : IsHssKept (kept_of after)
    whole = record { signer = saved.signer; some = saved.some; few = saved.few; floor = saved.floor; view = saved.view; posts = spelled; snapshot = record { size = length-name _; each = bytes-name _ } }

    backed : IsBackedBy w.1.acked (own_hss_key p.agent) (known_of w.1 p.name) after.pending
    backed = more_blocks w.1.acked (own_hss_key p.agent) (known_of w.1 p.name) p.agent.pending new its.agent

    made_in : IsBackedIn (met_by w.0.met after.pending) w.1.acked made (known_of w.1 p.name)
    made_in = record {
      agent = backed;
      pending = all_posts_met w.0.met after.pending;
      fine = fine_now p.keeper (kept_of after) its.fine;
      keeper = (kept_of after, whole, kept_now p.keeper (kept_of after) its.fine, record { same_reach = refl; backed = backed });
    }

    makes_so : (r : ℕ) (next : Played) → Publishes hss_judged r (record (with_participant w.0 made) { met = met_by w.0.met made.agent.pending }, w.1) made next → IsCollisionFree next.0.met → IsBackedWorld next.0 next.1
    makes_so r next published apart =
        publishes_so r (record (with_participant w.0 made) { met = met_by w.0.met made.agent.pending }, w.1) made next (found_placed w.0 keeps.apart p.name p is_p made refl) published apart
        (placed_backed w.0 w.1 w.1 p made (met_by w.0.met made.agent.pending) refl (λ b c. met_stays w.0.met (map (λ (o : Post). o.bytes) made.agent.pending) b c) (known_of w.1 p.name) refl (λ n other. refl) refl (λ n. refl) _ refl refl refl h.sessions made_in h)

  -- ---- by whether it was made

  abbrev having : (HssAgent × Bool) × Option HssKept → Participant
  having t = record p { agent = t.0.0; keeper = asked_to_save p.keeper t.1 }

  abbrev Fails : (HssAgent × Bool) × Option HssKept → Type 0
  Fails t = t.0.1 ≡ false → IsBackedWorld (with_participant w.0 (having t)) w.1

  abbrev Makes : (HssAgent × Bool) × Option HssKept → Type 0
  Makes t = t.0.1 ≡ true → (r : ℕ) (next : Played) (q : Participant) → q ≡ record (having t) { printed = Some (root_name view (basis_of p.agent.holding)) } → ArePostsSpelled q.agent.pending
      → Publishes hss_judged r (record (with_participant w.0 q) { met = met_by w.0.met q.agent.pending }, w.1) q next → IsCollisionFree next.0.met → IsBackedWorld next.0 next.1

  never : true ≡ false → ⊥
  never e = cc e

  pub fails_so : Fails (snapping_in p view)
  fails_so = by_saves Fails ((p.agent, false), None) (failed p.agent, false) (after, true) (Some (kept_of after)) (λ none. tried_so w p (record p { agent = p.agent; keeper = p.keeper }) is_p refl refl refl refl refl h)
      (λ none. absurd (never none)) p.agent.has_failed (fails_next p.keeper) (never_fails p.keeper its.fine)

  pub made_so : Makes (snapping_in p view)
  made_so = by_saves Makes ((p.agent, false), None) (failed p.agent, false) (after, true) (Some (kept_of after)) (λ some r next q is spelled published apart. absurd (never (sym some)))
      (λ some r next q is spelled published apart.
      makes_so (subst (λ (x : Participant). ArePostsSpelled x.agent.pending) is spelled) r next (subst (λ (x : Participant). Publishes hss_judged r (record (with_participant w.0 x) { met = met_by w.0.met x.agent.pending }, w.1) x next) is published) apart)
      p.agent.has_failed (fails_next p.keeper) (never_fails p.keeper its.fine)

pub snap_so : (w : Played) → Invariant w → (log : List ℕ) (o : Option Participant) → participant w.0 log ≡ o → (out : Outcome Played) → SnapLine hss_judged w o out → IsBackedWorld w.0 w.1 → ToSuch IsThenBacked out
snap_so w keeps log _ is _ nobody h = tt
snap_so w keeps log _ is _ (outside p out) h = tt
snap_so w keeps log _ is _ (cannot p view in_view unspelled) h = λ kept apart. h
snap_so w keeps log _ is _ (fails p view in_view none spelled) h =
    let is_p = ap (participant w.0) (found_named w.0.participants log p is).1 ∙ is in
    λ kept apart. fails_so w keeps p is_p view h none
snap_so w keeps log _ is _ (makes p q view r next in_view some ringed made spelled published) h =
    let is_p = ap (participant w.0) (found_named w.0.participants log p is).1 ∙ is in
    λ kept apart. made_so w keeps p is_p view h some r next q made spelled published (met_apart r next.0 apart)
