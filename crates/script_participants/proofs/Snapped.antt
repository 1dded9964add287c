-- A snapshot, by the keeper's plan.
use Rattle.std.proofs.Common.{◌≡◌, ℕ, Bool, true, false, cond, List, Option, Some, None, Result, Ok, Err, refl, sym, ap, subst, ◌∙◌}
use Rattle.std.specs.Prelude.{IfSome, option_map}
use Rattle.ivy_base.specs.declared.key.Key.{Key}
use Rattle.hash_signature_model.specs.Saved.{IsSigner}
use Rattle.hash_signature_model.specs.Signer.{Signer}
use Rattle.log_model.specs.View.{View}
use Rattle.snapshot_model.specs.Spelling.{root_name, snapshot_blocks}
use Rattle.agent_model.specs.Agent.{failed, kept_of}
use Rattle.agent_model.specs.Others.{basis_of, snapped, snapping}
use Rattle.ivy_agent.specs.Holders.{Holder}
use Rattle.ivy_agent.specs.Saves.{Saves}
use Rattle.ivy_agent.specs.Snapping.{Snaps, SnapsAs}
use Rattle.ivy_agent.specs.declared.fault.SnapFault.TheVariants as fault
use Rattle.world_model.specs.Agents.{HssAgent, IsHssKept, HssKept, hss_signing, hss_kept_bytes}
use Rattle.world_model.specs.Keepers.{Keeper, asked_to_save, fails_next}
use Rattle.script_participants.specs.ParticipantState.{ParticipantState}
use Rattle.script_participants.specs.Snapping.{HasSnapped, root_in, snapping_of}
use Rattle.script_participants.proofs.Opened.{saves}
use Rattle.script_participants.proofs.Turned.{holder}

module _ (view : View) (p : ParticipantState) (after : Holder Keeper Signer) where
  abbrev by : Bool → (HssAgent × Bool) × Option HssKept
  by fails = snapping p.agent (root_in p view) (snapshot_blocks view (basis_of p.agent.holding)) fails

  abbrev by_test : Bool → HssAgent × Bool → HssAgent × Bool → HssKept → (HssAgent × Bool) × Option HssKept
  by_test has_failed none some k = cond has_failed (none, None) (some, Some k)

  -- where nothing is saved it is all one whether a save would fail
  either : (has_failed : Bool) (none one other : HssAgent × Bool) (k : HssKept) → (by_test has_failed none one k).1 ≡ None → by_test has_failed none one k ≡ by_test has_failed none other k
  either true none one other k e = refl
  either false none one other k e = cc e

  abbrev then_snapped : HssAgent
  then_snapped = snapped p.agent (root_in p view) (snapshot_blocks view (basis_of p.agent.holding))

  abbrev saved_by : Bool → HssAgent × Bool
  saved_by fails = cond fails (failed p.agent, false) (then_snapped, true)

  planned : (fails made : Bool) → SnapsAs hss_signing IsSigner saves view (holder p) fails made after → (by fails ≡ by (fails_next p.keeper)) × (after.keeper ≡ asked_to_save p.keeper (by fails).1)
  planned fails made s = at (by fails).1 refl s.keeper
    where
      at : (saving : Option HssKept) → (by fails).1 ≡ saving → Saves saves p.keeper (option_map hss_kept_bytes saving) fails after.keeper → (by fails ≡ by (fails_next p.keeper)) × (after.keeper ≡ asked_to_save p.keeper (by fails).1)
      at None none stays = (
        either p.agent.has_failed (p.agent, false) (saved_by fails) (saved_by (fails_next p.keeper)) (kept_of then_snapped) none,
        stays ∙ ap (asked_to_save p.keeper) (sym none),
      )
      at (Some k) some saved = (ap by saved.0, saved.1 ∙ ap (asked_to_save p.keeper) (sym some))

  module _ (fails made : Bool) (s : SnapsAs hss_signing IsSigner saves view (holder p) fails made after) where
    told : (snapping_of p view).0.1 ≡ made
    told = ap (λ (x : (HssAgent × Bool) × Option HssKept). x.0.1) (sym (planned fails made s).0) ∙ sym s.told

    kept : IfSome (snapping_of p view).1 IsHssKept
    kept = subst (λ (x : (HssAgent × Bool) × Option HssKept). IfSome x.1 IsHssKept) (planned fails made s).0 s.kept

    agent_is : after.agent ≡ (snapping_of p view).0.0
    agent_is = s.agent ∙ ap (λ (x : (HssAgent × Bool) × Option HssKept). x.0.0) (planned fails made s).0

    keeper_is : after.keeper ≡ asked_to_save p.keeper (snapping_of p view).1
    keeper_is = (planned fails made s).1 ∙ ap (λ (x : (HssAgent × Bool) × Option HssKept). asked_to_save p.keeper x.1) (planned fails made s).0

  made_as : (root : Key) → Snaps hss_signing IsSigner saves view (holder p) (Ok root) after → HasSnapped view p (Some root) (record p { agent = after.agent; keeper = after.keeper; printed = Some root })
  made_as root s = (told s.1 true s.2, s.0, kept s.1 true s.2, λ i. record p { agent = agent_is s.1 true s.2 i; keeper = keeper_is s.1 true s.2 i; printed = Some root })

  lost_as : Snaps hss_signing IsSigner saves view (holder p) (Err fault.Keeper) after → HasSnapped view p None (record p { agent = after.agent; keeper = after.keeper })
  lost_as s = (told s.0 false s.1, kept s.0 false s.1, λ i. record p { agent = agent_is s.0 false s.1 i; keeper = keeper_is s.0 false s.1 i })

-- in the view that the agent is in, by the participant as it was seen before
module _ (p : ParticipantState) (after : Holder Keeper Signer) (q : ParticipantState) (is : p ≡ q) where
  in_view_made : (o : Option View) (root : Key) → IfSome o (λ view. Snaps hss_signing IsSigner saves view (holder p) (Ok root) after) → IfSome o (λ view. HasSnapped view p (Some root) (record p { agent = after.agent; keeper = after.keeper; printed = Some root }))
  in_view_made None root s = tt
  in_view_made (Some view) root s = made_as view p after root s

  in_view_lost : (o : Option View) → IfSome o (λ view. Snaps hss_signing IsSigner saves view (holder p) (Err fault.Keeper) after) → IfSome o (λ view. HasSnapped view p None (record p { agent = after.agent; keeper = after.keeper }))
  in_view_lost None s = tt
  in_view_lost (Some view) s = lost_as view p after s

  pub made_here : (root : Key) → IfSome p.agent.view (λ view. Snaps hss_signing IsSigner saves view (holder p) (Ok root) after)
      → IfSome q.agent.view (λ view. HasSnapped view q (Some root) (record p { agent = after.agent; keeper = after.keeper; printed = Some root }))
  made_here root s = subst (λ (r : ParticipantState). IfSome r.agent.view (λ view. HasSnapped view r (Some root) (record p { agent = after.agent; keeper = after.keeper; printed = Some root }))) is (in_view_made p.agent.view root s)

  pub lost_here : IfSome p.agent.view (λ view. Snaps hss_signing IsSigner saves view (holder p) (Err fault.Keeper) after) → IfSome q.agent.view (λ view. HasSnapped view q None (record p { agent = after.agent; keeper = after.keeper }))
  lost_here s = subst (λ (r : ParticipantState). IfSome r.agent.view (λ view. HasSnapped view r None (record p { agent = after.agent; keeper = after.keeper }))) is (in_view_lost p.agent.view s)
