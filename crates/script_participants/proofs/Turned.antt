-- A turn, by the keeper's plan.
use Rattle.std.proofs.Common.{◌≡◌, ℕ, Bool, false, Option, Some, None, Result, Ok, Err, refl, sym, ap, subst, ◌∙◌}
use Rattle.std.specs.Prelude.{IfSome, option_map}
use Rattle.ivy_base.specs.declared.operation.Moment.{Moment}
use Rattle.hash_signature_model.specs.Saved.{IsSigner}
use Rattle.hash_signature_model.specs.Signer.{Signer}
use Rattle.log_model.specs.View.{View}
use Rattle.turn_model.specs.Turn.{Asked}
use Rattle.agent_model.specs.Standing.{Refresh}
use Rattle.agent_model.specs.Turning.{TurnEnd, Behind, BelowTide, Answered, Turns}
use Rattle.log_fetch.specs.declared.turned.Turned.{Turned}
use Rattle.log_fetch.specs.declared.turned.TurnFault.{TurnFault}
use Rattle.log_fetch.specs.declared.turned.TurnFault.TheVariants as fault
use Rattle.ivy_agent.specs.Holders.{Holder}
use Rattle.ivy_agent.specs.Saves.{Saves}
use Rattle.ivy_agent.specs.Turns as agent
use Rattle.world_model.specs.Agents.{HssKept, hss_signing, hss_kept_bytes}
use Rattle.world_model.specs.Keepers.{Keeper, asked_to_save, fails_next}
use Rattle.script_participants.specs.ParticipantState.{ParticipantState}
use Rattle.script_participants.specs.Turning.{HasTurn, TakesTurn, work_after}
use Rattle.script_participants.proofs.Opened.{saves}

-- an agent with its keeper
abbrev pub holder : ParticipantState → Holder Keeper Signer
holder p = record { agent = p.agent; keeper = p.keeper }

module _ (brought : Refresh) (asked : Asked) (now : Moment) (p : ParticipantState) (after : Holder Keeper Signer) where
  -- the participant then, by how many records its last turn applied
  abbrev pub having_turned : ℕ → ParticipantState
  having_turned work = record p { agent = after.agent; keeper = after.keeper; work = work }

  abbrev pub work_told : Result Turned TurnFault → ℕ
  work_told (Ok t) = t.applied
  work_told (Err why) = p.work

  module _ (view : View) where
    has_turn : (fails : Bool) (end : TurnEnd) (work : ℕ) → agent.TurnsAs hss_signing IsSigner saves view brought asked now (holder p) fails end after → work ≡ work_after end p.work → HasTurn view brought asked now p end (having_turned work)
    has_turn fails end work t counted = record {
      saving = t.saving;
      turns = (by t.saving refl t.keeper).0;
      kept = t.kept;
      then_is = λ i. record p { agent = after.agent; keeper = (by t.saving refl t.keeper).1 i; work = counted i };
    }
      where
        by : (saving : Option HssKept) → t.saving ≡ saving → Saves saves p.keeper (option_map hss_kept_bytes saving) fails after.keeper
            → Turns hss_signing brought (record { agent = p.agent; view = view; now = now; fails = fails_next p.keeper }) asked end after.agent t.saving × (after.keeper ≡ asked_to_save p.keeper t.saving)
        by None none kept = (t.either none (fails_next p.keeper), kept ∙ ap (asked_to_save p.keeper) (sym none))
        by (Some k) some kept = (subst (λ b. Turns hss_signing brought (record { agent = p.agent; view = view; now = now; fails = b }) asked end after.agent t.saving) kept.0 t.turns, kept.1 ∙ ap (asked_to_save p.keeper) (sym some))

    turned_as : (result : Result Turned TurnFault) → agent.TakesTurn hss_signing IsSigner saves view brought asked now (holder p) result after → TakesTurn view brought asked now p result (having_turned (work_told result))
    turned_as (Ok t) a = record { reply = a.reply; has_turn = has_turn a.fails (Answered a.reply t.applied) t.applied a.turns refl; gives = a.gives }
    turned_as (Err (fault.Behind standing)) r = record { has_turn = has_turn false Behind p.work r.turns refl; anew = r.anew }
    turned_as (Err (fault.BelowTide standing)) r = record { has_turn = has_turn false BelowTide p.work r.turns refl; anew = r.anew }
    turned_as (Err fault.Memory) same = λ i. record p { agent = (same i).agent; keeper = (same i).keeper }

  -- in the view that the agent is in
  pub turned_so : (view : Option View) (result : Result Turned TurnFault) → IfSome view (λ v. agent.TakesTurn hss_signing IsSigner saves v brought asked now (holder p) result after)
      → IfSome view (λ v. TakesTurn v brought asked now p result (having_turned (work_told result)))
  turned_so None result t = tt
  turned_so (Some view) result t = turned_as view result t

  -- the same, by the participant as it was seen before
  pub turned_here : (q : ParticipantState) → p ≡ q → (result : Result Turned TurnFault) → IfSome p.agent.view (λ v. agent.TakesTurn hss_signing IsSigner saves v brought asked now (holder p) result after)
      → IfSome q.agent.view (λ v. TakesTurn v brought asked now q result (having_turned (work_told result)))
  turned_here q is result t = subst (λ (r : ParticipantState). IfSome r.agent.view (λ v. TakesTurn v brought asked now r result (having_turned (work_told result)))) is (turned_so p.agent.view result t)
