-- What a turn leaves of an agent: its view, its signer or the next one, and a basis that is fresh.
use Rattle.std.proofs.Common.{◌≡◌, ◌⊎◌, inl, inr, ◌<◌, Bool, cond, ◌&&◌, List, [], Option, Some, None, Result, Ok, Err, refl, sym, ap, ◌∙◌, subst}
use Rattle.std.specs.Prelude.{is_some}
use Rattle.ivy_base.specs.declared.key.Key.{Key}
use Rattle.ivy_base.specs.declared.operation.Moment.{Moment}
use Rattle.log_model.specs.Record.{Record}
use Rattle.log_model.specs.Signing.{Signing}
use Rattle.log_model.specs.View.{View}
use Rattle.turn_model.specs.Basis.{Basis, Holding, fresh_basis}
use Rattle.turn_model.specs.Turn.{Asked}
use Rattle.dht_ids.specs.declared.post.Ack.{Ack}
use Rattle.agent_model.specs.Agent.{Agent, Kept}
use Rattle.agent_model.specs.Others.{settled}
use Rattle.agent_model.specs.Standing.{Refresh, dominates, going_on}
use Rattle.agent_model.specs.Turning.{Becomes, TurnEnd, Turns}
use Rattle.agent_model.specs.Turning.Becomes.{reads, saves, loses}
use Rattle.agent_model.specs.Turning.Turns.{behind, below, answers}
use Rattle.log_fetch.specs.declared.turned.Turned.{Turned}
use Rattle.log_fetch.specs.declared.turned.TurnFault.{TurnFault}
use Rattle.log_fetch.specs.declared.turned.TurnFault.TheVariants as fault
use Rattle.ivy_agent.specs.Holders.{Holder}
use Rattle.agent_gate.specs.declared.request.TurnRequest.{TurnRequest}
use Rattle.agent_gate.specs.Taking.{AgentKind, Became, SignsOn, Taken, TurnsInView}
use Rattle.agent_gate.specs.Taking.Became.{opens, takes, refuses, settles}

-- what one call leaves of an agent
pub record IsLeft {S : Type 0} (signs : Signing S) (before after : Agent S) : Type 0 where
  pub view : after.view ≡ before.view
  pub signer : (after.signer ≡ before.signer) ⊎ ((0 < signs.remaining before.signer) × (after.signer ≡ signs.next before.signer))
  pub fresh : before.to_load ≡ None → before.holding.basis ≡ fresh_basis → (after.to_load ≡ None) × (after.holding.basis ≡ fresh_basis)

module _ {S : Type 0} (signs : Signing S) where
  same_left : (a : Agent S) → IsLeft signs a a
  same_left a = record { view = refl; signer = inl refl; fresh = λ none base. (none, base) }

  pub goes_on_held : (a : Agent S) (basis : Option Basis) → a.to_load ≡ None → going_on a basis ≡ a.holding
  goes_on_held a None none = refl
  goes_on_held a (Some b) none = ap (λ (o : Option Key). cond (is_some o && dominates a.floor b.front) (record { basis = b; held = [] }) (a.holding)) none

  becomes_left : (view : View) (a : Agent S) (h : Holding) (fails : Bool) (written : List Record) (after : Agent S) (saving : Option (Kept S))
      → (a.to_load ≡ None → a.holding.basis ≡ fresh_basis → h.basis ≡ fresh_basis) → Becomes signs view a h fails written after saving → IsLeft signs a after
  becomes_left view a h fails _ _ _ fresh reads = record { view = refl; signer = inl refl; fresh = λ none base. (refl, fresh none base) }
  becomes_left view a h fails _ _ _ fresh (saves before last may works) = record { view = refl; signer = inr (may.is_left, refl); fresh = λ none base. (refl, fresh none base) }
  becomes_left view a h fails _ _ _ fresh (loses before last may failing) = record { view = refl; signer = inl refl; fresh = λ none base. (refl, fresh none base) }

  turns_left : (brought : Refresh) (a : Agent S) (view : View) (fails : Bool) (asked : Asked) (now : Moment) (end : TurnEnd) (after : Agent S) (saving : Option (Kept S))
      → Turns signs brought (record { agent = a; view = view; now = now; fails = fails }) asked end after saving → IsLeft signs a after
  turns_left brought a view fails asked now _ _ _ (behind is) = same_left a
  turns_left brought a view fails asked now _ _ _ (below caught_up is) = record { view = refl; signer = inl refl; fresh = λ none base. (refl, refl) }
  turns_left brought a view fails asked now _ _ _ (answers h written reply after saving caught_up above base may becomes by) =
      becomes_left view a h fails written after saving (λ none fresh. base ∙ ap (λ (x : Holding). x.basis) (goes_on_held a brought.basis none) ∙ fresh) becomes

  pub left_key : (before after : Agent S) → SignsOn signs → IsLeft signs before after → signs.key after.signer ≡ signs.key before.signer
  left_key before after on left = by left.signer
    where
      by : (after.signer ≡ before.signer) ⊎ ((0 < signs.remaining before.signer) × (after.signer ≡ signs.next before.signer)) → signs.key after.signer ≡ signs.key before.signer
      by (inl same) = ap signs.key same
      by (inr (some, next)) = ap signs.key next ∙ on.key before.signer some

module _ {K S : Type 0} (kind : AgentKind K S) where
  pub took_left : (before : Holder K S) (asked : TurnRequest) (result : Result Turned TurnFault) (after : Holder K S) → TurnsInView kind before asked result after → IsLeft kind.signs before.agent after.agent
  took_left before asked (Ok t) after is = turns_left kind.signs _ before.agent is.view _ _ _ _ after.agent _ is.turn.turns.turns
  took_left before asked (Err (fault.Behind standing)) after is = turns_left kind.signs _ before.agent is.view _ _ _ _ after.agent _ is.turn.turns.turns
  took_left before asked (Err (fault.BelowTide standing)) after is = turns_left kind.signs _ before.agent is.view _ _ _ _ after.agent _ is.turn.turns.turns
  took_left before asked (Err fault.Memory) after is = subst (λ (h : Holder K S). IsLeft kind.signs before.agent h.agent) (sym is.turn) (same_left kind.signs before.agent)

  -- what each call keeps, all of them keep
  module _ (opening : Holder K S) (P : Agent S → Type 0) (calls : (before after : Agent S) → IsLeft kind.signs before after → P before → P after)
      (drops : (a : Agent S) (acks : List Ack) → P a → P (settled a acks)) (first : P opening.agent) where
    pub each_keeps : (taken : List Taken) (value : Holder K S) → Became kind opening taken value → P value.agent
    each_keeps _ _ opens = first
    each_keeps _ _ (takes {before = b} {after = a} t was took) = calls b.agent a.agent (took_left b t.entry.turn.0 (Ok t.entry.turn.1) a took.took) (each_keeps _ b was)
    each_keeps _ _ (refuses {before = b} {after = a} asked fault was refused) = calls b.agent a.agent (took_left b asked (Err fault) a refused) (each_keeps _ b was)
    each_keeps _ _ (settles {before = b} acks was) = drops b.agent acks (each_keeps _ b was)
