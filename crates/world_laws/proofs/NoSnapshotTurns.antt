-- An agent without a snapshot, whose keeper keeps none, has none after a turn.
use Rattle.std.proofs.Common.{◌≡◌, Bool, true, false, ◌&&◌, List, [], Option, Some, None, refl, ap, ◌∙◌}
use Rattle.std.specs.Prelude.{IfSome, is_some, if◌then◌else◌}
use Rattle.ivy_base.specs.declared.key.Key.{Key}
use Rattle.ivy_base.specs.declared.operation.Moment.{Moment}
use Rattle.ivy_io.specs.Keepers as memory
use Rattle.log_model.specs.Record.{Record}
use Rattle.log_model.specs.View.{View}
use Rattle.turn_model.specs.Basis.{Basis, Holding, fresh_basis}
use Rattle.turn_model.specs.Turn.{Asked}
use Rattle.agent_model.specs.Agent.{kept_of}
use Rattle.agent_model.specs.Standing.{Refresh, dominates, going_on}
use Rattle.agent_model.specs.Turning.{Becomes, MayTake, TurnEnd, Turns}
use Rattle.agent_model.specs.Turning.Becomes.{loses, reads, saves}
use Rattle.agent_model.specs.Turning.Turns.{answers, behind, below}
use Rattle.session_model.specs.Sessions.{Session}
use Rattle.session_model.specs.Executions.TakesTurn.{answers as turn_answers, begins_again, gives_up}
use Rattle.world_model.specs.Agents.{HssAgent, IsHssKept, HssKept, TakesHssTurn, hss_signing, hss_kept_bytes}
use Rattle.world_model.specs.Keepers.{Keeper, asked_to_save}
use Rattle.world_laws.proofs.NoSnapshotSaved.{turns_are_saved}

-- the keeper holds the bytes of something that may be saved, in which there is no snapshot
abbrev pub KeepsNone : Keeper → Type 0
KeepsNone y = (k : HssKept) × IsHssKept k × (y.kept ≡ Some (hss_kept_bytes k)) × (k.snapshot ≡ None)

-- the agent has no snapshot and no basis, its keeper keeps none, and it may be saved
pub record IsBare (a : HssAgent) (y : Keeper) : Type 0 where
  pub whole : IsHssKept (kept_of a)
  pub kept : KeepsNone y
  pub snapshot : a.snapshot ≡ None
  pub to_load : a.to_load ≡ None
  pub basis : a.holding.basis ≡ fresh_basis

-- ---- saving

abbrev IsPlain : HssKept → Type 0
IsPlain k = IsHssKept k × (k.snapshot ≡ None)

pub saved_none : (y : Keeper) (saving : Option HssKept) → KeepsNone y → IfSome saving IsPlain → KeepsNone (asked_to_save y saving)
saved_none y None h g = h
saved_none y (Some k) h g = by (memory.planned_next y)
  where
    by : (o : Option Bool) → KeepsNone (memory.after_planned o y (hss_kept_bytes k))
    by None = (k, g.0, refl, g.1)
    by (Some true) = (k, g.0, refl, g.1)
    by (Some false) = h

-- ---- turns

chosen : HssAgent → Basis → Option Key → Holding
chosen a b to_load = if is_some to_load && dominates a.floor b.front then record { basis = b; held = [] } else a.holding

-- where there is no snapshot to load a turn goes on from what is held
going_bare : (a : HssAgent) (o : Option Basis) → a.to_load ≡ None → going_on a o ≡ a.holding
unfolding chosen
going_bare a None e = refl
going_bare a (Some b) e = ap (chosen a b) e

record LeavesBare (a : HssAgent) (h : Holding) (after : HssAgent) (saving : Option HssKept) : Type 0 where
  snapshot : after.snapshot ≡ a.snapshot
  to_load : after.to_load ≡ None
  basis : after.holding.basis ≡ h.basis
  saves : IfSome saving (λ k. k.snapshot ≡ a.snapshot)

leaves_bare : (view : View) (a : HssAgent) (h : Holding) (fails : Bool) (written : List Record) (after : HssAgent) (saving : Option HssKept) → Becomes hss_signing view a h fails written after saving → LeavesBare a h after saving
leaves_bare view a h fails _ _ _ reads = record { snapshot = refl; to_load = refl; basis = refl; saves = tt }
leaves_bare view a h fails _ _ _ (saves before last may succeeds) = record { snapshot = refl; to_load = refl; basis = refl; saves = refl }
leaves_bare view a h fails _ _ _ (loses before last may failing) = record { snapshot = refl; to_load = refl; basis = refl; saves = refl }

plain : (o s : Option Key) (saving : Option HssKept) → s ≡ None → IfSome saving IsHssKept → IfSome saving (λ k. k.snapshot ≡ s) → IfSome saving IsPlain
plain o s None e h g = tt
plain o s (Some k) e h g = (h, g ∙ e)

becomes_bare : (view : View) (a : HssAgent) (y : Keeper) (h : Holding) (fails : Bool) (written : List Record) (after : HssAgent) (saving : Option HssKept) → a.view ≡ Some view → IsBare a y → h.basis ≡ fresh_basis
    → MayTake hss_signing view a h → Becomes hss_signing view a h fails written after saving → IsBare after (asked_to_save y saving)
becomes_bare view a y h fails written after saving in_view bare fresh take becomes =
    let whole = turns_are_saved view a after h fails written saving in_view bare.whole take becomes in
    let leaves = leaves_bare view a h fails written after saving becomes in
    record {
      whole = whole.0;
      kept = saved_none y saving bare.kept (plain a.to_load a.snapshot saving bare.snapshot whole.1 leaves.saves);
      snapshot = leaves.snapshot ∙ bare.snapshot;
      to_load = leaves.to_load;
      basis = leaves.basis ∙ fresh;
    }

turn_bare : (given : Refresh) (a : HssAgent) (y : Keeper) (view : View) (fails : Bool) (asked : Asked) (now : Moment) (end : TurnEnd) (after : HssAgent) (saving : Option HssKept) → a.view ≡ Some view → IsBare a y
    → Turns hss_signing given (record { agent = a; view = view; now = now; fails = fails }) asked end after saving → IsBare after (asked_to_save y saving)
turn_bare given a y view fails asked now _ _ _ in_view bare (behind late) = bare
turn_bare given a y view fails asked now _ _ _ in_view bare (below timely under) = record { whole = bare.whole; kept = bare.kept; snapshot = bare.snapshot; to_load = refl; basis = refl }
turn_bare given a y view fails asked now _ _ _ in_view bare (answers h written reply after saving timely above same take becomes by_definition) =
    becomes_bare view a y h fails written after saving in_view bare (same ∙ (ap (λ (g : Holding). g.basis) (going_bare a given.basis bare.to_load) ∙ bare.basis)) take becomes

-- so it is where a session has its agent take a turn
pub taking_bare : (now : Moment) (a : HssAgent) (y : Keeper) (view : View) (fails : Bool) (s : Session) (end : TurnEnd) (after : HssAgent) (saving : Option HssKept) (t : Session) → a.view ≡ Some view → IsBare a y
    → TakesHssTurn (record { agent = a; view = view; now = now; fails = fails }) s end after saving t → IsBare after (asked_to_save y saving)
taking_bare now a y view fails s _ _ _ _ in_view bare (turn_answers notes given xid asked reply applied after saving refreshed asks turns) = turn_bare given a y view fails asked now _ after saving in_view bare turns
taking_bare now a y view fails s _ _ _ _ in_view bare (begins_again notes given xid asked end after saving refreshed asks turns refusal few) = turn_bare given a y view fails asked now end after saving in_view bare turns
taking_bare now a y view fails s _ _ _ _ in_view bare (gives_up notes given xid asked end after saving refreshed asks turns refusal many) = turn_bare given a y view fails asked now end after saving in_view bare turns
