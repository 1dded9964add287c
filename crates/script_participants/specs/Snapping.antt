-- A participant that makes a snapshot.
use Rattle.std.specs.Prelude.{◌≡◌, Bool, true, false, Option, Some, None, IfSome}
use Rattle.ivy_base.specs.declared.key.Key.{Key}
use Rattle.log_model.specs.View.{View}
use Rattle.snapshot_model.specs.Spelling.{root_name, snapshot_blocks}
use Rattle.agent_model.specs.Others.{basis_of, snapping}
use Rattle.world_model.specs.Agents.{HssAgent, IsHssKept, HssKept}
use Rattle.world_model.specs.Keepers.{asked_to_save, fails_next}
use Rattle.script_participants.specs.ParticipantState.{ParticipantState}

-- the root of the snapshot of all that it holds
abbrev pub root_in : ParticipantState → View → Key
root_in p view = root_name view (basis_of p.agent.holding)

-- what its agent comes to: a save fails exactly where its keeper plans it
abbrev pub snapping_of : ParticipantState → View → (HssAgent × Bool) × Option HssKept
snapping_of p view = snapping p.agent (root_in p view) (snapshot_blocks view (basis_of p.agent.holding)) (fails_next p.keeper)

-- its keeper was asked to save, where it was
abbrev pub tried : ParticipantState → View → ParticipantState
tried p view = record p { agent = (snapping_of p view).0.0; keeper = asked_to_save p.keeper (snapping_of p view).1 }

-- How it ends, and the participant then: what is saved may be; the root counts as printed where there is a snapshot.
abbrev pub HasSnapped : View → ParticipantState → Option Key → ParticipantState → Type 0
HasSnapped view before (Some root) after =
    ((snapping_of before view).0.1 ≡ true) × (root ≡ root_in before view) × IfSome (snapping_of before view).1 IsHssKept
    × (after ≡ record (tried before view) { printed = Some root })
HasSnapped view before None after =
    ((snapping_of before view).0.1 ≡ false) × IfSome (snapping_of before view).1 IsHssKept × (after ≡ tried before view)
