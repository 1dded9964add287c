-- Entering a view: which views are refused, what is to be saved, and what becomes of the agent.
use Rattle.std.specs.Prelude.{Bool, false, ◌&&◌, ◌||◌, not, Option, Some, None, option_map, find, if◌then◌else◌}
use Rattle.std.specs.Option.{option_map_or}
use Rattle.std.specs.List.{list_any}
use Rattle.std.specs.Ordering.{eq_by_cmp}
use Rattle.ivy_base.specs.declared.key.Key.{Key}
use Rattle.ivy_base.specs.Naming.{owner_cmp}
use Rattle.log_model.specs.View.{View, is_member, is_former, is_named}
use Rattle.log_model.specs.Signing.{Signing}
use Rattle.agent_model.specs.Agent.{Agent, Kept, own, kept_of, entered, failed}

-- how entering a view ends
pub data Entering (S : Type 0) : Type 0 where
  Entered : (after : Agent S) → Entering S
  NotMember : Entering S
  NotNamed : (log : Key) → Entering S
  KeeperFailed : (after : Agent S) → Entering S

abbrev pub was_former : Option View → Key → Bool
was_former before log = option_map_or (λ view. is_former view log) before false

-- the view can't take in what the floor says of the log: it doesn't name it, or counts as a member's what was a number only
abbrev pub is_refused_in : Option View → View → Key → Bool
is_refused_in before view log = not (is_named view log) || (is_member view log && was_former before log)

-- the least such log of the floor
abbrev pub not_named : {S : Type 0} → Agent S → View → Option Key
not_named a view = option_map (λ e. e.0) (find (λ e. is_refused_in a.view view e.0) a.floor)

-- What comes of it, by whether a save would fail, and what is to be saved. Where an earlier save failed no further one is tried; after a
-- save that fails the agent stays in its view.
abbrev pub entering_with : {S : Type 0} → Agent S → View → Bool → Option Key → Entering S × Option (Kept S)
entering_with a view fails (Some log) = (NotNamed log, None)
entering_with a view fails None =
    if a.has_failed then (KeeperFailed a, None)
    else (if fails then KeeperFailed (failed a) else Entered (entered a view), Some (kept_of (entered a view)))

module _ {S : Type 0} (signs : Signing S) where
  abbrev pub is_own_member : Agent S → View → Bool
  is_own_member a view = list_any (eq_by_cmp owner_cmp (own signs a)) view.members

  abbrev pub entering : Agent S → View → Bool → Entering S × Option (Kept S)
  entering a view fails = if is_own_member a view then entering_with a view fails (not_named a view) else (NotMember, None)
