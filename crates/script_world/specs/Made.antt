-- What comes of a line that makes a view.
use Rattle.std.specs.Prelude.{◌≡◌, ◌⊎◌, ◌<◌, ◌≤◌, List, ◌++◌, length, true, false}
use Rattle.ivy_base.specs.declared.key.PubKey.{PubKey}
use Rattle.log_model.specs.View.{View, have_own_head_keys, most_members, most_former}
use Rattle.world_model.specs.Logs.{in_key_order}
use Rattle.script_world.specs.declared.made_views.Made.{Made as Given}
use Rattle.script_world.specs.declared.made_views.Made.TheVariants.{Refused, TooMany, View as Viewed}

-- the view of these keys, in ascending order
abbrev pub view_of_keys : List PubKey → List PubKey → View
view_of_keys members former = record { members = in_key_order members; former = in_key_order former }

-- two logs have one head key; or else there are too many; or else it is the view of the keys in order
abbrev pub IsMade : List PubKey → List PubKey → Given → Type 0
IsMade members former Refused = have_own_head_keys (members ++ former) ≡ false
IsMade members former TooMany =
    (have_own_head_keys (members ++ former) ≡ true) × ((most_members < length members) ⊎ (most_former < length former))
IsMade members former (Viewed view) =
    (have_own_head_keys (members ++ former) ≡ true) × (length members ≤ most_members) × (length former ≤ most_former)
    × (view ≡ view_of_keys members former)
