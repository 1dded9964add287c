-- A view that a line makes, and that comes after the others.
use Rattle.std.specs.Prelude.{◌≡◌, ℕ, List, [], Option, Some}
use Rattle.ivy_base.specs.declared.key.Key.{Key}
use Rattle.log_model.specs.View.{View, view_block, view_name}
use Rattle.dht_ids.specs.declared.ask.Ask.TheVariants as ask
use Rattle.dht_ids.specs.declared.judge.Judged.{Judged}
use Rattle.script_driver.specs.Run.{Goes, Refuses, Exceeds}
use Rattle.script_world.specs.declared.made_views.Made.{Made}
use Rattle.script_world.specs.declared.made_views.Made.TheVariants as made
use Rattle.world_model.specs.Fates.{Puts}
use Rattle.world_model.specs.Logs.{Played, ViewLine, keys_of, with_view}
use Rattle.world_model.specs.World.{World}
use Rattle.script_world.specs.PartsState.{GoesOn, HasParts, PartsState}

-- in each world that has the parts before, its block is put once it stands there and is met, and the world then has the parts after
abbrev pub PutsView : (Key → List ℕ → Option Judged) → ℕ → List ℕ → View → PartsState → PartsState → Type 0
PutsView judged r name view before after =
    (w : World) → HasParts w before → (next : World)
    × Puts judged (with_view w name view) r (view_name view) (ask.PutBlock (view_name view) (view_block view)) next
    × GoesOn w after next

-- in each world that has the parts before, the line is refused, or meets the limit, or goes on once that view is put
abbrev pub MakesOf : List ℕ → List (List ℕ) → List (List ℕ) → PartsState → Made → Type 0
MakesOf name members former before made.Refused =
    (w : Played) → HasParts w.0 before → (judged : Key → List ℕ → Option Judged)
    → ViewLine judged w name (keys_of w.0 members) (keys_of w.0 former) Refuses
MakesOf name members former before made.TooMany =
    (w : Played) → HasParts w.0 before → (judged : Key → List ℕ → Option Judged)
    → ViewLine judged w name (keys_of w.0 members) (keys_of w.0 former) Exceeds
MakesOf name members former before (made.View view) =
    (w : Played) → HasParts w.0 before → (judged : Key → List ℕ → Option Judged) (r : ℕ) (after : PartsState) (output : List ℕ)
    → before.replicas ≡ Some r → PutsView judged r name view before after → output ≡ []
    → (next : Played) × ViewLine judged w name (keys_of w.0 members) (keys_of w.0 former) (Goes next output) × GoesOn w.0 after next.0
