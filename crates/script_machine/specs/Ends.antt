-- How a participant's session in code ends; lines that show nothing, and which sessions they leave open.
use Rattle.std.specs.Prelude.{◌≡◌, ℕ, Bool, true, false, not, List, [], ◌∷◌, filter, Some, if◌then◌else◌}
use Rattle.std.specs.Str.{bytes_eq}
use Rattle.dhash_model.specs.Signed.{hss_judged}
use Rattle.script_driver.specs.declared.machine.Taken.{Taken}
use Rattle.script_driver.specs.declared.machine.Taken.TheVariants as taken
use Rattle.session_model.specs.Sessions.{Over, Said}
use Rattle.script_world.specs.CallsState.{CallState}
use Rattle.world_model.specs.Calls.{replied, shown_end}
use Rattle.world_model.specs.Steps.{RunsOut, Configuration}
use Rattle.world_model.specs.World.{NamedSession}
use Rattle.world_laws.specs.Invariant.{IsInHand}
use Rattle.script_world.specs.PartsState.{GoesOn, PartsState}
use Rattle.script_world.specs.Running.{IsConfigurationIn}
use Rattle.script_machine.specs.WorldState.{OpenState}

-- All steps up to the end of a session in hand lead to a configuration that has said something, which is shown. The world has these parts
-- once that counts for later lines, whichever sessions are open then.
pub record IsEnd (after : PartsState) (text : List ℕ) (name : List ℕ) (c : Configuration) (r : ℕ) : Type 0 where
  pub end : Configuration
  pub said : Said
  pub runs : RunsOut hss_judged r name c end
  pub over : end.session.stage ≡ Over (Some said)
  pub shown : text ≡ shown_end end.session said
  pub sessions : end.world.sessions ≡ c.world.sessions
  pub ring : end.world.replicas ≡ c.world.replicas
  pub counts : (others : List NamedSession)
      → GoesOn (record end.world { sessions = others }) after (replied (record end.world { sessions = others }) said)

-- so from each configuration that the code has
abbrev pub EndsIn : List ℕ → PartsState → CallState → PartsState → List ℕ → Type 0
EndsIn name before call after text =
    (c : Configuration) (r : ℕ) → IsConfigurationIn before name call c r → IsInHand c r → IsEnd after text name c r

abbrev pub is_nothing : List ℕ → Bool
is_nothing [] = true
is_nothing (byte ∷ bytes) = false

-- the line goes on, and shows nothing
abbrev pub shows_nothing : Taken → Bool
shows_nothing (taken.Went text) = is_nothing text.items
shows_nothing taken.Ended = false
shows_nothing taken.Refused = false
shows_nothing taken.Exceeded = false

-- what a line of a participant leaves of the open sessions: where it goes on and shows nothing, that participant's are gone
abbrev pub left_open : List ℕ → Taken → List OpenState → List OpenState
left_open log how sessions = if shows_nothing how then filter (λ o. not (bytes_eq o.by log)) sessions else sessions
