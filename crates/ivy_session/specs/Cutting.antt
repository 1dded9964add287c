-- Where a session's publishing is cut: memory ran out for it, and posts are left.
use Rattle.std.specs.Prelude.{◌≡◌, Bool, true, false, ◌||◌, ◌&&◌, Result, is_ok}
use Rattle.log_fetch.specs.declared.turned.Turned.{Turned}
use Rattle.log_fetch.specs.declared.turned.TurnFault.{TurnFault}
use Rattle.ivy_session.specs.declared.session.Next.{Next}
use Rattle.ivy_session.specs.declared.session.Next.TheVariants as next
use Rattle.ivy_session.specs.declared.session.Stage.{Stage}
use Rattle.ivy_session.specs.declared.session.Stage.TheVariants as stage
use Rattle.ivy_session.specs.States.{SessionState}
use Rattle.ivy_session.specs.InPlace.{is_publishing}

-- this is to be told, and nothing else is left to do
abbrev pub is_over : {J : Type 0} → Stage J → Bool
is_over (stage.Refreshing c r) = false
is_over (stage.Turning c) = false
is_over (stage.Publishing told p) = false
is_over (stage.Over told) = true
is_over stage.Told = false

-- nothing more is wanted
abbrev pub is_done : Next → Bool
is_done (next.Ask node question) = false
is_done (next.Turn refresh) = false
is_done (next.Settle acks) = false
is_done (next.Done told) = true

module _ {J : Type 0} (old new : SessionState J) where
  -- It was cut before; or it published, and is done without a settling.
  abbrev pub IsCutAsWanted : Next → Type 0
  IsCutAsWanted wanted = new.is_cut ≡ (old.is_cut || (is_publishing old.stage && is_done wanted))

  -- It was cut before; or it published, and is over with what it heard.
  abbrev pub IsCutAsHeard : Type 0
  IsCutAsHeard = new.is_cut ≡ (old.is_cut || (is_publishing old.stage && is_over new.stage))

  -- It was cut before; or its turn was answered, and it is over without publishing.
  abbrev pub IsCutAsTurned : Result Turned TurnFault → Type 0
  IsCutAsTurned turned = new.is_cut ≡ (old.is_cut || (is_ok turned && is_over new.stage))
