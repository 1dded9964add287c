-- What the program does, by its words.
use Rattle.std.specs.Prelude.{◌≡◌, ◌⊎◌, ◌≤◌, ℕ, List, Option, Some, None, length, take, IfSome}
use Rattle.ivy_io.specs.Causes.{Rose}
use Rattle.ivy_io.specs.Known.{then}
use Rattle.script_driver.specs.Run.{Ran, Ending, Ended, RefusedAt, LimitAt}
use Rattle.script_driver.specs.Told.{TellsAll, TellsFront, TellsLess, StopsShort}
use Rattle.stage_laws.specs.Promise.{PromisedStep}
use Rattle.world_model.specs.Logs.{fresh_signer}
use Rattle.ivy_play.specs.Playing.{initial_world, ivy_runs, IsPlayed, RunsFully}
use Rattle.ivy_play.specs.Status.{status_of}
use Rattle.ivy_service.specs.Service.{Goes, ServiceAsked, ServiceKind}
use Rattle.ivy_service.specs.Service as service
use Rattle.ivy_crowd.specs.Crowds as crowd
use Rattle.ivy_cli.specs.declared.words.Asked.{Asked}
use Rattle.ivy_cli.specs.declared.words.Asked.TheVariants as asked
use Rattle.ivy_cli.specs.declared.words.Participant.{Participant}
use Rattle.ivy_cli.specs.Words.{usage_line}
use Rattle.ivy_cli.specs.Streams.{IsUnread, Streams}
use Rattle.ivy_cli.specs.Loads.{IsLoad}
use Rattle.ivy_cli.specs.Crowds.{IsCrowd}
use Rattle.ivy_cli.specs.Forks.{IsFork}

-- ---- what is outside

-- all that is outside: the source and the sink, the clock, the ports and the keepers
pub record Outside (P Ks C : Type 0) : Type 0 where
  pub streams : Streams
  pub clock : C
  pub ports : P
  pub keepers : Ks

-- the clock, the ports or the keepers stayed as they were: what they hold, where that is known, and their counts
abbrev pub IsUntouched : {S : Type 0} → S → S → Type 0
IsUntouched old new = new ≡ old

-- the ports and the keepers did
pub record AreUntouched {P Ks C : Type 0} (before after : Outside P Ks C) : Type 0 where
  pub ports : IsUntouched before.ports after.ports
  pub keepers : IsUntouched before.keepers after.keepers

-- the clock too
pub record AreAllUntouched {P Ks C : Type 0} (before after : Outside P Ks C) : Type 0 where
  pub clock : IsUntouched before.clock after.clock
  pub others : AreUntouched before after

-- ---- each form

-- the script of the source was played so: the clauses of `play`
pub record IsPlay (status : ℕ) (before after : Streams) : Type 0 where
  pub statuses : (status ≡ 0) ⊎ (status ≡ 3) ⊎ (status ≡ 4) ⊎ (status ≡ 5) ⊎ (status ≡ 6) ⊎ (status ≡ 7)
  pub ended : status ≡ 0 → TellsAll Ended (ivy_runs before.left) before.held after.held
  pub refused : status ≡ 3 → (n : ℕ) × TellsAll (RefusedAt n) (ivy_runs before.left) before.held after.held
  pub limited : status ≡ 7 → (n : ℕ) × TellsAll (LimitAt n) (ivy_runs before.left) before.held after.held
  pub read_fault : status ≡ 4 → Rose before.reads after.reads
  pub write_fault : status ≡ 5 → Rose before.writes after.writes
  pub front : TellsFront (ivy_runs before.left) before.held after.held
  pub less : status ≡ 5 → TellsLess (ivy_runs before.left) before.held after.held
  pub waits : status ≡ 4 → StopsShort PromisedStep initial_world before.left after.left before.held after.held
  pub alike : (ending : Ending) → ((ran : Ran) → ivy_runs before.left ran → ran.ending ≡ ending)
      → ¬ Rose before.reads after.reads → ¬ Rose before.writes after.writes → (status ≡ status_of ending) ⊎ (status ≡ 6)
  pub fully : IfSome before.left RunsFully
  pub complete : IfSome before.left (λ script. ¬ Rose before.reads after.reads → ¬ Rose before.writes after.writes
      → IsPlayed script status before.held after.held)
  pub reads : before.reads ≤ after.reads
  pub writes : before.writes ≤ after.writes

-- the sink was told how the words should be, or its count of faults rose
pub record IsUsage (status : ℕ) (before after : Streams) : Type 0 where
  pub ends : (status ≡ 2) ⊎ (status ≡ 6)
  pub told : status ≡ 2 → (after.held ≡ then before.held usage_line) ⊎ Rose before.writes after.writes
  pub front : (k : ℕ) × (k ≤ length usage_line) × (after.held ≡ then before.held (take k usage_line))
  pub writes : before.writes ≤ after.writes

-- the participant's service on that port: the key grows from its identifier, seed and sets, and signed nothing yet
abbrev pub service_asked : ℕ → Participant → ServiceAsked
service_asked port participant =
    record { port = port; name = participant.name; signer = fresh_signer participant.id participant.seed participant.sets }

module _ {P Ks K Q W C : Type 0} (kind : ServiceKind P Ks K Q W C) where
  -- what a service touches of what is outside
  abbrev pub serves_over : Outside P Ks C → service.Outside P Ks C
  serves_over outside = record {
    around = record { ports = outside.ports; held = outside.streams.held; writes = outside.streams.writes };
    keepers = outside.keepers;
    clock = outside.clock;
  }

  -- the crowd that is asked for, whose clock is this one
  abbrev pub crowd_asked : ℕ → ℕ → C → C → crowd.Asked C
  crowd_asked threads calls before after =
      record { threads = threads; calls = calls; gives = kind.serving.moments; moment = kind.moment; before = before; after = after }

  -- ---- all forms

  -- What comes of what the words ask for. A service for whose words or key memory ran out is one that got no keeper for that reason.
  unfoldable pub Does : Option Asked → ℕ → Outside P Ks C → Outside P Ks C → Type 0
  Does (Some asked.Play) status before after = IsPlay status before.streams after.streams × AreAllUntouched before after
  Does (Some (asked.Load seed calls)) status before after =
      IsUnread before.streams after.streams
      × IsLoad seed calls status before.streams.held after.streams.held before.streams.writes after.streams.writes
      × AreAllUntouched before after
  Does (Some (asked.Crowd threads calls)) status before after =
      IsUnread before.streams after.streams
      × IsCrowd (crowd_asked threads calls before.clock after.clock) status before.streams.held after.streams.held before.streams.writes
      after.streams.writes
      × AreUntouched before after
  Does (Some (asked.Serve port participant)) status before after =
      IsUnread before.streams after.streams × Goes kind (service_asked port participant) (serves_over before) status (serves_over after)
  Does (Some asked.Fork) status before after = IsFork status before.streams after.streams × AreAllUntouched before after
  Does None status before after = IsUnread before.streams after.streams × IsUsage status before.streams after.streams
      × AreAllUntouched before after

-- a crowd or a service ended with 0, or because memory ran out
abbrev pub EndsWell : Option Asked → ℕ → Type 0
EndsWell (Some (asked.Crowd threads calls)) status = (status ≡ 0) ⊎ (status ≡ 6)
EndsWell (Some (asked.Serve port participant)) status = (status ≡ 0) ⊎ (status ≡ 6)
EndsWell _ status = Unit {0}
