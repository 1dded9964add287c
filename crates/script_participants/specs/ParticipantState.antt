-- Who writes logs in a script, as contracts see them, and the worlds whose participants they are.
use Rattle.std.specs.Prelude.{◌≡◌, ℕ, false, List, [], ◌∷◌, map, fold, Option}
use Rattle.std.specs.List.{AllByRecursion}
use Rattle.std.specs.Str.{bytes_eq}
use Rattle.ivy_base.specs.declared.key.Key.{Key}
use Rattle.session_model.specs.Sessions.{Cache}
use Rattle.world_model.specs.Agents.{HssAgent}
use Rattle.world_model.specs.Keepers.{Keeper}
use Rattle.world_model.specs.Steps.{made_by, with_made}
use Rattle.world_model.specs.World.{World, Participant}

-- a participant of the definitions without the heads that left it
pub record ParticipantState : Type 0 where
  pub name : List ℕ
  pub agent : HssAgent
  pub keeper : Keeper
  pub cache : Cache
  pub made : List (ℕ × Key)
  pub printed : Option Key
  pub work : ℕ

abbrev pub state_of : Participant → ParticipantState
state_of p = record {
  name = p.name;
  agent = p.agent;
  keeper = p.keeper;
  cache = p.cache;
  made = p.made;
  printed = p.printed;
  work = p.work;
}

-- the world has these participants, in this order
abbrev pub HasParticipants : World → List ParticipantState → Type 0
HasParticipants w ps = map state_of w.participants ≡ ps

-- no two have one name
abbrev pub AreNamedApart : List ParticipantState → Type 0
AreNamedApart [] = Unit {0}
AreNamedApart (p ∷ ps) = AllByRecursion (λ q. bytes_eq q.name p.name ≡ false) ps × AreNamedApart ps

-- the records that its agent has to publish count as made
abbrev pub counting : ParticipantState → ParticipantState
counting p = record p { made = fold with_made p.made (made_by p.agent.pending) }
