-- What a turn takes of chains, where what is held goes as far as what the refresh began with.
use Rattle.std.specs.Prelude.{◌≡◌, Bool, true, false, List, fold, map}
use Rattle.std.specs.List.{AllByRecursion, list_any, list_all}
use Rattle.ivy_base.specs.Naming.{head_key_of}
use Rattle.log_model.specs.Record.{Record}
use Rattle.log_model.specs.Rank.{full_vector}
use Rattle.log_model.specs.Vector.{Vector, join}
use Rattle.log_model.specs.Fetched.{owner_of}
use Rattle.log_records.specs.Records.{records_of}
use Rattle.causal_order.specs.Available.{BeginsBy, IsNewPart, held_to}
use Rattle.agent_model.specs.Turning.{lacks}
use Rattle.turn_taking.specs.Chains.{all_within, is_over, new_of}
use Rattle.turn_taking.specs.declared.taking.Held.{Held}
use Rattle.turn_taking.specs.declared.taking.Taken.{Taken}
use Rattle.turn_taking.specs.declared.taking.Taken.TheVariants as taken

-- of these records, which are new, some member's floor record is missing
abbrev pub lacks_one : Held → List Record → Bool
lacks_one held new = list_any (λ owner. lacks held.floor.now held.front.now new (head_key_of owner)) held.view.now.members

-- each is above the basis
abbrev pub are_above : Held → List Record → Bool
are_above held new = list_all (is_over held.base.now) new

-- each chain begins next after what is held, or before
abbrev pub AreNear : Held → List (List Record) → Type 0
AreNear held chains = AllByRecursion (λ c. BeginsBy (held_to held.base.now (records_of held.records.now) (owner_of c)) c) chains

-- these are the new records that are taken of the chains, and the vector is what is held joined with them
pub record AreTaken (held : Held) (chains : List (List Record)) (new : List Record) (front : Vector) : Type 0 where
  pub part : IsNewPart held.view.now held.base.now (records_of held.records.now) chains new
  pub joined : front ≡ fold join held.front.now (map full_vector new)

-- what is taken of chains within the floor
abbrev pub TakesWithin : Held → List (List Record) → Taken → Type 0
TakesWithin held chains taken.Behind = lacks_one held (new_of held.front.now chains) ≡ true
TakesWithin held chains taken.BelowTide =
    (lacks_one held (new_of held.front.now chains) ≡ false) × (are_above held (new_of held.front.now chains) ≡ false)
TakesWithin held chains (taken.New records front) =
    (lacks_one held (new_of held.front.now chains) ≡ false) × (are_above held (new_of held.front.now chains) ≡ true)
    × AreTaken held chains (records_of records.items) front

-- what is taken of any
abbrev pub TakesOf : Held → List (List Record) → Taken → Type 0
TakesOf held chains t = TakesWithin held (all_within held.own.now held.floor.now chains) t
