-- The names of a chain's records, by their numbers.
use Rattle.std.specs.Prelude.{◌≡◌, ℕ, ◌+◌, ◌==◌, List, [], ◌∷◌, map, find, Option, option_map, Contains}
use Rattle.std.specs.List.{AllByRecursion}
use Rattle.ivy_base.specs.declared.key.Key.{Key}
use Rattle.ivy_base.specs.Naming.{head_key_of}
use Rattle.log_model.specs.Record.{Record}
use Rattle.log_model.specs.Fetched.{owner_of}
use Rattle.turn_taking.specs.declared.names.Names.{Names}
use Rattle.agent_model.specs.Turning.{AreNext}

-- the name of the record of that number, where there is one
abbrev pub name_of : List Record → ℕ → Option Key
name_of records number = option_map (λ r. r.name) (find (λ r. r.seq == number) records)

-- these are the names of that chain's records
pub record AreNamesOf (n : Names) (chain : List Record) : Type 0 where
  pub owner : n.owner ≡ owner_of chain
  pub log : n.log ≡ head_key_of n.owner
  pub first : (before : ℕ) × (n.first ≡ before + 1) × AreNext before chain
  pub names : n.names.items ≡ map (λ r. r.name) chain

-- of each chain
abbrev pub AllNamesOf : List Names → List (List Record) → Type 0
AllNamesOf [] [] = Unit {0}
AllNamesOf [] (c ∷ cs) = ⊥
AllNamesOf (n ∷ ns) [] = ⊥
AllNamesOf (n ∷ ns) (c ∷ cs) = AreNamesOf n c × AllNamesOf ns cs

-- the names have the record's, under its owner
pub record HasNameOf (all : List Names) (r : Record) : Type 0 where
  pub some : (names : Names) × Contains all names × (names.owner ≡ r.owner)
  pub each : AllByRecursion (λ names. names.owner ≡ r.owner
      → (names.log ≡ head_key_of r.owner) × (records : List Record) × AreNamesOf names records × Contains records r) all
