-- What a refresh loads of a snapshot that was made of known records.
use Rattle.std.specs.Prelude.{◌≡◌, ℕ, List, Contains, Some, IfSome}
use Rattle.std.specs.List.{AllByRecursion}
use Rattle.ivy_base.specs.declared.key.Key.{Key}
use Rattle.ivy_base.specs.Naming.{IsCollisionFree}
use Rattle.log_model.specs.View.{View}
use Rattle.log_model.specs.Record.{Record}
use Rattle.turn_model.specs.Basis.{Basis, StandsFor}
use Rattle.snapshot_model.specs.Spelling.{root_name, snapshot_blocks}
use Rattle.snapshot_model.specs.Reading.{IsBasisSpelled}
use Rattle.agent_model.specs.Standing.{Standing, Refresh}
use Rattle.agent_model.specs.Candidates.{StandsWithin}
use Rattle.session_model.specs.Brought.{Brought}
use Rattle.session_model.specs.Refreshing.{Note, RefreshEnd, Loaded, LoadsFor, Refreshes}
use Rattle.session_laws.specs.Bringing.{AreMet}

-- a snapshot's name is that of one made of a closed part of what was known, whose blocks were met
pub record IsSnapshotOf (met : List (List ℕ)) (view : View) (knew : List Record) (root : Key) : Type 0 where
  pub made : Basis
  pub spelled : IsBasisSpelled made
  pub named : root ≡ root_name view made
  pub blocks : AllByRecursion (Contains met) (snapshot_blocks view made)
  pub below : List Record
  pub stands : StandsFor view made below
  pub within : (r : Record) → Contains below r → Contains knew r

-- ---- laws

-- Where no names collide, what is loaded by a snapshot's name is what it was made of.
abbrev pub LoadedIsMade : Type 0
LoadedIsMade = (met : List (List ℕ)) (view : View) (knew : List Record) (root : Key) (snapshot : IsSnapshotOf met view knew root)
    (brought : List Brought) (b : Basis)
    → IsCollisionFree met → AreMet met brought → LoadsFor (Some root) brought (Loaded (Some b)) → b ≡ snapshot.made

-- So a basis that a refresh goes by stands for a part of what was known.
abbrev pub BasisIsKnown : Type 0
BasisIsKnown = (met : List (List ℕ)) (s : Standing) (knew : List Record) (brought : List Brought) (notes : List Note) (given : Refresh)
    (end : RefreshEnd)
    → IsCollisionFree met → AreMet met brought → IfSome s.to_load (IsSnapshotOf met s.view knew) → Refreshes s brought notes given end
    → IfSome given.basis (StandsWithin s.view knew)
