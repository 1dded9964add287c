-- A refresh goes on, whatever comes of what it wants.
use Rattle.std.specs.Prelude.{◌≡◌, ◌⊎◌, ℕ, List, [], ◌∷◌, ◌++◌, Err, IfSome}
use Rattle.dhash_model.specs.declared.miss.Miss.{Miss}
use Rattle.turn_model.specs.Basis.{Basis}
use Rattle.snapshot_model.specs.Reading.{AreOf, NamesParts, SnapshotPart}
use Rattle.ivy_base.specs.declared.key.Key.{Key}
use Rattle.agent_model.specs.Standing.{Standing, Refresh}
use Rattle.session_model.specs.Brought.{Brought, HeadsOf, BlockOf, WantedOfRing, Heads, Content}
use Rattle.session_model.specs.Refreshing.{Note, RefreshEnd, Refreshes, Needs, FailsBy}

-- it is what came of that want, or why nothing did
abbrev pub IsOfWant : WantedOfRing → Brought → Type 0
IsOfWant (Heads owner) (HeadsOf log came) = log ≡ owner
IsOfWant (Content key) (BlockOf name came) = name ≡ key
IsOfWant _ _ = ⊥

-- nothing came, for that reason
abbrev pub IsMissed : Miss → Brought → Type 0
IsMissed miss (HeadsOf owner (Err other)) = other ≡ miss
IsMissed miss (BlockOf key (Err other)) = other ≡ miss
IsMissed miss _ = ⊥

-- what a refresh has come to with what was brought
pub record ComesTo (s : Standing) (brought : List Brought) : Type 0 where
  pub notes : List Note
  pub given : Refresh
  pub end : RefreshEnd
  pub refreshes : Refreshes s brought notes given end

-- Of any bytes it is known whether they are a part of a snapshot, and of any blocks whether they are a whole one.
pub record SnapshotsAreDecided : Type 0 where
  pub parts : (part : SnapshotPart) (block : List ℕ)
      → ((named : List (SnapshotPart × Key)) × NamesParts part block named)
      ⊎ ((named : List (SnapshotPart × Key)) → NamesParts part block named → ⊥)
  pub wholes : (blocks : List (List ℕ)) → ((b : Basis) × AreOf blocks b) ⊎ ((b : Basis) → AreOf blocks b → ⊥)

-- ---- laws

-- a refresh that was brought nothing has come to something
abbrev pub RefreshBegins : Type 0
RefreshBegins = (s : Standing) → ComesTo s []

-- Whatever came of what is wanted, the refresh goes on. That a snapshot is one can be told is premised where there is one to load; nothing
-- else is.
abbrev pub RefreshGoesOn : Type 0
RefreshGoesOn = (s : Standing) (brought : List Brought) (notes : List Note) (given : Refresh) (want : WantedOfRing) (came : Brought)
    → IfSome s.to_load (λ root. SnapshotsAreDecided)
    → Refreshes s brought notes given (Needs want) → IsOfWant want came → ComesTo s (brought ++ came ∷ [])

-- A refresh that has failed was brought nothing last, for that reason.
abbrev pub FailsByTheLast : Type 0
FailsByTheLast = (s : Standing) (brought : List Brought) (notes : List Note) (given : Refresh) (miss : Miss)
    → Refreshes s brought notes given (FailsBy miss)
    → (before : List Brought) × (last : Brought) × (brought ≡ before ++ last ∷ []) × IsMissed miss last
