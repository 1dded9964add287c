-- Blocks that were read, with those below each and those beside it.
use Rattle.std.specs.Prelude.{◌≡◌, ℕ, zero, suc, ◌≤◌, List, [], ◌∷◌, ◌++◌, length}
use Rattle.ivy_base.specs.declared.key.Key.{Key}
use Rattle.ivy_base.specs.Naming.{name}
use Rattle.snapshot_model.specs.Spelling.{Made, over}
use Rattle.snapshot_model.specs.Reading.{SnapshotPart, NamesParts}

pub data Forest : Type 0 where
  nothing : Forest
  block : (part : SnapshotPart) (bytes : List ℕ) (below beside : Forest) → Forest

-- in the order in which they are read
abbrev pub flat : Forest → List (SnapshotPart × List ℕ)
flat nothing = []
flat (block part bytes below beside) = (part, bytes) ∷ flat below ++ flat beside

-- what those beside one another are to be, and their names
abbrev pub named_in : Forest → List (SnapshotPart × Key)
named_in nothing = []
named_in (block part bytes below beside) = (part, name bytes) ∷ named_in beside

-- those beside one another, as blocks that are made
abbrev pub mades : Forest → List Made
mades nothing = []
mades (block part bytes below beside) = over bytes (mades below) ∷ mades beside

-- each block is such a part, and names those below it
abbrev pub Fits : Forest → Type 0
Fits nothing = Unit {0}
Fits (block part bytes below beside) = NamesParts part bytes (named_in below) × Fits below × Fits beside

-- ---- lists

-- first these, then those
abbrev pub joined : Forest → Forest → Forest
joined nothing others = others
joined (block part bytes below beside) others = block part bytes below (joined beside others)

-- all that are below these blocks
abbrev pub children : Forest → Forest
children nothing = nothing
children (block part bytes below beside) = joined below (children beside)

-- and so many levels below
abbrev pub below_by : ℕ → Forest → Forest
below_by zero f = f
below_by (suc level) f = below_by level (children f)

-- what is below each
abbrev pub groups : Forest → List (List Made)
groups nothing = []
groups (block part bytes below beside) = mades below ∷ groups beside

-- all have so many but the last, which has some and no more
abbrev pub AreFull : {A : Type 0} → ℕ → List (List A) → Type 0
AreFull size [] = Unit {0}
AreFull size (xs ∷ []) = (1 ≤ length xs) × (length xs ≤ size)
AreFull size (xs ∷ ys ∷ others) = (length xs ≡ size) × AreFull size (ys ∷ others)

-- on each of so many levels
abbrev pub IsEven : ℕ → Forest → Type 0
IsEven zero f = Unit {0}
IsEven (suc level) f = AreFull 512 (groups f) × IsEven level (children f)

-- with a level less one block wouldn't be enough
abbrev pub IsLeast : ℕ → Forest → Type 0
IsLeast zero f = Unit {0}
IsLeast (suc zero) f = Unit {0}
IsLeast (suc (suc level)) f = 2 ≤ length (mades (children f))
