-- The names of a list's blocks that no list block names yet.
use Rattle.std.specs.Prelude.{◌≡◌, ℕ, ◌+◌, ◌*◌, ◌<◌, ◌≤◌, List, [], ◌∷◌, ◌++◌, length, map, flat_map, Option, Some, None}
use Rattle.std.specs.List.{AllByRecursion}
use Rattle.ivy_base.specs.declared.key.Key.{Key}
use Rattle.ivy_base.specs.Naming.{name}
use Rattle.log_model.specs.Spelling.{no_name}
use Rattle.snapshot_model.specs.Blocks.{NamedList, list_block}
use Rattle.snapshot_model.specs.Spelling.{Made, list_made, made_name, with_block}
use Rattle.snapshot_blocks.specs.declared.listed.Listed as listed
use Rattle.snapshot_store.specs.declared.levels.Levels.{Levels}
use Rattle.snapshot_store.specs.Puts.{PutsList, put_all}

-- ---- one level

-- the list block over these names was put, and has that name
pub record Closes (level : ℕ) (names : List Key) (before after : List (List ℕ)) (key : Key) : Type 0 where
  pub blocks : after ≡ with_block before (list_block level names)
  pub named : key ≡ name (list_block level names)

-- a name waits after the others, or, where there are 512 then, the list block over all was put and none waits
abbrev pub Appends : ℕ → List Key → List (List ℕ) → List Key → List (List ℕ) → Option Key → Type 0
Appends level names before waiting after None = (waiting ≡ names) × (length names < 512) × (after ≡ before)
Appends level names before waiting after (Some key) = (waiting ≡ []) × (length names ≡ 512) × Closes level names before after key

-- names that wait, if any, were taken into a list block, whose name waits a level above
abbrev pub ClosesRest : ℕ → List Key → List Key → List (List ℕ) → List Key → List (List ℕ) → Type 0
ClosesRest level [] above before above_then after = (above_then ≡ above) × (after ≡ before)
ClosesRest level (n ∷ ns) above before above_then after =
    (above_then ≡ above ++ name (list_block level (n ∷ ns)) ∷ []) × (after ≡ with_block before (list_block level (n ∷ ns)))

-- ---- all levels

-- of the two lower levels fewer names wait than a list block has
pub record HasRoom (l : Levels) : Type 0 where
  pub firsts : length l.firsts.items < 512
  pub seconds : length l.seconds.items < 512

-- no names wait but that of one list block of level 1, or none
abbrev pub HasOneList : Levels → Type 0
HasOneList l = (l.thirds.items ≡ []) × (length l.seconds.items ≤ 1)

-- pieces of 512
abbrev pub AreFull : {A : Type 0} → List (List A) → Type 0
AreFull {A} pieces = AllByRecursion (λ (p : List A). length p ≡ 512) pieces

-- the things, and what is left of them after full pieces
pub record IsCut {A : Type 0} (things : List A) (pieces : List (List A)) (left : List A) : Type 0 where
  pub whole : things ≡ flat_map (λ p. p) pieces ++ left
  pub full : AreFull pieces

-- Of a list over these items all list blocks were put that are full, and the names of the other blocks wait.
pub record IsOver (before : List (List ℕ)) (items : List Made) (after : List (List ℕ)) (l : Levels) : Type 0 where
  pub lowest : List (List Made)
  pub firsts : List Made
  pub middle : List (List Made)
  pub seconds : List Made
  pub items_cut : IsCut items lowest firsts
  pub lists_cut : IsCut (map (list_made 1) lowest) middle seconds
  pub firsts_wait : l.firsts.items ≡ map made_name firsts
  pub seconds_wait : l.seconds.items ≡ map made_name seconds
  pub thirds_wait : l.thirds.items ≡ map made_name (map (list_made 2) middle)
  pub few_firsts : length firsts < 512
  pub few_seconds : length seconds < 512
  pub blocks : after ≡ put_all before (map (list_made 2) middle ++ seconds ++ firsts)

-- whatever items the list was over, it is over one more now, which was put last before
abbrev pub TakesIn : Key → Levels → List (List ℕ) → Levels → List (List ℕ) → Type 0
TakesIn item l now m after =
    (before between : List (List ℕ)) (items : List Made) (one : Made) → IsOver before items between l → now ≡ put_all between (one ∷ [])
    → item ≡ made_name one
    → IsOver before (items ++ one ∷ []) after m

-- whatever items the list was over, it was put, and is named so
abbrev pub Finishes : Levels → List (List ℕ) → List (List ℕ) → listed.Listed → Type 0
Finishes l now after made = (before : List (List ℕ)) (items : List Made) → IsOver before items now l → PutsList before items after made

-- the list whose topmost block has the first of these names
abbrev pub top_listed : ℕ → List Key → NamedList
top_listed level [] = record { level = 0; top = no_name }
top_listed level (n ∷ ns) = record { level = level; top = n }
