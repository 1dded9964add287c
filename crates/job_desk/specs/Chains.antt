-- Jobs that a desk gave, and what was done of them.
use Rattle.std.specs.Prelude.{◌≡◌, ◌+◌, ℕ, List, [], ◌∷◌, ◌++◌, Option, Some, None, Result, Ok, Err, IsPermutation}
use Rattle.std.specs.List.{AllZip}

-- one job more is out where one was given
abbrev pub CountsOut : {J F : Type 0} → ℕ → ℕ → Result (Option J) F → Type 0
CountsOut old new (Ok (Some job)) = new ≡ old + 1
CountsOut old new _ = new ≡ old

-- A kind of desks: which job one may give, or none; why it may fail; how it takes back what was done; and what serving a job may give.
pub record DeskKind (D J R F : Type 0) : Type 1 where
  pub gives : D → Option J → D → Type 0
  pub refuses : D → F → D → Type 0
  pub takes : D → R → D → Type 0
  pub serves : J → R → Type 0

abbrev pub kind_of : {D J R F : Type 0} → (D → Option J → D → Type 0) → (D → F → D → Type 0) → (D → R → D → Type 0)
    → (J → R → Type 0) → DeskKind D J R F
kind_of gives refuses takes serves = record { gives = gives; refuses = refuses; takes = takes; serves = serves }

-- What a desk did: the jobs that it gave, what it took back, and how it stopped, in order each.
pub record Execution (J R F : Type 0) : Type 0 where
  pub given : List J
  pub taken : List R
  pub stops : List (Result Unit F)

-- nothing yet
abbrev pub no_execution : {J R F : Type 0} → Execution J R F
no_execution = record { given = []; taken = []; stops = [] }

module _ {D J R F : Type 0} (kind : DeskKind D J R F) where
  -- the desk stops: it has no further job, or it fails
  abbrev pub Stops : D → Result Unit F → D → Type 0
  Stops before (Ok _) now = kind.gives before None now
  Stops before (Err fault) now = kind.refuses before fault now

  -- The desk went from one state to another by exactly these calls.
  pub data Went (before : D) : Execution J R F → D → Type 0 where
    begun : Went before no_execution before
    gave : {c : Execution J R F} {d e : D} (j : J) → Went before c d → kind.gives d (Some j) e
        → Went before (record c { given = c.given ++ j ∷ [] }) e
    took : {c : Execution J R F} {d e : D} (r : R) → Went before c d → kind.takes d r e
        → Went before (record c { taken = c.taken ++ r ∷ [] }) e
    stopped : {c : Execution J R F} {d e : D} (why : Result Unit F) → Went before c d → Stops d why e
        → Went before (record c { stops = c.stops ++ why ∷ [] }) e

  -- Of the jobs that the desk gave, each came back once, with what serving it may give, but for those that are out.
  pub record CameBack (before now : D) (out : List J) (stops : List (Result Unit F)) : Type 0 where
    pub jobs : List J
    -- those that came back, in the order in which they did
    pub came : List J
    -- what was done of each of these
    pub done : List R
    pub went : Went before (record { given = jobs; taken = done; stops = stops }) now
    pub each_once : IsPermutation jobs (came ++ out)
    pub served : AllZip kind.serves came done

  -- whatever was so of the jobs that were out is so of those that are left
  abbrev pub GoesOn : D → List J → D → List J → Type 0
  GoesOn was out now left =
      (before : D) (stops : List (Result Unit F)) → CameBack before was out stops → CameBack before now left stops
