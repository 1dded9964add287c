-- Rings: what each node knows of the others, and how much of it is right.
-- A ring is the list of its live members, ascending by place, a test of who lives, and what each node knows.
use Rattle.std.specs.Prelude.{◌≡◌, ℕ, ◌+◌, ◌*◌, ◌%◌, ◌^◌, ◌<◌, ◌≤◌, Bool, true, List, length, get_or, take, filter, Option, Some, ◌⊎◌}
use Rattle.ring_model.specs.Members.{IsAmong, HasAscendingPlaces, following, from_place, first}

-- what a node knows of others: the list of the next members, the predecessor and the fingers (Chord: the successor
-- list, the predecessor and the finger table)
pub record Links (A : Type 0) : Type 0 where
  pub list : List A
  pub before : Option A
  pub fingers : List A

module _ {A : Type 0} (place : A → ℕ) where
  -- the list of a live node: its live entries are the next live members without a gap; they are at least r or all others; and where the
  -- list is full they are at least r
  pub record IsCovered (r : ℕ) (live : List A) (lives : A → Bool) (n : A) (list : List A) : Type 0 where
    pub next : filter lives list ≡ take (length (filter lives list)) (following place live n)
    pub enough : (r ≤ length (filter lives list)) ⊎ (length (following place live n) ≤ length (filter lives list))
    pub full : 2 * r ≤ length list → r ≤ length (filter lives list)

  -- each live node is covered
  pub record IsCoveredRing (r : ℕ) (live : List A) (lives : A → Bool) (ring : A → Links A) : Type 0 where
    pub positive : 1 ≤ r
    pub ascending : HasAscendingPlaces place live
    pub living : (m : A) → lives m ≡ true → IsAmong m live
    pub lives_all : (m : A) → IsAmong m live → lives m ≡ true
    pub covered : (m : A) → IsAmong m live → IsCovered r live lives m (ring m).list

  -- where n's finger of that index, from 0, begins (Chord, SIGCOMM 2001, section 4.3: n + 2^(k-1) for the finger k, from 1)
  abbrev pub start : ℕ → A → ℕ → ℕ
  start bits n k = (place n + 2 ^ k) % 2 ^ bits

  -- n's finger of that index is the first member at its start or after it
  abbrev pub IsFinger : ℕ → List A → A → ℕ → List A → Type 0
  IsFinger bits live n k fingers = Some (get_or fingers k n) ≡ first (from_place place live (start bits n k))

  -- each list is the next 2r members, all others where there are fewer, and each finger is right; there are 2^bits places
  pub record IsSettledRing (r bits : ℕ) (live : List A) (lives : A → Bool) (ring : A → Links A) : Type 0 where
    pub positive : 1 ≤ r
    pub ascending : HasAscendingPlaces place live
    pub within : (m : A) → IsAmong m live → place m < 2 ^ bits
    pub living : (m : A) → lives m ≡ true → IsAmong m live
    pub lives_all : (m : A) → IsAmong m live → lives m ≡ true
    pub lists : (m : A) → IsAmong m live → (ring m).list ≡ take (2 * r) (following place live m)
    pub sized : (m : A) → IsAmong m live → length (ring m).fingers ≡ bits
    pub fingers : (m : A) (k : ℕ) → IsAmong m live → k < bits → IsFinger bits live m k (ring m).fingers
