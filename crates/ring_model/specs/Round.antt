-- A round of maintenance, as far as it concerns what nodes know of each other. It has three such parts: silent
-- predecessors are forgotten, 2r + 1 passes go over the live nodes, and each finger is fixed by a look-up
-- (Chord, SIGCOMM 2001, section 5.1; that it goes by rounds of so many passes is this project's rule).
use Rattle.std.specs.Prelude.{◌≡◌, ℕ, suc, ◌*◌, ◌<◌, Bool, true, false, List, [], ◌∷◌, set, Option, Some, None, if◌then◌else◌}
use Rattle.std.specs.List.{AllByRecursion}
use Rattle.ring_model.specs.Members.{IsAmong}
use Rattle.ring_model.specs.Ring.{Links, start}
use Rattle.ring_model.specs.Route.{Route}
use Rattle.ring_model.specs.Lookup.{IsLookup, IsFate}
use Rattle.ring_model.specs.Pass.{ArePasses}

-- a predecessor that still lives
abbrev pub living_before : {A : Type 0} → (A → Bool) → Option A → Option A
living_before lives None = None
living_before lives (Some b) = if lives b then Some b else None

-- part 1: each live node forgets a predecessor that is silent
pub record IsForgotten {A : Type 0} (lives : A → Bool) (old new : A → Links A) : Type 0 where
  pub list : (m : A) → (new m).list ≡ (old m).list
  pub fingers : (m : A) → (new m).fingers ≡ (old m).fingers
  pub before : (m : A) → lives m ≡ true → (new m).before ≡ living_before lives (old m).before
  pub stopped : (m : A) → lives m ≡ false → (new m).before ≡ (old m).before

-- the finger of that index becomes the first of the owners that were found, where there are any
abbrev pub with_finger : {A : Type 0} → ℕ → Option (List A) → Links A → Links A
with_finger k None links = links
with_finger k (Some []) links = links
with_finger k (Some (f ∷ fs)) links = record links { fingers = set links.fingers k f }

module _ {A : Type 0} (place : A → ℕ) where
  -- parts 1 and 2
  pub record AreListsRenewed (r : ℕ) (lives : A → Bool) (ns : List A) (old new : A → Links A) : Type 0 where
    pub mid : A → Links A
    pub forgotten : IsForgotten lives old mid
    pub passes : ArePasses place r lives ns (suc (2 * r)) mid new

  -- n fixes its finger of that index by a look-up from itself for the finger's start
  pub record IsFingerFixed (r bits : ℕ) (lives : A → Bool) (n : A) (k : ℕ) (old new : A → Links A) : Type 0 where
    pub trail : List (A × Option (Route A))
    pub found : Option (List A)
    pub fates : AllByRecursion (IsFate place r lives old (start place bits n k)) trail
    pub lookup : IsLookup [] None (n ∷ []) trail found
    pub fixed : new n ≡ with_finger k found (old n)
    pub others : (m : A) → (m ≡ n → ⊥) → new m ≡ old m

  -- these fingers are fixed one after the other
  pub data AreFixed (r bits : ℕ) (lives : A → Bool) : List (A × ℕ) → (A → Links A) → (A → Links A) → Type 0 where
    fixed : {ring : A → Links A} → AreFixed r bits lives [] ring ring
    fixes : {n : A} {k : ℕ} {rest : List (A × ℕ)} {old mid new : A → Links A} → IsFingerFixed r bits lives n k old mid
        → AreFixed r bits lives rest mid new → AreFixed r bits lives ((n, k) ∷ rest) old new

  -- part 3: each node fixes each of its fingers
  pub record AreFingersFixed (r bits : ℕ) (lives : A → Bool) (ns : List A) (old new : A → Links A) : Type 0 where
    pub turns : List (A × ℕ)
    pub each : (n : A) (k : ℕ) → IsAmong n ns → k < bits → IsAmong (n, k) turns
    pub only : (n : A) (k : ℕ) → IsAmong (n, k) turns → IsAmong n ns × (k < bits)
    pub fixed : AreFixed r bits lives turns old new

  -- parts 1 to 3 over the nodes ns
  pub record IsRound (r bits : ℕ) (lives : A → Bool) (ns : List A) (old new : A → Links A) : Type 0 where
    pub mid : A → Links A
    pub lists : AreListsRenewed r lives ns old mid
    pub fingers : AreFingersFixed r bits lives ns mid new
