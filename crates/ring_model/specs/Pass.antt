-- Passes: each node asks its first entry, renews its list by the answer and notifies the first of the new list
-- (Chord, SIGCOMM 2001, section 5.1: stabilize and notify; section 5.2: successor lists).
use Rattle.std.specs.Prelude.{◌≡◌, ℕ, suc, ◌*◌, Bool, nat_eq, if◌then◌else◌, List, [], ◌∷◌, ◌++◌, take, Option, Some, None}
use Rattle.std.specs.List.{find}
use Rattle.ring_model.specs.Arc.{is_strictly_between}
use Rattle.ring_model.specs.Members.{first}
use Rattle.ring_model.specs.Ring.{Links}

-- p where there was nothing
abbrev pub some_list : {X : Type 0} → List X → X → List X
some_list [] p = p ∷ []
some_list (x ∷ xs) p = x ∷ xs

module _ {A : Type 0} (place : A → ℕ) where
  -- the entries before n's own
  abbrev pub until : A → List A → List A
  until n [] = []
  until n (x ∷ xs) = if nat_eq (place x) (place n) then [] else x ∷ until n xs

  -- the predecessor that the answering node a names, where it stands strictly between n and a
  abbrev pub between_them : A → A → Option A → List A
  between_them n a None = []
  between_them n a (Some b) = if is_strictly_between (place n) (place b) (place a) then b ∷ [] else []

  -- the list that n makes of what a answers: its predecessor, where that is between them, a itself and a's list, up to n's own entry and at
  -- most 2r
  abbrev pub renewed : ℕ → A → A → Option A → List A → List A
  renewed r n a before list = take (2 * r) (until n (between_them n a before ++ a ∷ list))

  -- the predecessor of n after a notice of p: p where there was none, or where p is strictly between it and n
  abbrev pub nearest_before : A → Option A → A → Option A
  nearest_before n None p = Some p
  nearest_before n (Some b) p = if is_strictly_between (place b) (place p) (place n) then Some p else Some b

  -- what n knows after a notice of p
  abbrev pub notified : A → Links A → A → Links A
  notified n links p = record links { list = some_list links.list p; before = nearest_before n links.before p }

  -- the list that n makes of its first live entry, where it has one
  abbrev pub heard : ℕ → A → (A → Links A) → Option A → List A
  heard r n ring None = []
  heard r n ring (Some a) = renewed r n a (ring a).before (ring a).list

  -- the list of n after its part in a pass, in which it drops the entries that are silent
  abbrev pub list_after : ℕ → (A → Bool) → (A → Links A) → A → List A
  list_after r lives ring n = heard r n ring (find lives (ring n).list)

  -- n's part in a pass: its list is renewed, the first entry of the new list is notified, and all others stay
  pub record IsStabilised (r : ℕ) (lives : A → Bool) (n : A) (old new : A → Links A) : Type 0 where
    pub list : (new n).list ≡ list_after r lives old n
    pub before : (new n).before ≡ (old n).before
    pub fingers : (new n).fingers ≡ (old n).fingers
    pub told : (f : A) → first (list_after r lives old n) ≡ Some f → new f ≡ notified f (old f) n
    pub others : (m : A) → (m ≡ n → ⊥) → (first (list_after r lives old n) ≡ Some m → ⊥) → new m ≡ old m

  -- the nodes' parts one after the other
  pub data IsPass (r : ℕ) (lives : A → Bool) : List A → (A → Links A) → (A → Links A) → Type 0 where
    done : {ring : A → Links A} → IsPass r lives [] ring ring
    more : {n : A} {ns : List A} {old mid new : A → Links A} → IsStabilised r lives n old mid → IsPass r lives ns mid new
        → IsPass r lives (n ∷ ns) old new

  -- that many passes over the same nodes
  pub data ArePasses (r : ℕ) (lives : A → Bool) (ns : List A) : ℕ → (A → Links A) → (A → Links A) → Type 0 where
    none : {ring : A → Links A} → ArePasses r lives ns 0 ring ring
    again : {k : ℕ} {old mid new : A → Links A} → IsPass r lives ns old mid → ArePasses r lives ns k mid new
        → ArePasses r lives ns (suc k) old new
