-- What the nodes hold under one key: nothing, or a block of that rank. A head's rank is its record's number, that
-- of a content block 0 (Ivy: a log-head replaces an older one; CFS, SOSP 2001, section 5.1: copies at r successive nodes).
use Rattle.std.specs.Prelude.{◌≡◌, ℕ, ◌≤◌, Bool, true, false, nat_lt, List, [], ◌∷◌, Option, Some, None, if◌then◌else◌}

-- what is held after a put
abbrev pub raised : ℕ → Option ℕ → Option ℕ
raised v None = Some v
raised v (Some w) = if nat_lt w v then Some v else Some w

-- something of that rank or a greater one
abbrev pub IsAtLeast : ℕ → Option ℕ → Type 0
IsAtLeast v None = ⊥
IsAtLeast v (Some w) = v ≤ w

-- a node's part of the last part of a round, for one key: what it holds is put at all owners, and it keeps it only as an owner
pub data IsMoved {A : Type 0} (owns : A → Bool) (n : A) (old new : A → Option ℕ) : Type 0 where
  idle : old n ≡ None → ((m : A) → new m ≡ old m) → IsMoved owns n old new
  puts : (v : ℕ) → old n ≡ Some v → ((m : A) → (m ≡ n → ⊥) → owns m ≡ true → new m ≡ raised v (old m))
      → ((m : A) → (m ≡ n → ⊥) → owns m ≡ false → new m ≡ old m)
      → (owns n ≡ true → new n ≡ old n) → (owns n ≡ false → new n ≡ None) → IsMoved owns n old new

-- the nodes' parts one after the other
pub data AreMoved {A : Type 0} (owns : A → Bool) : List A → (A → Option ℕ) → (A → Option ℕ) → Type 0 where
  none : {held : A → Option ℕ} → AreMoved owns [] held held
  next : {n : A} {ns : List A} {old mid new : A → Option ℕ} → IsMoved owns n old mid → AreMoved owns ns mid new
      → AreMoved owns (n ∷ ns) old new
