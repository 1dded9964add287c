-- Gets and puts: the asks of a key's owners, and what comes of them (CFS, SOSP 2001, section 5.1: DHash keeps a block
-- at r successive nodes, and a get that fails at one goes on to the next; how many are asked, when a get ends and
-- when a put counts as acknowledged are this project's rules).
use Rattle.std.specs.Prelude.{◌≡◌, ◌≢◌, ℕ, ◌<◌, ◌≤◌, Bool, List, [], ◌∷◌, length, take, map, filter_map, count_by, Option, Some, None, ◌⊎◌}
use Rattle.std.specs.Prelude.{MatchBool}
use Rattle.std.specs.Option.{option_map}
use Rattle.ivy_base.specs.declared.key.Key.{Key}
use Rattle.ivy_base.specs.Naming.{name}
use Rattle.ring_model.specs.Members.{IsAmong, first}

-- qs are the nodes of ps that aren't among those seen before, each once, in their order
pub data AreFirsts {A : Type 0} : List A → List A → List A → Type 0 where
  none : {seen : List A} → AreFirsts seen [] []
  again : {seen : List A} {p : A} {ps qs : List A} → IsAmong p seen → AreFirsts seen ps qs → AreFirsts seen (p ∷ ps) qs
  new : {seen : List A} {p : A} {ps qs : List A} → (IsAmong p seen → ⊥) → AreFirsts (p ∷ seen) ps qs → AreFirsts seen (p ∷ ps) (p ∷ qs)

-- the nodes of a trail of asks, each with what was heard of it
abbrev pub nodes : {A X : Type 0} → List (A × X) → List A
nodes trail = map (λ s. s.0) trail

-- how many of them answered: where the test of what was heard fails, that is silence
abbrev pub answered_in : {A X : Type 0} → (X → Bool) → List (A × X) → ℕ
answered_in answers trail = count_by (λ s. answers s.1) trail

-- These asks are made of the owners: in their order, each owner once, and a further one as long as what was heard
-- isn't enough.
pub record AreAsks {A X : Type 0} (owners : List A) (IsEnough : List (A × X) → Type 0) (trail : List (A × X)) : Type 0 where
  pub once : List A
  pub firsts : AreFirsts [] owners once
  pub order : nodes trail ≡ take (length trail) once
  pub needed : (k : ℕ) → k < length trail → IsEnough (take k trail) → ⊥
  pub over : IsEnough trail ⊎ (nodes trail ≡ once)

-- the blocks that were given, and by whom, in order
abbrev pub given : {A X : Type 0} → (X → Option (List ℕ)) → List (A × X) → List (A × List ℕ)
given block trail = filter_map (λ s. option_map (λ bytes. (s.0, bytes)) (block s.1)) trail

-- the first node that gave a block
abbrev pub first_giver : {A X : Type 0} → (X → Option (List ℕ)) → List (A × X) → Option A
first_giver block trail = first (nodes (given block trail))

-- how a get ends: with what it was for; with damage, which names the first node that gave a block; or with nothing
-- given, which names the nodes that were asked, in order, silent ones included
pub data Got (A B : Type 0) : Type 0 where
  Right : B → Got A B
  Damaged : A → Got A B
  Missing : List A → Got A B

-- a node gave these bytes, whose name is the key
abbrev pub IsGiven : {A X : Type 0} → (X → Option (List ℕ)) → Key → List (A × X) → List ℕ → Type 0
IsGiven {A = A} block key trail bytes = (node : A) × IsAmong (node, bytes) (given block trail) × (name bytes ≡ key)

-- the block of that name was given
abbrev pub HasBlock : {A X : Type 0} → (X → Option (List ℕ)) → Key → List (A × X) → Type 0
HasBlock block key trail = (bytes : List ℕ) × IsGiven block key trail bytes

-- a get of a content block asks until r nodes have answered or the block was given; and the block is what it is for
abbrev pub EndsBlock : {A X : Type 0} → (X → Option (List ℕ)) → Key → List (A × X) → Got A (List ℕ) → Type 0
EndsBlock block key trail (Right bytes) = IsGiven block key trail bytes
EndsBlock block key trail (Damaged node) = (HasBlock block key trail → ⊥) × (first_giver block trail ≡ Some node)
EndsBlock block key trail (Missing asked) = (HasBlock block key trail → ⊥) × (first_giver block trail ≡ None) × (asked ≡ nodes trail)

pub record IsBlockGet {A X : Type 0} (answers : X → Bool) (block : X → Option (List ℕ)) (key : Key) (r : ℕ) (owners : List A)
    (trail : List (A × X)) (got : Got A (List ℕ)) : Type 0 where
  pub asks : AreAsks owners (λ t. (r ≤ answered_in answers t) ⊎ HasBlock block key t) trail
  pub ends : EndsBlock block key trail got

-- what the judge says of the blocks that were given, without those of which it says nothing
abbrev pub judged : {A X B : Type 0} → (X → Option (List ℕ)) → (List ℕ → Option B) → List (A × X) → List B
judged block judge trail = filter_map (λ b. judge b.1) (given block trail)

-- a get of a log's head asks until r nodes have answered; and all heads that the judge takes are what it is for
abbrev pub EndsHeads : {A X B : Type 0} → (X → Option (List ℕ)) → (List ℕ → Option B) → List (A × X) → Got A (List B) → Type 0
EndsHeads block judge trail (Right heads) = (heads ≢ []) × (heads ≡ judged block judge trail)
EndsHeads block judge trail (Damaged node) = (judged block judge trail ≡ []) × (first_giver block trail ≡ Some node)
EndsHeads block judge trail (Missing asked) = (judged block judge trail ≡ []) × (first_giver block trail ≡ None) × (asked ≡ nodes trail)

pub record IsHeadGet {A X B : Type 0} (answers : X → Bool) (block : X → Option (List ℕ)) (judge : List ℕ → Option B) (r : ℕ)
    (owners : List A) (trail : List (A × X)) (got : Got A (List B)) : Type 0 where
  pub asks : AreAsks owners (λ t. r ≤ answered_in answers t) trail
  pub ends : EndsHeads block judge trail got

-- a put is acknowledged where r nodes hold the block or a newer head now, or all owners were asked and at least one does
abbrev pub IsAcknowledged : {A X : Type 0} → (X → Bool) → ℕ → List A → List (A × X) → Type 0
IsAcknowledged holds r once trail = (r ≤ answered_in holds trail) ⊎ ((nodes trail ≡ once) × (1 ≤ answered_in holds trail))

-- a put asks until r nodes have answered, whatever they answer
pub record IsPutTrail {A X : Type 0} (answers holds : X → Bool) (r : ℕ) (owners : List A) (trail : List (A × X))
    (acknowledged : Bool) : Type 0 where
  pub asks : AreAsks owners (λ t. r ≤ answered_in answers t) trail
  pub ends : MatchBool acknowledged (IsAcknowledged holds r asks.once trail) (IsAcknowledged holds r asks.once trail → ⊥)
