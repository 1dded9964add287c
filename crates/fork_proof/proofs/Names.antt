-- Names to which a head leads, as they are gathered and compared.
use Rattle.std.proofs.Common.{◌≡◌, ℕ, zero, suc, ◌+◌, ◌-◌, ◌<◌, ◌≤◌, Bool, true, false, cond, not, List, [], ◌∷◌, ◌++◌, length, take, drop, get_or, map, Option, Some, None, option_map, inl, inr, refl, sym, ap, ◌∙◌, subst, arith}
use Rattle.std.specs.List.{slice_get}
use Rattle.std.proofs.lemmas.Bool.{cases_lt, cases_eq}
use Rattle.ivy_base.specs.declared.key.Key.{Key}
use Rattle.tree_model.specs.Tree.{same_key}
use Rattle.fork_model.specs.Before.{Before, TellsRecords}
use Rattle.fork_model.specs.Bytes.{fork_bytes, most_blocks}
use Rattle.fork_model.specs.Finding.{Tip, Way, ◌>>=◌, step_down, way_down, are_near, proof_by, proof_of_fork}
use Rattle.std.proofs.Math.Seq.{take-suc}
use Rattle.std.proofs.lemmas.List.{map-append}
use Rattle.fork_proof.specs.declared.tips.Tip as kept
use Rattle.fork_proof.specs.declared.walked.Walk.{Walk}
use Rattle.fork_proof.specs.Found.{AreNames, is_other, tip_seen, walk_seen}
use Rattle.fork_proof.proofs.WaysDown.{name_on, names_end, same_names}

-- ---- items by their places

beyond : (xs : List Key) (n : ℕ) → length xs ≤ n → slice_get xs n ≡ None
beyond [] n h = refl
beyond (x ∷ xs) zero h = absurd (omega (arith, h))
beyond (x ∷ xs) (suc n) h = beyond xs n (omega (arith, h))

at_old : (xs : List Key) (k : Key) (n : ℕ) → n < length xs → slice_get (xs ++ k ∷ []) n ≡ slice_get xs n
at_old [] k n h = absurd (omega (arith, h))
at_old (x ∷ xs) k zero h = refl
at_old (x ∷ xs) k (suc n) h = at_old xs k n (omega (arith, h))

pub at_new : (xs : List Key) (k : Key) (n : ℕ) → length xs ≡ n → slice_get (xs ++ k ∷ []) n ≡ Some k
at_new [] k zero h = refl
at_new [] k (suc n) h = absurd (omega (arith, h))
at_new (x ∷ xs) k zero h = absurd (omega (arith, h))
at_new (x ∷ xs) k (suc n) h = at_new xs k n (omega (arith, h))

at_before : (xs ys : List Key) (n : ℕ) → n < length xs → slice_get (xs ++ ys) n ≡ slice_get xs n
at_before [] ys n h = absurd (omega (arith, h))
at_before (x ∷ xs) ys zero h = refl
at_before (x ∷ xs) ys (suc n) h = at_before xs ys n (omega (arith, h))

at_behind : (xs ys : List Key) (k n : ℕ) → k ≡ length xs + n → slice_get (xs ++ ys) k ≡ slice_get ys n
at_behind [] ys k n e = let same : k ≡ n = omega (arith, e) in ap (slice_get ys) same
at_behind (x ∷ xs) ys zero n e = absurd (omega (arith, e))
at_behind (x ∷ xs) ys (suc k) n e = at_behind xs ys k n (omega (arith, e))

at_front : (xs : List Key) (most n : ℕ) → n < most → slice_get (take most xs) n ≡ slice_get xs n
at_front xs zero n h = absurd (omega (arith, h))
at_front [] (suc most) n h = refl
at_front (x ∷ xs) (suc most) zero h = refl
at_front (x ∷ xs) (suc most) (suc n) h = at_front xs most n (omega (arith, h))

at_rest : (xs : List Key) (n : ℕ) → slice_get (drop 1 xs) n ≡ slice_get xs (suc n)
at_rest [] n = refl
at_rest (x ∷ xs) n = refl

-- ---- gathering them

-- the names down to that many records below the head
abbrev pub AreNamesTo : List (List ℕ) → Tip → List Key → ℕ → Type 0
AreNamesTo blocks tip names most = (before : Before) → TellsRecords before → (n : ℕ) → n ≤ most → slice_get names n ≡ option_map (λ (w : Way). w.last) (way_down before blocks tip n)

pub names_begin : (blocks : List (List ℕ)) (tip : Tip) → AreNamesTo blocks tip (tip.newest.name ∷ []) 0
names_begin blocks tip before tells zero h = refl
names_begin blocks tip before tells (suc n) h = absurd (omega (arith, h))

module _ (blocks : List (List ℕ)) (tip : Tip) (names : List Key) (last : Key) (above seq : ℕ) (size : length names ≡ above + 1) (at : slice_get names above ≡ Some last) (known : AreNamesTo blocks tip names above)
    (number : seq ≡ tip.newest.seq - above) where
  pub names_more : (s : List ℕ × Key) → ((before : Before) → TellsRecords before → Some s ≡ step_down before blocks tip.owner seq last) → AreNamesTo blocks tip (names ++ s.1 ∷ []) (above + 1)
  names_more s stepped before tells n h = elim (cases_eq n (above + 1)) [
    | inl e ↦
        at_new names s.1 n (size ∙ sym e) ∙ name_on before blocks tip above seq last (Some s) number (sym at ∙ known before tells above (omega arith)) (stepped before tells)
        ∙ ap (λ (m : ℕ). option_map (λ (w : Way). w.last) (way_down before blocks tip m)) (sym e)
    | inr other ↦ at_old names s.1 n (omega (arith, size, h, other)) ∙ known before tells n (omega (arith, h, other))
  ]

  pub names_stop : ((before : Before) → TellsRecords before → None ≡ step_down before blocks tip.owner seq last) → AreNames blocks tip names
  names_stop stepped before tells n h = elim (cases_lt above n) [
    | inl below ↦
        beyond names n (omega (arith, size, below))
        ∙ names_end before blocks tip n (above + 1) (omega (arith, below))
        (name_on before blocks tip above seq last None number (sym at ∙ known before tells above (omega arith)) (stepped before tells))
    | inr within ↦ known before tells n within
  ]

  -- from here on an earlier walk was gone
  pub names_joined : (other : Tip) (more : List Key) → above ≤ most_blocks → other.owner ≡ tip.owner → other.newest.seq ≡ seq → other.newest.name ≡ last → AreNames blocks other more
      → AreNames blocks tip (names ++ take (most_blocks - above) (drop 1 more))
  names_joined other more few owner same named are before tells n h = elim (cases_lt above n) [
    | inl below ↦
        let place : n ≡ length names + (n - (above + 1)) = omega (arith, size, below) in
        let room : n - (above + 1) < most_blocks - above = omega (arith, below, h) in
        let one : suc (n - (above + 1)) ≡ n - above = omega (arith, below) in
        let whole : n ≡ above + (n - above) = omega (arith, below) in
        at_behind names (take (most_blocks - above) (drop 1 more)) n (n - (above + 1)) place
        ∙ at_front (drop 1 more) (most_blocks - above) (n - (above + 1)) room
        ∙ at_rest more (n - (above + 1))
        ∙ ap (slice_get more) one
        ∙ are before tells (n - above) (omega (arith, h))
        ∙ sym (same_names before blocks tip other above owner (same ∙ number) (ap Some named ∙ sym at ∙ known before tells above (omega arith)) (n - above) n whole)
    | inr within ↦ at_before names (take (most_blocks - above) (drop 1 more)) n (omega (arith, size, within)) ∙ known before tells n within
  ]

-- ---- comparing them

-- where the name is the lower head's, or isn't known, there is no proof
pub no_proof : (before : Before) → TellsRecords before → (blocks : List (List ℕ)) (low high : Tip) (names : List Key) → AreNames blocks high names → high.newest.seq - low.newest.seq ≤ most_blocks
    → is_other low.newest.name (slice_get names (high.newest.seq - low.newest.seq)) ≡ false → None ≡ proof_of_fork before blocks low high
no_proof before tells blocks low high names are few same = by (are_near low high)
  where
    nothing : (o : Option Way) → is_other low.newest.name (option_map (λ (w : Way). w.last) o) ≡ false → None ≡ (o >>= proof_by low high)
    nothing None e = refl
    nothing (Some w) e = there (same_key w.last low.newest.name) e
      where
        there : (t : Bool) → not t ≡ false → None ≡ cond t None (Some (fork_bytes low.bytes high.bytes w.blocks))
        there true e = refl
        there false e = absurd (cc e)

    by : (t : Bool) → None ≡ cond t (way_down before blocks high (high.newest.seq - low.newest.seq) >>= proof_by low high) None
    by false = refl
    by true = nothing (way_down before blocks high (high.newest.seq - low.newest.seq)) (ap (is_other low.newest.name) (sym (are before tells (high.newest.seq - low.newest.seq) few)) ∙ same)

-- ---- of all heads

pub tips_next : (tips : List kept.Tip) (walks news : List Walk) (w : Walk) (i : ℕ) (d : kept.Tip) → i < length tips → news ≡ walks ++ w ∷ [] → map walk_seen walks ≡ map tip_seen (take i tips) → w.tip ≡ get_or tips i d
    → map walk_seen news ≡ map tip_seen (take (i + 1) tips)
tips_next tips walks news w i d within pushed before same =
    let one : suc i ≡ i + 1 = omega arith in
    ap (map walk_seen) pushed ∙ map-append walk_seen walks (w ∷ [])
    ∙ (λ j. before j ++ tip_seen (same j) ∷ [])
    ∙ sym (map-append tip_seen (take i tips) (get_or tips i d ∷ []))
    ∙ ap (map tip_seen) (sym (take-suc tips i d within))
    ∙ ap (λ (n : ℕ). map tip_seen (take n tips)) one
