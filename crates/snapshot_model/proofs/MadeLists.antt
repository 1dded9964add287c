-- Lists of blocks by their names: those of which the top blocks have one name are equal.
use Rattle.std.proofs.Common.{◌≡◌, ℕ, zero, suc, ◌+◌, ◌-◌, ◌*◌, ◌<◌, ◌≤◌, Bool, true, false, List, [], ◌∷◌, length, map, take, drop, refl, sym, ap, ◌∙◌, arith, subst}
use Rattle.std.specs.Prelude.{nat_le, Contains, if◌then◌else◌}
use Rattle.std.specs.List.{AllByRecursion, flat_map}
use Rattle.std.proofs.lemmas.List.{length-map, length-take, take-append-drop}
use Rattle.std.proofs.lemmas.Bool.{leb-true}
use Rattle.ivy_base.specs.Naming.{name, IsCollisionFree}
use Rattle.ivy_base.proofs.NameLemmas.{length-name, bytes-name}
use Rattle.wire_model.proofs.OneReading.{whole}
use Rattle.log_model.specs.Spelling.{IsKey, no_name}
use Rattle.log_model.proofs.Lists.{each_left, each_right}
use Rattle.snapshot_model.specs.Blocks.{NamedList, AreNamed, IsListed}
use Rattle.snapshot_model.specs.Spelling.{Made, made_name, list_made, list_blocks_over, list_of, named_by, in_pieces, pieces}
use Rattle.snapshot_model.proofs.OneBlock.{one_list}
use Rattle.snapshot_model.proofs.Pieces.{same_pieces, map-pieces, few_pieces, some_pieces}

pub is_key : (block : List ℕ) → IsKey (name block)
is_key block = record { size = length-name block; each = bytes-name block }

abbrev pub readings : List Made → List (List ℕ)
readings ms = flat_map (λ m. m.reading) ms

-- what so many levels hold
abbrev pub most_under : ℕ → ℕ
most_under zero = 0
most_under (suc zero) = 512
most_under (suc (suc n)) = 512 * most_under (suc n)

-- a level above
abbrev pub over_each : {X : Type 0} → ℕ → (X → Made) → List X → Made
over_each level f xs = list_made level (map f xs)

regroup : {X : Type 0} (level : ℕ) (f : X → Made) (xs : List X) → map (list_made level) (in_pieces 512 (map f xs)) ≡ map (over_each level f) (in_pieces 512 xs)
regroup level f xs = ap (λ yss. map (list_made level) yss) (ap (λ n. pieces n 512 (map f xs)) (length-map xs f) ∙ map-pieces f (length xs) 512 xs) ∙ twice (in_pieces 512 xs)
  where
    twice : (yss : List (List _)) → map (list_made level) (map (λ ys. map f ys) yss) ≡ map (over_each level f) yss
    twice [] = refl
    twice (ys ∷ yss) = ap (λ rest. over_each level f ys ∷ rest) (twice yss)

-- the list when it is known whether one block is enough
abbrev by_size : ℕ → ℕ → List Made → Bool → ℕ × List Made
by_size n level items b = if b then (level, list_made level items ∷ []) else list_blocks_over n (level + 1) (map (list_made level) (in_pieces 512 items))

fewer : (n len count : ℕ) → len ≤ most_under (suc n) → 512 < len → (len ≤ 512 * most_under n → count ≤ most_under n) → count ≤ most_under n
fewer zero len count h long few = absurd (omega (arith, h, long))
fewer (suc n) len count h long few = few h

pub few_below : {X : Type 0} (n : ℕ) (xs : List X) → length xs ≤ most_under (suc n) → 512 < length xs → length (in_pieces 512 xs) ≤ most_under n
few_below n xs h long = fewer n (length xs) (length (in_pieces 512 xs)) h long (λ g. few_pieces (length xs) 512 xs (most_under n) g)

not_few : (len : ℕ) → false ≡ nat_le len 512 → 512 < len
not_few len e = grind (arith, e)

-- ---- levels

pub level_most : (n level : ℕ) (items : List Made) → (named_by (list_blocks_over n level items)).level ≤ level + n - 1
level_most zero level [] = omega arith
level_most zero level (m ∷ ms) = omega arith
level_most (suc n) level [] = omega arith
level_most (suc n) level (m ∷ ms) = by (nat_le (length (m ∷ ms)) 512) (level_most n (level + 1) (map (list_made level) (in_pieces 512 (m ∷ ms))))
  where
    by : (b : Bool) → (named_by (list_blocks_over n (level + 1) (map (list_made level) (in_pieces 512 (m ∷ ms))))).level ≤ level + 1 + n - 1 → (named_by (by_size n level (m ∷ ms) b)).level ≤ level + suc n - 1
    by true h = omega arith
    by false h = omega (arith, h)

pub named_key : (p : ℕ × List Made) → IsKey (named_by p).top
named_key (level, []) = record { size = refl; each = refl }
named_key (level, top ∷ tops) = is_key top.bytes

pub named_none : (n level : ℕ) (items : List Made) → 1 ≤ level → (named_by (list_blocks_over n level items)).level ≡ 0 → (named_by (list_blocks_over n level items)).top ≡ no_name
named_none zero level [] some e = refl
named_none zero level (m ∷ ms) some e = refl
named_none (suc n) level [] some e = refl
named_none (suc n) level (m ∷ ms) some e = by (nat_le (length (m ∷ ms)) 512) (named_none n (level + 1) (map (list_made level) (in_pieces 512 (m ∷ ms))) (omega arith)) e
  where
    by : (b : Bool) → ((named_by (list_blocks_over n (level + 1) (map (list_made level) (in_pieces 512 (m ∷ ms))))).level ≡ 0 → (named_by (list_blocks_over n (level + 1) (map (list_made level) (in_pieces 512 (m ∷ ms))))).top ≡ no_name)
        → (named_by (by_size n level (m ∷ ms) b)).level ≡ 0 → (named_by (by_size n level (m ∷ ms) b)).top ≡ no_name
    by true h zero_level = absurd (omega (arith, zero_level, some))
    by false h zero_level = h zero_level

pub is_listed : (items : List Made) → IsListed 3 (named_by (list_of items))
is_listed items = record { few = level_most 3 1 items; top = named_key (list_of items); none = named_none 3 1 items (omega arith) }

-- a list that is not empty, and not too long, has a level
pub level_least : (n level : ℕ) {X : Type 0} (f : X → Made) (xs : List X) → 1 ≤ length xs → length xs ≤ most_under n → level ≤ (named_by (list_blocks_over n level (map f xs))).level
level_least n level f [] some few = absurd (omega (arith, some))
level_least zero level f (x ∷ xs) some few = absurd (omega (arith, few))
level_least (suc n) level {X} f (x ∷ xs) some few =
    by (nat_le (length (map f (x ∷ xs))) 512) refl
    (λ long. level_least n (level + 1) (over_each level f) (in_pieces 512 (x ∷ xs)) (some_pieces 512 (x ∷ xs) some) (few_below n (x ∷ xs) few long))
  where
    by : (b : Bool) → b ≡ nat_le (length (map f (x ∷ xs))) 512
        → (512 < length (x ∷ xs) → level + 1 ≤ (named_by (list_blocks_over n (level + 1) (map (over_each level f) (in_pieces 512 (x ∷ xs))))).level)
        → level ≤ (named_by (by_size n level (map f (x ∷ xs)) b)).level
    by true e h = omega arith
    by false e h =
        let more = h (not_few (length (x ∷ xs)) (e ∙ ap (λ k. nat_le k 512) (length-map (x ∷ xs) f))) in
        subst (λ items. level ≤ (named_by (list_blocks_over n (level + 1) items)).level) (sym (regroup level f (x ∷ xs))) (omega (arith, more))

-- ---- equal names

module _ (met : List (List ℕ)) (apart : IsCollisionFree met) where
  abbrev pub AllMet : List (List ℕ) → Type 0
  AllMet blocks = AllByRecursion (Contains met) blocks

  -- of two such things whose blocks have one name both are one
  abbrev pub IsOneMade : {X : Type 0} → (X → Type 0) → (X → Made) → Type 0
  IsOneMade {X} Fits f = (x y : X) → Fits x → Fits y → AllMet (f x).reading → AllMet (f y).reading → name (f x).bytes ≡ name (f y).bytes → x ≡ y

  each_one : {X : Type 0} (Fits : X → Type 0) (f : X → Made) → IsOneMade Fits f → (xs ys : List X) → AllByRecursion Fits xs → AllByRecursion Fits ys
      → AllMet (readings (map f xs)) → AllMet (readings (map f ys)) → map made_name (map f xs) ≡ map made_name (map f ys) → xs ≡ ys
  each_one Fits f one [] [] g h m n e = refl
  each_one Fits f one [] (y ∷ ys) g h m n e = cc
  each_one Fits f one (x ∷ xs) [] g h m n e = cc
  each_one Fits f one (x ∷ xs) (y ∷ ys) g h m n e =
      let first : name (f x).bytes ≡ name (f y).bytes = cc in
      let others : map made_name (map f xs) ≡ map made_name (map f ys) = cc in
      let same = one x y g.0 h.0 (each_left (Contains met) (f x).reading (readings (map f xs)) m) (each_left (Contains met) (f y).reading (readings (map f ys)) n) first in
      let rest = each_one Fits f one xs ys g.1 h.1 (each_right (Contains met) (f x).reading (readings (map f xs)) m) (each_right (Contains met) (f y).reading (readings (map f ys)) n) others in
      rw (same, rest) refl

  keys_fit : (ms : List Made) → AllByRecursion IsKey (map made_name ms)
  keys_fit [] = tt
  keys_fit (m ∷ ms) = (is_key m.bytes, keys_fit ms)

  are_named : (ms : List Made) → 1 ≤ length ms → length ms ≤ 512 → AreNamed (map made_name ms)
  are_named ms some few = record { some = omega (arith, length-map ms made_name, some); few = omega (arith, length-map ms made_name, few); each = keys_fit ms }

  -- the items of one list block
  abbrev pub IsFull : {X : Type 0} → (X → Type 0) → List X → Type 0
  IsFull Fits xs = (1 ≤ length xs) × (length xs ≤ 512) × AllByRecursion Fits xs

  one_list_made : {X : Type 0} (level : ℕ) (Fits : X → Type 0) (f : X → Made) → IsOneMade Fits f → IsOneMade (IsFull Fits) (over_each level f)
  one_list_made level Fits f one xs ys g h m n e =
      let same = apart (over_each level f xs).bytes (over_each level f ys).bytes m.0 n.0 e in
      let keys = whole (one_list level) (map made_name (map f xs)) (map made_name (map f ys))
      (are_named (map f xs) (omega (arith, length-map xs f, g.0)) (omega (arith, length-map xs f, g.1)))
      (are_named (map f ys) (omega (arith, length-map ys f, h.0)) (omega (arith, length-map ys f, h.1))) same in
      each_one Fits f one xs ys g.2 h.2 m.1 n.1 keys

  full_pieces : {X : Type 0} (Fits : X → Type 0) (n : ℕ) (xs : List X) → AllByRecursion Fits xs → AllByRecursion (IsFull Fits) (pieces n 512 xs)
  full_pieces Fits zero xs h = tt
  full_pieces Fits (suc n) [] h = tt
  full_pieces Fits (suc n) (x ∷ xs) h =
      let parts = subst (λ ys. AllByRecursion Fits ys) (sym (take-append-drop 512 (x ∷ xs))) h in
      ((omega arith, omega (arith, length-take 512 (x ∷ xs)), each_left Fits (take 512 (x ∷ xs)) (drop 512 (x ∷ xs)) parts), full_pieces Fits n (drop 512 (x ∷ xs)) (each_right Fits (take 512 (x ∷ xs)) (drop 512 (x ∷ xs)) parts))

  -- lists of which the top blocks have one name
  pub one_listed_made : (n level : ℕ) {X : Type 0} (Fits : X → Type 0) (f : X → Made) → 1 ≤ level → IsOneMade Fits f → (xs ys : List X) → AllByRecursion Fits xs → AllByRecursion Fits ys
      → length xs ≤ most_under n → length ys ≤ most_under n → AllMet (readings (list_blocks_over n level (map f xs)).1) → AllMet (readings (list_blocks_over n level (map f ys)).1)
      → named_by (list_blocks_over n level (map f xs)) ≡ named_by (list_blocks_over n level (map f ys)) → xs ≡ ys
  one_listed_made zero level Fits f some one [] [] g h few few2 m k e = refl
  one_listed_made zero level Fits f some one [] (y ∷ ys) g h few few2 m k e = absurd (omega (arith, few2))
  one_listed_made zero level Fits f some one (x ∷ xs) ys g h few few2 m k e = absurd (omega (arith, few))
  one_listed_made (suc n) level Fits f some one [] [] g h few few2 m k e = refl
  one_listed_made (suc n) level Fits f some one [] (y ∷ ys) g h few few2 m k e =
      let least = level_least (suc n) level f (y ∷ ys) (omega arith) few2 in
      let same = ap (λ (l : NamedList). l.level) e in
      absurd (omega (arith, least, same, some))
  one_listed_made (suc n) level Fits f some one (x ∷ xs) [] g h few few2 m k e =
      let least = level_least (suc n) level f (x ∷ xs) (omega arith) few in
      let same = ap (λ (l : NamedList). l.level) e in
      absurd (omega (arith, least, same, some))
  one_listed_made (suc n) level {X} Fits f some one (x ∷ xs) (y ∷ ys) g h few few2 m k e =
      by (nat_le (length (map f (x ∷ xs))) 512) (nat_le (length (map f (y ∷ ys))) 512) refl refl
      (one_listed_made n (level + 1) (IsFull Fits) (over_each level f) (omega arith) (one_list_made level Fits f one) (in_pieces 512 (x ∷ xs)) (in_pieces 512 (y ∷ ys))
      (full_pieces Fits (length (x ∷ xs)) (x ∷ xs) g) (full_pieces Fits (length (y ∷ ys)) (y ∷ ys) h)) m k e
    where
      few_of : (zs : List X) → true ≡ nat_le (length (map f zs)) 512 → length zs ≤ 512
      few_of zs t = let s = length-map zs f in omega (arith, leb-true (length (map f zs)) 512 (sym t), s)

      many_of : (zs : List X) → false ≡ nat_le (length (map f zs)) 512 → 512 < length zs
      many_of zs t = not_few (length zs) (t ∙ ap (λ j. nat_le j 512) (length-map zs f))

      above : (zs : List X) → 1 ≤ length zs → length zs ≤ most_under (suc n) → false ≡ nat_le (length (map f zs)) 512 → level + 1 ≤ (named_by (by_size n level (map f zs) false)).level
      above zs nonempty long t =
          subst (λ items. level + 1 ≤ (named_by (list_blocks_over n (level + 1) items)).level) (sym (regroup level f zs))
          (level_least n (level + 1) (over_each level f) (in_pieces 512 zs) (some_pieces 512 zs nonempty) (few_below n zs long (many_of zs t)))

      met_above : (zs : List X) → AllMet (readings (by_size n level (map f zs) false).1) → AllMet (readings (list_blocks_over n (level + 1) (map (over_each level f) (in_pieces 512 zs))).1)
      met_above zs q = subst (λ items. AllMet (readings (list_blocks_over n (level + 1) items).1)) (regroup level f zs) q

      named_above : (zs : List X) → named_by (list_blocks_over n (level + 1) (map (over_each level f) (in_pieces 512 zs))) ≡ named_by (by_size n level (map f zs) false)
      named_above zs = ap (λ items. named_by (list_blocks_over n (level + 1) items)) (sym (regroup level f zs))

      by : (b c : Bool) → b ≡ nat_le (length (map f (x ∷ xs))) 512 → c ≡ nat_le (length (map f (y ∷ ys))) 512
          → (length (in_pieces 512 (x ∷ xs)) ≤ most_under n → length (in_pieces 512 (y ∷ ys)) ≤ most_under n
          → AllMet (readings (list_blocks_over n (level + 1) (map (over_each level f) (in_pieces 512 (x ∷ xs)))).1) → AllMet (readings (list_blocks_over n (level + 1) (map (over_each level f) (in_pieces 512 (y ∷ ys)))).1)
          → named_by (list_blocks_over n (level + 1) (map (over_each level f) (in_pieces 512 (x ∷ xs)))) ≡ named_by (list_blocks_over n (level + 1) (map (over_each level f) (in_pieces 512 (y ∷ ys))))
          → in_pieces 512 (x ∷ xs) ≡ in_pieces 512 (y ∷ ys))
          → AllMet (readings (by_size n level (map f (x ∷ xs)) b).1) → AllMet (readings (by_size n level (map f (y ∷ ys)) c).1)
          → named_by (by_size n level (map f (x ∷ xs)) b) ≡ named_by (by_size n level (map f (y ∷ ys)) c) → (x ∷ xs) ≡ (y ∷ ys)
      by true true t u below q r d =
          one_list_made level Fits f one (x ∷ xs) (y ∷ ys) (omega arith, few_of (x ∷ xs) t, g) (omega arith, few_of (y ∷ ys) u, h)
          (each_left (Contains met) (over_each level f (x ∷ xs)).reading [] q) (each_left (Contains met) (over_each level f (y ∷ ys)).reading [] r) (ap (λ (l : NamedList). l.top) d)
      by true false t u below q r d =
          let same = ap (λ (l : NamedList). l.level) d in
          absurd (omega (arith, above (y ∷ ys) (omega arith) few2 u, same))
      by false true t u below q r d =
          let same = ap (λ (l : NamedList). l.level) d in
          absurd (omega (arith, above (x ∷ xs) (omega arith) few t, same))
      by false false t u below q r d =
          same_pieces 512 (x ∷ xs) (y ∷ ys) (omega arith)
          (below (few_below n (x ∷ xs) few (many_of (x ∷ xs) t)) (few_below n (y ∷ ys) few2 (many_of (y ∷ ys) u)) (met_above (x ∷ xs) q) (met_above (y ∷ ys) r)
          (named_above (x ∷ xs) ∙ d ∙ sym (named_above (y ∷ ys))))
