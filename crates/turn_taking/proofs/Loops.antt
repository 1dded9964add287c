-- Tests of one element after the other.
use Rattle.std.proofs.Common.{◌≡◌, ℕ, ◌+◌, ◌<◌, ◌≤◌, Bool, true, false, ◌&&◌, ◌||◌, List, [], ◌∷◌, ◌++◌, length, get_or, take, map, refl, sym, ap, ◌∙◌}
use Rattle.std.specs.Prelude.{flat_map}
use Rattle.std.specs.List.{list_any, list_all}
use Rattle.std.proofs.lemmas.List.{take_all, take_more}
use Rattle.std.proofs.lemmas.List.Folds.{list_all-append, list_all-map, list_any-append}
use Rattle.log_model.specs.Record.{Record}
use Rattle.log_model.specs.Vector.{Stamp, Vector}
use Rattle.log_model.proofs.Lists.{both, some_passes, passes}
use Rattle.ivy_base.specs.declared.key.Key.{Key}
use Rattle.log_records.specs.declared.batch.Chain.{Chain}
use Rattle.log_records.specs.Records.{records_of}
use Rattle.agent_model.specs.Standing.{beyond}
use Rattle.agent_model.specs.Turning.{is_there}
use Rattle.turn_taking.specs.Chains.{as_chain, chains_in, is_over, new_of}
use Rattle.turn_taking.proofs.There.{any_of, is}

either : (a b : Bool) → a ≡ false → b ≡ false → (a || b) ≡ false
either true b h g = cc
either false b h g = g

module _ {X : Type 0} (test : X → Bool) (xs : List X) (i : ℕ) (x : X) where
  pub found : i < length xs → x ≡ get_or xs i x → test x ≡ true → list_any test xs ≡ true
  found within is passed = some_passes test xs x (i, within, sym is) passed

  pub none_more : i < length xs → x ≡ get_or xs i x → list_any test (take i xs) ≡ false → test x ≡ false → list_any test (take (i + 1) xs) ≡ false
  none_more within is before failed =
      ap (list_any test) (take_more xs i x within ∙ ap (λ (y : X). take i xs ++ y ∷ []) (sym is))
      ∙ list_any-append test (take i xs) (x ∷ []) ∙ either (list_any test (take i xs)) (list_any test (x ∷ [])) before (either (test x) false failed refl)

  pub fails : i < length xs → x ≡ get_or xs i x → test x ≡ false → list_all test xs ≡ false
  fails within is failed = by (list_all test xs) refl
    where
      by : (b : Bool) → list_all test xs ≡ b → list_all test xs ≡ false
      by true e = absurd (let passed : test x ≡ true = passes test xs x e (i, within, sym is) in cc)
      by false e = e

  pub all_more : i < length xs → x ≡ get_or xs i x → list_all test (take i xs) ≡ true → test x ≡ true → list_all test (take (i + 1) xs) ≡ true
  all_more within is before passed =
      ap (list_all test) (take_more xs i x within ∙ ap (λ (y : X). take i xs ++ y ∷ []) (sym is))
      ∙ list_all-append test (take i xs) (x ∷ []) ∙ both (list_all test (take i xs)) (list_all test (x ∷ [])) before (both (test x) true passed refl)

pub whole : {X Y : Type 0} (f : List X → Y) (xs : List X) (i : ℕ) (y : Y) → length xs ≤ i → f (take i xs) ≡ y → f xs ≡ y
whole f xs i y past e = ap f (sym (take_all i xs past)) ∙ e

list_any-map : {X Y : Type 0} (test : Y → Bool) (f : X → Y) (xs : List X) → list_any test (map f xs) ≡ list_any (λ x. test (f x)) xs
list_any-map test f [] = refl
list_any-map test f (x ∷ xs) = ap (λ b. test (f x) || b) (list_any-map test f xs)

all_of : {X Y : Type 0} (test : Y → Bool) (f : X → List Y) (xs : List X) → list_all test (flat_map f xs) ≡ list_all (λ x. list_all test (f x)) xs
all_of test f [] = refl
all_of test f (x ∷ xs) = list_all-append test (f x) (flat_map f xs) ∙ ap (λ b. list_all test (f x) && b) (all_of test f xs)

-- ---- over the chains' new records

module _ (front : Vector) where
  -- one of a chain's is that record
  abbrev pub has_it : Key → Stamp → Chain → Bool
  has_it log t c = is_there (beyond front (as_chain (records_of c.records))) log t

  pub any_new : (log : Key) (t : Stamp) (chains : List Chain) → is_there (new_of front (chains_in chains)) log t ≡ list_any (has_it log t) chains
  any_new log t chains =
      any_of (is log t) (λ (c : List Record). beyond front (as_chain c)) (chains_in chains)
      ∙ list_any-map (λ (c : List Record). is_there (beyond front (as_chain c)) log t) (λ (c : Chain). records_of c.records) chains

  -- all of a chain's are above
  abbrev pub are_over : Vector → Chain → Bool
  are_over base c = list_all (is_over base) (beyond front (as_chain (records_of c.records)))

  pub all_new : (base : Vector) (chains : List Chain) → list_all (is_over base) (new_of front (chains_in chains)) ≡ list_all (are_over base) chains
  all_new base chains =
      all_of (is_over base) (λ (c : List Record). beyond front (as_chain c)) (chains_in chains)
      ∙ list_all-map (λ (c : List Record). list_all (is_over base) (beyond front (as_chain c))) (λ (c : Chain). records_of c.records) chains
