-- The calls of all passes.
use Rattle.std.proofs.Common.{◌≡◌, ℕ, zero, suc, ◌+◌, ◌<◌, List, [], ◌∷◌, ◌++◌, length, map, All, refl, sym, ap, ◌∙◌, subst, arith}
use Rattle.std.specs.Prelude.{flat_map}
use mathlib.Core.List.{IsPrefix}
use Rattle.value_gate.specs.declared.history.Entry.{Entry}
use Rattle.value_gate.specs.Histories.{HaveTheSame, calls_by}
use Rattle.value_gate.specs.Passes.{PassView, calls_of}

module _ {A T : Type 0} (history : List (Entry T)) where
  abbrev pub Begins : PassView A T → Type 0
  Begins p = IsPrefix p.history history × (calls_by p.number history ≡ p.calls)

  pub calls_by_numbers : (passes : List (PassView A T)) → All Begins passes
      → flat_map (λ n. calls_by n history) (map (λ p. p.number) passes) ≡ calls_of passes
  calls_by_numbers [] all = refl
  calls_by_numbers (p ∷ ps) all =
      let rest = calls_by_numbers ps (λ k d h. all (suc k) d (omega arith)) in
      rw ((all 0 p (omega arith)).1) (ap (λ (l : List (Entry T)). p.calls ++ l) rest)

  -- but for one pass that made no call
  pub others_alone : (first : PassView A T) (others : List (PassView A T)) → first.calls ≡ [] → All Begins (first ∷ others)
      → HaveTheSame history (calls_of (first ∷ others))
      → HaveTheSame history (flat_map (λ n. calls_by n history) (map (λ p. p.number) others))
  others_alone first others none all same =
      let rest : calls_of (first ∷ others) ≡ calls_of others = ap (λ (l : List (Entry T)). l ++ calls_of others) none in
      let numbers = calls_by_numbers others (λ k d h. all (suc k) d (omega arith)) in
      subst (HaveTheSame history) (rest ∙ sym numbers) same
