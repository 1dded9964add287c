-- The number of a record, by the bytes of its block.
use Rattle.std.proofs.Common.{◌≡◌, ℕ, ◌<◌, ◌+◌, List, [], ◌∷◌, take, drop, get_or, arith, sym, ◌∙◌}
use Rattle.std.specs.Int.{w32, from_be_bytes}
use Rattle.std.proofs.lemmas.List.{get_or-take, get_or-drop}
use Rattle.world_model.specs.Steps.{number_in}

module _ (bytes : List ℕ) where
  taken : (i : ℕ) (x : ℕ) → i < 4 → x ≡ get_or bytes (48 + i) 0 → x ≡ get_or (take 4 (drop 48 bytes)) i 0
  taken i x within is = is ∙ sym (get_or-take 4 (drop 48 bytes) i 0 within ∙ get_or-drop 48 bytes i 0)

  pub number_read : (a b c d : ℕ) → a ≡ get_or bytes 48 0 → b ≡ get_or bytes 49 0 → c ≡ get_or bytes 50 0 → d ≡ get_or bytes 51 0 → from_be_bytes w32 (a ∷ b ∷ c ∷ d ∷ []) ≡ number_in bytes
  number_read a b c d first second third fourth =
      let p = taken 0 a (omega arith) first in
      let q = taken 1 b (omega arith) second in
      let r = taken 2 c (omega arith) third in
      let s = taken 3 d (omega arith) fourth in
      λ k. from_be_bytes w32 (p k ∷ q k ∷ r k ∷ s k ∷ [])
