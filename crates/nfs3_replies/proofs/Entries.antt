-- The step of a loop that goes through a list: a piece that is written, or a number that is added, for each item.
use Rattle.std.proofs.Common.{◌≡◌, ℕ, ◌+◌, ◌<◌, ◌≤◌, List, [], ◌∷◌, ◌++◌, length, get_or, take, sym, ap, ◌∙◌, arith}
use Rattle.std.specs.List.{All, flat_map, sum_by}
use Rattle.std.proofs.lemmas.List.{take_more, flat_map_more}
use Rattle.std.proofs.lemmas.List.Elements.{All-push, All-same}
use Rattle.std.proofs.lemmas.List.Sums.{sum_by_more}

module _ {X : Type 0} (xs : List X) (i : ℕ) (x : X) (inside : i < length xs) (is : x ≡ get_or xs i x) where
  take-more : take i xs ++ x ∷ [] ≡ take (i + 1) xs
  take-more = ap (λ y. take i xs ++ y ∷ []) is ∙ sym (take_more xs i x inside)

  -- the pieces so far, and the item's piece
  pub pieces_more : (piece : X → List ℕ) (before : List ℕ) {now after : List ℕ}
      → now ≡ before ++ flat_map piece (take i xs) → after ≡ now ++ piece x → after ≡ before ++ flat_map piece (take (i + 1) xs)
  pieces_more piece before so_far step =
      step ∙ ap (λ bytes. bytes ++ piece x) so_far ∙ flat_map_more piece before (take i xs) x
      ∙ ap (λ ys. before ++ flat_map piece ys) take-more

  -- the room that was used so far, and what the item's piece used
  pub room_more : (room : X → ℕ) {before : ℕ} (now after : ℕ)
      → before ≤ now + sum_by room (take i xs) → now ≤ after + room x → before ≤ after + sum_by room (take (i + 1) xs)
  room_more room now after so_far step =
      let total = sum_by_more room xs i x inside ∙ ap (λ y. sum_by room (take i xs) + room y) (sym is) in
      omega arith

  -- the sum so far, and the item's number
  pub sum_more : (room : X → ℕ) (base now after : ℕ) → now ≡ base + sum_by room (take i xs) → after ≡ now + room x → after ≡ base + sum_by room (take (i + 1) xs)
  sum_more room base now after so_far step =
      let total = sum_by_more room xs i x inside ∙ ap (λ y. sum_by room (take i xs) + room y) (sym is) in
      omega arith

  -- each so far, and the item
  pub all_more : (P : X → Type 0) → All P (take i xs) → P x → All P (take (i + 1) xs)
  all_more P so_far here = All-same P (take (i + 1) xs) (take i xs ++ x ∷ []) (sym take-more) (All-push P (take i xs) x so_far here)
