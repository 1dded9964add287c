-- Lists in pieces of 512, and what is left after them.
use Rattle.std.proofs.Common.{◌≡◌, ℕ, zero, suc, ◌≤◌, List, [], ◌∷◌, ◌++◌, length, take, drop, refl, sym, ap, ◌∙◌, arith}
use Rattle.std.specs.List.{AllByRecursion, flat_map}
use Rattle.std.proofs.lemmas.List.{append-nil, append_assoc, length-append, length-drop, take_all, drop_all}
use Rattle.std.proofs.Math.Seq.{drop-append_seam, take-append_seam}
use Rattle.std.proofs.lemmas.Grind.{flat_map-append}
use Rattle.log_model.proofs.Lists.{each_append}
use Rattle.snapshot_model.specs.Spelling.{pieces, in_pieces}
use Rattle.snapshot_model.proofs.Pieces.{few_pieces, join-in_pieces, short_pieces}
use Rattle.snapshot_store.specs.Levels.{AreFull, IsCut}

module _ {A : Type 0} where
  abbrev joined : List (List A) → List A
  joined ps = flat_map (λ p. p) ps

  -- one thing more is left
  pub cut_more : {things : List A} {ps : List (List A)} {left : List A} (x : A) → IsCut things ps left → IsCut (things ++ x ∷ []) ps (left ++ x ∷ [])
  cut_more {ps = ps} {left = left} x cut = record {
    whole = ap (λ l. l ++ x ∷ []) cut.whole ∙ append_assoc (joined ps) left (x ∷ []);
    full = cut.full;
  }

  -- what is left is a full piece
  pub cut_full : {things : List A} {ps : List (List A)} {left : List A} → IsCut things ps left → length left ≡ 512 → IsCut things (ps ++ left ∷ []) []
  cut_full {ps = ps} {left = left} cut full = record {
    whole = cut.whole ∙ ap (λ l. joined ps ++ l) (sym (append-nil left)) ∙ sym (flat_map-append (λ (p : List A). p) ps (left ∷ [])) ∙ sym (append-nil (joined (ps ++ left ∷ [])));
    full = each_append (λ (p : List A). length p ≡ 512) ps (left ∷ []) cut.full (full, tt);
  }

  -- ---- the pieces of the definition

  -- with more steps than things there are no more pieces
  pub enough : (n m size : ℕ) (xs : List A) → 1 ≤ size → length xs ≤ n → length xs ≤ m → pieces n size xs ≡ pieces m size xs
  enough zero zero size [] some h g = refl
  enough zero (suc m) size [] some h g = refl
  enough (suc n) zero size [] some h g = refl
  enough (suc n) (suc m) size [] some h g = refl
  enough zero m size (x ∷ xs) some h g = absurd (omega (arith, h))
  enough (suc n) zero size (x ∷ xs) some h g = absurd (omega (arith, g))
  enough (suc n) (suc m) size (x ∷ xs) some h g =
      let shorter = length-drop size (x ∷ xs) in
      ap (λ ps. take size (x ∷ xs) ∷ ps) (enough n m size (drop size (x ∷ xs)) some (omega (arith, shorter, some, h)) (omega (arith, shorter, some, g)))

  -- the first piece, and those of the rest
  pub next_piece : (size : ℕ) (xs : List A) → 1 ≤ size → 1 ≤ length xs → in_pieces size xs ≡ take size xs ∷ in_pieces size (drop size xs)
  next_piece size [] some more = absurd (omega (arith, more))
  next_piece size (x ∷ xs) some more =
      let shorter = length-drop size (x ∷ xs) in
      ap (λ ps. take size (x ∷ xs) ∷ ps) (enough (length xs) (length (drop size (x ∷ xs))) size (drop size (x ∷ xs)) some (omega (arith, shorter, some)) (omega arith))

  -- a piece of that size in front
  pub piece_in_front : (size : ℕ) (p xs : List A) → 1 ≤ size → length p ≡ size → in_pieces size (p ++ xs) ≡ p ∷ in_pieces size xs
  piece_in_front size p xs some long =
      next_piece size (p ++ xs) some (omega (arith, length-append p xs, some, long))
      ∙ (λ i. take (sym long i) (p ++ xs) ∷ in_pieces size (drop (sym long i) (p ++ xs)))
      ∙ (λ i. take-append_seam p xs i ∷ in_pieces size (drop-append_seam p xs i))

  -- what is left is the last piece, if it isn't empty
  abbrev pub rest_piece : List A → List (List A)
  rest_piece [] = []
  rest_piece (x ∷ xs) = (x ∷ xs) ∷ []

  -- the pieces of what was cut
  pub pieces_cut : {things : List A} {ps : List (List A)} {left : List A} → IsCut things ps left → length left ≤ 512 → in_pieces 512 things ≡ ps ++ rest_piece left
  pieces_cut {ps = ps} {left = left} cut few = ap (in_pieces 512) cut.whole ∙ by ps left cut.full few
    where
      last : (xs : List A) → length xs ≤ 512 → in_pieces 512 xs ≡ rest_piece xs
      last [] h = refl
      last (x ∷ xs) h =
          next_piece 512 (x ∷ xs) (omega arith) (omega arith)
          ∙ (λ i. take_all 512 (x ∷ xs) h i ∷ in_pieces 512 (drop_all 512 (x ∷ xs) h i))

      by : (qs : List (List A)) (xs : List A) → AreFull qs → length xs ≤ 512 → in_pieces 512 (joined qs ++ xs) ≡ qs ++ rest_piece xs
      by [] xs full h = last xs h
      by (q ∷ qs) xs full h =
          ap (in_pieces 512) (append_assoc q (joined qs) xs) ∙ piece_in_front 512 q (joined qs ++ xs) (omega arith) full.0 ∙ ap (λ l. q ∷ l) (by qs xs full.1 h)

  -- more than one piece is of more than one piece's things
  pub one_piece : (size : ℕ) (xs : List A) → length xs ≤ size → length (in_pieces size xs) ≤ 1
  one_piece size xs h = few_pieces (length xs) size xs 1 (omega (arith, h))

  -- what is one piece is no more than one piece's things
  pub within_piece : (size : ℕ) (xs : List A) → 1 ≤ size → length (in_pieces size xs) ≤ 1 → length xs ≤ size
  within_piece size xs some h = by (in_pieces size xs) (short_pieces (length xs) size xs) h (join-in_pieces size xs some)
    where
      by : (ps : List (List A)) → AllByRecursion (λ (p : List A). length p ≤ size) ps → length ps ≤ 1 → joined ps ≡ xs → length xs ≤ size
      by [] short few is = omega (arith, ap length is)
      by (p ∷ []) short few is = omega (arith, ap length is, ap length (append-nil p), short.0)
      by (p ∷ q ∷ ps) short few is = absurd (omega (arith, few))
