-- Lists whose items are put one after the other.
use Rattle.std.proofs.Common.{◌≡◌, ℕ, ◌+◌, ◌*◌, ◌<◌, ◌≤◌, min, List, [], ◌∷◌, ◌++◌, length, map, take, drop, refl, sym, ap, ◌∙◌, subst, arith}
use Rattle.std.proofs.lemmas.List.{append-nil, append_assoc, length-append, length-drop, length-map, map-append, drop_all, take_all, drop-drop}
use Rattle.snapshot_model.specs.Spelling.{Made, in_pieces}
use Rattle.snapshot_store.specs.declared.levels.Levels.{Levels}
use Rattle.snapshot_store.specs.Levels.{IsOver}
use Rattle.snapshot_store.specs.Listing.{IsListing}
use Rattle.snapshot_store.proofs.Cuts.{next_piece, piece_in_front}

-- ---- lists over pieces

module _ {A : Type 0} (size : ℕ) (make : List A → Made) (before : List (List ℕ)) (things : List A) where
  pub none_done : (l : Levels) → IsOver before [] before l → IsListing size make before things things before l
  none_done l over = record { done = []; over = over; whole = refl }

  -- a piece more
  pub one_done : (rest later : List A) (piece : List A) (between now : List (List ℕ)) (l m : Levels) → (listing : IsListing size make before things rest between l)
      → in_pieces size rest ≡ piece ∷ in_pieces size later → IsOver before (map make listing.done ++ make piece ∷ []) now m → IsListing size make before things later now m
  one_done rest later piece between now l m listing first over = record {
    done = listing.done ++ piece ∷ [];
    over = subst (λ items. IsOver before items now m) (sym (map-append make listing.done (piece ∷ []))) over;
    whole = append_assoc listing.done (piece ∷ []) (in_pieces size later) ∙ ap (λ ps. listing.done ++ ps) (sym first) ∙ listing.whole;
  }

  -- nothing is left
  module _ (rest : List A) (now : List (List ℕ)) (l : Levels) (listing : IsListing size make before things rest now l) (none : rest ≡ []) where
    pub all_done : IsOver before (map make (in_pieces size things)) now l
    all_done = subst (λ ps. IsOver before (map make ps) now l) (sym (append-nil listing.done) ∙ ap (λ (r : List A). listing.done ++ in_pieces size r) (sym none) ∙ listing.whole) listing.over

-- ---- the next piece

-- what is left of a file begins with the bytes that were read
pub piece_read : (body piece : List ℕ) (start read size : ℕ) → 1 ≤ size → start < length body → piece ≡ take size (drop start body) → read ≡ size → in_pieces size (drop start body) ≡ piece ∷ in_pieces size (drop (start + read) body)
piece_read body piece start read size some within taken as_many =
    next_piece size (drop start body) some (omega (arith, length-drop start body))
    ∙ (λ i. sym taken i ∷ in_pieces size (drop-drop size start body i))
    ∙ ap (λ n. piece ∷ in_pieces size (drop (start + n) body)) (sym as_many)

-- what is left of a slice begins with its first chunk
pub chunk_cut : {A : Type 0} (size : ℕ) (rest chunk later : List A) → 1 ≤ size → rest ≡ chunk ++ later → length chunk ≡ min size (length rest) → 0 < length rest → in_pieces size rest ≡ chunk ∷ in_pieces size later
chunk_cut size rest chunk [] some is long more =
    let all : rest ≡ chunk = is ∙ append-nil chunk in
    next_piece size rest some more ∙ (λ i. take_all size rest (omega (arith, ap length all, long)) i ∷ in_pieces size (drop_all size rest (omega (arith, ap length all, long)) i)) ∙ ap (λ c. c ∷ []) all
chunk_cut size rest chunk (x ∷ xs) some is long more =
    ap (in_pieces size) is ∙ piece_in_front size chunk (x ∷ xs) some (omega (arith, long, ap length is, length-append chunk (x ∷ xs)))

-- an empty list
pub none_left : {A : Type 0} (xs : List A) → length xs ≡ 0 → xs ≡ []
none_left [] h = refl
none_left (x ∷ xs) h = absurd (omega (arith, h))
