-- Words that are the same in each result.
use Rattle.std.proofs.Common.{◌≡◌, ℕ, zero, suc, ◌+◌, ◌<◌, ◌≤◌, ◌^◌, List, [], ◌∷◌, ◌++◌, length, take, get_or, Option, Some, None, refl, sym, ap, ◌∙◌, arith, append_assoc}
use Rattle.std.specs.Prelude.{◌≢◌}
use Rattle.std.specs.List.{flat_map}
use Rattle.std.proofs.lemmas.List.{append_cancel_left, take_all, take_more, flat_map_more}
use Rattle.wire_model.specs.Xdr.{word, IsWord, IsAny}
use Rattle.wire_model.specs.OneReading.{ReadsOne, IsFront, HasNoFront}
use Rattle.wire_model.proofs.OneReading.{one_word, always, regrouped}
use Rattle.wire_model.specs.Parts.{Told, Reads}
use Rattle.nfs3_replies.specs.ReadParts.{constant}

pub one_constant : (words : List ℕ) → ReadsOne IsAny (constant words)
one_constant words = always (constant words tt)

-- what stands after the first words
record Behind (w : ℕ) (left : List ℕ) : Type 0 where
  rest : List ℕ
  spelled : left ≡ word w ++ rest

next_word : (ws : List ℕ) (i : ℕ) (left rest : List ℕ) → i < length ws → flat_map word (take i ws) ++ left ≡ flat_map word ws ++ rest → Behind (get_or ws i 0) left
next_word [] i left rest h e = absurd (omega (arith, h))
next_word (x ∷ xs) zero left rest h e = record { rest = flat_map word xs ++ rest; spelled = e ∙ append_assoc (word x) (flat_map word xs) rest }
next_word (x ∷ xs) (suc i) left rest h e =
    next_word xs i left rest (omega (arith, h))
    (append_cancel_left (word x) (flat_map word (take i xs) ++ left) (flat_map word xs ++ rest) (regrouped (word x) (flat_map word (take i xs)) (word x) (flat_map word xs) left rest e))

module _ (ws : List ℕ) (i : ℕ) (bytes left : List ℕ) (inside : i < length ws) (so_far : bytes ≡ flat_map word (take i ws) ++ left) where
  pub no_more : HasNoFront IsWord word left → get_or ws i 0 < 2 ^ 32 → HasNoFront IsAny (constant ws) bytes
  no_more absent fits = record {
    none = λ u rest f.
        let b = next_word ws i left rest inside (sym so_far ∙ f.spelled) in
        absent.none (get_or ws i 0) b.rest (record { fits = fits; spelled = b.spelled });
  }

  pub another : {n : ℕ} {rest : List ℕ} → IsFront IsWord word left n rest → n ≢ get_or ws i 0 → get_or ws i 0 < 2 ^ 32 → HasNoFront IsAny (constant ws) bytes
  another {n} {rest} f differs fits = record {
    none = λ u after g.
        let b = next_word ws i left after inside (sym so_far ∙ g.spelled) in
        differs (one_word.one n (get_or ws i 0) rest b.rest f.fits fits (sym f.spelled ∙ b.spelled)).0;
  }

-- ---- the words so far

abbrev ToldSoFar : List ℕ → ℕ → Option (List ℕ) → Option (List ℕ) → Type 0
ToldSoFar ws i None now = now ≡ None
ToldSoFar ws i (Some bytes) None = HasNoFront IsAny (constant ws) bytes
ToldSoFar ws i (Some bytes) (Some left) = bytes ≡ flat_map word (take i ws) ++ left

pub record SoFar (ws : List ℕ) (i : ℕ) (start now : Option (List ℕ)) : Type 0 where
  pub told : ToldSoFar ws i start now

pub none_so_far : (ws : List ℕ) (start : Option (List ℕ)) → SoFar ws 0 start start
none_so_far ws start = record { told = cases start }
  where
    cases : (start : Option (List ℕ)) → ToldSoFar ws 0 start start
    cases None = refl
    cases (Some bytes) = refl

one_more : (ws : List ℕ) (i : ℕ) → i < length ws → flat_map word (take i ws) ++ word (get_or ws i 0) ≡ flat_map word (take (i + 1) ws)
one_more ws i inside = flat_map_more word [] (take i ws) (get_or ws i 0) ∙ ap (flat_map word) (sym (take_more ws i 0 inside))

module _ (ws : List ℕ) (i : ℕ) (inside : i < length ws) (bounded : get_or ws i 0 < 2 ^ 32) {start now after : Option (List ℕ)} {n : ℕ} (so_far : SoFar ws i start now) (next : Reads IsWord word now n after) where
  pub the_word : n ≡ get_or ws i 0 → SoFar ws (i + 1) start after
  the_word same = record { told = cases start now after so_far.told next.told }
    where
      cases : (start now after : Option (List ℕ)) → ToldSoFar ws i start now → Told IsWord word now n after → ToldSoFar ws (i + 1) start after
      cases None None after p q = q
      cases None (Some left) after p q = absurd (cc p)
      cases (Some bytes) None None p q = p
      cases (Some bytes) None (Some rest) p q = absurd (cc q)
      cases (Some bytes) (Some left) None p q = no_more ws i bytes left inside p q bounded
      cases (Some bytes) (Some left) (Some rest) p q =
          p ∙ ap (λ (s : List ℕ). flat_map word (take i ws) ++ s) q.spelled ∙ sym (append_assoc (flat_map word (take i ws)) (word n) rest)
          ∙ ap (λ (k : ℕ). (flat_map word (take i ws) ++ word k) ++ rest) same ∙ ap (λ (s : List ℕ). s ++ rest) (one_more ws i inside)

  pub missed_word : {last : Option (List ℕ)} → n ≢ get_or ws i 0 → last ≡ None → Reads IsAny (constant ws) start tt last
  missed_word {last} differs gone = record { told = cases start now after last gone so_far.told next.told }
    where
      cases : (start now after last : Option (List ℕ)) → last ≡ None → ToldSoFar ws i start now → Told IsWord word now n after → Told IsAny (constant ws) start tt last
      cases start now after (Some left) gone p q = absurd (cc gone)
      cases None now after None gone p q = refl
      cases (Some bytes) None after None gone p q = p
      cases (Some bytes) (Some left) None None gone p q = no_more ws i bytes left inside p q bounded
      cases (Some bytes) (Some left) (Some rest) None gone p q = another ws i bytes left inside p q differs bounded

pub all_words : (ws : List ℕ) (i : ℕ) {start now : Option (List ℕ)} → length ws ≤ i → SoFar ws i start now → Reads IsAny (constant ws) start tt now
all_words ws i {start} {now} over so_far = record { told = cases start now so_far.told }
  where
    cases : (start now : Option (List ℕ)) → ToldSoFar ws i start now → Told IsAny (constant ws) start tt now
    cases None now p = p
    cases (Some bytes) None p = p
    cases (Some bytes) (Some left) p = record { fits = tt; spelled = p ∙ ap (λ (xs : List ℕ). flat_map word xs ++ left) (take_all i ws over) }
