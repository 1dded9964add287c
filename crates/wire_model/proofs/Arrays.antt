-- Items of an array are read one by one.
use Rattle.std.proofs.Common.{◌≡◌, ℕ, ◌<◌, ◌≤◌, ◌^◌, List, [], ◌∷◌, ◌++◌, length, refl, sym, ap, ◌∙◌, arith, append_assoc}
use Rattle.std.specs.List.{AllByRecursion, flat_map}
use Rattle.wire_model.specs.Xdr.{word, array, IsWord, AreSoMany}
use Rattle.wire_model.specs.OneReading.{ReadsOne, IsFront, HasNoFront}
use Rattle.wire_model.proofs.OneReading.{one_word, regrouped}

module _ {A : Type 0} {Fits : A → Type 0} {item : A → List ℕ} (reads : ReadsOne Fits item) where
  abbrev pub AllFit : List A → Type 0
  AllFit xs = AllByRecursion Fits xs

  -- an array of at most so many
  abbrev pub AreFew : ℕ → List A → Type 0
  AreFew most xs = (length xs ≤ most) × AllFit xs

  each_more : (xs : List A) (x : A) → AllFit xs → Fits x → AllFit (xs ++ x ∷ [])
  each_more [] x f g = (g, tt)
  each_more (y ∷ ys) x f g = (f.0, each_more ys x f.1 g)

  pub no_items : (bytes : List ℕ) → IsFront AllFit (flat_map item) bytes [] bytes
  no_items bytes = record { fits = tt; spelled = refl }

  bytes_more : (xs : List A) (x : A) (rest : List ℕ) → flat_map item xs ++ (item x ++ rest) ≡ flat_map item (xs ++ x ∷ []) ++ rest
  bytes_more [] x rest = sym (append_assoc (item x) [] rest)
  bytes_more (y ∷ ys) x rest =
      append_assoc (item y) (flat_map item ys) (item x ++ rest)
      ∙ ap (λ (s : List ℕ). item y ++ s) (bytes_more ys x rest)
      ∙ sym (append_assoc (item y) (flat_map item (ys ++ x ∷ [])) rest)

  -- an item more
  pub more_items : {start left rest : List ℕ} {done : List A} {x : A}
      → IsFront AllFit (flat_map item) start done left → IsFront Fits item left x rest → IsFront AllFit (flat_map item) start (done ++ x ∷ []) rest
  more_items {rest} {done} {x} f g = record {
    fits = each_more done x f.fits g.fits;
    spelled = f.spelled ∙ ap (λ (s : List ℕ). flat_map item done ++ s) g.spelled ∙ bytes_more done x rest;
  }

  -- what stands after the first items of more
  record Continues (done xs : List A) (left rest : List ℕ) : Type 0 where
    next : A
    fits : Fits next
    behind : List ℕ
    spelled : left ≡ item next ++ behind

  continues : (done xs : List A) (left rest : List ℕ) → AllFit done → AllFit xs → length done < length xs
      → flat_map item done ++ left ≡ flat_map item xs ++ rest → Continues done xs left rest
  continues done [] left rest f g short same = absurd (omega (arith, short))
  continues [] (x ∷ xs) left rest f g short same = record { next = x; fits = g.0; behind = flat_map item xs ++ rest; spelled = same ∙ append_assoc (item x) (flat_map item xs) rest }
  continues (d ∷ done) (x ∷ xs) left rest f g short same =
      let p = reads.one d x (flat_map item done ++ left) (flat_map item xs ++ rest) f.0 g.0 (regrouped (item d) (flat_map item done) (item x) (flat_map item xs) left rest same) in
      let c = continues done xs left rest f.1 g.1 (omega (arith, short)) p.1 in
      record { next = c.next; fits = c.fits; behind = c.behind; spelled = c.spelled }

  pub no_next : {count : ℕ} {start left : List ℕ} {done : List A} → IsFront AllFit (flat_map item) start done left → length done < count
      → HasNoFront Fits item left → HasNoFront (AreSoMany Fits count) (flat_map item) start
  no_next {left = left} {done = done} f short absent = record {
    none = λ xs rest g.
        let c = continues done xs left rest f.fits g.fits.each (omega (arith, short, g.fits.size)) (sym f.spelled ∙ g.spelled) in
        absent.none c.next c.behind (record { fits = c.fits; spelled = c.spelled });
  }

  -- ---- after the count

  pub counted : {most count : ℕ} {bytes middle rest : List ℕ} {xs : List A} → IsFront IsWord word bytes count middle → count ≤ most
      → IsFront AllFit (flat_map item) middle xs rest → length xs ≡ count → IsFront (AreFew most) (array item) bytes xs rest
  counted {count} {rest = rest} {xs = xs} f few g size = record {
    fits = (omega (arith, few, size), g.fits);
    spelled = f.spelled ∙ ap (λ (s : List ℕ). word count ++ s) g.spelled ∙ sym (append_assoc (word count) (flat_map item xs) rest) ∙ ap (λ n. (word n ++ flat_map item xs) ++ rest) (sym size);
  }

  pub no_count : {bytes : List ℕ} (most : ℕ) → most < 2 ^ 32 → HasNoFront IsWord word bytes → HasNoFront (AreFew most) (array item) bytes
  no_count most few absent = record {
    none = λ xs rest g. absent.none (length xs) (flat_map item xs ++ rest) (record { fits = omega (arith, g.fits.0, few); spelled = g.spelled ∙ append_assoc (word (length xs)) (flat_map item xs) rest });
  }

  -- what the count in front says of the items after it
  the_count : {most count : ℕ} {bytes middle rest : List ℕ} {xs : List A} → most < 2 ^ 32 → IsFront IsWord word bytes count middle
      → IsFront (AreFew most) (array item) bytes xs rest → (count ≡ length xs) × (middle ≡ flat_map item xs ++ rest)
  the_count {count} {middle = middle} {rest = rest} {xs = xs} few f g =
      one_word.one count (length xs) middle (flat_map item xs ++ rest) f.fits (omega (arith, g.fits.0, few)) (sym f.spelled ∙ g.spelled ∙ append_assoc (word (length xs)) (flat_map item xs) rest)

  pub too_many : {count : ℕ} {bytes middle : List ℕ} (most : ℕ) → most < 2 ^ 32 → IsFront IsWord word bytes count middle → most < count → HasNoFront (AreFew most) (array item) bytes
  too_many most few f many = record { none = λ xs rest g. let p = the_count few f g in absurd (omega (arith, p.0, g.fits.0, many)) }

  pub no_counted : {count : ℕ} {bytes middle : List ℕ} (most : ℕ) → most < 2 ^ 32 → IsFront IsWord word bytes count middle → HasNoFront (AreSoMany Fits count) (flat_map item) middle → HasNoFront (AreFew most) (array item) bytes
  no_counted most few f absent = record {
    none = λ xs rest g. let p = the_count few f g in absent.none xs rest (record { fits = record { each = g.fits.1; size = sym p.0 }; spelled = p.1 });
  }
