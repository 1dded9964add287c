-- Pieces in a row, and what a change of one makes of the places below the size.
use Rattle.std.proofs.Common.{◌≡◌, ◌≢◌, ℕ, zero, suc, ◌+◌, ◌*◌, ◌-◌, ◌<◌, ◌≤◌, List, [], ◌++◌, length, take, drop, max, min, replicate, inl, inr, refl, sym, ap, ◌∙◌, arith, length-append, length-take, length-drop}
use Rattle.std.proofs.lemmas.Bool.{cases_lt, cases_eq}
use Rattle.std.proofs.lemmas.List.{append-nil, append_assoc, take_all, drop_all, take-take, take_at, take-append-le, drop-append-le, take-replicate, drop-replicate, take-append-drop, drop-take, length-replicate, replicate-append-replicate}
use Rattle.std.proofs.Math.Nat.{mul-suc, mul-le-mul_left, le-mul_of_pos_right, mul_comm}
use Rattle.std.proofs.Math.Seq.{take-append-add, drop-append-add}
use Rattle.inode_replay.specs.Pieces.{overwritten, ChangesOne, Fit, padded, row, bytes_in}

-- ---- parts of lists

-- a part of the list, in place of as many others
abbrev pub pasted : List ℕ → ℕ → List ℕ → List ℕ
pasted xs at part = take at xs ++ (part ++ drop (at + length part) xs)

-- within the first of two lists
pasted_left : (xs ys part : List ℕ) (at : ℕ) → at + length part ≤ length xs → pasted xs at part ++ ys ≡ pasted (xs ++ ys) at part
pasted_left xs ys part at h =
    let front : take at (xs ++ ys) ≡ take at xs = take-append-le at xs ys (omega arith) in
    let back : drop (at + length part) (xs ++ ys) ≡ drop (at + length part) xs ++ ys = drop-append-le (at + length part) xs ys h in
    rw (front, back) (append_assoc (take at xs) (part ++ drop (at + length part) xs) ys ∙ ap (λ l. take at xs ++ l) (append_assoc part (drop (at + length part) xs) ys))

-- within the second of two lists
pasted_right : (xs ys part : List ℕ) (n s at : ℕ) → length xs ≡ n → at ≡ n + s → xs ++ pasted ys s part ≡ pasted (xs ++ ys) at part
pasted_right xs ys part n s at long is =
    let start : at ≡ length xs + s = omega arith in
    let end : at + length part ≡ length xs + (s + length part) = omega arith in
    let front : take at (xs ++ ys) ≡ xs ++ take s ys = ap (λ m. take m (xs ++ ys)) start ∙ take-append-add xs ys s in
    let back : drop (at + length part) (xs ++ ys) ≡ drop (s + length part) ys = ap (λ m. drop m (xs ++ ys)) end ∙ drop-append-add xs ys (s + length part) in
    rw (front, back) (sym (append_assoc xs (take s ys) (part ++ drop (s + length part) ys)))

-- the end of a list's start
end_of_start : (xs : List ℕ) (e n : ℕ) → drop e (take n xs) ≡ take (n - e) (drop e xs)
end_of_start xs e n = elim (cases_lt e n) [
  | inl h ↦ let is : n ≡ e + (n - e) = omega arith in ap (λ m. drop e (take m xs)) is ∙ drop-take e (n - e) xs
  | inr h ↦
      let none : n - e ≡ 0 = omega arith in
      let short : length (take n xs) ≤ e = omega (arith, length-take n xs) in
      drop_all e (take n xs) short ∙ sym (ap (λ m. take m (drop e xs)) none)
]

-- a list's start, cut where a part of it ends that lies in its places or goes on after them
cut_pasted : (xs part : List ℕ) (n m at : ℕ) → at ≤ n → n ≤ length xs → m ≡ max n (at + length part) → take m (pasted xs at part) ≡ pasted (take n xs) at part
cut_pasted xs part n m at h within is =
    let e = at + length part in
    let front : take at (take n xs) ≡ take at xs = take-take at n xs h in
    let start : m ≡ length (take at xs) + (length part + (n - e)) = omega (arith, length-take at xs) in
    ap (λ k. take k (pasted xs at part)) start
    ∙ take-append-add (take at xs) (part ++ drop e xs) (length part + (n - e))
    ∙ ap (λ l. take at xs ++ l) (take-append-add part (drop e xs) (n - e))
    ∙ ap (λ l. l ++ (part ++ take (n - e) (drop e xs))) (sym front)
    ∙ ap (λ l. take at (take n xs) ++ (part ++ l)) (sym (end_of_start xs e n))

-- the start of a list with zeros after it
take_zeros : (xs : List ℕ) (m r : ℕ) → m ≤ length xs + r → take m (xs ++ replicate r 0) ≡ take m xs ++ replicate (m - length xs) 0
take_zeros xs m r h = elim (cases_lt m (length xs)) [
  | inl l ↦
      let none : m - length xs ≡ 0 = omega arith in
      take-append-le m xs (replicate r 0) (omega arith) ∙ sym (ap (λ k. take m xs ++ replicate k 0) none ∙ append-nil (take m xs))
  | inr l ↦
      let is : m ≡ length xs + (m - length xs) = omega arith in
      ap (λ k. take k (xs ++ replicate r 0)) is
      ∙ take-append-add xs (replicate r 0) (m - length xs)
      ∙ ap (λ l. xs ++ l) (take-replicate (m - length xs) r 0 (omega arith))
      ∙ ap (λ l. l ++ replicate (m - length xs) 0) (sym (take_all m xs l))
]

-- its end
drop_zeros : (xs : List ℕ) (e r : ℕ) → drop e (xs ++ replicate r 0) ≡ drop e xs ++ replicate (r - (e - length xs)) 0
drop_zeros xs e r = elim (cases_lt e (length xs)) [
  | inl l ↦
      let none : r ≡ r - (e - length xs) = omega arith in
      drop-append-le e xs (replicate r 0) (omega arith) ∙ ap (λ k. drop e xs ++ replicate k 0) none
  | inr l ↦
      let is : e ≡ length xs + (e - length xs) = omega arith in
      ap (λ k. drop k (xs ++ replicate r 0)) is
      ∙ drop-append-add xs (replicate r 0) (e - length xs)
      ∙ drop-replicate (e - length xs) r 0
      ∙ ap (λ l. l ++ replicate (r - (e - length xs)) 0) (sym (drop_all e xs l))
]

pub length-overwritten : (xs part : List ℕ) (at : ℕ) → length (overwritten xs at part) ≡ max (length xs) (at + length part)
length-overwritten xs part at = simp (length-append, length-take, length-drop, length-replicate) (omega arith)

-- a list's start, with zeros after it up to a place further on
grown_from : (r xs : List ℕ) (size n k : ℕ) → take size r ≡ xs → length xs ≡ size → size ≤ n → drop size r ≡ replicate k 0 → n - size ≤ k → take n r ≡ xs ++ replicate (n - size) 0
grown_from r xs size n k start long h end far =
    let is : n ≡ length xs + (n - size) = omega arith in
    let whole : r ≡ xs ++ replicate k 0 = sym (take-append-drop size r) ∙ ap (λ l. l ++ drop size r) start ∙ ap (λ l. xs ++ l) end in
    ap (λ m. take m r) is ∙ ap (take (length xs + (n - size))) whole ∙ take-append-add xs (replicate k 0) (n - size) ∙ ap (λ l. xs ++ l) (take-replicate (n - size) k 0 far)

-- ---- one piece

module _ (c : ℕ) where
  pub length-padded : (xs : List ℕ) → length (padded c xs) ≡ c
  unfolding padded
  length-padded xs = simp (length-append, length-take, length-replicate) (omega arith)

  take_padded : (xs : List ℕ) (s : ℕ) → s ≤ c → take s (padded c xs) ≡ take s xs ++ replicate (s - length xs) 0
  unfolding padded
  take_padded xs s h =
      let short : length (take c xs) ≡ min c (length xs) = length-take c xs in
      let same : s - length (take c xs) ≡ s - length xs = omega arith in
      take_zeros (take c xs) s (c - length xs) (omega arith) ∙ ap (λ l. l ++ replicate (s - length (take c xs)) 0) (take-take s c xs h) ∙ ap (λ k. take s xs ++ replicate k 0) same

  padded_is : (xs : List ℕ) → length xs ≤ c → padded c xs ≡ xs ++ replicate (c - length xs) 0
  unfolding padded
  padded_is xs h = ap (λ l. l ++ replicate (c - length xs) 0) (take_all c xs h)

  drop_padded : (xs : List ℕ) (e : ℕ) → length xs ≤ c → drop e (padded c xs) ≡ drop e xs ++ replicate (c - max e (length xs)) 0
  drop_padded xs e h =
      let same : (c - length xs) - (e - length xs) ≡ c - max e (length xs) = omega arith in
      ap (drop e) (padded_is xs h) ∙ drop_zeros xs e (c - length xs) ∙ ap (λ k. drop e xs ++ replicate k 0) same

  -- what is read of a piece
  pub part_padded : (xs : List ℕ) (s m : ℕ) → length xs ≤ c → s + m ≤ c → take m (drop s (padded c xs)) ≡ take m (drop s xs) ++ replicate (m - length (drop s xs)) 0
  part_padded xs s m h fits =
      ap (take m) (drop_padded xs s h) ∙ take_zeros (drop s xs) m (c - max s (length xs)) (omega (arith, length-drop s xs))

  -- what is written into one
  pub padded_overwritten : (xs part : List ℕ) (s : ℕ) → length xs ≤ c → s + length part ≤ c → padded c (overwritten xs s part) ≡ pasted (padded c xs) s part
  padded_overwritten xs part s h fits =
      let e = s + length part in
      let front = take s xs ++ replicate (s - length xs) 0 in
      let long : length (overwritten xs s part) ≡ max (length xs) e = length-overwritten xs part s in
      let rest : c - length (overwritten xs s part) ≡ c - max e (length xs) = omega arith in
      padded_is (overwritten xs s part) (omega arith)
      ∙ ap (λ k. overwritten xs s part ++ replicate k 0) rest
      ∙ append_assoc (front ++ part) (drop e xs) (replicate (c - max e (length xs)) 0)
      ∙ append_assoc front part (drop e xs ++ replicate (c - max e (length xs)) 0)
      ∙ ap (λ l. l ++ (part ++ (drop e xs ++ replicate (c - max e (length xs)) 0))) (sym (take_padded xs s (omega arith)))
      ∙ ap (λ l. take s (padded c xs) ++ (part ++ l)) (sym (drop_padded xs e h))

  -- what is kept of one
  start_kept : (xs : List ℕ) (s : ℕ) → s ≤ c → take s (padded c (take s xs)) ≡ take s (padded c xs)
  start_kept xs s h =
      let same : s - length (take s xs) ≡ s - length xs = omega (arith, length-take s xs) in
      take_padded (take s xs) s h
      ∙ ap (λ l. l ++ replicate (s - length (take s xs)) 0) (take-take s s xs (omega arith))
      ∙ ap (λ k. take s xs ++ replicate k 0) same
      ∙ sym (take_padded xs s h)

  padded_cut : (xs : List ℕ) (s : ℕ) → s ≤ c → padded c (take s xs) ≡ pasted (padded c xs) s (drop s (padded c (take s xs)))
  padded_cut xs s h =
      let new = padded c (take s xs) in
      let long : length (drop s new) ≡ c - s = length-drop s new ∙ ap (λ k. k - s) (length-padded (take s xs)) in
      let none : drop (s + length (drop s new)) (padded c xs) ≡ [] = drop_all (s + length (drop s new)) (padded c xs) (omega (arith, length-padded xs)) in
      sym (ap (λ l. take s (padded c xs) ++ (drop s new ++ l)) none
      ∙ ap (λ l. take s (padded c xs) ++ l) (append-nil (drop s new))
      ∙ ap (λ l. l ++ drop s new) (sym (start_kept xs s h))
      ∙ take-append-drop s new)

  -- ---- pieces in a row

  pub length-row : (p : ℕ → List ℕ) (n : ℕ) → length (row c p n) ≡ c * n
  unfolding row
  length-row p zero = omega arith
  length-row p (suc n) = length-append (row c p n) (padded c (p n)) ∙ omega (arith, length-row p n, length-padded (p n), mul-suc c n)

  longer_row : (p : ℕ → List ℕ) (size n more : ℕ) → size ≤ c * n → take size (row c p (n + more)) ≡ take size (row c p n)
  unfolding row
  longer_row p size n zero long =
      let same : n + 0 ≡ n = omega arith in
      ap (λ m. take size (row c p m)) same
  longer_row p size n (suc more) long =
      let far : c * n ≤ c * (n + more) = mul-le-mul_left c (omega arith) in
      let next : n + suc more ≡ suc (n + more) = omega arith in
      ap (λ m. take size (row c p m)) next
      ∙ take-append-le size (row c p (n + more)) (padded c (p (n + more))) (omega (arith, length-row p (n + more)))
      ∙ longer_row p size n more long

  below_next : (k n : ℕ) → k < n → c * k + c ≤ c * n
  below_next k n h =
      let more : c * suc k ≤ c * n = mul-le-mul_left c (omega arith) in
      omega (arith, mul-suc c k)

  -- what is read of a piece stands in the row
  row_part : (p : ℕ → List ℕ) (k s m n : ℕ) → s + m ≤ c → k < n → take m (drop (c * k + s) (row c p n)) ≡ take m (drop s (padded c (p k)))
  unfolding row
  row_part p k s m zero fits h = absurd (omega arith)
  row_part p k s m (suc n) fits h = elim (cases_lt k n) [
    | inl l ↦
        let far = below_next k n l in
        let long = length-row p n in
        let at = c * k + s in
        let enough : m ≤ length (drop at (row c p n)) = omega (arith, length-drop at (row c p n)) in
        ap (take m) (drop-append-le at (row c p n) (padded c (p n)) (omega arith))
        ∙ take-append-le m (drop at (row c p n)) (padded c (p n)) enough
        ∙ row_part p k s m n fits l
    | inr l ↦
        let same : k ≡ n = omega arith in
        let long = length-row p n in
        let start : c * k + s ≡ length (row c p n) + s = ap (λ i. c * i + s) same ∙ ap (λ i. i + s) (sym long) in
        ap (λ i. take m (drop i (row c p n ++ padded c (p n)))) start
        ∙ ap (take m) (drop-append-add (row c p n) (padded c (p n)) s)
        ∙ ap (λ i. take m (drop s (padded c (p i)))) (sym same)
  ]

  padded_nothing : (bytes : List ℕ) → length bytes ≤ 0 → padded c bytes ≡ replicate c 0
  padded_nothing bytes none =
      let all : c - max 0 (length bytes) ≡ c = omega arith in
      drop_padded bytes 0 (omega arith) ∙ ap (λ l. l ++ replicate (c - max 0 (length bytes)) 0) (drop_all 0 bytes none) ∙ ap (λ k. replicate k 0) all

  -- after the size there are zeros: it ends before a piece, in which there is then nothing, or in that piece
  end_before : (xs bytes : List ℕ) (size n : ℕ) → length xs ≡ n → size ≤ n → length bytes ≤ 0 → drop size xs ≡ replicate (n - size) 0 → drop size (xs ++ padded c bytes) ≡ replicate (n + c - size) 0
  end_before xs bytes size n long below none before =
      let more : (n - size) + c ≡ n + c - size = omega arith in
      drop-append-le size xs (padded c bytes) (omega arith)
      ∙ ap (λ l. l ++ padded c bytes) before
      ∙ ap (λ l. replicate (n - size) 0 ++ l) (padded_nothing bytes none)
      ∙ replicate-append-replicate (n - size) c 0
      ∙ ap (λ k. replicate k 0) more

  end_inside : (xs bytes : List ℕ) (size n t : ℕ) → length xs ≡ n → size ≡ n + t → length bytes ≤ c → length bytes ≤ t → drop size (xs ++ padded c bytes) ≡ replicate (n + c - size) 0
  end_inside xs bytes size n t long is short before =
      let start : size ≡ length xs + t = omega arith in
      let all : c - max t (length bytes) ≡ n + c - size = omega arith in
      ap (λ i. drop i (xs ++ padded c bytes)) start
      ∙ drop-append-add xs (padded c bytes) t
      ∙ drop_padded bytes t short
      ∙ ap (λ l. l ++ replicate (c - max t (length bytes)) 0) (drop_all t bytes before)
      ∙ ap (λ k. replicate k 0) all

  row_end : (p : ℕ → List ℕ) (size : ℕ) → Fit c p size → (n : ℕ) → drop size (row c p n) ≡ replicate (c * n - size) 0
  unfolding row
  row_end p size fit zero =
      let none : 0 ≡ c * 0 - size = omega arith in
      drop_all size [] (omega arith) ∙ ap (λ k. replicate k 0) none
  row_end p size fit (suc n) =
      let ends = fit n in
      let next : c * n + c - size ≡ c * suc n - size = omega (arith, mul-suc c n) in
      elim (cases_lt size (c * n)) [
        | inl l ↦ end_before (row c p n) (p n) size (c * n) (length-row p n) (omega arith) (omega arith) (row_end p size fit n)
        | inr l ↦ end_inside (row c p n) (p n) size (c * n) (size - c * n) (length-row p n) (omega arith) ends.0 ends.1
      ]
      ∙ ap (λ k. replicate k 0) next

  -- ---- one of them changed

  module _ (p q : ℕ → List ℕ) (k : ℕ) (v : List ℕ) (change : ChangesOne p q k v) where
    row_before : (n : ℕ) → n ≤ k → row c q n ≡ row c p n
    unfolding row
    row_before zero h = refl
    row_before (suc n) h =
        let other : n ≢ k = λ e. omega arith in
        ap (λ l. l ++ padded c (q n)) (row_before n (omega arith)) ∙ ap (λ l. row c p n ++ padded c l) (change.1 n other)

    row_changed : (s : ℕ) (part : List ℕ) → s + length part ≤ c → padded c v ≡ pasted (padded c (p k)) s part → (n : ℕ) → k < n → row c q n ≡ pasted (row c p n) (c * k + s) part
    unfolding row
    row_changed s part fits is zero h = absurd (omega arith)
    row_changed s part fits is (suc n) h = elim (cases_lt k n) [
      | inl l ↦
          let far = below_next k n l in
          let long = length-row p n in
          let other : n ≢ k = λ e. omega arith in
          ap (λ l. l ++ padded c (q n)) (row_changed s part fits is n l)
          ∙ ap (λ l. pasted (row c p n) (c * k + s) part ++ padded c l) (change.1 n other)
          ∙ pasted_left (row c p n) (padded c (p n)) part (c * k + s) (omega arith)
      | inr l ↦
          let same : n ≡ k = omega arith in
          let here : padded c (q n) ≡ pasted (padded c (p n)) s part = ap (λ i. padded c (q i)) same ∙ ap (padded c) change.0 ∙ is ∙ ap (λ i. pasted (padded c (p i)) s part) (sym same) in
          ap (λ l. l ++ padded c (q n)) (row_before n (omega arith))
          ∙ ap (λ l. row c p n ++ l) here
          ∙ pasted_right (row c p n) (padded c (p n)) part (c * n) s (c * k + s) (length-row p n) (ap (λ i. c * i + s) (sym same))
    ]

  -- ---- the places below the size

  module _ (positive : 0 < c) where
    enough : (n : ℕ) → n ≤ c * n
    enough n = omega (arith, le-mul_of_pos_right n positive, mul_comm n c)

    same_start : (p : ℕ → List ℕ) (size n : ℕ) → size ≤ n → take size (row c p n) ≡ bytes_in c p size
    unfolding bytes_in
    same_start p size n h =
        let is : n ≡ size + (n - size) = omega arith in
        ap (λ m. take size (row c p m)) is ∙ longer_row p size size (n - size) (enough size)

    pub length-bytes_in : (p : ℕ → List ℕ) (size : ℕ) → length (bytes_in c p size) ≡ size
    unfolding bytes_in
    length-bytes_in p size = omega (arith, length-take size (row c p size), length-row p size, enough size)

    pub size_is : (p : ℕ → List ℕ) (size : ℕ) (bytes : List ℕ) → bytes_in c p size ≡ bytes → size ≡ length bytes
    size_is p size bytes is = sym (length-bytes_in p size) ∙ ap length is

    pub bytes_grown : (p : ℕ → List ℕ) (size n : ℕ) → Fit c p size → size ≤ n → bytes_in c p n ≡ bytes_in c p size ++ replicate (n - size) 0
    unfolding bytes_in
    bytes_grown p size n fit h =
        let far = enough n in
        grown_from (row c p n) (bytes_in c p size) size n (c * n - size) (same_start p size n h) (length-bytes_in p size) h (row_end p size fit n) (omega arith)

    pub bytes_part : (p : ℕ → List ℕ) (size place k s m : ℕ) → length (p k) ≤ c → place ≡ c * k + s → s + m ≤ c → 0 < m → place + m ≤ size → take m (drop place (bytes_in c p size)) ≡ take m (drop s (p k)) ++ replicate (m - length (drop s (p k))) 0
    unfolding bytes_in
    bytes_part p size place k s m short is fits some within =
        let r = row c p size in
        let below : k < size = omega (arith, enough k) in
        ap (take m) (end_of_start r place size)
        ∙ take-take m (size - place) (drop place r) (omega arith)
        ∙ ap (λ i. take m (drop i r)) is
        ∙ row_part p k s m size fits below
        ∙ part_padded (p k) s m short fits

    module _ (p q : ℕ → List ℕ) (size k s place : ℕ) (fit : Fit c p size) (is : place ≡ c * k + s) where
      pub bytes_written : (part : List ℕ) (n : ℕ) → ChangesOne p q k (overwritten (p k) s part) → s + length part ≤ c → 0 < length part → place ≤ size → n ≡ max size (place + length part) → bytes_in c q n ≡ take place (bytes_in c p size) ++ part ++ drop (place + length part) (bytes_in c p size)
      unfolding bytes_in
      bytes_written part n change fits some there longer =
          let below : k < n = omega (arith, enough k) in
          let r = row c p n in
          let long : length r ≡ c * n = length-row p n in
          ap (take n) (row_changed p q k (overwritten (p k) s part) change s part fits (padded_overwritten (p k) part s (fit k).0 fits) n below)
          ∙ ap (λ i. take n (pasted r i part)) (sym is)
          ∙ cut_pasted r part size n place there (omega (arith, enough n)) longer
          ∙ ap (λ l. pasted l place part) (same_start p size n (omega arith))
          ∙ sym (append_assoc (take place (bytes_in c p size)) part (drop (place + length part) (bytes_in c p size)))

      pub fit_written : (part : List ℕ) (n : ℕ) → ChangesOne p q k (overwritten (p k) s part) → s + length part ≤ c → place ≤ size → n ≡ max size (place + length part) → Fit c q n
      fit_written part n change fits there longer i = elim (cases_eq i k) [
        | inl e ↦
            let long : length (q i) ≡ max (length (p k)) (s + length part) = ap (λ j. length (q j)) e ∙ ap length change.0 ∙ length-overwritten (p k) part s in
            let same : c * i ≡ c * k = ap (λ j. c * j) e in
            let old = fit k in
            (omega arith, omega arith)
        | inr apart ↦
            let same : length (q i) ≡ length (p i) = ap length (change.1 i apart) in
            let old = fit i in
            (omega arith, omega arith)
      ]

      pub bytes_cut : ChangesOne p q k (take s (p k)) → s ≤ c → place ≤ size → bytes_in c q place ≡ take place (bytes_in c p size)
      unfolding bytes_in
      bytes_cut change fits there =
          let n = size + suc k in
          let v = take s (p k) in
          let part = drop s (padded c v) in
          let long : length part ≡ c - s = length-drop s (padded c v) ∙ ap (λ m. m - s) (length-padded v) in
          let r = row c p n in
          let reach : place ≤ length r = omega (arith, length-row p n, enough n) in
          let whole : length (take place r) ≡ place = omega (arith, length-take place r) in
          sym (same_start q place n (omega arith))
          ∙ ap (take place) (row_changed p q k v change s part (omega arith) (padded_cut (p k) s fits) n (omega arith))
          ∙ ap (λ i. take place (pasted r i part)) (sym is)
          ∙ take_at (take place r) (part ++ drop (place + length part) r) place whole
          ∙ sym (take-take place size r there)
          ∙ ap (take place) (same_start p size n (omega arith))

      pub fit_cut : (last : c * k < size) → (below : size ≤ c * k + c) → ChangesOne p q k (take s (p k)) → Fit c q place
      fit_cut last below change i = elim (cases_lt i k) [
        | inl l ↦
            let same : length (q i) ≡ length (p i) = ap length (change.1 i (λ e. omega arith)) in
            let far = below_next i k l in
            let old = fit i in
            (omega arith, omega arith)
        | inr l ↦ elim (cases_eq i k) [
          | inl e ↦
              let long : length (q i) ≡ min s (length (p k)) = ap (λ j. length (q j)) e ∙ ap length change.0 ∙ length-take s (p k) in
              let same : c * i ≡ c * k = ap (λ j. c * j) e in
              let old = fit k in
              (omega arith, omega arith)
          | inr apart ↦
              let same : length (q i) ≡ length (p i) = ap length (change.1 i apart) in
              let above : k < i = omega arith in
              let far = below_next k i above in
              let old = fit i in
              (omega arith, omega arith)
        ]
      ]
