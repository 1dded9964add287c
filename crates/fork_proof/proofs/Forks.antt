-- A log that is shown as forked has two histories.
use Rattle.std.proofs.Common.{◌≡◌, ◌≢◌, ◌⊎◌, inl, inr, ⊎_elim, ℕ, suc, ◌+◌, ◌<◌, ◌≤◌, Bool, true, false, List, [], ◌∷◌, ◌++◌, length, get_or, drop, refl, sym, ap, ◌∙◌, subst, append_assoc, length-append, arith, Contains}
use Rattle.std.specs.Cmp.{Equal-is, tied_itself}
use Rattle.std.specs.Cmp.Lexicographic.{slice_cmp, nat_list_cmp_total}
use Rattle.std.specs.Ordering.{nat_cmp, is_eq}
use Rattle.std.specs.declared.cmp.Ordering.TheVariants.{Equal}
use Rattle.std.proofs.lemmas.List.{append-nil, map-append}
use Rattle.std.proofs.lemmas.List.Elements.{Contains-append_left, Contains-append_right, Contains-append_cases}
use Rattle.std.proofs.lemmas.Map.Lookups.{exact_bytes}
use Rattle.ivy_base.specs.declared.key.Key.{Key}
use Rattle.ivy_base.specs.declared.key.PubKey.{PubKey}
use Rattle.ivy_base.specs.Naming.{HasClash, name}
use Rattle.log_model.specs.Chain.{LinkedFrom}
use Rattle.log_model.specs.Record.{Record}
use Rattle.log_model.specs.Spelling.{HasSpelling, no_name, record_block}
use Rattle.log_model.specs.Standing.{blocks_of}
use Rattle.log_model.proofs.Lists.{here, there}
use Rattle.log_records.proofs.OneRecord.{one_record}
use Rattle.fork_proof.specs.Forms.{IsLink, LeadsDown, here as at_end, down}
use Rattle.fork_proof.specs.Laws.{ForksAreForks, IsPrefixOf}

same_or_not : (xs ys : List ℕ) → (xs ≡ ys) ⊎ (xs ≡ ys → ⊥)
same_or_not xs ys = by (is_eq (slice_cmp nat_cmp xs ys)) refl
  where
    by : (b : Bool) → is_eq (slice_cmp nat_cmp xs ys) ≡ b → (xs ≡ ys) ⊎ (xs ≡ ys → ⊥)
    by true e = inl (exact_bytes xs ys ((Equal-is (slice_cmp nat_cmp xs ys)).0 e))
    by false e = inr (λ s. let t = ap is_eq (subst (λ (zs : List ℕ). slice_cmp nat_cmp xs zs ≡ Equal) s (tied_itself nat_list_cmp_total xs)) in cc)

clash_more : (xs ys : List (List ℕ)) → ((b : List ℕ) → Contains xs b → Contains ys b) → HasClash xs → HasClash ys
clash_more xs ys into k = (k.0, k.1, into k.0 k.2, into k.1 k.3, k.4, k.5)

-- a list that isn't empty has a last element
ends_so : (l : List Record) → 0 < length l → (front : List Record) × (y : Record) × (l ≡ front ++ y ∷ [])
ends_so [] lt = absurd (omega (arith, lt))
ends_so (x ∷ []) lt = ([], x, refl)
ends_so (x ∷ y ∷ ys) lt = let w = ends_so (y ∷ ys) (omega arith) in (x ∷ w.0, w.1, ap (λ (l : List Record). x ∷ l) w.2)

abbrev name_at_end : Key → List Record → Key
name_at_end prev [] = prev
name_at_end prev (x ∷ xs) = name_at_end x.name xs

name_of_end : (prev : Key) (front : List Record) (y : Record) → name_at_end prev (front ++ y ∷ []) ≡ y.name
name_of_end prev [] y = refl
name_of_end prev (x ∷ xs) y = name_of_end x.name xs y

module _ (owner : PubKey) where
  linked_left : (n : ℕ) (prev : Key) (xs ys : List Record) → LinkedFrom owner n prev (xs ++ ys) → LinkedFrom owner n prev xs
  linked_left n prev [] ys h = tt
  linked_left n prev (x ∷ xs) ys h = (h.0, h.1, h.2, h.3, linked_left (n + 1) x.name xs ys h.4)

  last_seq : (n : ℕ) (prev : Key) (before : List Record) (last : Record) → LinkedFrom owner n prev (before ++ last ∷ []) → last.seq ≡ n + length before
  last_seq n prev [] last h = let e : last.seq ≡ n = h.2 in omega (arith, e)
  last_seq n prev (x ∷ xs) last h = let e : last.seq ≡ (n + 1) + length xs = last_seq (n + 1) x.name xs last h.4 in omega (arith, e)

  last_prev : (n : ℕ) (prev : Key) (before : List Record) (last : Record) → LinkedFrom owner n prev (before ++ last ∷ []) → last.prev ≡ name_at_end prev before
  last_prev n prev [] last h = h.3
  last_prev n prev (x ∷ xs) last h = last_prev (n + 1) x.name xs last h.4

  last_spelled : (n : ℕ) (prev : Key) (before : List Record) (last : Record) → LinkedFrom owner n prev (before ++ last ∷ []) → (last.owner ≡ owner) × HasSpelling last
  last_spelled n prev [] last h = (h.0, h.1)
  last_spelled n prev (x ∷ xs) last h = last_spelled (n + 1) x.name xs last h.4

  -- the history has the record of that number and that name
  record ComesTo (m : ℕ) (last : Key) (h : List Record) : Type 0 where
    before : List Record
    r : Record
    rest : List Record
    is : h ≡ (before ++ r ∷ []) ++ rest
    name_is : r.name ≡ last
    seq_is : r.seq ≡ m

  step : (seq : ℕ) (at last : Key) (block : List ℕ) (blocks : List (List ℕ)) (r : Record) → IsLink owner (suc seq) at block r → (m : ℕ) (before : List Record) (x : Record) → 1 ≤ m → suc seq ≡ m + length (block ∷ blocks)
      → LinkedFrom owner 1 no_name (before ++ x ∷ []) → x.seq ≡ suc seq → x.name ≡ at
      → ((front : List Record) (y : Record) → LinkedFrom owner 1 no_name (front ++ y ∷ []) → y.seq ≡ seq → y.name ≡ r.prev → HasClash (blocks_of (front ++ y ∷ []) ++ blocks) ⊎ ComesTo m last (front ++ y ∷ []))
      → HasClash (blocks_of (before ++ x ∷ []) ++ block ∷ blocks) ⊎ ComesTo m last (before ++ x ∷ [])
  step seq at last block blocks r link m before x some count linked seq_is name_is again = by (same_or_not (record_block x) block)
    where
      own : (x.owner ≡ owner) × HasSpelling x
      own = last_spelled 1 no_name before x linked

      long : length before ≡ m + length blocks
      long = let e : x.seq ≡ 1 + length before = last_seq 1 no_name before x linked in omega (arith, e, seq_is, count)

      stands : Contains (blocks_of (before ++ x ∷ [])) (record_block x)
      stands = subst (λ (l : List (List ℕ)). Contains l (record_block x)) (sym (map-append record_block before (x ∷ []))) (Contains-append_right (blocks_of before) (record_block x ∷ []) (record_block x) (here (record_block x) []))

      one_name : name (record_block x) ≡ name block
      one_name = sym own.1.named ∙ name_is ∙ sym link.name_is ∙ link.read.spelled.fits.named ∙ ap name (sym link.read.spelled.spelled)

      into : (b : List ℕ) → Contains (blocks_of before ++ blocks) b → Contains (blocks_of (before ++ x ∷ []) ++ block ∷ blocks) b
      into b c = ⊎_elim
          (λ d. Contains-append_left (blocks_of (before ++ x ∷ [])) (block ∷ blocks) b (subst (λ (l : List (List ℕ)). Contains l b) (sym (map-append record_block before (x ∷ []))) (Contains-append_left (blocks_of before) (record_block x ∷ []) b d)))
          (λ d. Contains-append_right (blocks_of (before ++ x ∷ [])) (block ∷ blocks) b (there block blocks b d))
          (Contains-append_cases (blocks_of before) blocks b c)

      on : x ≡ r → (front : List Record) (y : Record) → before ≡ front ++ y ∷ [] → HasClash (blocks_of (before ++ x ∷ []) ++ block ∷ blocks) ⊎ ComesTo m last (before ++ x ∷ [])
      on same front y is =
          let linked_before : LinkedFrom owner 1 no_name (front ++ y ∷ []) = subst (λ (l : List Record). LinkedFrom owner 1 no_name l) is (linked_left 1 no_name before (x ∷ []) linked) in
          let num : length before ≡ length front + 1 = ap (λ (l : List Record). length l) is ∙ length-append front (y ∷ []) in
          let y_seq : y.seq ≡ 1 + length front = last_seq 1 no_name front y linked_before in
          let y_num : y.seq ≡ seq = omega (arith, num, y_seq, long, count) in
          let named : x.prev ≡ name_at_end no_name before = last_prev 1 no_name before x linked in
          let y_name : y.name ≡ r.prev = sym (name_of_end no_name front y) ∙ ap (name_at_end no_name) (sym is) ∙ sym named ∙ ap (λ (z : Record). z.prev) same in
          ⊎_elim
          (λ k. inl (clash_more (blocks_of before ++ blocks) (blocks_of (before ++ x ∷ []) ++ block ∷ blocks) into (subst (λ (l : List Record). HasClash (blocks_of l ++ blocks)) (sym is) k)))
          (λ k. inr (record {
            before = k.before;
            r = k.r;
            rest = k.rest ++ x ∷ [];
            is = ap (λ (l : List Record). l ++ x ∷ []) (is ∙ k.is) ∙ append_assoc (k.before ++ k.r ∷ []) k.rest (x ∷ []);
            name_is = k.name_is;
            seq_is = k.seq_is;
          }))
          (again front y linked_before y_num y_name)

      by : (record_block x ≡ block) ⊎ (record_block x ≡ block → ⊥) → HasClash (blocks_of (before ++ x ∷ []) ++ block ∷ blocks) ⊎ ComesTo m last (before ++ x ∷ [])
      by (inl e) = (
          let same : x ≡ r = ((one_record owner).one x r [] [] own (link.read.spelled.owned, link.read.spelled.fits) (ap (λ (l : List ℕ). l ++ []) (e ∙ link.read.spelled.spelled))).0 in
          let w = ends_so before (omega (arith, long, some)) in on same w.0 w.1 w.2)
      by (inr differ) = inl (record_block x, block, Contains-append_left (blocks_of (before ++ x ∷ [])) (block ∷ blocks) (record_block x) stands, Contains-append_right (blocks_of (before ++ x ∷ [])) (block ∷ blocks) block (here block blocks), differ, one_name)

  walk : {n : ℕ} {at last : Key} {blocks : List (List ℕ)} → LeadsDown owner n at blocks last → (m : ℕ) (before : List Record) (x : Record) → 1 ≤ m → n ≡ m + length blocks
      → LinkedFrom owner 1 no_name (before ++ x ∷ []) → x.seq ≡ n → x.name ≡ at → HasClash (blocks_of (before ++ x ∷ []) ++ blocks) ⊎ ComesTo m last (before ++ x ∷ [])
  walk at_end m before x some count linked seq_is name_is =
      inr (record { before = before; r = x; rest = []; is = sym (append-nil (before ++ x ∷ [])); name_is = name_is; seq_is = omega (arith, seq_is, count) })
  walk (down {seq} {name = at} {last} {block} {blocks} r link leads) m before x some count linked seq_is name_is =
      let fewer : seq ≡ m + length blocks = omega (arith, count) in
      step seq at last block blocks r link m before x some count linked seq_is name_is (λ front y linked_y y_seq y_name. walk leads m front y some fewer linked_y y_seq y_name)

-- two beginnings of one length
front_is : (a b r s : List Record) → a ++ r ≡ b ++ s → length a ≡ length b → a ≡ b
front_is [] [] r s e l = refl
front_is [] (y ∷ b) r s e l = absurd (omega (arith, l))
front_is (x ∷ a) [] r s e l = absurd (omega (arith, l))
front_is (x ∷ a) (y ∷ b) r s e l =
    let first : x ≡ y = ap (λ (z : List Record). get_or z 0 x) e in
    let rest : a ++ r ≡ b ++ s = ap (λ (z : List Record). drop 1 z) e in
    let more : a ≡ b = front_is a b r s rest (omega (arith, l)) in
    ap (λ (z : Record). z ∷ a) first ∙ ap (λ (z : List Record). y ∷ z) more

names_meet : (a b : List Record) (x y : Record) → a ++ x ∷ [] ≡ b ++ y ∷ [] → x.name ≡ y.name
names_meet a b x y e = sym (name_of_end no_name a x) ∙ ap (name_at_end no_name) e ∙ name_of_end no_name b y

-- neither begins the other
two_histories : (owner : PubKey) (m : ℕ) (last other : Key) (low high front : List Record) (y : Record) → LinkedFrom owner 1 no_name low → LinkedFrom owner 1 no_name high → ComesTo owner m last high
    → low ≡ front ++ y ∷ [] → y.seq ≡ m → y.name ≡ other → last ≢ other → (IsPrefixOf low high → ⊥) × (IsPrefixOf high low → ⊥)
two_histories owner m last other low high front y linked_low linked_high k is y_seq y_name differ = (no_low, no_high)
  where
    linked_y : LinkedFrom owner 1 no_name (front ++ y ∷ [])
    linked_y = subst (λ (l : List Record). LinkedFrom owner 1 no_name l) is linked_low

    linked_k : LinkedFrom owner 1 no_name (k.before ++ k.r ∷ [])
    linked_k = linked_left owner 1 no_name (k.before ++ k.r ∷ []) k.rest (subst (λ (l : List Record). LinkedFrom owner 1 no_name l) k.is linked_high)

    long : length (front ++ y ∷ []) ≡ length (k.before ++ k.r ∷ [])
    long =
        let one : y.seq ≡ 1 + length front = last_seq owner 1 no_name front y linked_y in
        let two : k.r.seq ≡ 1 + length k.before = last_seq owner 1 no_name k.before k.r linked_k in
        let three : k.r.seq ≡ m = k.seq_is in
        let four : length (front ++ y ∷ []) ≡ length front + 1 = length-append front (y ∷ []) in
        let five : length (k.before ++ k.r ∷ []) ≡ length k.before + 1 = length-append k.before (k.r ∷ []) in
        omega (arith, one, two, three, four, five, y_seq)

    never : front ++ y ∷ [] ≡ k.before ++ k.r ∷ [] → ⊥
    never e = differ (sym k.name_is ∙ sym (names_meet front k.before y k.r e) ∙ y_name)

    no_low : IsPrefixOf low high → ⊥
    no_low w = never (front_is (front ++ y ∷ []) (k.before ++ k.r ∷ []) w.0 k.rest (ap (λ (l : List Record). l ++ w.0) (sym is) ∙ w.1 ∙ k.is) long)

    no_high : IsPrefixOf high low → ⊥
    no_high w = never (front_is (front ++ y ∷ []) (k.before ++ k.r ∷ []) [] (k.rest ++ w.0)
        (append-nil (front ++ y ∷ []) ∙ sym is ∙ sym w.1 ∙ ap (λ (l : List Record). l ++ w.0) k.is ∙ append_assoc (k.before ++ k.r ∷ []) k.rest w.0) long)

pub forks_are_forks : ForksAreForks
forks_are_forks p low high fits shown h = ⊎_elim
    (λ k. inl (clash_more (blocks_of high ++ p.blocks) (blocks_of low ++ (blocks_of high ++ p.blocks)) (λ b c. Contains-append_right (blocks_of low) (blocks_of high ++ p.blocks) b c)
    (subst (λ (l : List Record). HasClash (blocks_of l ++ p.blocks)) (sym h.high_ends.2) k)))
    (λ k. inr (two_histories p.owner p.low.newest.seq shown.last p.low.newest.name low high h.low_ends.0 h.low_ends.1 h.low_linked h.high_linked
    (subst (λ (l : List Record). ComesTo p.owner p.low.newest.seq shown.last l) (sym h.high_ends.2) k) h.low_ends.2 (ap (λ t. t.seq) h.low_ends.3) (ap (λ t. t.name) h.low_ends.3) shown.other))
    (walk p.owner shown.leads p.low.newest.seq h.high_ends.0 h.high_ends.1 fits.low.some (sym fits.count) (subst (λ (l : List Record). LinkedFrom p.owner 1 no_name l) h.high_ends.2 h.high_linked)
    (ap (λ t. t.seq) h.high_ends.3) (ap (λ t. t.name) h.high_ends.3))
