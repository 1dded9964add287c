-- Frames: a stream can be split in one way only, and what a reader's steps make of it.
use Rattle.std.proofs.Common.{◌≡◌, ℕ, ◌+◌, ◌^◌, ◌<◌, ◌≤◌, Bool, true, false, List, [], ◌∷◌, ◌++◌, length, ◌⊎◌, inl, inr, refl, sym, ap, ◌∙◌, arith, append_assoc, append-nil, length-append}
use Rattle.std.specs.Prelude.{map}
use Rattle.std.specs.List.{flat_map, concat, AllByRecursion}
use Rattle.wire_model.specs.OneReading.{ReadsOne, HasNoFront}
use Rattle.wire_model.proofs.OneReading.{same_fronts, one_word}
use Rattle.rpc_wire.specs.Frames.{header, fragment, Framed, message, marked, Fits, Begins, IsOver, IsSplit, IsTooLong, longest_message}

-- ---- headers

pub header_length : (last : Bool) (n : ℕ) → length (header last n) ≡ 4
header_length false n = refl
header_length true n = refl

pub record SameHeads (l k : Bool) (m n : ℕ) (r s : List ℕ) : Type 0 where
  pub last : l ≡ k
  pub size : m ≡ n
  pub rest : r ≡ s

pub one_header : (l k : Bool) (m n : ℕ) (r s : List ℕ) → m < 2 ^ 31 → n < 2 ^ 31 → header l m ++ r ≡ header k n ++ s → SameHeads l k m n r s
one_header false false m n r s f g e =
    let p = one_word.one m n r s (omega arith) (omega arith) e in
    record { last = refl; size = p.0; rest = p.1 }
one_header true true m n r s f g e =
    let p = one_word.one (2 ^ 31 + m) (2 ^ 31 + n) r s (omega arith) (omega arith) e in
    record { last = refl; size = omega (arith, p.0); rest = p.1 }
one_header false true m n r s f g e =
    let p = one_word.one m (2 ^ 31 + n) r s (omega arith) (omega arith) e in
    absurd (omega (arith, p.0))
one_header true false m n r s f g e =
    let p = one_word.one (2 ^ 31 + m) n r s (omega arith) (omega arith) e in
    absurd (omega (arith, p.0))

-- ---- whole fragments, and what stands after them

abbrev pub whole : List (List ℕ) → List ℕ
whole = flat_map (fragment false)

pub concat-append : (a b : List (List ℕ)) → concat (a ++ b) ≡ concat a ++ concat b
concat-append [] b = refl
concat-append (x ∷ a) b = ap (λ (s : List ℕ). x ++ s) (concat-append a b) ∙ sym (append_assoc x (concat a) (concat b))

-- a header at one place is that of one of the whole fragments, or stands after them
pub record AmongThem (a b : List (List ℕ)) (last : Bool) (n : ℕ) : Type 0 where
  pub earlier : last ≡ false
  pub short : length (concat b) + n ≤ length (concat a)

pub record BehindThem (a b : List (List ℕ)) (tail : List ℕ) (last : Bool) (n : ℕ) (more : List ℕ) : Type 0 where
  pub between : List (List ℕ)
  pub joined : b ≡ a ++ between
  pub spelled : tail ≡ whole between ++ (header last n ++ more)

-- one fragment in front of a list of bytes
regroup : (h x y z : List ℕ) → ((h ++ x) ++ y) ++ z ≡ h ++ (x ++ (y ++ z))
regroup h x y z = append_assoc (h ++ x) y z ∙ append_assoc h x (y ++ z)

one_more : {x y : List ℕ} {a b : List (List ℕ)} {tail : List ℕ} {last : Bool} {n : ℕ} {more : List ℕ} → x ≡ y
    → AmongThem a b last n ⊎ BehindThem a b tail last n more → AmongThem (x ∷ a) (y ∷ b) last n ⊎ BehindThem (x ∷ a) (y ∷ b) tail last n more
one_more {x} {y} {a} {b} {n} e (inl f) = inl (record {
  earlier = f.earlier;
  short = omega (arith, f.short, ap length e, length-append x (concat a), length-append y (concat b));
})
one_more {x} {y} {a} {b} e (inr f) = inr (record { between = f.between; joined = rw (e, f.joined) refl; spelled = f.spelled })

pub compare : (a b : List (List ℕ)) (tail : List ℕ) (last : Bool) (n : ℕ) (more : List ℕ)
    → length (concat a) < 2 ^ 31 → length (concat b) < 2 ^ 31 → n < 2 ^ 31
    → whole a ++ tail ≡ whole b ++ (header last n ++ more) → AmongThem a b last n ⊎ BehindThem a b tail last n more
compare [] b tail last n more f g h e = inr (record { between = b; joined = refl; spelled = e })
compare (x ∷ a) [] tail last n more f g h e =
    let p = one_header false last (length x) n (x ++ (whole a ++ tail)) more (omega (arith, length-append x (concat a))) h (sym (regroup (header false (length x)) x (whole a) tail) ∙ e) in
    inl (record { earlier = sym p.last; short = omega (arith, p.size, length-append x (concat a)) })
compare (x ∷ a) (y ∷ b) tail last n more f g h e =
    let l = length-append x (concat a) in
    let m = length-append y (concat b) in
    let p = one_header false false (length x) (length y) (x ++ (whole a ++ tail)) (y ++ (whole b ++ (header last n ++ more))) (omega (arith, l)) (omega (arith, m))
    (sym (regroup (header false (length x)) x (whole a) tail) ∙ e ∙ regroup (header false (length y)) y (whole b) (header last n ++ more)) in
    let q = same_fronts x y (whole a ++ tail) (whole b ++ (header last n ++ more)) p.size p.rest in
    one_more q.0 (compare a b tail last n more (omega (arith, l)) (omega (arith, m)) h q.1)

-- ---- messages

-- fewer than four bytes hold no header
pub no_header : (between : List (List ℕ)) (tail : List ℕ) (last : Bool) (n : ℕ) (more : List ℕ) → length tail < 4 → tail ≡ whole between ++ (header last n ++ more) → ⊥
no_header between tail last n more f e =
    omega (arith, ap length e, length-append (whole between) (header last n ++ more), length-append (header last n) more, header_length last n)

-- a header, and fewer bytes than it announces, hold no further header
pub same_header : (between : List (List ℕ)) (bytes : List ℕ) (l last : Bool) (k n : ℕ) (more : List ℕ) → length bytes ≤ k → length (concat between) < 2 ^ 31 → k < 2 ^ 31 → n < 2 ^ 31
    → header l k ++ bytes ≡ whole between ++ (header last n ++ more) → (between ≡ []) × SameHeads l last k n bytes more
same_header [] bytes l last k n more f s g h e = (refl, one_header l last k n bytes more g h e)
same_header (z ∷ zs) bytes l last k n more f s g h e =
    let p = one_header l false k (length z) bytes (z ++ (whole zs ++ (header last n ++ more))) g (omega (arith, length-append z (concat zs))) (e ∙ regroup (header false (length z)) z (whole zs) (header last n ++ more)) in
    absurd (omega (arith, p.size, ap length p.rest, length-append z (whole zs ++ (header last n ++ more)), length-append (whole zs) (header last n ++ more), length-append (header last n) more, header_length last n))

-- a message's fragments, as whole ones and the last
pub marked_parts : (f : Framed) (r : List ℕ) → marked f ++ r ≡ whole f.earlier ++ (header true (length f.last) ++ (f.last ++ r))
marked_parts f r = append_assoc (whole f.earlier) (fragment true f.last) r ∙ ap (λ (s : List ℕ). whole f.earlier ++ s) (append_assoc (header true (length f.last)) f.last r)

pub record Sizes (f : Framed) : Type 0 where
  pub whole_size : length (concat f.earlier) + length f.last ≤ longest_message

pub sizes : (f : Framed) → Fits f → Sizes f
sizes f h = record { whole_size = omega (arith, h, length-append (concat f.earlier) f.last) }

-- the header of a last fragment is none of whole fragments that aren't the last
pub same_last : (between : List (List ℕ)) (bytes : List ℕ) (last : Bool) (m n : ℕ) (more : List ℕ) → length (concat between) < 2 ^ 31 → m < 2 ^ 31 → n < 2 ^ 31
    → header true m ++ bytes ≡ whole between ++ (header last n ++ more) → (between ≡ []) × SameHeads true last m n bytes more
same_last [] bytes last m n more s g h e = (refl, one_header true last m n bytes more g h e)
same_last (z ∷ zs) bytes last m n more s g h e =
    let p = one_header true false m (length z) bytes (z ++ (whole zs ++ (header last n ++ more))) g (omega (arith, length-append z (concat zs))) (e ∙ regroup (header false (length z)) z (whole zs) (header last n ++ more)) in
    let apart : true ≡ false = p.last in
    absurd (cc apart)

pub joined_size : (a b between : List (List ℕ)) → b ≡ a ++ between → length (concat a) + length (concat between) ≡ length (concat b)
joined_size a b between e = sym (ap (λ (l : List (List ℕ)). length (concat l)) e ∙ ap length (concat-append a between) ∙ length-append (concat a) (concat between))

same_framed : (f g : Framed) → f.earlier ≡ g.earlier → f.last ≡ g.last → f ≡ g
same_framed f g p q = let both : ◌≡◌ {A = Framed} (record { earlier = f.earlier; last = f.last }) (record { earlier = g.earlier; last = g.last }) = rw (p, q) refl in both

one_behind : (f g : Framed) (r s : List ℕ) → Sizes f → Sizes g
    → BehindThem f.earlier g.earlier (header true (length f.last) ++ (f.last ++ r)) true (length g.last) (g.last ++ s) → (f ≡ g) × (r ≡ s)
one_behind f g r s h k b =
    let p = same_last b.between (f.last ++ r) true (length f.last) (length g.last) (g.last ++ s) (omega (arith, joined_size f.earlier g.earlier b.between b.joined, k.whole_size)) (omega (arith, h.whole_size)) (omega (arith, k.whole_size)) b.spelled in
    let q = same_fronts f.last g.last r s p.1.size p.1.rest in
    let e : g.earlier ≡ f.earlier = b.joined ∙ ap (λ (l : List (List ℕ)). f.earlier ++ l) p.0 ∙ append-nil f.earlier in
    (same_framed f g (sym e) q.0, q.1)

one_of_both : (f g : Framed) (r s : List ℕ) → Sizes f → Sizes g
    → AmongThem f.earlier g.earlier true (length g.last) ⊎ BehindThem f.earlier g.earlier (header true (length f.last) ++ (f.last ++ r)) true (length g.last) (g.last ++ s) → (f ≡ g) × (r ≡ s)
one_of_both f g r s h k (inl a) = let apart : true ≡ false = a.earlier in absurd (cc apart)
one_of_both f g r s h k (inr b) = one_behind f g r s h k b

pub one_marked : ReadsOne Fits marked
one_marked = record {
  one = λ f g r s h k e.
      let x = sizes f h in
      let y = sizes g k in
      one_of_both f g r s x y (compare f.earlier g.earlier (header true (length f.last) ++ (f.last ++ r)) true (length g.last) (g.last ++ s)
      (omega (arith, x.whole_size)) (omega (arith, y.whole_size)) (omega (arith, y.whole_size)) (sym (marked_parts f r) ∙ e ∙ marked_parts g s));
}

-- ---- rests

over_or : (f : Framed) (r : List ℕ) (o : List (List ℕ)) (last : Bool) (n : ℕ) (more : List ℕ) → Sizes f → length (concat o) ≤ longest_message → n < 2 ^ 31 → longest_message < length (concat o) + n
    → AmongThem f.earlier o last n ⊎ BehindThem f.earlier o (header true (length f.last) ++ (f.last ++ r)) last n more → ⊥
over_or f r o last n more h s w g (inl a) = omega (arith, a.short, h.whole_size, g)
over_or f r o last n more h s w g (inr b) =
    let p = same_last b.between (f.last ++ r) last (length f.last) n more (omega (arith, joined_size f.earlier o b.between b.joined, s)) (omega (arith, h.whole_size)) w b.spelled in
    let none : length (concat b.between) ≡ 0 = ap (λ (l : List (List ℕ)). length (concat l)) p.0 in
    omega (arith, joined_size f.earlier o b.between b.joined, none, p.1.size, h.whole_size, g)

-- where a message is too long, none within the limit stands
pub over_no_front : {rest : List ℕ} → IsOver rest → HasNoFront Fits marked rest
over_no_front o = record {
  none = λ f r g.
      let h = sizes f g.fits in
      over_or f r o.earlier o.last o.size o.more h o.short o.word_fits o.over
      (compare f.earlier o.earlier (header true (length f.last) ++ (f.last ++ r)) o.last o.size o.more
      (omega (arith, h.whole_size)) (omega (arith, o.short)) o.word_fits (sym (marked_parts f r) ∙ sym g.spelled ∙ o.spelled));
}

-- ---- splits

one_row : (fs gs : List Framed) (r s : List ℕ) → AllByRecursion Fits fs → AllByRecursion Fits gs → HasNoFront Fits marked r → HasNoFront Fits marked s
    → flat_map marked fs ++ r ≡ flat_map marked gs ++ s → (fs ≡ gs) × (r ≡ s)
one_row [] [] r s f g h k e = (refl, e)
one_row [] (y ∷ ys) r s f g h k e = absurd (h.none y (flat_map marked ys ++ s) (record { fits = g.0; spelled = e ∙ append_assoc (marked y) (flat_map marked ys) s }))
one_row (x ∷ xs) [] r s f g h k e = absurd (k.none x (flat_map marked xs ++ r) (record { fits = f.0; spelled = sym e ∙ append_assoc (marked x) (flat_map marked xs) r }))
one_row (x ∷ xs) (y ∷ ys) r s f g h k e =
    let p = one_marked.one x y (flat_map marked xs ++ r) (flat_map marked ys ++ s) f.0 g.0 (sym (append_assoc (marked x) (flat_map marked xs) r) ∙ e ∙ append_assoc (marked y) (flat_map marked ys) s) in
    let q = one_row xs ys r s f.1 g.1 h k p.1 in
    (rw (p.0, q.0) refl, q.1)

pub one_front : {bytes : List ℕ} {m n : List (List ℕ)} {r s : List ℕ} → Begins bytes m r → Begins bytes n s → HasNoFront Fits marked r → HasNoFront Fits marked s → (m ≡ n) × (r ≡ s)
one_front {r} {s} f g h k =
    let p = one_row f.framed g.framed r s f.fit g.fit h k (sym f.spelled ∙ g.spelled) in
    (f.are ∙ ap (map message) p.0 ∙ sym g.are, p.1)

pub one_split : (bytes : List ℕ) (m n : List (List ℕ)) (r s : List ℕ) → IsSplit bytes m r → IsSplit bytes n s → (m ≡ n) × (r ≡ s)
one_split bytes m n r s f g = one_front f.begins g.begins f.no_message g.no_message

pub one_too_long : (bytes : List ℕ) (m n : List (List ℕ)) → IsTooLong bytes m → IsTooLong bytes n → m ≡ n
one_too_long bytes m n f g = (one_front f.begins g.begins (over_no_front f.over) (over_no_front g.over)).0

pub not_both : (bytes : List ℕ) (m n : List (List ℕ)) (r : List ℕ) → IsSplit bytes m r → IsTooLong bytes n → ⊥
not_both bytes m n r f g =
    let p = one_front f.begins g.begins f.no_message (over_no_front g.over) in
    let over : IsOver r = rw p.1 g.over in
    f.no_over over
