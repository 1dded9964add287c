-- What is read is spelled so, what is spelled so is read, and the answer is yes exactly where a signature is accepted.
use Rattle.std.proofs.Common.{◌≡◌, ℕ, ◌+◌, ◌*◌, ◌^◌, ◌<◌, ◌≤◌, Bool, true, false, cond, ltb, eqb, List, [], ◌++◌, length, get_or, take, drop, Result, Ok, Err, refl, sym, ap, subst, ◌∙◌, append_assoc, arith, inl, inr, ◌⊎◌}
use Rattle.std.specs.Prelude.{IsOk}
use Rattle.std.specs.Int.{w32, from_be_bytes}
use Rattle.std.specs.Str.{bytes_eq}
use Rattle.std.proofs.lemmas.Bool.{cases_lt, ltb-false, ltb-true, lt-ltb, le-ltb, eqb-true}
use Rattle.std.proofs.lemmas.List.{append-nil, take_at, drop_at, take-append-drop, length-append, length-take, get_or-drop, get_or-take, get_or_past, nil_from_length}
use Rattle.std.proofs.lemmas.Nat.{be_bytes_4, from_be_bytes-to_be_bytes_4}
use Rattle.std.proofs.lemmas.Slice.Eq.{bytes_eq-Decides}
use Rattle.hash_signature_model.specs.declared.set.Width.{Width}
use Rattle.hash_signature_model.specs.declared.set.Width.TheVariants.{W4, W8}
use Rattle.hash_signature_model.specs.declared.set.Height.{Height}
use Rattle.hash_signature_model.specs.declared.set.Height.TheVariants.{H5, H10}
use Rattle.hash_signature_model.specs.declared.set.Set.{Set}
use Rattle.hash_signature_model.specs.declared.set.LmsFault.{LmsFault}
use Rattle.hash_signature_model.specs.declared.set.LmsFault.TheVariants.{Unsupported, Malformed, Wrong}
use Rattle.hash_signature_model.specs.Parameters.{chains, levels, leaves, ots_type, lms_type}
use Rattle.hash_signature_model.specs.OneTime.{u32_string as word}
use Rattle.hash_signature_model.specs.declared.keys.PublicKey.{PublicKey}
use Rattle.hash_signature_model.specs.Signatures.{IsPublicKey, public_key, Signature, IsSignature, signature, root_from, Accepts}
use Rattle.hash_signature_model.specs.Reading.{◌>>=◌, part_at, read_word, width_of, height_of, same_width, same_height, height_at, width_at, key_at, leaf_at, same_width_at, same_height_at, signature_at, all_read, whole_key, whole_signature, verdict}

abbrev pub IsBytes : List ℕ → Type 0
IsBytes bytes = (i : ℕ) → get_or bytes i 0 < 256

IsBytes-drop : (n : ℕ) (bytes : List ℕ) → IsBytes bytes → IsBytes (drop n bytes)
IsBytes-drop n bytes h i = rw get_or-drop (h (n + i))

IsBytes-take : (n : ℕ) (bytes : List ℕ) → IsBytes bytes → IsBytes (take n bytes)
IsBytes-take n bytes h i =
    elim (cases_lt i n) [
      | inl lt ↦ rw (get_or-take n bytes i 0 lt) (h i)
      | inr le ↦ rw (get_or_past (take n bytes) i 0 (omega (arith, length-take n bytes))) (omega arith)
    ]

-- the value of a step that did not fail
bind_ok : {A B : Type 0} (r : Result A LmsFault) (f : A → Result B LmsFault) (y : B) → (r >>= f) ≡ Ok y → (x : A) × (r ≡ Ok x) × (f x ≡ Ok y)
bind_ok (Ok x) f y e = (x, refl, e)
bind_ok (Err d) f y e = absurd cc

-- a test that did not fail
guard_ok : {A : Type 0} (b : Bool) (d : LmsFault) (x y : A) → cond b (Err d) (Ok x) ≡ Ok y → (b ≡ false) × (x ≡ y)
guard_ok true d x y e = absurd cc
guard_ok false d x y e = (refl, cc)

passed_ok : {A : Type 0} (b : Bool) (d : LmsFault) (x y : A) → cond b (Ok x) (Err d) ≡ Ok y → (b ≡ true) × (x ≡ y)
passed_ok true d x y e = (refl, cc)
passed_ok false d x y e = absurd cc

chosen : {A : Type 0} (b : Bool) (x y z : A) → cond b x y ≡ z → ((b ≡ true) × (x ≡ z)) ⊎ ((b ≡ false) × (y ≡ z))
chosen true x y z e = inl (refl, e)
chosen false x y z e = inr (refl, e)

-- what a reader took from the front
pub record Takes (bytes text rest : List ℕ) : Type 0 where
  pub parts : bytes ≡ text ++ rest
  pub rest_fits : IsBytes rest

Takes-then : (a x b y c : List ℕ) → Takes a x b → Takes b y c → Takes a (x ++ y) c
Takes-then a x b y c p q = record { parts = p.parts ∙ ap (λ (t : List ℕ). x ++ t) q.parts ∙ sym (append_assoc x y c); rest_fits = q.rest_fits }

-- ---- parts and numbers

pub part_takes : (n : ℕ) (bytes part rest : List ℕ) → IsBytes bytes → part_at n bytes ≡ Ok (part, rest) → Takes bytes part rest × (length part ≡ n)
unfolding part_at
part_takes n bytes part rest fits e =
    let g = guard_ok (ltb (length bytes) n) Malformed (take n bytes, drop n bytes) (part, rest) e in
    let long : n ≤ length bytes = ltb-false _ _ g.0 in
    let front : take n bytes ≡ part = ap (λ (p : List ℕ × List ℕ). p.0) g.1 in
    let after : drop n bytes ≡ rest = ap (λ (p : List ℕ × List ℕ). p.1) g.1 in
    (record { parts = rw (← front, ← after) (sym (take-append-drop n bytes)); rest_fits = rw (← after) (IsBytes-drop n bytes fits) }, rw (← front) (omega (arith, length-take n bytes)))

pub part_again : (n : ℕ) (part rest : List ℕ) → length part ≡ n → part_at n (part ++ rest) ≡ Ok (part, rest)
unfolding part_at
part_again n part rest len =
    let long : ltb (length (part ++ rest)) n ≡ false = le-ltb _ _ (omega (arith, length-append part rest, len)) in
    rw (long, take_at part rest n len, drop_at part rest n len) refl

pub number_takes : (bytes : List ℕ) (n : ℕ) (rest : List ℕ) → IsBytes bytes → read_word bytes ≡ Ok (n, rest) → Takes bytes (word n) rest
unfolding read_word
number_takes bytes n rest fits e =
    let g = guard_ok (ltb (length bytes) 4) Malformed (from_be_bytes w32 (take 4 bytes), drop 4 bytes) (n, rest) e in
    let long : 4 ≤ length bytes = ltb-false _ _ g.0 in
    let n-is : from_be_bytes w32 (take 4 bytes) ≡ n = ap (λ (p : ℕ × List ℕ). p.0) g.1 in
    let rest-is : drop 4 bytes ≡ rest = ap (λ (p : ℕ × List ℕ). p.1) g.1 in
    let front : word n ≡ take 4 bytes = be_bytes_4 (take 4 bytes) n (omega (arith, length-take 4 bytes)) (IsBytes-take 4 bytes fits) (sym n-is) in
    record { parts = sym (take-append-drop 4 bytes) ∙ (ap (λ (t : List ℕ). t ++ drop 4 bytes) (sym front) ∙ ap (λ (t : List ℕ). word n ++ t) rest-is); rest_fits = rw (← rest-is) (IsBytes-drop 4 bytes fits) }

number_front : (front rest : List ℕ) (n : ℕ) → length front ≡ 4 → from_be_bytes w32 front ≡ n → read_word (front ++ rest) ≡ Ok (n, rest)
unfolding read_word
number_front front rest n len same =
    let long : ltb (length (front ++ rest)) 4 ≡ false = le-ltb _ _ (omega (arith, length-append front rest, len)) in
    rw (long, take_at front rest 4 len, drop_at front rest 4 len, same) refl

pub number_again : (n : ℕ) (rest : List ℕ) → n < 2 ^ 32 → read_word (word n ++ rest) ≡ Ok (n, rest)
number_again n rest lt = number_front (word n) rest n refl (from_be_bytes-to_be_bytes_4 n lt)

-- ---- types

abbrev done : {A : Type 0} → A → Result A LmsFault
done x = Ok x

ok_is : {A : Type 0} (x y : A) → done x ≡ done y → x ≡ y
ok_is x y e = cc

width_is : (n : ℕ) (w : Width) → width_of n ≡ Ok w → n ≡ ots_type w
unfolding width_of
width_is n w e =
    elim (chosen (eqb n 3) (Ok W4) (cond (eqb n 4) (Ok W8) (cond (eqb n 1) (Err Unsupported) (cond (eqb n 2) (Err Unsupported) (Err Malformed)))) (Ok w) e) [
      | inl four ↦ subst (λ (v : Width). n ≡ ots_type v) (ok_is W4 w four.1) (eqb-true n 3 four.0)
      | inr other ↦ elim (chosen (eqb n 4) (Ok W8) (cond (eqb n 1) (Err Unsupported) (cond (eqb n 2) (Err Unsupported) (Err Malformed))) (Ok w) other.1) [
        | inl eight ↦ subst (λ (v : Width). n ≡ ots_type v) (ok_is W8 w eight.1) (eqb-true n 4 eight.0)
        | inr none ↦ absurd (no_width (eqb n 1) (eqb n 2) w none.1)
      ]
    ]
  where
    no_width : (a b : Bool) (w : Width) → cond a (Err Unsupported) (cond b (Err Unsupported) (Err Malformed)) ≡ Ok w → ⊥
    no_width true b w e = cc
    no_width false true w e = cc
    no_width false false w e = cc

height_is : (n : ℕ) (h : Height) → height_of n ≡ Ok h → n ≡ lms_type h
unfolding height_of
height_is n h e =
    elim (chosen (eqb n 5) (Ok H5) (cond (eqb n 6) (Ok H10) (cond (eqb n 7) (Err Unsupported) (cond (eqb n 8) (Err Unsupported) (cond (eqb n 9) (Err Unsupported) (Err Malformed))))) (Ok h) e) [
      | inl low ↦ subst (λ (v : Height). n ≡ lms_type v) (ok_is H5 h low.1) (eqb-true n 5 low.0)
      | inr other ↦ elim (chosen (eqb n 6) (Ok H10) (cond (eqb n 7) (Err Unsupported) (cond (eqb n 8) (Err Unsupported) (cond (eqb n 9) (Err Unsupported) (Err Malformed)))) (Ok h) other.1) [
        | inl high ↦ subst (λ (v : Height). n ≡ lms_type v) (ok_is H10 h high.1) (eqb-true n 6 high.0)
        | inr none ↦ absurd (no_height (eqb n 7) (eqb n 8) (eqb n 9) h none.1)
      ]
    ]
  where
    no_height : (a b c : Bool) (h : Height) → cond a (Err Unsupported) (cond b (Err Unsupported) (cond c (Err Unsupported) (Err Malformed))) ≡ Ok h → ⊥
    no_height true b c h e = cc
    no_height false true c h e = cc
    no_height false false true h e = cc
    no_height false false false h e = cc

width_again : (w : Width) → width_of (ots_type w) ≡ Ok w
unfolding width_of
width_again W4 = refl
width_again W8 = refl

height_again : (h : Height) → height_of (lms_type h) ≡ Ok h
unfolding height_of
height_again H5 = refl
height_again H10 = refl

width_small : (w : Width) → ots_type w < 2 ^ 32
width_small W4 = omega arith
width_small W8 = omega arith

height_small : (h : Height) → lms_type h < 2 ^ 32
height_small H5 = omega arith
height_small H10 = omega arith

pub width_takes : (bytes : List ℕ) (w : Width) (rest : List ℕ) → IsBytes bytes → width_at bytes ≡ Ok (w, rest) → Takes bytes (word (ots_type w)) rest
unfolding width_at
width_takes bytes w rest fits e =
    let n = bind_ok (read_word bytes) (λ n. width_of n.0 >>= λ v. Ok (v, n.1)) (w, rest) e in
    let v = bind_ok (width_of n.0.0) (λ v. Ok (v, n.0.1)) (w, rest) n.2 in
    let pair : (v.0, n.0.1) ≡ (w, rest) = ok_is (v.0, n.0.1) (w, rest) v.2 in
    let number = number_takes bytes n.0.0 n.0.1 fits n.1 in
    let typed : Takes bytes (word (ots_type v.0)) n.0.1 = subst (λ (k : ℕ). Takes bytes (word k) n.0.1) (width_is n.0.0 v.0 v.1) number in
    subst (λ (p : Width × List ℕ). Takes bytes (word (ots_type p.0)) p.1) pair typed

pub height_takes : (bytes : List ℕ) (h : Height) (rest : List ℕ) → IsBytes bytes → height_at bytes ≡ Ok (h, rest) → Takes bytes (word (lms_type h)) rest
unfolding height_at
height_takes bytes h rest fits e =
    let n = bind_ok (read_word bytes) (λ n. height_of n.0 >>= λ v. Ok (v, n.1)) (h, rest) e in
    let v = bind_ok (height_of n.0.0) (λ v. Ok (v, n.0.1)) (h, rest) n.2 in
    let pair : (v.0, n.0.1) ≡ (h, rest) = ok_is (v.0, n.0.1) (h, rest) v.2 in
    let number = number_takes bytes n.0.0 n.0.1 fits n.1 in
    let typed : Takes bytes (word (lms_type v.0)) n.0.1 = subst (λ (k : ℕ). Takes bytes (word k) n.0.1) (height_is n.0.0 v.0 v.1) number in
    subst (λ (p : Height × List ℕ). Takes bytes (word (lms_type p.0)) p.1) pair typed

pub width_at_again : (w : Width) (rest : List ℕ) → width_at (word (ots_type w) ++ rest) ≡ Ok (w, rest)
unfolding width_at
width_at_again w rest = rw (number_again (ots_type w) rest (width_small w), width_again w) refl

pub height_at_again : (h : Height) (rest : List ℕ) → height_at (word (lms_type h) ++ rest) ≡ Ok (h, rest)
unfolding height_at
height_at_again h rest = rw (number_again (lms_type h) rest (height_small h), height_again h) refl

-- ---- public keys

bind_again : {A B : Type 0} (r : Result A LmsFault) (f : A → Result B LmsFault) (x : A) (y : Result B LmsFault) → r ≡ Ok x → f x ≡ y → (r >>= f) ≡ y
bind_again {A} {B} r f x y e g = ap (λ (t : Result A LmsFault). t >>= f) e ∙ g

none_left : {A : Type 0} (read : A × List ℕ) (y : A) → all_read read ≡ done y → (read.0 ≡ y) × (read.1 ≡ [])
none_left read y e = let p = passed_ok (eqb (length read.1) 0) Malformed read.0 y e in (p.1, nil_from_length read.1 (eqb-true (length read.1) 0 p.0))

-- what a reader of all bytes gives is what stands at their front, with nothing after it
whole_takes : {A : Type 0} (r : Result (A × List ℕ) LmsFault) (y : A) → (r >>= all_read) ≡ Ok y → r ≡ Ok (y, [])
whole_takes {A} r y e =
    let x = bind_ok r all_read y e in
    let p = none_left x.0 y x.2 in
    x.1 ∙ (ap (λ (v : A). done (v, x.0.1)) p.0 ∙ ap (λ (rest : List ℕ). done (y, rest)) p.1)

four_parts : (a b c d rest : List ℕ) → a ++ b ++ c ++ d ++ rest ≡ a ++ (b ++ (c ++ (d ++ rest)))
four_parts a b c d rest = simp append_assoc

six_parts : (a b c d e f rest : List ℕ) → a ++ b ++ c ++ d ++ e ++ f ++ rest ≡ a ++ (b ++ (c ++ (d ++ (e ++ (f ++ rest)))))
six_parts a b c d e f rest = simp append_assoc

pub key_takes : (bytes : List ℕ) (k : PublicKey) (rest : List ℕ) → IsBytes bytes → key_at bytes ≡ Ok (k, rest) → IsPublicKey k × Takes bytes (public_key k) rest
unfolding key_at
key_takes bytes k rest fits e =
    let end : Height → Width → List ℕ → (List ℕ × List ℕ) → Result (PublicKey × List ℕ) LmsFault = λ h w id root. Ok (record { set = record { w = w; h = h }; id = id; root = root.0 }, root.1) in
    let h = bind_ok (height_at bytes) (λ h. width_at h.1 >>= λ w. part_at 16 w.1 >>= λ id. part_at 32 id.1 >>= λ root. end h.0 w.0 id.0 root) (k, rest) e in
    let w = bind_ok (width_at h.0.1) (λ w. part_at 16 w.1 >>= λ id. part_at 32 id.1 >>= λ root. end h.0.0 w.0 id.0 root) (k, rest) h.2 in
    let id = bind_ok (part_at 16 w.0.1) (λ id. part_at 32 id.1 >>= λ root. end h.0.0 w.0.0 id.0 root) (k, rest) w.2 in
    let root = bind_ok (part_at 32 id.0.1) (λ root. end h.0.0 w.0.0 id.0.0 root) (k, rest) id.2 in
    let read : PublicKey = record { set = record { w = w.0.0; h = h.0.0 }; id = id.0.0; root = root.0.0 } in
    let same : (read, root.0.1) ≡ (k, rest) = ok_is (read, root.0.1) (k, rest) root.2 in
    let th = height_takes bytes h.0.0 h.0.1 fits h.1 in
    let tw = width_takes h.0.1 w.0.0 w.0.1 th.rest_fits w.1 in
    let ti = part_takes 16 w.0.1 id.0.0 id.0.1 tw.rest_fits id.1 in
    let tr = part_takes 32 id.0.1 root.0.0 root.0.1 ti.0.rest_fits root.1 in
    let two = Takes-then bytes (word (lms_type h.0.0)) h.0.1 (word (ots_type w.0.0)) w.0.1 th tw in
    let three = Takes-then bytes (word (lms_type h.0.0) ++ word (ots_type w.0.0)) w.0.1 id.0.0 id.0.1 two ti.0 in
    let all : Takes bytes (public_key read) root.0.1 = Takes-then bytes (word (lms_type h.0.0) ++ word (ots_type w.0.0) ++ id.0.0) id.0.1 root.0.0 root.0.1 three tr.0 in
    subst (λ (q : PublicKey × List ℕ). IsPublicKey q.0 × Takes bytes (public_key q.0) q.1) same (record { id_length = ti.1; root_length = tr.1 }, all)

pub key_again : (k : PublicKey) (rest : List ℕ) → IsPublicKey k → key_at (public_key k ++ rest) ≡ Ok (k, rest)
unfolding key_at
key_again k rest fits =
    let h = word (lms_type k.set.h) in
    let w = word (ots_type k.set.w) in
    let r3 = k.root ++ rest in
    let r2 = k.id ++ r3 in
    let r1 = w ++ r2 in
    let end : Height → Width → List ℕ → (List ℕ × List ℕ) → Result (PublicKey × List ℕ) LmsFault = λ h w id root. Ok (record { set = record { w = w; h = h }; id = id; root = root.0 }, root.1) in
    ap key_at (four_parts h w k.id k.root rest)
    ∙ bind_again (height_at (h ++ r1)) (λ h. width_at h.1 >>= λ w. part_at 16 w.1 >>= λ id. part_at 32 id.1 >>= λ root. end h.0 w.0 id.0 root) (k.set.h, r1) (Ok (k, rest)) (height_at_again k.set.h r1)
    (bind_again (width_at r1) (λ w. part_at 16 w.1 >>= λ id. part_at 32 id.1 >>= λ root. end k.set.h w.0 id.0 root) (k.set.w, r2) (Ok (k, rest)) (width_at_again k.set.w r2)
    (bind_again (part_at 16 r2) (λ id. part_at 32 id.1 >>= λ root. end k.set.h k.set.w id.0 root) (k.id, r3) (Ok (k, rest)) (part_again 16 k.id r3 fits.id_length)
    (bind_again (part_at 32 r3) (λ root. end k.set.h k.set.w k.id root) (k.root, rest) (Ok (k, rest)) (part_again 32 k.root rest fits.root_length) refl)))

pub whole_key_takes : (bytes : List ℕ) (k : PublicKey) → IsBytes bytes → whole_key bytes ≡ Ok k → IsPublicKey k × (bytes ≡ public_key k)
unfolding whole_key
whole_key_takes bytes k fits e =
    let t = key_takes bytes k [] fits (whole_takes (key_at bytes) k e) in
    (t.0, t.1.parts ∙ append-nil (public_key k))

pub whole_key_again : (k : PublicKey) → IsPublicKey k → whole_key (public_key k) ≡ Ok k
unfolding whole_key
whole_key_again k fits =
    bind_again (key_at (public_key k)) all_read (k, []) (Ok k) (ap key_at (sym (append-nil (public_key k))) ∙ key_again k [] fits) refl

-- ---- signatures

pub leaf_takes : (h : Height) (bytes : List ℕ) (leaf : ℕ) (rest : List ℕ) → IsBytes bytes → leaf_at h bytes ≡ Ok (leaf, rest) → Takes bytes (word leaf) rest × (leaf < leaves h)
unfolding leaf_at
leaf_takes h bytes leaf rest fits e =
    let n = bind_ok (read_word bytes) (λ n. cond (ltb n.0 (leaves h)) (Ok (n.0, n.1)) (Err Malformed)) (leaf, rest) e in
    let p = passed_ok (ltb n.0.0 (leaves h)) Malformed (n.0.0, n.0.1) (leaf, rest) n.2 in
    let P : ℕ × List ℕ → Type 0 = λ q. Takes bytes (word q.0) q.1 × (q.0 < leaves h) in
    subst P p.1 (number_takes bytes n.0.0 n.0.1 fits n.1, ltb-true _ _ p.0)

leaf_small : (h : Height) (leaf : ℕ) → leaf < leaves h → leaf < 2 ^ 32
leaf_small H5 leaf lt = omega arith
leaf_small H10 leaf lt = omega arith

pub leaf_again : (h : Height) (leaf : ℕ) (rest : List ℕ) → leaf < leaves h → leaf_at h (word leaf ++ rest) ≡ Ok (leaf, rest)
unfolding leaf_at
leaf_again h leaf rest lt = bind_again (read_word (word leaf ++ rest)) (λ n. cond (ltb n.0 (leaves h)) (Ok (n.0, n.1)) (Err Malformed)) (leaf, rest) (Ok (leaf, rest)) (number_again leaf rest (leaf_small h leaf lt))
    (ap (λ (b : Bool). cond b (Ok (leaf, rest)) (Err Malformed)) (lt-ltb leaf (leaves h) lt))

same_width_is : (a b : Width) → same_width a b ≡ true → a ≡ b
same_width_is W4 W4 e = refl
same_width_is W4 W8 e = cc
same_width_is W8 W4 e = cc
same_width_is W8 W8 e = refl

same_height_is : (a b : Height) → same_height a b ≡ true → a ≡ b
same_height_is H5 H5 e = refl
same_height_is H5 H10 e = cc
same_height_is H10 H5 e = cc
same_height_is H10 H10 e = refl

width_is_itself : (w : Width) → same_width w w ≡ true
width_is_itself W4 = refl
width_is_itself W8 = refl

height_is_itself : (h : Height) → same_height h h ≡ true
height_is_itself H5 = refl
height_is_itself H10 = refl

pub same_width_takes : (w : Width) (bytes rest : List ℕ) → IsBytes bytes → same_width_at w bytes ≡ Ok rest → Takes bytes (word (ots_type w)) rest
unfolding same_width_at
same_width_takes w bytes rest fits e =
    let found = bind_ok (width_at bytes) (λ v. cond (same_width v.0 w) (Ok v.1) (Err Malformed)) rest e in
    let p = passed_ok (same_width found.0.0 w) Malformed found.0.1 rest found.2 in
    let t = width_takes bytes found.0.0 found.0.1 fits found.1 in
    let typed = subst (λ (v : Width). Takes bytes (word (ots_type v)) found.0.1) (same_width_is found.0.0 w p.0) t in
    subst (λ (r : List ℕ). Takes bytes (word (ots_type w)) r) p.1 typed

pub same_height_takes : (h : Height) (bytes rest : List ℕ) → IsBytes bytes → same_height_at h bytes ≡ Ok rest → Takes bytes (word (lms_type h)) rest
unfolding same_height_at
same_height_takes h bytes rest fits e =
    let found = bind_ok (height_at bytes) (λ v. cond (same_height v.0 h) (Ok v.1) (Err Malformed)) rest e in
    let p = passed_ok (same_height found.0.0 h) Malformed found.0.1 rest found.2 in
    let t = height_takes bytes found.0.0 found.0.1 fits found.1 in
    let typed = subst (λ (v : Height). Takes bytes (word (lms_type v)) found.0.1) (same_height_is found.0.0 h p.0) t in
    subst (λ (r : List ℕ). Takes bytes (word (lms_type h)) r) p.1 typed

pub same_width_again : (w : Width) (rest : List ℕ) → same_width_at w (word (ots_type w) ++ rest) ≡ Ok rest
unfolding same_width_at
same_width_again w rest = bind_again (width_at (word (ots_type w) ++ rest)) (λ v. cond (same_width v.0 w) (Ok v.1) (Err Malformed)) (w, rest) (Ok rest) (width_at_again w rest)
    (ap (λ (b : Bool). cond b (Ok rest) (Err Malformed)) (width_is_itself w))

pub same_height_again : (h : Height) (rest : List ℕ) → same_height_at h (word (lms_type h) ++ rest) ≡ Ok rest
unfolding same_height_at
same_height_again h rest = bind_again (height_at (word (lms_type h) ++ rest)) (λ v. cond (same_height v.0 h) (Ok v.1) (Err Malformed)) (h, rest) (Ok rest) (height_at_again h rest)
    (ap (λ (b : Bool). cond b (Ok rest) (Err Malformed)) (height_is_itself h))

pub signature_takes : (set : Set) (bytes : List ℕ) (s : Signature) (rest : List ℕ) → IsBytes bytes → signature_at set bytes ≡ Ok (s, rest) → IsSignature set s × Takes bytes (signature set s) rest
unfolding signature_at
signature_takes set bytes s rest fits e =
    let end : ℕ → List ℕ → List ℕ → (List ℕ × List ℕ) → Result (Signature × List ℕ) LmsFault = λ leaf c ys path. Ok (record { leaf = leaf; randomizer = c; values = ys; path = path.0 }, path.1) in
    let n = 32 * chains set.w in
    let m = 32 * levels set.h in
    let q = bind_ok (leaf_at set.h bytes) (λ q. same_width_at set.w q.1 >>= λ b. part_at 32 b >>= λ c. part_at n c.1 >>= λ ys. same_height_at set.h ys.1 >>= λ r. part_at m r >>= λ p. end q.0 c.0 ys.0 p) (s, rest) e in
    let b = bind_ok (same_width_at set.w q.0.1) (λ b. part_at 32 b >>= λ c. part_at n c.1 >>= λ ys. same_height_at set.h ys.1 >>= λ r. part_at m r >>= λ p. end q.0.0 c.0 ys.0 p) (s, rest) q.2 in
    let c = bind_ok (part_at 32 b.0) (λ c. part_at n c.1 >>= λ ys. same_height_at set.h ys.1 >>= λ r. part_at m r >>= λ p. end q.0.0 c.0 ys.0 p) (s, rest) b.2 in
    let ys = bind_ok (part_at n c.0.1) (λ ys. same_height_at set.h ys.1 >>= λ r. part_at m r >>= λ p. end q.0.0 c.0.0 ys.0 p) (s, rest) c.2 in
    let r = bind_ok (same_height_at set.h ys.0.1) (λ r. part_at m r >>= λ p. end q.0.0 c.0.0 ys.0.0 p) (s, rest) ys.2 in
    let p = bind_ok (part_at m r.0) (λ p. end q.0.0 c.0.0 ys.0.0 p) (s, rest) r.2 in
    let read : Signature = record { leaf = q.0.0; randomizer = c.0.0; values = ys.0.0; path = p.0.0 } in
    let same : (read, p.0.1) ≡ (s, rest) = ok_is (read, p.0.1) (s, rest) p.2 in
    let tq = leaf_takes set.h bytes q.0.0 q.0.1 fits q.1 in
    let tb = same_width_takes set.w q.0.1 b.0 tq.0.rest_fits b.1 in
    let tc = part_takes 32 b.0 c.0.0 c.0.1 tb.rest_fits c.1 in
    let ty = part_takes n c.0.1 ys.0.0 ys.0.1 tc.0.rest_fits ys.1 in
    let tr = same_height_takes set.h ys.0.1 r.0 ty.0.rest_fits r.1 in
    let tp = part_takes m r.0 p.0.0 p.0.1 tr.rest_fits p.1 in
    let w1 = word q.0.0 in
    let w2 = w1 ++ word (ots_type set.w) in
    let w3 = w2 ++ c.0.0 in
    let w4 = w3 ++ ys.0.0 in
    let w5 = w4 ++ word (lms_type set.h) in
    let two = Takes-then bytes w1 q.0.1 (word (ots_type set.w)) b.0 tq.0 tb in
    let three = Takes-then bytes w2 b.0 c.0.0 c.0.1 two tc.0 in
    let four = Takes-then bytes w3 c.0.1 ys.0.0 ys.0.1 three ty.0 in
    let five = Takes-then bytes w4 ys.0.1 (word (lms_type set.h)) r.0 four tr in
    let six : Takes bytes (signature set read) p.0.1 = Takes-then bytes w5 r.0 p.0.0 p.0.1 five tp.0 in
    subst (λ (x : Signature × List ℕ). IsSignature set x.0 × Takes bytes (signature set x.0) x.1) same (record { in_tree = tq.1; randomizer_length = tc.1; values_length = ty.1; path_length = tp.1 }, six)

pub signature_again : (set : Set) (s : Signature) (rest : List ℕ) → IsSignature set s → signature_at set (signature set s ++ rest) ≡ Ok (s, rest)
unfolding signature_at
signature_again set s rest fits =
    let end : ℕ → List ℕ → List ℕ → (List ℕ × List ℕ) → Result (Signature × List ℕ) LmsFault = λ leaf c ys path. Ok (record { leaf = leaf; randomizer = c; values = ys; path = path.0 }, path.1) in
    let n = 32 * chains set.w in
    let m = 32 * levels set.h in
    let q = word s.leaf in
    let w = word (ots_type set.w) in
    let h = word (lms_type set.h) in
    let r5 = s.path ++ rest in
    let r4 = h ++ r5 in
    let r3 = s.values ++ r4 in
    let r2 = s.randomizer ++ r3 in
    let r1 = w ++ r2 in
    ap (signature_at set) (six_parts q w s.randomizer s.values h s.path rest)
    ∙ bind_again (leaf_at set.h (q ++ r1)) (λ q. same_width_at set.w q.1 >>= λ b. part_at 32 b >>= λ c. part_at n c.1 >>= λ ys. same_height_at set.h ys.1 >>= λ r. part_at m r >>= λ p. end q.0 c.0 ys.0 p) (s.leaf, r1) (Ok (s, rest)) (leaf_again set.h s.leaf r1 fits.in_tree)
    (bind_again (same_width_at set.w r1) (λ b. part_at 32 b >>= λ c. part_at n c.1 >>= λ ys. same_height_at set.h ys.1 >>= λ r. part_at m r >>= λ p. end s.leaf c.0 ys.0 p) r2 (Ok (s, rest)) (same_width_again set.w r2)
    (bind_again (part_at 32 r2) (λ c. part_at n c.1 >>= λ ys. same_height_at set.h ys.1 >>= λ r. part_at m r >>= λ p. end s.leaf c.0 ys.0 p) (s.randomizer, r3) (Ok (s, rest)) (part_again 32 s.randomizer r3 fits.randomizer_length)
    (bind_again (part_at n r3) (λ ys. same_height_at set.h ys.1 >>= λ r. part_at m r >>= λ p. end s.leaf s.randomizer ys.0 p) (s.values, r4) (Ok (s, rest)) (part_again n s.values r4 fits.values_length)
    (bind_again (same_height_at set.h r4) (λ r. part_at m r >>= λ p. end s.leaf s.randomizer s.values p) r5 (Ok (s, rest)) (same_height_again set.h r5)
    (bind_again (part_at m r5) (λ p. end s.leaf s.randomizer s.values p) (s.path, rest) (Ok (s, rest)) (part_again m s.path rest fits.path_length) refl)))))

pub whole_signature_takes : (set : Set) (bytes : List ℕ) (s : Signature) → IsBytes bytes → whole_signature set bytes ≡ Ok s → IsSignature set s × (bytes ≡ signature set s)
unfolding whole_signature
whole_signature_takes set bytes s fits e =
    let t = signature_takes set bytes s [] fits (whole_takes (signature_at set bytes) s e) in
    (t.0, t.1.parts ∙ append-nil (signature set s))

pub whole_signature_again : (set : Set) (s : Signature) → IsSignature set s → whole_signature set (signature set s) ≡ Ok s
unfolding whole_signature
whole_signature_again set s fits =
    bind_again (signature_at set (signature set s)) all_read (s, []) (Ok s) (ap (signature_at set) (sym (append-nil (signature set s))) ∙ signature_again set s [] fits) refl

-- ---- the answer

yes : Result (Unit {0}) LmsFault
yes = Ok tt

pub accepts_from : (public message bytes : List ℕ) → IsBytes public → IsBytes bytes → verdict public message bytes ≡ Ok tt → Accepts public message bytes
unfolding verdict
accepts_from public message bytes public_fits fits e =
    let k = bind_ok (whole_key public) (λ k. whole_signature k.set bytes >>= λ s. cond (bytes_eq (root_from k.set k.id message s) k.root) (Ok tt) (Err Wrong)) tt e in
    let s = bind_ok (whole_signature k.0.set bytes) (λ s. cond (bytes_eq (root_from k.0.set k.0.id message s) k.0.root) (Ok tt) (Err Wrong)) tt k.2 in
    let p = passed_ok (bytes_eq (root_from k.0.set k.0.id message s.0) k.0.root) Wrong tt tt s.2 in
    let tk = whole_key_takes public k.0 public_fits k.1 in
    let ts = whole_signature_takes k.0.set bytes s.0 fits s.1 in
    record { k = k.0; s = s.0; key_fits = tk.0; key_is = tk.1; signature_fits = ts.0; signature_is = ts.1; same_root = (bytes_eq-Decides (root_from k.0.set k.0.id message s.0) k.0.root).0 p.0 }

pub yes_from : (public message bytes : List ℕ) → Accepts public message bytes → verdict public message bytes ≡ Ok tt
unfolding verdict
yes_from public message bytes a =
    bind_again (whole_key public) (λ k. whole_signature k.set bytes >>= λ s. cond (bytes_eq (root_from k.set k.id message s) k.root) (Ok tt) (Err Wrong)) a.k (Ok tt) (ap whole_key a.key_is ∙ whole_key_again a.k a.key_fits)
    (bind_again (whole_signature a.k.set bytes) (λ s. cond (bytes_eq (root_from a.k.set a.k.id message s) a.k.root) (Ok tt) (Err Wrong)) a.s (Ok tt) (ap (whole_signature a.k.set) a.signature_is ∙ whole_signature_again a.k.set a.s a.signature_fits)
    (ap (λ (b : Bool). cond b (Ok tt) (Err Wrong)) ((bytes_eq-Decides (root_from a.k.set a.k.id message a.s) a.k.root).1 a.same_root)))

pub ok_is_yes : (r : Result (Unit {0}) LmsFault) → IsOk r → r ≡ Ok tt
ok_is_yes (Ok x) ok = refl
ok_is_yes (Err e) ok = cc

pub yes_is_ok : (r : Result (Unit {0}) LmsFault) → r ≡ Ok tt → IsOk r
yes_is_ok (Ok x) e = refl
yes_is_ok (Err d) e = cc
