-- The answer is yes exactly where a signature of several levels is accepted.
use Rattle.std.proofs.Common.{◌≡◌, ℕ, zero, suc, ◌+◌, ◌^◌, ◌<◌, ◌≤◌, Bool, true, false, ◌&&◌, cond, eqb, List, [], ◌∷◌, ◌++◌, length, take, Result, Ok, Err, refl, sym, ap, subst, ◌∙◌, append_assoc, arith}
use Rattle.std.specs.List.{list_all}
use Rattle.std.proofs.lemmas.Bool.{eqb-true, eq-eqb}
use Rattle.std.proofs.lemmas.List.{take_at, length-append}
use Rattle.std.proofs.lemmas.Slice.Eq.{bytes_eq-Decides}
use Rattle.hash_signature_model.specs.declared.set.LmsFault.{LmsFault}
use Rattle.hash_signature_model.specs.declared.set.LmsFault.TheVariants.{Malformed, Wrong}
use Rattle.hash_signature_model.specs.declared.keys.PublicKey.{PublicKey}
use Rattle.hash_signature_model.specs.Parameters.{ots_type, lms_type}
use Rattle.hash_signature_model.specs.OneTime.{u32_string}
use Rattle.hash_signature_model.specs.Signatures.{IsPublicKey, public_key, Signature, signature, root_from, Accepts}
use Rattle.hash_signature_model.specs.Reading.{◌>>=◌, read_word, key_at, whole_key, signature_at, whole_signature}
use Rattle.hash_signature_model.proofs.Readings.{IsBytes, number_takes, number_again, key_takes, key_again, whole_key_takes, whole_key_again, signature_takes, signature_again, whole_signature_takes, whole_signature_again}
use Rattle.hss_keys.specs.Hss.{IsSigned, HssAccepts}
use Rattle.hash_signature_model.specs.Levels.{Level, is_right, between_of, whole_hss_key, whole_levels, whole_hss_signature, hss_verdict}

-- the value of a step that did not fail
bind_ok : {A B : Type 0} (r : Result A LmsFault) (f : A → Result B LmsFault) (y : B) → (r >>= f) ≡ Ok y → (x : A) × (r ≡ Ok x) × (f x ≡ Ok y)
bind_ok (Ok x) f y e = (x, refl, e)
bind_ok (Err d) f y e = absurd cc

pub bind_again : {A B : Type 0} (r : Result A LmsFault) (f : A → Result B LmsFault) (x : A) (y : Result B LmsFault) → r ≡ Ok x → f x ≡ y → (r >>= f) ≡ y
bind_again {A} {B} r f x y e g = ap (λ (t : Result A LmsFault). t >>= f) e ∙ g

abbrev done : {A : Type 0} → A → Result A LmsFault
done x = Ok x

ok_is : {A : Type 0} (x y : A) → done x ≡ done y → x ≡ y
ok_is x y e = cc

-- a test that did not fail
passed_ok : {A : Type 0} (b : Bool) (d : LmsFault) (r : Result A LmsFault) (y : A) → cond b r (Err d) ≡ done y → (b ≡ true) × (r ≡ Ok y)
passed_ok true d r y e = (refl, e)
passed_ok false d r y e = absurd cc

both_true : (a b : Bool) → (a && b) ≡ true → (a ≡ true) × (b ≡ true)
both_true true true e = (refl, refl)
both_true true false e = absurd cc
both_true false true e = absurd cc
both_true false false e = absurd cc

true_both : (a b : Bool) → a ≡ true → b ≡ true → (a && b) ≡ true
true_both a b p q = rw (p, q) refl

abbrev pub level_of : PublicKey → List ℕ → Signature → Level
level_of key signed s = record { key = key; signed = signed; signature = s }

root_same : (k : PublicKey) (signed : List ℕ) (s : Signature) → is_right (level_of k signed s) ≡ true → root_from k.set k.id signed s ≡ k.root
root_same k signed s e = (bytes_eq-Decides (root_from k.set k.id signed s) k.root).0 e

root_right : (k : PublicKey) (signed : List ℕ) (s : Signature) → root_from k.set k.id signed s ≡ k.root → is_right (level_of k signed s) ≡ true
root_right k signed s e = (bytes_eq-Decides (root_from k.set k.id signed s) k.root).1 e

key_length : (k : PublicKey) → IsPublicKey k → length (public_key k) ≡ 56
key_length k fits =
    let h = u32_string (lms_type k.set.h) in
    let w = u32_string (ots_type k.set.w) in
    let four : length h ≡ 4 = refl in
    let four_more : length w ≡ 4 = refl in
    omega (arith, length-append (h ++ w ++ k.id) k.root, length-append (h ++ w) k.id, length-append h w, four, four_more, fits.id_length, fits.root_length)

pub key_holds : (bytes : List ℕ) (k : PublicKey) (rest : List ℕ) → IsBytes bytes → key_at bytes ≡ Ok (k, rest) → 56 ≤ length bytes
key_holds bytes k rest fits e =
    let t = key_takes bytes k rest fits e in
    rw t.1.parts (omega (arith, length-append (public_key k) rest, key_length k t.0))

-- ---- L

between_is : (n b : ℕ) → between_of n ≡ Ok b → (b < 3) × (n ≡ b + 1)
unfolding between_of
between_is n b e = chosen (eqb n 1) (eqb n 2) (eqb n 3) (eqb-true n 1) (eqb-true n 2) (eqb-true n 3) e
  where
    chosen : (x y z : Bool) → (x ≡ true → n ≡ 1) → (y ≡ true → n ≡ 2) → (z ≡ true → n ≡ 3) → cond x (Ok 0) (cond y (Ok 1) (cond z (Ok 2) (Err Malformed))) ≡ done b → (b < 3) × (n ≡ b + 1)
    chosen true y z one two three e = subst (λ (m : ℕ). (m < 3) × (n ≡ m + 1)) (ok_is 0 b e) (omega arith, one refl)
    chosen false true z one two three e = subst (λ (m : ℕ). (m < 3) × (n ≡ m + 1)) (ok_is 1 b e) (omega arith, two refl)
    chosen false false true one two three e = subst (λ (m : ℕ). (m < 3) × (n ≡ m + 1)) (ok_is 2 b e) (omega arith, three refl)
    chosen false false false one two three e = absurd cc

pub between_again : (b : ℕ) → b < 3 → between_of (b + 1) ≡ Ok b
unfolding between_of
between_again zero lt = refl
between_again (suc zero) lt = refl
between_again (suc (suc zero)) lt = refl
between_again (suc (suc (suc b))) lt = absurd (omega (arith, lt))

-- ---- the levels

pub signed_from : (n : ℕ) (key : PublicKey) (message bytes : List ℕ) (levels : List Level) → IsPublicKey key → IsBytes bytes → whole_levels n key message bytes ≡ Ok levels → list_all is_right levels ≡ true → IsSigned n (public_key key) message bytes
unfolding whole_levels
signed_from zero key message bytes levels key_fits fits e right =
    let s = bind_ok (whole_signature key.set bytes) (λ s. Ok (level_of key message s ∷ [])) levels e in
    let all : list_all is_right (level_of key message s.0 ∷ []) ≡ true = subst (λ (ls : List Level). list_all is_right ls ≡ true) (sym (ok_is (level_of key message s.0 ∷ []) levels s.2)) right in
    let this = both_true (is_right (level_of key message s.0)) true all in
    let t = whole_signature_takes key.set bytes s.0 fits s.1 in
    record { k = key; s = s.0; key_fits = key_fits; key_is = refl; signature_fits = t.0; signature_is = t.1; same_root = root_same key message s.0 this.0 }
signed_from (suc n) key message bytes levels key_fits fits e right =
    let end : (Signature × List ℕ) → List Level → Result (List Level) LmsFault = λ s below. Ok (level_of key (take 56 s.1) s.0 ∷ below) in
    let s = bind_ok (signature_at key.set bytes) (λ s. key_at s.1 >>= λ next. whole_levels n next.0 message next.1 >>= λ below. end s below) levels e in
    let next = bind_ok (key_at s.0.1) (λ next. whole_levels n next.0 message next.1 >>= λ below. end s.0 below) levels s.2 in
    let below = bind_ok (whole_levels n next.0.0 message next.0.1) (λ below. end s.0 below) levels next.2 in
    let upper = signature key.set s.0.0 in
    let next_key = public_key next.0.0 in
    let ts = signature_takes key.set bytes s.0.0 s.0.1 fits s.1 in
    let tk = key_takes s.0.1 next.0.0 next.0.1 ts.1.rest_fits next.1 in
    let signed : take 56 s.0.1 ≡ next_key = ap (take 56) tk.1.parts ∙ take_at next_key next.0.1 56 (key_length next.0.0 tk.0) in
    let level = level_of key (take 56 s.0.1) s.0.0 in
    let all : list_all is_right (level ∷ below.0) ≡ true = subst (λ (ls : List Level). list_all is_right ls ≡ true) (sym (ok_is (level ∷ below.0) levels below.2)) right in
    let each = both_true (is_right level) (list_all is_right below.0) all in
    let root : root_from key.set key.id next_key s.0.0 ≡ key.root = ap (λ (m : List ℕ). root_from key.set key.id m s.0.0) (sym signed) ∙ root_same key (take 56 s.0.1) s.0.0 each.0 in
    let accepted : Accepts (public_key key) next_key upper = record { k = key; s = s.0.0; key_fits = key_fits; key_is = refl; signature_fits = ts.0; signature_is = refl; same_root = root } in
    let parts : bytes ≡ upper ++ next_key ++ next.0.1 = ts.1.parts ∙ ap (λ (t : List ℕ). upper ++ t) tk.1.parts ∙ sym (append_assoc upper next_key next.0.1) in
    (upper, next_key, next.0.1, parts, accepted, signed_from n next.0.0 message next.0.1 below.0 tk.0 tk.1.rest_fits below.1 each.1)

pub levels_again : (n : ℕ) (key message bytes : List ℕ) → IsSigned n key message bytes → (k : PublicKey) × (levels : List Level) × IsPublicKey k × (key ≡ public_key k) × (whole_levels n k message bytes ≡ Ok levels) × (list_all is_right levels ≡ true)
unfolding whole_levels
levels_again zero key message bytes a =
    let read : whole_signature a.k.set bytes ≡ Ok a.s = ap (whole_signature a.k.set) a.signature_is ∙ whole_signature_again a.k.set a.s a.signature_fits in
    (a.k, level_of a.k message a.s ∷ [], a.key_fits, a.key_is, bind_again (whole_signature a.k.set bytes) (λ s. Ok (level_of a.k message s ∷ [])) a.s (Ok (level_of a.k message a.s ∷ [])) read refl, true_both (is_right (level_of a.k message a.s)) true (root_right a.k message a.s a.same_root) refl)
levels_again (suc n) key message bytes p =
    let a = p.4 in
    let k = a.k in
    let after = p.1 ++ p.2 in
    let below = levels_again n p.1 message p.2 p.5 in
    let next = below.0 in
    let end : (Signature × List ℕ) → List Level → Result (List Level) LmsFault = λ s below. Ok (level_of k (take 56 s.1) s.0 ∷ below) in
    let parts : bytes ≡ signature k.set a.s ++ after = p.3 ∙ append_assoc p.0 p.1 p.2 ∙ ap (λ (t : List ℕ). t ++ after) a.signature_is in
    let signature-read : signature_at k.set bytes ≡ Ok (a.s, after) = ap (signature_at k.set) parts ∙ signature_again k.set a.s after a.signature_fits in
    let key-read : key_at after ≡ Ok (next, p.2) = ap (λ (t : List ℕ). key_at (t ++ p.2)) below.3 ∙ key_again next p.2 below.2 in
    let signed : take 56 after ≡ p.1 = ap (λ (t : List ℕ). take 56 (t ++ p.2)) below.3 ∙ take_at (public_key next) p.2 56 (key_length next below.2) ∙ sym below.3 in
    let level = level_of k (take 56 after) a.s in
    let right : is_right level ≡ true = root_right k (take 56 after) a.s (ap (λ (m : List ℕ). root_from k.set k.id m a.s) signed ∙ a.same_root) in
    let read : whole_levels (suc n) k message bytes ≡ Ok (level ∷ below.1) =
    bind_again (signature_at k.set bytes) (λ s. key_at s.1 >>= λ next. whole_levels n next.0 message next.1 >>= λ below. end s below) (a.s, after) (Ok (level ∷ below.1)) signature-read
    (bind_again (key_at after) (λ next. whole_levels n next.0 message next.1 >>= λ below. end (a.s, after) below) (next, p.2) (Ok (level ∷ below.1)) key-read
    (bind_again (whole_levels n next message p.2) (λ below. end (a.s, after) below) below.1 (Ok (level ∷ below.1)) below.4 refl)) in
    (k, level ∷ below.1, a.key_fits, a.key_is, read, true_both (is_right level) (list_all is_right below.1) right below.5)

-- ---- the answer

pub hss_accepts_from : (public message bytes : List ℕ) → IsBytes public → IsBytes bytes → hss_verdict public message bytes ≡ Ok tt → HssAccepts public message bytes
unfolding hss_verdict whole_hss_key whole_hss_signature
hss_accepts_from public message bytes public_fits fits e =
    let k = bind_ok (whole_hss_key public) (λ k. whole_hss_signature k.0 k.1 message bytes >>= λ levels. cond (list_all is_right levels) (Ok tt) (Err Wrong)) tt e in
    let levels = bind_ok (whole_hss_signature k.0.0 k.0.1 message bytes) (λ levels. cond (list_all is_right levels) (Ok tt) (Err Wrong)) tt k.2 in
    let right = passed_ok (list_all is_right levels.0) Wrong (Ok tt) tt levels.2 in
    let count = bind_ok (read_word public) (λ count. between_of count.0 >>= λ between. whole_key count.1 >>= λ top. Ok (between, top)) k.0 k.1 in
    let between = bind_ok (between_of count.0.0) (λ between. whole_key count.0.1 >>= λ top. Ok (between, top)) k.0 count.2 in
    let top = bind_ok (whole_key count.0.1) (λ top. Ok (between.0, top)) k.0 between.2 in
    let same : (between.0, top.0) ≡ k.0 = ok_is (between.0, top.0) k.0 top.2 in
    let few = between_is count.0.0 between.0 between.1 in
    let count_takes = number_takes public count.0.0 count.0.1 public_fits count.1 in
    let top_takes = whole_key_takes count.0.1 top.0 count_takes.rest_fits top.1 in
    let n = bind_ok (read_word bytes) (λ n. cond (eqb n.0 k.0.0) (whole_levels k.0.0 k.0.1 message n.1) (Err Malformed)) levels.0 levels.1 in
    let equal = passed_ok (eqb n.0.0 k.0.0) Malformed (whole_levels k.0.0 k.0.1 message n.0.1) levels.0 n.2 in
    let n_takes = number_takes bytes n.0.0 n.0.1 fits n.1 in
    let found : n.0.0 ≡ between.0 = eqb-true n.0.0 k.0.0 equal.0 ∙ sym (ap (λ (q : ℕ × PublicKey). q.0) same) in
    let read : whole_levels between.0 top.0 message n.0.1 ≡ Ok levels.0 = subst (λ (q : ℕ × PublicKey). whole_levels q.0 q.1 message n.0.1 ≡ Ok levels.0) (sym same) equal.1 in
    record {
      between = between.0;
      top = public_key top.0;
      rest = n.0.1;
      profile = few.0;
      key_is = count_takes.parts ∙ ap (λ (t : List ℕ). u32_string count.0.0 ++ t) top_takes.1 ∙ ap (λ (m : ℕ). u32_string m ++ public_key top.0) few.1;
      signature_is = n_takes.parts ∙ ap (λ (m : ℕ). u32_string m ++ n.0.1) found;
      signed = signed_from between.0 top.0 message n.0.1 levels.0 top_takes.0 n_takes.rest_fits read right.0;
    }

pub hss_yes_from : (public message bytes : List ℕ) → HssAccepts public message bytes → hss_verdict public message bytes ≡ Ok tt
unfolding hss_verdict whole_hss_key whole_hss_signature
hss_yes_from public message bytes a =
    let n = a.between in
    let small : n < 2 ^ 32 = omega (arith, a.profile) in
    let one_more : n + 1 < 2 ^ 32 = omega (arith, a.profile) in
    let levels = levels_again n a.top message a.rest a.signed in
    let k = levels.0 in
    let key : whole_hss_key public ≡ Ok (n, k) =
    bind_again (read_word public) (λ count. between_of count.0 >>= λ between. whole_key count.1 >>= λ top. Ok (between, top)) (n + 1, a.top) (Ok (n, k)) (ap read_word a.key_is ∙ number_again (n + 1) a.top one_more)
    (bind_again (between_of (n + 1)) (λ between. whole_key a.top >>= λ top. Ok (between, top)) n (Ok (n, k)) (between_again n a.profile)
    (bind_again (whole_key a.top) (λ top. Ok (n, top)) k (Ok (n, k)) (ap whole_key levels.3 ∙ whole_key_again k levels.2) refl)) in
    let read : whole_hss_signature n k message bytes ≡ Ok levels.1 =
    bind_again (read_word bytes) (λ m. cond (eqb m.0 n) (whole_levels n k message m.1) (Err Malformed)) (n, a.rest) (Ok levels.1) (ap read_word a.signature_is ∙ number_again n a.rest small)
    (ap (λ (b : Bool). cond b (whole_levels n k message a.rest) (Err Malformed)) (eq-eqb n n refl) ∙ levels.4) in
    bind_again (whole_hss_key public) (λ k. whole_hss_signature k.0 k.1 message bytes >>= λ levels. cond (list_all is_right levels) (Ok tt) (Err Wrong)) (n, k) (Ok tt) key
    (bind_again (whole_hss_signature n k message bytes) (λ levels. cond (list_all is_right levels) (Ok tt) (Err Wrong)) levels.1 (Ok tt) read
    (ap (λ (b : Bool). cond b (Ok tt) (Err Wrong)) levels.5))
