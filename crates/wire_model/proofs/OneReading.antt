-- XDR's items and RPC's messages can each be read in one way only.
use Rattle.std.proofs.Common.{◌≡◌, ℕ, ◌^◌, ◌<◌, ◌≤◌, Bool, true, false, List, [], ◌∷◌, ◌++◌, length, drop, Option, Some, None, ◌⊎◌, inl, inr, refl, sym, ap, ◌∙◌, arith, append_assoc}
use Rattle.std.specs.Prelude.{IfSome, ⊤}
use Rattle.std.specs.List.{flat_map, AllByRecursion}
use Rattle.std.specs.Int.{w32, w64, from_be_bytes}
use Rattle.std.proofs.lemmas.List.{append_cancel_left}
use Rattle.std.proofs.lemmas.Nat.{from_be_bytes-to_be_bytes_4, from_be_bytes-to_be_bytes_8}
use Rattle.ivy_base.specs.declared.operation.Moment.{Moment}
use Rattle.wire_model.specs.Xdr.{word, double_word, boolean, padding, fixed, opaque, optional, array, moment, IsWordMoment}
use Rattle.wire_model.specs.OneReading.{ReadsOne}
use Rattle.wire_model.specs.Rpc.{Auth, auth, AuthFits, CallMessage, call, IsCall, IsOtherVersion, Identity, system_body, nobody, IsIdentity, IsCaller, none, system}
use Rattle.wire_model.specs.Laws.{NumbersAreUnambiguous, ItemsAreUnambiguous, CallsAreUnambiguous}

-- ---- fronts

-- equal lists with fronts of one length have equal fronts and equal rests
pub same_fronts : (a b r s : List ℕ) → length a ≡ length b → a ++ r ≡ b ++ s → (a ≡ b) × (r ≡ s)
same_fronts [] [] r s l e = (refl, e)
same_fronts [] (y ∷ ys) r s l e = absurd (omega (arith, l))
same_fronts (x ∷ xs) [] r s l e = absurd (omega (arith, l))
same_fronts (x ∷ xs) (y ∷ ys) r s l e =
    let more : xs ++ r ≡ ys ++ s = cc in
    let p = same_fronts xs ys r s (omega (arith, l)) more in
    let head : x ≡ y = cc in
    (rw (head, p.0) refl, p.1)

pub regrouped : (a b c d r s : List ℕ) → (a ++ b) ++ r ≡ (c ++ d) ++ s → a ++ (b ++ r) ≡ c ++ (d ++ s)
regrouped a b c d r s e = sym (append_assoc a b r) ∙ e ∙ append_assoc c d s

-- where nothing follows, equal spellings are of one value
pub whole : {A : Type 0} {Fits : A → Type 0} {spell : A → List ℕ} → ReadsOne Fits spell → (x y : A) → Fits x → Fits y → spell x ≡ spell y → x ≡ y
whole reads x y f g e = (reads.one x y [] [] f g (ap (λ (bytes : List ℕ). bytes ++ []) e)).0

-- spellings of one length
pub of_length : {A : Type 0} {Fits : A → Type 0} {spell : A → List ℕ} (n : ℕ) → ((x : A) → Fits x → length (spell x) ≡ n)
    → ((x y : A) → Fits x → Fits y → spell x ≡ spell y → x ≡ y) → ReadsOne Fits spell
of_length {spell} n long apart = record {
  one = λ x y r s f g e.
      let p = same_fronts (spell x) (spell y) r s (long x f ∙ sym (long y g)) e in
      (apart x y f g p.0, p.1);
}

-- fewer values
pub of_fewer : {A : Type 0} {Fits Fewer : A → Type 0} {spell : A → List ℕ} → ((x : A) → Fewer x → Fits x) → ReadsOne Fits spell → ReadsOne Fewer spell
of_fewer weaker reads = record { one = λ x y r s f g e. reads.one x y r s (weaker x f) (weaker y g) e }

-- values that are given by what is spelled
pub of_parts : {A B : Type 0} {Fits : A → Type 0} {spell : A → List ℕ} {Whole : B → Type 0} {written : B → List ℕ} (parts : B → A)
    → ((x : B) → Whole x → Fits (parts x)) → ((x : B) → written x ≡ spell (parts x)) → ((x y : B) → parts x ≡ parts y → x ≡ y)
    → ReadsOne Fits spell → ReadsOne Whole written
of_parts parts fit spelled apart reads = record {
  one = λ x y r s f g e.
      let p = reads.one (parts x) (parts y) r s (fit x f) (fit y g) (ap (λ (bytes : List ℕ). bytes ++ r) (sym (spelled x)) ∙ e ∙ ap (λ (bytes : List ℕ). bytes ++ s) (spelled y)) in
      (apart x y p.0, p.1);
}

pair : {A B : Type 0} (a b : A) (c d : B) → a ≡ b → c ≡ d → ◌≡◌ {A = A × B} (a, c) (b, d)
pair a b c d p q = rw (p, q) refl

-- one after the other
infixl 60 ◌▷◌
pub ◌▷◌ : {A B : Type 0} {F : A → Type 0} {G : B → Type 0} {first : A → List ℕ} {second : B → List ℕ}
    → ReadsOne F first → ReadsOne G second → ReadsOne {A = A × B} (λ p. F p.0 × G p.1) (λ p. first p.0 ++ second p.1)
◌▷◌ {first} {second} a b = record {
  one = λ x y r s f g e.
      let p = a.one x.0 y.0 (second x.1 ++ r) (second y.1 ++ s) f.0 g.0 (regrouped (first x.0) (second x.1) (first y.0) (second y.1) r s e) in
      let q = b.one x.1 y.1 r s f.1 g.1 p.1 in
      (pair x.0 y.0 x.1 y.1 p.0 q.0, q.1);
}

-- the same bytes whatever the value is
pub always : (front : List ℕ) → ReadsOne (λ (x : Unit {0}). ⊤) (λ x. front)
always front = record { one = λ x y r s f g e. (refl, append_cancel_left front r s e) }

-- ---- XDR's items

pub word_length : (n : ℕ) → length (word n) ≡ 4
word_length n = refl

pub double_word_length : (n : ℕ) → length (double_word n) ≡ 8
double_word_length n = refl

pub one_word : ReadsOne (λ n. n < 2 ^ 32) word
one_word = of_length 4 (λ n h. word_length n) (λ m n f g e. sym (from_be_bytes-to_be_bytes_4 m f) ∙ ap (from_be_bytes w32) e ∙ from_be_bytes-to_be_bytes_4 n g)

pub one_double_word : ReadsOne (λ n. n < 2 ^ 64) double_word
one_double_word = of_length 8 (λ n h. double_word_length n) (λ m n f g e. sym (from_be_bytes-to_be_bytes_8 m f) ∙ ap (from_be_bytes w64) e ∙ from_be_bytes-to_be_bytes_8 n g)

pub one_boolean : ReadsOne (λ b. ⊤) boolean
one_boolean = record { one = booleans }
  where
    booleans : (x y : Bool) (r s : List ℕ) → ⊤ → ⊤ → boolean x ++ r ≡ boolean y ++ s → (x ≡ y) × (r ≡ s)
    booleans false false r s f g e = (refl, append_cancel_left (word 0) r s e)
    booleans false true r s f g e = cc
    booleans true false r s f g e = cc
    booleans true true r s f g e = (refl, append_cancel_left (word 1) r s e)

pub one_moment : ReadsOne IsWordMoment moment
one_moment = of_parts (λ (m : Moment). (m.sec, m.nsec)) (λ m f. f) (λ m. refl) (λ m n e. ap (λ (p : ℕ × ℕ). record { sec = p.0; nsec = p.1 }) e) (one_word ▷ one_word)

-- fixed data of one length
pub one_raw : (n : ℕ) → ReadsOne (λ (bytes : List ℕ). length bytes ≡ n) (λ bytes. bytes)
one_raw n = of_length n (λ bytes h. h) (λ x y f g e. e)

-- and with its padding
pub one_fixed : (n : ℕ) → ReadsOne (λ (bytes : List ℕ). length bytes ≡ n) fixed
one_fixed n = record {
  one = λ x y r s f g e.
      let same : length x ≡ length y = f ∙ sym g in
      let p = same_fronts x y (padding (length x) ++ r) (padding (length y) ++ s) same (regrouped x (padding (length x)) y (padding (length y)) r s e) in
      (p.0, (same_fronts (padding (length x)) (padding (length y)) r s (ap (λ (n : ℕ). length (padding n)) same) p.1).1);
}

pub one_opaque : ReadsOne (λ (bytes : List ℕ). length bytes < 2 ^ 32) opaque
one_opaque = record {
  one = λ x y r s f g e.
      let p = one_word.one (length x) (length y) (fixed x ++ r) (fixed y ++ s) f g (regrouped (word (length x)) (fixed x) (word (length y)) (fixed y) r s e) in
      (one_fixed (length y)).one x y r s p.0 refl p.1;
}

pub one_short_opaque : (most : ℕ) → most < 2 ^ 32 → ReadsOne (λ (bytes : List ℕ). length bytes ≤ most) opaque
one_short_opaque most h = of_fewer (λ bytes f. omega arith) one_opaque

pub one_optional : {A : Type 0} {Fits : A → Type 0} {item : A → List ℕ} → ReadsOne Fits item → ReadsOne (λ o. IfSome o Fits) (optional item)
one_optional {A} {Fits} {item} reads = record { one = options }
  where
    options : (x y : Option A) (r s : List ℕ) → IfSome x Fits → IfSome y Fits → optional item x ++ r ≡ optional item y ++ s → (x ≡ y) × (r ≡ s)
    options None None r s f g e = (refl, append_cancel_left (word 0) r s e)
    options None (Some y) r s f g e = cc
    options (Some x) None r s f g e = cc
    options (Some x) (Some y) r s f g e =
        let p = reads.one x y r s f g (append_cancel_left (word 1) (item x ++ r) (item y ++ s) e) in
        (ap Some p.0, p.1)

pub one_array : {A : Type 0} {Fits : A → Type 0} {item : A → List ℕ} → ReadsOne Fits item → ReadsOne (λ xs. (length xs < 2 ^ 32) × AllByRecursion Fits xs) (array item)
one_array {A} {Fits} {item} reads = record {
  one = λ x y r s f g e.
      let p = one_word.one (length x) (length y) (flat_map item x ++ r) (flat_map item y ++ s) f.0 g.0 (regrouped (word (length x)) (flat_map item x) (word (length y)) (flat_map item y) r s e) in
      items x y r s p.0 f.1 g.1 p.1;
}
  where
    items : (xs ys : List A) (r s : List ℕ) → length xs ≡ length ys → AllByRecursion Fits xs → AllByRecursion Fits ys
        → flat_map item xs ++ r ≡ flat_map item ys ++ s → (xs ≡ ys) × (r ≡ s)
    items [] [] r s l f g e = (refl, e)
    items [] (y ∷ ys) r s l f g e = absurd (omega (arith, l))
    items (x ∷ xs) [] r s l f g e = absurd (omega (arith, l))
    items (x ∷ xs) (y ∷ ys) r s l f g e =
        let p = reads.one x y (flat_map item xs ++ r) (flat_map item ys ++ s) f.0 g.0 (regrouped (item x) (flat_map item xs) (item y) (flat_map item ys) r s e) in
        let q = items xs ys r s (omega (arith, l)) f.1 g.1 p.1 in
        (rw (p.0, q.0) refl, q.1)

-- ---- RPC's messages

pub one_auth : ReadsOne AuthFits auth
one_auth = of_parts (λ (a : Auth). (a.flavour, a.body)) (λ a f. (f.flavour, f.body)) (λ a. refl) (λ a b e. ap (λ (p : ℕ × List ℕ). record { flavour = p.0; body = p.1 }) e)
    (one_word ▷ one_short_opaque 400 (omega arith))

-- all of a call but its arguments
abbrev Head : Type 0
Head = (((((((ℕ × Unit {0}) × Unit {0}) × ℕ) × ℕ) × ℕ) × Auth) × Auth)

abbrev head_of : CallMessage → Head
head_of c = (((((((c.xid, tt), tt), c.program), c.version), c.procedure), c.credential), c.verifier)

abbrev with_head : Head × List ℕ → CallMessage
with_head p = record {
  xid = p.0.0.0.0.0.0.0.0;
  program = p.0.0.0.0.0.1;
  version = p.0.0.0.0.1;
  procedure = p.0.0.0.1;
  credential = p.0.0.1;
  verifier = p.0.1;
  arguments = p.1;
}

pub one_call : (message : List ℕ) (c d : CallMessage) → IsCall message c → IsCall message d → c ≡ d
one_call message c d f g =
    let head = one_word ▷ always (word 0) ▷ always (word 2) ▷ one_word ▷ one_word ▷ one_word ▷ one_auth ▷ one_auth in
    let p = head.one (head_of c) (head_of d) c.arguments d.arguments
    (((((((f.0.xid, tt), tt), f.0.program), f.0.version), f.0.procedure), f.0.credential), f.0.verifier)
    (((((((g.0.xid, tt), tt), g.0.program), g.0.version), g.0.procedure), g.0.credential), g.0.verifier)
    (sym f.1 ∙ g.1) in
    ap with_head (pair (head_of c) (head_of d) c.arguments d.arguments p.0 p.1)

pub no_other_version : (message : List ℕ) (c : CallMessage) (xid : ℕ) → IsCall message c → IsOtherVersion message xid → ⊥
no_other_version message c xid f g =
    let after = drop 12 (call c) in
    let e : word c.xid ++ word 0 ++ word 2 ++ after ≡ word xid ++ word 0 ++ word g.0 ++ g.1 = sym f.1 ∙ g.5 in
    let version = one_word ▷ always (word 0) ▷ one_word in
    let p = version.one ((c.xid, tt), 2) ((xid, tt), g.0) after g.1 ((f.0.xid, tt), omega arith) ((g.2, tt), g.3) e in
    g.4 (sym (ap (λ (p : (ℕ × Unit {0}) × ℕ). p.1) p.0))

pub one_other_version : (message : List ℕ) (xid other : ℕ) → IsOtherVersion message xid → IsOtherVersion message other → xid ≡ other
one_other_version message xid other f g =
    let version = one_word ▷ always (word 0) ▷ one_word in
    let p = version.one ((xid, tt), f.0) ((other, tt), g.0) f.1 g.1 ((f.2, tt), f.3) ((g.2, tt), g.3) (sym f.5 ∙ g.5) in
    ap (λ (p : (ℕ × Unit {0}) × ℕ). p.0.0) p.0

-- ---- callers

pub record IsSystemCaller (a : Auth) (who : Identity) : Type 0 where
  pub flavour : a.flavour ≡ 1
  pub stamp : ℕ
  pub machine : List ℕ
  pub stamp_fits : stamp < 2 ^ 32
  pub machine_fits : length machine ≤ 255
  pub who_fits : IsIdentity who
  pub body : a.body ≡ system_body stamp machine who

-- a caller is nobody, or one that a system credential spells
pub caller_cases : {a : Auth} {who : Identity} → IsCaller a who → ((a.flavour ≡ 0) × (who ≡ nobody)) ⊎ IsSystemCaller a who
caller_cases none = inl (refl, refl)
caller_cases (system stamp machine f g h) = inr (record { flavour = refl; stamp = stamp; machine = machine; stamp_fits = f; machine_fits = g; who_fits = h; body = refl })

abbrev System : Type 0
System = (((ℕ × List ℕ) × ℕ) × ℕ) × List ℕ

abbrev identity_in : System → Identity
identity_in p = record { uid = p.0.0.1; gid = p.0.1; groups = p.1 }

one_system : (a : Auth) (who other : Identity) → IsSystemCaller a who → IsSystemCaller a other → who ≡ other
one_system a who other f g =
    let body = one_word ▷ one_short_opaque 255 (omega arith) ▷ one_word ▷ one_word ▷ one_array one_word in
    let e = whole body ((((f.stamp, f.machine), who.uid), who.gid), who.groups) ((((g.stamp, g.machine), other.uid), other.gid), other.groups)
    ((((f.stamp_fits, f.machine_fits), f.who_fits.uid), f.who_fits.gid), (omega (arith, f.who_fits.few), f.who_fits.groups))
    ((((g.stamp_fits, g.machine_fits), g.who_fits.uid), g.who_fits.gid), (omega (arith, g.who_fits.few), g.who_fits.groups))
    (sym f.body ∙ g.body) in
    ap identity_in e

one_of_cases : (a : Auth) (who other : Identity) → ((a.flavour ≡ 0) × (who ≡ nobody)) ⊎ IsSystemCaller a who → ((a.flavour ≡ 0) × (other ≡ nobody)) ⊎ IsSystemCaller a other → who ≡ other
one_of_cases a who other (inl f) (inl g) = f.1 ∙ sym g.1
one_of_cases a who other (inl f) (inr g) = absurd (omega (arith, f.0, g.flavour))
one_of_cases a who other (inr f) (inl g) = absurd (omega (arith, f.flavour, g.0))
one_of_cases a who other (inr f) (inr g) = one_system a who other f g

pub one_caller : (a : Auth) (who other : Identity) → IsCaller a who → IsCaller a other → who ≡ other
one_caller a who other f g = one_of_cases a who other (caller_cases f) (caller_cases g)

-- ---- the laws

pub numbers_are_unambiguous : NumbersAreUnambiguous
numbers_are_unambiguous = record { word_length = word_length; double_word_length = double_word_length; words = one_word; double_words = one_double_word }

pub items_are_unambiguous : ItemsAreUnambiguous
items_are_unambiguous = record {
  booleans = one_boolean;
  fixed_data = one_fixed;
  opaques = one_opaque;
  optional_words = one_optional one_word;
  optional_double_words = one_optional one_double_word;
  arrays_of_words = one_array one_word;
  moments = one_moment;
}

pub calls_are_unambiguous : CallsAreUnambiguous
calls_are_unambiguous = record { calls = one_call; versions = no_other_version; other_versions = one_other_version }
