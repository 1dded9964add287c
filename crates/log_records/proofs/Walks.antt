-- Walking along a chain, record by record.
use Rattle.std.proofs.Common.{◌≡◌, ℕ, zero, suc, ◌+◌, ◌-◌, ◌<◌, ◌≤◌, List, [], ◌∷◌, ◌++◌, length, get_or, take, refl, sym, ap, ◌∙◌, subst, arith}
use Rattle.std.specs.Prelude.{◌↔◌, IsTrue, Bool, true, false, ◌&&◌, Option}
use Rattle.std.specs.List.{AllByRecursion, list_all}
use Rattle.std.proofs.lemmas.List.{take_more, get_or_default}
use Rattle.std.proofs.Math.Seq.{take-length, get_or-append_seam}
use Rattle.std.proofs.lemmas.List.{length-append}
use Rattle.log_model.specs.View.{View, is_named}
use Rattle.ivy_base.specs.declared.key.PubKey.{PubKey}
use Rattle.log_model.specs.Vector.{Stamp}
use Rattle.log_model.specs.Record.{Record}
use Rattle.log_model.specs.Spelling.{HasSpelling}
use Rattle.log_model.specs.Rank.{own_entry}
use Rattle.log_model.specs.Chain.{IsGood, Follows, GoesOn}
use Rattle.log_model.proofs.Lists.{each, both}
use Rattle.version_vectors.specs.declared.entry.Entry.{Entry}
use Rattle.version_vectors.specs.Entries.{vector_of}
use Rattle.log_model.specs.Fetched.{Edge, owner_of, MayBeNext, KnowsEdge, GoesOnFrom, EndsAtStamp, HasRecord}
use Rattle.log_records.specs.Batches.{AreOfOneOwner}
use Rattle.log_records.specs.Walks.{GoesOnInside, BeginsSpelled}

-- the list has x at that index
abbrev pub HasAt : List Record → ℕ → Record → Type 0
HasAt xs i x = get_or xs i x ≡ x

step_after : (view : View) (owner : PubKey) (p : Record) (rs : List Record) (j : ℕ) (before r : Record) → j < length rs → HasAt (p ∷ rs) j before → HasAt rs j r
    → GoesOn view owner p (take j rs) → IsGood view owner r → Follows before r → GoesOn view owner p (take (suc j) rs)
step_after view owner p [] j before r lt at_before at g good follows = absurd (omega arith)
step_after view owner p (q ∷ rs) zero before r lt at_before at g good follows =
    (subst (IsGood view owner) (sym at) good, subst (λ (x : Record). Follows x q) (sym at_before) (subst (λ (x : Record). Follows before x) (sym at) follows), tt)
step_after view owner p (q ∷ rs) (suc j) before r lt at_before at g good follows = (g.0, g.1, step_after view owner q rs j before r (omega arith) at_before at g.2 good follows)

stepped_after : (view : View) (owner : PubKey) (p : Record) (rs : List Record) (j : ℕ) (before r : Record) → j < length rs → HasAt (p ∷ rs) j before → HasAt rs j r
    → GoesOn view owner p rs → IsGood view owner r × Follows before r
stepped_after view owner p [] j before r lt at_before at g = absurd (omega arith)
stepped_after view owner p (q ∷ rs) zero before r lt at_before at g =
    (subst (IsGood view owner) at g.0, subst (λ (x : Record). Follows x r) at_before (subst (λ (x : Record). Follows p x) at g.1))
stepped_after view owner p (q ∷ rs) (suc j) before r lt at_before at g = stepped_after view owner q rs j before r (omega arith) at_before at g.2

-- ---- over the whole chain

pub begins : (view : View) (xs : List Record) → AreOfOneOwner xs → GoesOnInside view (take 1 xs)
begins view [] h = absurd (h.some refl)
begins view (r ∷ rs) h = tt

pub oldest_spelled : (xs : List Record) → AreOfOneOwner xs → BeginsSpelled xs → (x : Record) → HasAt xs 0 x → HasSpelling x
oldest_spelled [] h spelled x at = absurd (h.some refl)
oldest_spelled (r ∷ rs) h spelled x at = subst HasSpelling at spelled

pub owned_at : (xs : List Record) (i : ℕ) (x : Record) → AreOfOneOwner xs → i < length xs → HasAt xs i x → x.owner ≡ owner_of xs
owned_at xs i x h lt at = each (λ r. r.owner ≡ owner_of xs) xs x h.owned (i, lt, at)

pub step : (view : View) (xs : List Record) (i : ℕ) (before r : Record) → 1 ≤ i → i < length xs → AreOfOneOwner xs → HasAt xs (i - 1) before → HasAt xs i r
    → GoesOnInside view (take i xs) → IsGood view r.owner r × Follows before r → GoesOnInside view (take (suc i) xs)
step view [] i before r low lt one at_before at g h = absurd (omega arith)
step view (q ∷ rs) zero before r low lt one at_before at g h = absurd (omega arith)
step view (q ∷ rs) (suc j) before r low lt one at_before at g h =
    let same : suc j - 1 ≡ j = omega arith in
    step_after view q.owner q rs j before r (omega arith) (subst (λ (k : ℕ). HasAt (q ∷ rs) k before) same at_before) at g (subst (λ (o : PubKey). IsGood view o r) (owned_at (q ∷ rs) (suc j) r one lt at) h.0) h.1

pub stepped : (view : View) (xs : List Record) (i : ℕ) (before r : Record) → 1 ≤ i → i < length xs → AreOfOneOwner xs → HasAt xs (i - 1) before → HasAt xs i r
    → GoesOnInside view xs → IsGood view r.owner r × Follows before r
stepped view [] i before r low lt one at_before at g = absurd (omega arith)
stepped view (q ∷ rs) zero before r low lt one at_before at g = absurd (omega arith)
stepped view (q ∷ rs) (suc j) before r low lt one at_before at g =
    let same : suc j - 1 ≡ j = omega arith in
    let h = stepped_after view q.owner q rs j before r (omega arith) (subst (λ (k : ℕ). HasAt (q ∷ rs) k before) same at_before) at g in
    (subst (λ (o : PubKey). IsGood view o r) (sym (owned_at (q ∷ rs) (suc j) r one lt at)) h.0, h.1)

-- ---- the newest record, and one of them

pub ends_by : (xs : List Record) (n : ℕ) (x : Record) (t : Stamp) → length xs ≡ n + 1 → HasAt xs n x → ((own_entry x).1 ≡ t) ↔ EndsAtStamp t xs
ends_by xs n x t size at = (
  λ e. (take n xs, x, sym (take-length xs) ∙ ap (λ k. take k xs) size ∙ take_more xs n x (omega arith) ∙ ap (λ (y : Record). take n xs ++ y ∷ []) at, e),
  λ h.
      let long : length xs ≡ length h.0 + 1 = ap length h.2 ∙ length-append h.0 (h.1 ∷ []) in
      let same : n ≡ length h.0 = omega arith in
      let found : x ≡ h.1 = sym at ∙ ap (λ (ys : List Record). get_or ys n x) h.2 ∙ ap (λ k. get_or (h.0 ++ h.1 ∷ []) k x) same ∙ get_or-append_seam h.0 h.1 [] x in
      ap (λ (y : Record). (own_entry y).1) found ∙ h.3,
)

pub found_at : (xs : List Record) (i : ℕ) (x : Record) (t : Stamp) → i < length xs → HasAt xs i x → (own_entry x).1 ≡ t → HasRecord t xs
found_at xs i x t lt at e = (x, (i, lt, at), e)

pub not_found : (xs : List Record) (t : Stamp) → ((k : ℕ) → k < length xs → (x : Record) → HasAt xs k x → (own_entry x).1 ≡ t → ⊥) → HasRecord t xs → ⊥
not_found xs t none h = none h.1.0 h.1.1 h.0 h.1.2 h.2

-- ---- the logs that a vector names

parts_true : (a b : Bool) → (a && b) ≡ true → (a ≡ true) × (b ≡ true)
parts_true true b h = (refl, h)
parts_true false b h = cc

pub all_named : (view : View) (es : List Entry) → list_all (λ e. is_named view e.log) es ≡ true ↔ AllByRecursion (λ e. IsTrue (is_named view e.0)) (vector_of es)
all_named view [] = (λ h. tt, λ h. refl)
all_named view (e ∷ es) =
    let rest = all_named view es in (
      λ h. let parts = parts_true (is_named view e.log) (list_all (λ x. is_named view x.log) es) h in (parts.0, rest.0 parts.1),
      λ h. both (is_named view e.log) (list_all (λ x. is_named view x.log) es) h.0 (rest.1 h.1),
    )

pub named_by_entries : (view : View) (es : List Entry) (b : Bool) → b ≡ list_all (λ e. is_named view e.log) es → IsTrue b ↔ AllByRecursion (λ e. IsTrue (is_named view e.0)) (vector_of es)
named_by_entries view es b is = let h = all_named view es in (λ t. h.0 (sym is ∙ t), λ a. is ∙ h.1 a)

-- ---- the oldest record and what follows it

pub assemble : (view : View) (held : Option Stamp) (edge : Option Edge) (xs : List Record) (x : Record) → AreOfOneOwner xs → HasAt xs 0 x
    → IsGood view x.owner x → MayBeNext held x → KnowsEdge held edge x → GoesOnInside view xs → GoesOnFrom view held edge xs
assemble view held edge [] x one at good next knows g = absurd (one.some refl)
assemble view held edge (r ∷ rs) x one at good next knows g =
    (subst (λ (y : Record). IsGood view y.owner y) (sym at) good, subst (MayBeNext held) (sym at) next, subst (KnowsEdge held edge) (sym at) knows, g)

pub record AreFrom (view : View) (held : Option Stamp) (edge : Option Edge) (xs : List Record) (x : Record) : Type 0 where
  pub good : IsGood view x.owner x
  pub next : MayBeNext held x
  pub knows : KnowsEdge held edge x
  pub goes : GoesOnInside view xs

pub take_apart : (view : View) (held : Option Stamp) (edge : Option Edge) (xs : List Record) (x : Record) → AreOfOneOwner xs → HasAt xs 0 x
    → GoesOnFrom view held edge xs → AreFrom view held edge xs x
take_apart view held edge [] x one at g = absurd (one.some refl)
take_apart view held edge (r ∷ rs) x one at g = record {
  good = subst (λ (y : Record). IsGood view y.owner y) at g.0;
  next = subst (MayBeNext held) at g.1;
  knows = subst (KnowsEdge held edge) at g.2;
  goes = g.3;
}

pub same_at : (xs : List Record) (i : ℕ) (x y : Record) → i < length xs → HasAt xs i x → HasAt xs i y → x ≡ y
same_at xs i x y lt at_x at_y = sym at_x ∙ get_or_default xs i x y lt ∙ at_y
