-- No store is full while what was met is within a script's limit: what a node holds was met, and each block has one key as content and one as a head.
use Rattle.std.proofs.Common.{◌≡◌, inl, inr, ⊎_elim, ℕ, ◌+◌, ◌≤◌, Bool, true, false, cond, ◌&&◌, T, List, [], ◌∷◌, ◌++◌, length, Some, refl, sym, ap, ◌∙◌, subst, arith, Contains}
use Rattle.std.specs.Prelude.{sum_by}
use Rattle.std.specs.Map.{values_of}
use Rattle.std.specs.Ordering.{is_eq, is_lt}
use Rattle.std.specs.declared.cmp.Ordering.{Ordering}
use Rattle.std.specs.declared.cmp.Ordering.TheVariants.{Less, Equal, Greater}
use Rattle.std.specs.FinMap.Entries.{below_all, find as value_at, is_sorted}
use Rattle.std.proofs.lemmas.List.Sums.{sum_by-append, sum_by-cons}
use Rattle.ivy_base.specs.declared.key.Key.{Key}
use Rattle.ivy_base.specs.Naming.{key_cmp}
use Rattle.ring_model.specs.Members.{IsAmong}
use Rattle.ring_model.proofs.Lists.{among-cases, among-left, among-right}
use Rattle.ring_model.proofs.Lookups.{IsApart}
use Rattle.log_model.proofs.Lists.{in_cons, in_nothing}
use Rattle.dhash_model.specs.Stores.{Block, Blocks, bytes_held, store_capacity}
use Rattle.dhash_model.specs.declared.kind.BlockKind.{BlockKind}
use Rattle.dhash_model.specs.declared.kind.BlockKind.TheVariants.{Content, Head}
use Rattle.world_model.specs.World.{World}
use Rattle.round_laws.proofs.Nodes.{id_itself, not_tied}
use Rattle.calm_laws.specs.Laws.{IsWithinLimit}
use Rattle.calm_laws.proofs.BlockKinds.{IsFit, IsOf, is_met, of_fit, one_key}

-- ---- bytes of lists

abbrev pub total : List (List ℕ) → ℕ
total blocks = sum_by (λ b. length b) blocks

total_cons : (b : List ℕ) (bs : List (List ℕ)) → total (b ∷ bs) ≡ length b + total bs
total_cons b bs = sum_by-cons (λ (x : List ℕ). length x) b bs

total_both : (xs ys : List (List ℕ)) → total (xs ++ ys) ≡ total xs + total ys
total_both xs ys = sum_by-append (λ (x : List ℕ). length x) xs ys

pub in_among : {X : Type 0} (x : X) (xs : List X) → Contains xs x → IsAmong x xs
in_among x [] c = absurd (in_nothing x c)
in_among x (y ∷ ys) c = ⊎_elim (λ e. inl e) (λ d. inr (in_among x ys d)) (in_cons y ys x c)

-- blocks that are among others, each once, have no more bytes
total_within : (xs ys : List (List ℕ)) → IsApart xs → ((x : List ℕ) → IsAmong x xs → IsAmong x ys) → total xs ≤ total ys
total_within [] ys d f = omega arith
total_within (x ∷ xs) ys d f =
    let p = cut ys (f x (inl refl)) in
    let rest = total_within xs (p.0 ++ p.1) d.1 (λ z i. drop_one z p.0 p.1 (λ q. d.0 (subst (λ w. IsAmong w xs) (sym q) i)) (subst (IsAmong z) p.2 (f z (inr i)))) in
    let one = total_cons x xs in
    let whole : total ys ≡ total p.0 + total (x ∷ p.1) = ap total p.2 ∙ total_both p.0 (x ∷ p.1) in
    let back = total_cons x p.1 in
    let both = total_both p.0 p.1 in
    omega (arith, rest, one, whole, back, both)
  where
    cut : (zs : List (List ℕ)) → IsAmong x zs → (front : List (List ℕ)) × (back : List (List ℕ)) × (zs ≡ front ++ x ∷ back)
    cut [] h = absurd h
    cut (w ∷ ws) (inl e) = ([], ws, ap (λ v. v ∷ ws) e)
    cut (w ∷ ws) (inr h) = let r = cut ws h in (w ∷ r.0, r.1, ap (λ vs. w ∷ vs) r.2)

    drop_one : (z : List ℕ) (front back : List (List ℕ)) → (x ≡ z → ⊥) → IsAmong z (front ++ x ∷ back) → IsAmong z (front ++ back)
    drop_one z front back ne i =
        ⊎_elim
        (λ j. among-left z front back j)
        (λ j. ⊎_elim (λ q. absurd (ne q)) (λ k. among-right z front back k) j)
        (among-cases z front (x ∷ back) i)

-- ---- entries of stores

and_first : (a b : Bool) → T (a && b) → T a
and_first true b h = tt
and_first false b h = h

and_second : (a b : Bool) → T (a && b) → T b
and_second true b h = h
and_second false b h = absurd h

below_other : (k : Key) (es : Blocks) → T (below_all key_cmp k es) → (f : Key × Block) → IsAmong f es → k ≡ f.0 → ⊥
below_other k [] h f i s = absurd i
below_other k (e ∷ es) h f (inl q) s =
    by (key_cmp k e.0) (and_first (is_lt (key_cmp k e.0)) (below_all key_cmp k es) h) (subst (λ x. is_eq (key_cmp k x) ≡ true) (s ∙ sym (ap (λ (x : Key × Block). x.0) q)) (id_itself k))
  where
    by : (o : Ordering) → T (is_lt o) → is_eq o ≡ true → ⊥
    by Less t e = cc e
    by Equal t e = t
    by Greater t e = t
below_other k (e ∷ es) h f (inr i) s = below_other k es (and_second (is_lt (key_cmp k e.0)) (below_all key_cmp k es) h) f i s

-- each entry is what stands under its key
pub each_found : (es : Blocks) → T (is_sorted key_cmp es) → (f : Key × Block) → IsAmong f es → value_at key_cmp f.0 es ≡ Some f.1
each_found [] h f i = absurd i
each_found (e ∷ es) h f (inl q) = ap (λ (x : Key × Block). value_at key_cmp x.0 (e ∷ es)) (sym q) ∙ ap (λ b. cond b (Some e.1) (value_at key_cmp e.0 es)) (id_itself e.0) ∙ ap (λ (x : Key × Block). Some x.1) q
each_found (e ∷ es) h f (inr i) =
    let d : f.0 ≡ e.0 → ⊥ = λ s. below_other e.0 es (and_first (below_all key_cmp e.0 es) (is_sorted key_cmp es) h) f i (sym s) in
    ap (λ b. cond b (Some e.1) (value_at key_cmp f.0 es)) (not_tied f.0 e.0 d) ∙ each_found es (and_second (below_all key_cmp e.0 es) (is_sorted key_cmp es) h) f i

-- ---- the blocks of one kind

abbrev with_kind : BlockKind → BlockKind → List ℕ → List (List ℕ) → List (List ℕ)
with_kind Content Content b bs = b ∷ bs
with_kind Head Head b bs = b ∷ bs
with_kind Content Head b bs = bs
with_kind Head Content b bs = bs

of_kind : BlockKind → Blocks → List (List ℕ)
of_kind kind [] = []
of_kind kind (e ∷ es) = with_kind kind e.1.kind e.1.bytes (of_kind kind es)

held_is : (es : Blocks) → bytes_held es ≡ total (of_kind Content es) + total (of_kind Head es)
unfolding of_kind
held_is [] = refl
held_is (e ∷ es) = sum_by-cons (λ (b : Block). length b.bytes) e.1 (values_of es) ∙ by e.1.kind (held_is es)
  where
    by : (kind : BlockKind) → bytes_held es ≡ total (of_kind Content es) + total (of_kind Head es)
        → length e.1.bytes + bytes_held es ≡ total (with_kind Content kind e.1.bytes (of_kind Content es)) + total (with_kind Head kind e.1.bytes (of_kind Head es))
    by Content rest = let one = total_cons e.1.bytes (of_kind Content es) in omega (arith, rest, one)
    by Head rest = let one = total_cons e.1.bytes (of_kind Head es) in omega (arith, rest, one)

abbrev Found : BlockKind → Key × Block → Blocks → List ℕ → Type 0
Found kind e es b = (key : Key) × IsAmong (key, record { kind = kind; bytes = b }) (e ∷ es)

from_kind : (kind : BlockKind) (es : Blocks) (b : List ℕ) → IsAmong b (of_kind kind es) → (key : Key) × IsAmong (key, record { kind = kind; bytes = b }) es
unfolding of_kind
from_kind kind [] b i = absurd i
from_kind kind (e ∷ es) b i = by kind e.1.kind refl refl (from_kind kind es b) i
  where
    here : e.1.kind ≡ kind → e.1.bytes ≡ b → Found kind e es b
    here k same = (e.0, inl (λ t. (e.0, record { kind = k t; bytes = same t })))

    later : (IsAmong b (of_kind kind es) → (key : Key) × IsAmong (key, record { kind = kind; bytes = b }) es) → IsAmong b (of_kind kind es) → Found kind e es b
    later rest j = let r = rest j in (r.0, inr r.1)

    by : (k l : BlockKind) → kind ≡ k → e.1.kind ≡ l → (IsAmong b (of_kind kind es) → (key : Key) × IsAmong (key, record { kind = kind; bytes = b }) es) → IsAmong b (with_kind k l e.1.bytes (of_kind kind es)) → Found kind e es b
    by Content Content s t rest (inl q) = here (t ∙ sym s) q
    by Content Content s t rest (inr j) = later rest j
    by Head Head s t rest (inl q) = here (t ∙ sym s) q
    by Head Head s t rest (inr j) = later rest j
    by Content Head s t rest j = later rest j
    by Head Content s t rest j = later rest j

-- each entry fits its key, and was met
module _ (met : List (List ℕ)) where
  abbrev AreMet : Blocks → Type 0
  AreMet es = (f : Key × Block) → IsAmong f es → IsFit f.1.kind f.0 f.1.bytes × Contains met f.1.bytes

  apart_of_kind : (kind : BlockKind) (es : Blocks) → T (is_sorted key_cmp es) → AreMet es → IsApart (of_kind kind es)
  unfolding of_kind
  apart_of_kind kind [] sorted are = tt
  apart_of_kind kind (e ∷ es) sorted are = by kind e.1.kind refl refl (apart_of_kind kind es (and_second (below_all key_cmp e.0 es) (is_sorted key_cmp es) sorted) (λ f i. are f (inr i)))
    where
      new : e.1.kind ≡ kind → IsAmong e.1.bytes (of_kind kind es) → ⊥
      new same i =
          let other = from_kind kind es e.1.bytes i in
          let here : IsFit kind e.0 e.1.bytes = subst (λ k. IsFit k e.0 e.1.bytes) same (are e (inl refl)).0 in
          let there : IsFit kind other.0 e.1.bytes = (are (other.0, record { kind = kind; bytes = e.1.bytes }) (inr other.1)).0 in
          below_other e.0 es (and_first (below_all key_cmp e.0 es) (is_sorted key_cmp es) sorted) (other.0, record { kind = kind; bytes = e.1.bytes }) other.1 (one_key kind e.0 other.0 e.1.bytes here there)

      by : (k l : BlockKind) → kind ≡ k → e.1.kind ≡ l → IsApart (of_kind kind es) → IsApart (with_kind k l e.1.bytes (of_kind kind es))
      by Content Content s t rest = (new (t ∙ sym s), rest)
      by Head Head s t rest = (new (t ∙ sym s), rest)
      by Content Head s t rest = rest
      by Head Content s t rest = rest

  within_met : (kind : BlockKind) (es : Blocks) → AreMet es → (b : List ℕ) → IsAmong b (of_kind kind es) → IsAmong b met
  within_met kind es are b i = let found = from_kind kind es b i in in_among b met (are (found.0, record { kind = kind; bytes = b }) found.1).1

  -- so it has no more bytes than what was met has, as content and as heads
  pub held_within : (es : Blocks) → T (is_sorted key_cmp es) → ((key : Key) (c : Block) → value_at key_cmp key es ≡ Some c → IsFit c.kind key c.bytes × Contains met c.bytes) → bytes_held es ≤ total met + total met
  held_within es sorted kinds =
      let are : AreMet es = λ f i. kinds f.0 f.1 (each_found es sorted f i) in
      let contents = total_within (of_kind Content es) met (apart_of_kind Content es sorted are) (within_met Content es are) in
      let heads = total_within (of_kind Head es) met (apart_of_kind Head es sorted are) (within_met Head es are) in
      let whole = held_is es in
      omega (arith, contents, heads, whole)

  -- a block that was met has no more either
  pub one_within : (b : List ℕ) → Contains met b → length b ≤ total met
  one_within b c =
      let one = total_cons b [] in
      let all = total_within (b ∷ []) met ((λ i. i), tt) (λ x i. ⊎_elim (λ e. subst (λ y. IsAmong y met) e (in_among b met c)) (λ none. absurd none) i) in
      omega (arith, one, all)

-- while what was met is within a script's limit
pub fits : (end : World) → IsWithinLimit end → (es : Blocks) → T (is_sorted key_cmp es) → ((key : Key) (c : Block) → value_at key_cmp key es ≡ Some c → IsOf end key c.kind c.bytes) → bytes_held es ≤ store_capacity
fits end room es sorted kinds = let held = held_within end.met es sorted (λ key c f. let of = kinds key c f in (of_fit end key c.kind c.bytes of, is_met end key c.kind c.bytes of)) in omega (arith, room, held)
