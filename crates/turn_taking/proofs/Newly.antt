-- What a refresh newly brings, chain by chain, is what is new of the chains within the floor.
use Rattle.std.proofs.Common.{◌≡◌, ◌⊎◌, inl, inr, ⊎_elim, ℕ, zero, suc, ◌+◌, ◌-◌, min, Bool, true, false, cond, List, [], ◌∷◌, ◌++◌, length, take, drop, filter, map, refl, sym, ap, ◌∙◌, subst, arith, Contains, Option, Some, None, le-leb}
use Rattle.std.specs.Prelude.{flat_map}
use Rattle.std.specs.List.{AllByRecursion}
use Rattle.std.specs.Ordering.{eq_by_cmp}
use Rattle.std.proofs.lemmas.Bool.{cases_lt}
use Rattle.std.proofs.lemmas.Grind.{flat_map-append}
use Rattle.std.proofs.lemmas.List.{append-nil, take_all}
use Rattle.ivy_base.specs.declared.key.PubKey.{PubKey}
use Rattle.ivy_base.specs.Naming.{head_key_of, owner_cmp}
use Rattle.log_model.specs.View.{View}
use Rattle.log_model.specs.Vector.{Stamp, Vector, stamp_at, seq_of}
use Rattle.log_model.specs.Record.{Record}
use Rattle.log_model.specs.Chain.{IsGood}
use Rattle.log_model.proofs.Lists.{here, each, from_filter}
use Rattle.log_model.specs.Fetched.{owner_of}
use Rattle.causal_order.specs.Available.{IsLinked, BeginsBy}
use Rattle.causal_order.specs.Started.{HaveOwnOwners}
use Rattle.turn_model.specs.Basis.{Holding}
use Rattle.agent_model.specs.Agent.{joined}
use Rattle.agent_model.specs.Standing.{beyond, go_on_from, new_in}
use Rattle.turn_laws.specs.Taking.{within}
use Rattle.agent_model.specs.Turning.{AreNext}
use Rattle.turn_taking.specs.Chains.{AreNumbered, all_within, as_chain, new_of, some_of}
use Rattle.turn_taking.proofs.Counting.{behind, counted, linked_numbered, none_up_to, up_to}
use Rattle.turn_taking.proofs.Rows.{linked_good, owner_take}

-- ---- two filters

twice : (p q : Record → Bool) (rs : List Record) → filter p (filter q rs) ≡ filter q (filter p rs)
twice p q [] = refl
twice p q (r ∷ rs) = by (p r) (q r) refl refl (twice p q rs)
  where
    kept : (test : Record → Bool) (l : List Record) → test r ≡ true → filter test (r ∷ l) ≡ r ∷ filter test l
    kept test l e = ap (λ b. cond b (r ∷ filter test l) (filter test l)) e

    lost : (test : Record → Bool) (l : List Record) → test r ≡ false → filter test (r ∷ l) ≡ filter test l
    lost test l e = ap (λ b. cond b (r ∷ filter test l) (filter test l)) e

    by : (b c : Bool) → p r ≡ b → q r ≡ c → filter p (filter q rs) ≡ filter q (filter p rs) → filter p (filter q (r ∷ rs)) ≡ filter q (filter p (r ∷ rs))
    by true true e f again = ap (filter p) (kept q rs f) ∙ kept p (filter q rs) e ∙ ap (λ (l : List Record). r ∷ l) again ∙ sym (ap (filter q) (kept p rs e) ∙ kept q (filter p rs) f)
    by true false e f again = ap (filter p) (lost q rs f) ∙ again ∙ sym (ap (filter q) (kept p rs e) ∙ lost q (filter p rs) f)
    by false true e f again = ap (filter p) (kept q rs f) ∙ lost p (filter q rs) e ∙ again ∙ sym (ap (filter q) (lost p rs e))
    by false false e f again = ap (filter p) (lost q rs f) ∙ again ∙ sym (ap (filter q) (lost p rs e))

-- ---- whether records go on is said by the first one

by_first : (t : Option Stamp) (r : Record) (xs ys : List Record) → go_on_from t (r ∷ xs) ≡ go_on_from t (r ∷ ys)
by_first None r xs ys = refl
by_first (Some s) r xs ys = refl

nothing_goes : (t : Option Stamp) → go_on_from t [] ≡ false
nothing_goes None = refl
nothing_goes (Some s) = refl

nothing_either : (b : Bool) (l : List Record) → l ≡ [] → cond b l [] ≡ []
nothing_either true l e = e
nothing_either false l e = refl

module _ (t : Option Stamp) (m : ℕ) where
  abbrev pub going : List Record → List Record
  going l = cond (go_on_from t l) l []

  kept_of : (b : Bool) (l : List Record) → filter (up_to m) l ≡ [] → filter (up_to m) (cond b l []) ≡ []
  kept_of true l e = e
  kept_of false l e = refl

  -- those up to a number, if all go on, are those up to it, if they go on
  up_to_going : (n : ℕ) (rest : List Record) → AreNext n rest → filter (up_to m) (going rest) ≡ going (filter (up_to m) rest)
  up_to_going n [] h =
      ap (λ b. filter (up_to m) (cond b [] [])) (nothing_goes t) ∙ sym (nothing_either (go_on_from t []) [] refl)
  up_to_going n (r ∷ rest) h = by (up_to m r) refl
    where
      moved : (b : Bool) (ys : List Record) → filter (up_to m) (r ∷ rest) ≡ r ∷ ys → filter (up_to m) (cond b (r ∷ rest) []) ≡ cond b (r ∷ ys) []
      moved true ys e = e
      moved false ys e = refl

      by : (b : Bool) → up_to m r ≡ b → filter (up_to m) (going (r ∷ rest)) ≡ going (filter (up_to m) (r ∷ rest))
      by true e =
          let first : filter (up_to m) (r ∷ rest) ≡ r ∷ filter (up_to m) rest = ap (λ b. cond b (r ∷ filter (up_to m) rest) (filter (up_to m) rest)) e in
          moved (go_on_from t (r ∷ rest)) (filter (up_to m) rest) first
          ∙ ap (λ b. cond b (r ∷ filter (up_to m) rest) []) (by_first t r rest (filter (up_to m) rest)) ∙ ap going (sym first)
      by false e =
          let none : filter (up_to m) (r ∷ rest) ≡ [] = none_up_to m n (r ∷ rest) (⊎_elim (λ less. let s = h.0 in absurd (let yes : up_to m r ≡ true = le-leb r.seq m (omega (arith, s, less)) in cc)) (λ le. le) (cases_lt n m)) h in
          kept_of (go_on_from t (r ∷ rest)) (r ∷ rest) none ∙ sym (ap going none ∙ nothing_either (go_on_from t []) [] refl)

next_drop : (n k : ℕ) (rs : List Record) → AreNext n rs → AreNumbered (drop k rs)
next_drop n zero rs h = (n, h)
next_drop n (suc k) [] h = (n, tt)
next_drop n (suc k) (r ∷ rs) h = next_drop (n + 1) k rs h.1

-- ---- of the own chain

module _ (view : View) (front : Vector) (m : ℕ) (c : List Record) (linked : IsLinked view c) where
  of_some : (l : List Record) → l ≡ filter (up_to m) c
      → going (stamp_at front (head_key_of (owner_of c))) m (filter (behind (seq_of front (head_key_of (owner_of c)))) l) ≡ flat_map (λ d. beyond front (as_chain d)) (some_of l)
  of_some [] e = nothing_either (go_on_from (stamp_at front (head_key_of (owner_of c))) []) [] refl
  of_some (r ∷ ls) e =
      let within : Contains c r = (from_filter (up_to m) c r (subst (λ (l : List Record). Contains l r) e (here r ls))).0 in
      let owned : r.owner ≡ owner_of c = (each (IsGood view (owner_of c)) c r (linked_good view c linked) within).owned in
      ap (λ (o : PubKey). going (stamp_at front (head_key_of o)) m (filter (behind (seq_of front (head_key_of o))) (r ∷ ls))) (sym owned) ∙ sym (append-nil (beyond front (as_chain (r ∷ ls))))

  own_new : filter (up_to m) (beyond front (as_chain c)) ≡ flat_map (λ d. beyond front (as_chain d)) (some_of (filter (up_to m) c))
  own_new =
      let f = seq_of front (head_key_of (owner_of c)) in
      let t = stamp_at front (head_key_of (owner_of c)) in
      let n = linked_numbered view c linked in
      let k = min (f - n.0) (length c) in
      let rest = subst AreNumbered (sym (counted n.0 f c n.1 k refl).1) (next_drop n.0 k c n.1) in
      up_to_going t m rest.0 (filter (behind f) c) rest.1
      ∙ ap (going t m) (twice (up_to m) (behind f) c) ∙ of_some (filter (up_to m) c) refl

module _ (view : View) (own : PubKey) (floor : Vector) where
  -- ---- what is left of a linked chain are its first records

  left_is : (c : List Record) → IsLinked view c → (k : ℕ) × (within own floor (as_chain c) ≡ take k c)
  left_is c linked = by (eq_by_cmp owner_cmp own (owner_of c))
    where
      by : (b : Bool) → (k : ℕ) × (cond b (filter (up_to (seq_of floor (head_key_of (owner_of c)))) c) c ≡ take k c)
      by true =
          let n = linked_numbered view c linked in
          let m = seq_of floor (head_key_of (owner_of c)) in
          (min (m - n.0) (length c), (counted n.0 m c n.1 (min (m - n.0) (length c)) refl).0)
      by false = (length c, sym (take_all (length c) c (omega arith)))

  module _ (Q : List Record → List Record → Type 0) where
    -- what holds of some of a chain's first records holds of what is left
    of_left : (c : List Record) → IsLinked view c → ((k : ℕ) → Q c (take (suc k) c)) → AllByRecursion (Q c) (some_of (within own floor (as_chain c)))
    of_left c linked h = let w = left_is c linked in subst (λ (l : List Record). AllByRecursion (Q c) (some_of l)) (sym w.1) (by w.0 c refl)
      where
        single : (l : List Record) → Q c l → AllByRecursion (Q c) (some_of l)
        single [] q = tt
        single (r ∷ rs) q = (q, tt)

        by : (k : ℕ) (d : List Record) → d ≡ c → AllByRecursion (Q c) (some_of (take k d))
        by zero d e = tt
        by (suc k) d e = subst (λ (x : List Record). AllByRecursion (Q c) (some_of (take (suc k) x))) (sym e) (single (take (suc k) c) (h k))

  -- ---- the chains that are left

  append_each : {X : Type 0} (P : X → Type 0) (xs ys : List X) → AllByRecursion P xs → AllByRecursion P ys → AllByRecursion P (xs ++ ys)
  append_each P [] ys h g = g
  append_each P (x ∷ xs) ys h g = (h.0, append_each P xs ys h.1 g)

  module _ (P Q : List Record → Type 0) (keeps : (c : List Record) → IsLinked view c → P c → (k : ℕ) → Q (take (suc k) c)) where
    -- what of each chain holds of some of its first records holds of what is left of all
    all_left : (chains : List (List Record)) → AllByRecursion (IsLinked view) chains → AllByRecursion P chains → AllByRecursion Q (all_within own floor chains)
    all_left [] linked h = tt
    all_left (c ∷ cs) linked h = append_each Q (some_of (within own floor (as_chain c))) (all_within own floor cs)
        (of_left (λ d l. Q l) c linked.0 (keeps c linked.0 h.0)) (all_left cs linked.1 h.1)

  first_owner : (c : List Record) (k : ℕ) → owner_of (take (suc k) c) ≡ owner_of c
  first_owner c k = owner_take (suc k) c (omega arith)

  -- each begins where its chain does
  pub left_near : (reached : PubKey → ℕ) (chains : List (List Record)) → AllByRecursion (IsLinked view) chains → AllByRecursion (λ c. BeginsBy (reached (owner_of c)) c) chains
      → AllByRecursion (λ c. BeginsBy (reached (owner_of c)) c) (all_within own floor chains)
  left_near reached = all_left (λ c. BeginsBy (reached (owner_of c)) c) (λ c. BeginsBy (reached (owner_of c)) c) begins
    where
      begins : (c : List Record) → IsLinked view c → BeginsBy (reached (owner_of c)) c → (k : ℕ) → BeginsBy (reached (owner_of (take (suc k) c))) (take (suc k) c)
      begins [] linked h k = absurd linked
      begins (r ∷ rs) linked h k = h

  -- and is of its log
  pub left_apart : (chains : List (List Record)) → AllByRecursion (IsLinked view) chains → HaveOwnOwners chains → HaveOwnOwners (all_within own floor chains)
  left_apart [] linked h = tt
  left_apart (c ∷ cs) linked h = by (some_of (within own floor (as_chain c))) (of_left (λ d l. owner_of l ≡ owner_of d) c linked.0 (first_owner c))
      (λ o e. all_left (λ d. o ≡ owner_of d → ⊥) (λ d. o ≡ owner_of d → ⊥) (λ d l apart k same. apart (same ∙ first_owner d k)) cs linked.1 (subst (λ (p : PubKey). AllByRecursion (λ d. p ≡ owner_of d → ⊥) cs) (sym e) h.0))
      (left_apart cs linked.1 h.1) (some_few (within own floor (as_chain c)))
    where
      some_few : (l : List Record) → (some_of l ≡ []) ⊎ (some_of l ≡ l ∷ [])
      some_few [] = inl refl
      some_few (r ∷ rs) = inr refl

      by : (ls : List (List Record)) → AllByRecursion (λ l. owner_of l ≡ owner_of c) ls → ((o : PubKey) → o ≡ owner_of c → AllByRecursion (λ d. o ≡ owner_of d → ⊥) (all_within own floor cs)) → HaveOwnOwners (all_within own floor cs)
          → (ls ≡ []) ⊎ (ls ≡ within own floor (as_chain c) ∷ []) → HaveOwnOwners (ls ++ all_within own floor cs)
      by [] owned others rest few = rest
      by (l ∷ []) owned others rest few = (others (owner_of l) owned.0, rest)
      by (l ∷ m ∷ ls) owned others rest few = ⊎_elim (λ none. cc) (λ one. cc) few

  -- ---- what is new of them

  whole_new : (front : Vector) (d : List Record) → IsLinked view d → beyond front (as_chain d) ≡ flat_map (λ e. beyond front (as_chain e)) (some_of d)
  whole_new front [] l = absurd l
  whole_new front (r ∷ rs) l = sym (append-nil (beyond front (as_chain (r ∷ rs))))

  new_of_left : (h : Holding) (c : List Record) → IsLinked view c → new_in own floor h (as_chain c) ≡ flat_map (λ d. beyond (joined h) (as_chain d)) (some_of (within own floor (as_chain c)))
  new_of_left h c linked = by (eq_by_cmp owner_cmp own (owner_of c))
    where
      by : (b : Bool) → cond b (filter (up_to (seq_of floor (head_key_of (owner_of c)))) (beyond (joined h) (as_chain c))) (beyond (joined h) (as_chain c))
          ≡ flat_map (λ d. beyond (joined h) (as_chain d)) (some_of (cond b (filter (up_to (seq_of floor (head_key_of (owner_of c)))) c) c))
      by true = own_new view (joined h) (seq_of floor (head_key_of (owner_of c))) c linked
      by false = whole_new (joined h) c linked

  pub new_of_all : (h : Holding) (chains : List (List Record)) → AllByRecursion (IsLinked view) chains → flat_map (new_in own floor h) (map as_chain chains) ≡ new_of (joined h) (all_within own floor chains)
  new_of_all h [] linked = refl
  new_of_all h (c ∷ cs) linked =
      (λ i. new_of_left h c linked.0 i ++ new_of_all h cs linked.1 i)
      ∙ sym (flat_map-append (λ d. beyond (joined h) (as_chain d)) (some_of (within own floor (as_chain c))) (all_within own floor cs))
