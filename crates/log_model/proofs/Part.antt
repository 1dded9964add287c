-- The part that is taken in ascending order is the largest closed one.
use Rattle.std.proofs.Common.{◌≡◌, ◌⊎◌, inl, inr, ⊎_elim, ℕ, ◌+◌, ◌<◌, ◌≤◌, Bool, true, false, cond, not, ◌&&◌, ◌||◌, List, [], ◌∷◌, ◌++◌, length, refl, sym, ap, ◌∙◌, subst, append_assoc, arith, Some, None, Contains, ltb-true, lt-ltb, le-leb, leb-true, eqb-true, eq-eqb}
use Rattle.std.specs.List.{AllByRecursion, list_any}
use Rattle.std.specs.Cmp.{ranked}
use Rattle.std.specs.Ordering.{eq_by_cmp, is_lt, nat_cmp, ordering_then}
use Rattle.std.specs.declared.cmp.Ordering.{Ordering}
use Rattle.std.specs.declared.cmp.Ordering.TheVariants.{Less, Equal, Greater}
use Rattle.std.specs.Prelude.{IsTrue, nat_eq, nat_lt, nat_le}
use Rattle.std.proofs.lemmas.List.Elements.{Contains-append_left, Contains-push, Contains-push_cases, filter-append}
use Rattle.std.proofs.lemmas.List.{append-nil}
use Rattle.ivy_base.specs.declared.key.Key.{Key}
use Rattle.ivy_base.specs.declared.key.PubKey.{PubKey}
use Rattle.ivy_base.specs.Naming.{owner_cmp, key_cmp}
use Rattle.tree_model.specs.Tree.{same_key}
use Rattle.tree_model.proofs.Keys.{same_key_is, same_key_itself}
use Rattle.tree_model.proofs.Sound.{both_true}
use Rattle.log_model.specs.View.{View, is_member}
use Rattle.log_model.specs.Vector.{Entry, Vector, stamp_at, reach, seq_of, Dominates}
use Rattle.log_model.specs.Record.{Record}
use Rattle.log_model.specs.Rank.{own_entry, full_vector, weight, record_cmp}
use Rattle.log_model.specs.Closed.{log_of, IsAscending, IsCause, HasCauses, IsClosed, IsClosedPart}
use Rattle.log_model.specs.Chain.{IsGood, Follows, GoesOn, IsChain}
use Rattle.log_model.specs.Part.{goes_as_far, same_entry, is_cause, has_causes, is_next, may_follow, part_after, closed_part}
use Rattle.log_model.proofs.Lists.{both, or_left, or_right, or_cases, here, there, in_cons, in_nothing, each_from, each, some_passes, who_passes, all_pass, passes, in_filter, from_filter}
use Rattle.log_model.proofs.Opening.{same_owner}
use Rattle.log_model.proofs.Weights.{follows_heavier}
use Rattle.log_model.proofs.Owners.{owner_itself}

-- ---- the tests say what the facts say

-- a log has no stamp in a vector, or an entry of the vector gives it
pub found_stamp : (v : Vector) (log : Key) → (stamp_at v log ≡ None) ⊎ ((e : Entry) × Contains v e × (e.0 ≡ log) × (stamp_at v log ≡ Some e.1))
found_stamp [] log = inl refl
found_stamp (d ∷ v) log = by (eq_by_cmp key_cmp log d.0) refl (found_stamp v log)
  where
    by : (b : Bool) → eq_by_cmp key_cmp log d.0 ≡ b → (stamp_at v log ≡ None) ⊎ ((e : Entry) × Contains v e × (e.0 ≡ log) × (stamp_at v log ≡ Some e.1))
        → (cond b (Some d.1) (stamp_at v log) ≡ None) ⊎ ((e : Entry) × Contains (d ∷ v) e × (e.0 ≡ log) × (cond b (Some d.1) (stamp_at v log) ≡ Some e.1))
    by true e again = inr (d, here d v, sym (same_key_is log d.0 e), refl)
    by false e (inl none) = inl none
    by false e (inr w) = inr (w.0, there d v w.0 w.1, w.2, w.3)

pub far_dominates : (v w : Vector) → goes_as_far v w ≡ true → Dominates v w
far_dominates v w h log = ⊎_elim (λ none. let zero : seq_of w log ≡ 0 = ap reach none in omega arith)
    (λ f. let le : seq_of w f.0.0 ≤ seq_of v f.0.0 = leb-true _ _ (passes (λ e. nat_le (seq_of w e.0) (seq_of v e.0)) w f.0 h f.1) in subst (λ (k : Key). seq_of w k ≤ seq_of v k) f.2 le)
    (found_stamp w log)

pub dominates_far : (v w : Vector) → Dominates v w → goes_as_far v w ≡ true
dominates_far v w dom = all_pass (λ e. nat_le (seq_of w e.0) (seq_of v e.0)) w (λ e c. le-leb (seq_of w e.0) (seq_of v e.0) (dom e.0))

made : (a b : Key) (n m : ℕ) (x y : Key) → a ≡ b → n ≡ m → x ≡ y → (let e : Entry = (a, record { seq = n; name = x }) in e) ≡ (let f : Entry = (b, record { seq = m; name = y }) in f)
made a b n m x y k e l = cc

entry_is : (e f : Entry) → same_entry e f ≡ true → e ≡ f
entry_is e f h =
    let parts = both_true (same_key e.0 f.0) (nat_eq e.1.seq f.1.seq && same_key e.1.name f.1.name) h in
    let inner = both_true (nat_eq e.1.seq f.1.seq) (same_key e.1.name f.1.name) parts.1 in
    let k = same_key_is e.0 f.0 parts.0 in
    let n : e.1.seq ≡ f.1.seq = eqb-true e.1.seq f.1.seq inner.0 in
    let m = same_key_is e.1.name f.1.name inner.1 in
    made e.0 f.0 e.1.seq f.1.seq e.1.name f.1.name k n m

entry_itself : (e f : Entry) → e ≡ f → same_entry e f ≡ true
entry_itself e f h = subst (λ (x : Entry). same_entry e x ≡ true) h (both (same_key e.0 e.0) _ (same_key_itself e.0) (both (nat_eq e.1.seq e.1.seq) (same_key e.1.name e.1.name) (eq-eqb e.1.seq e.1.seq refl) (same_key_itself e.1.name)))

cause_is : (c : Record) (e : Entry) (r : Record) → is_cause c e r ≡ true → IsCause c e r
cause_is c e r h =
    let parts = both_true (same_entry (own_entry c) e) (nat_lt (weight c) (weight r) && goes_as_far (full_vector r) (full_vector c)) h in
    let inner = both_true (nat_lt (weight c) (weight r)) (goes_as_far (full_vector r) (full_vector c)) parts.1 in
    record { cited = entry_is (own_entry c) e parts.0; lighter = ltb-true (weight c) (weight r) inner.0; known = far_dominates (full_vector r) (full_vector c) inner.1 }

cause_shows : (c : Record) (e : Entry) (r : Record) → IsCause c e r → is_cause c e r ≡ true
cause_shows c e r h = both (same_entry (own_entry c) e) _ (entry_itself (own_entry c) e h.cited) (both (nat_lt (weight c) (weight r)) (goes_as_far (full_vector r) (full_vector c)) (lt-ltb (weight c) (weight r) h.lighter) (dominates_far (full_vector r) (full_vector c) h.known))

one_entry : (m b : Bool) → (not m || b) ≡ true → m ≡ true → b ≡ true
one_entry true b h g = h
one_entry false b h g = cc

any_entry : (m b : Bool) → (m ≡ true → b ≡ true) → (not m || b) ≡ true
any_entry true b h = h refl
any_entry false b h = refl

causes_are : (view : View) (taken : List Record) (r : Record) → has_causes view taken r ≡ true → HasCauses view taken r
causes_are view taken r h = each_from (λ e. IsTrue (is_member view e.0) → (c : Record) × Contains taken c × IsCause c e r) r.vector
    (λ e in_vector member. let w = who_passes (λ c. is_cause c e r) taken (one_entry (is_member view e.0) _ (passes (λ f. not (is_member view f.0) || list_any (λ c. is_cause c f r) taken) r.vector e h in_vector) member) in (w.0, w.1, cause_is w.0 e r w.2))

-- causes of a record that are all taken
causes_show : (view : View) (s taken : List Record) (r : Record) → HasCauses view s r → ((c : Record) → Contains s c → weight c < weight r → Contains taken c) → has_causes view taken r ≡ true
causes_show view s taken r h kept = all_pass (λ f. not (is_member view f.0) || list_any (λ c. is_cause c f r) taken) r.vector
    (λ e in_vector. any_entry (is_member view e.0) _ (λ member. let w = each (λ f. IsTrue (is_member view f.0) → (c : Record) × Contains s c × IsCause c f r) r.vector e h in_vector member in
    some_passes (λ c. is_cause c e r) taken w.0 (kept w.0 w.1 w.2.lighter) (cause_shows w.0 e r w.2)))

-- ---- chains

-- the records have these numbers, from n on
abbrev pub Numbered : ℕ → List Record → Type 0
Numbered n [] = Unit {0}
Numbered n (r ∷ rs) = (r.seq ≡ n) × Numbered (n + 1) rs

numbered_after : (view : View) (owner : PubKey) (p : Record) (n : ℕ) (rs : List Record) → n ≡ p.seq + 1 → GoesOn view owner p rs → Numbered n rs
numbered_after view owner p n [] e g = tt
numbered_after view owner p n (r ∷ rs) e g = let s = g.1.seq in (omega arith, numbered_after view owner r (n + 1) rs (omega arith) g.2)

pub numbered : (view : View) (owner : PubKey) (rs : List Record) → IsChain view owner rs → Numbered 1 rs
numbered view owner [] c = tt
numbered view owner (r ∷ rs) c = let s = c.1.seq in (s, numbered_after view owner r (1 + 1) rs (omega arith) c.2)

numbered_left : (n : ℕ) (xs ys : List Record) → Numbered n (xs ++ ys) → Numbered n xs
numbered_left n [] ys h = tt
numbered_left n (x ∷ xs) ys h = (h.0, numbered_left (n + 1) xs ys h.1)

numbered_right : (n m : ℕ) (xs ys : List Record) → m ≡ n + length xs → Numbered n (xs ++ ys) → Numbered m ys
numbered_right n m [] ys e h = subst (λ (k : ℕ). Numbered k ys) (omega arith) h
numbered_right n m (x ∷ xs) ys e h = numbered_right (n + 1) m xs ys (omega arith) h.1

pub numbers_from : (n : ℕ) (xs : List Record) → Numbered n xs → (k : ℕ) → k ≤ n → AllByRecursion (λ q. k ≤ q.seq) xs
numbers_from n [] h k le = tt
numbers_from n (x ∷ xs) h k le = let e = h.0 in (omega arith, numbers_from (n + 1) xs h.1 k (omega arith))

pub numbers_below : (n m : ℕ) (xs : List Record) → m ≡ n + length xs → Numbered n xs → AllByRecursion (λ q. q.seq < m) xs
numbers_below n m [] e h = tt
numbers_below n m (x ∷ xs) e h = let s = h.0 in (omega arith, numbers_below (n + 1) m xs (omega arith) h.1)

front_after : (view : View) (owner : PubKey) (p : Record) (xs ys : List Record) → GoesOn view owner p (xs ++ ys) → GoesOn view owner p xs
front_after view owner p [] ys g = tt
front_after view owner p (x ∷ xs) ys g = (g.0, g.1, front_after view owner x xs ys g.2)

pub chain_front : (view : View) (owner : PubKey) (xs ys : List Record) → IsChain view owner (xs ++ ys) → IsChain view owner xs
chain_front view owner [] ys c = tt
chain_front view owner (x ∷ xs) ys c = (c.0, c.1, front_after view owner x xs ys c.2)

good_after : (view : View) (owner : PubKey) (p : Record) (rs : List Record) → GoesOn view owner p rs → AllByRecursion (IsGood view owner) rs
good_after view owner p [] g = tt
good_after view owner p (r ∷ rs) g = (g.0, good_after view owner r rs g.2)

pub chain_good : (view : View) (owner : PubKey) (rs : List Record) → IsChain view owner rs → AllByRecursion (IsGood view owner) rs
chain_good view owner [] c = tt
chain_good view owner (r ∷ rs) c = (c.0, good_after view owner r rs c.2)

-- each record of a chain is its first, or follows one of the chain
pub record PrecededIn (xs : List Record) (r : Record) : Type 0 where
  pub before : Record
  pub stands : Contains xs before
  pub follows : Follows before r

preceded_after : (view : View) (owner : PubKey) (p : Record) (rs : List Record) (r : Record) → GoesOn view owner p rs → Contains rs r → PrecededIn (p ∷ rs) r
preceded_after view owner p [] r g c = absurd (in_nothing r c)
preceded_after view owner p (q ∷ rs) r g c = ⊎_elim
    (λ e. record { before = p; stands = here p (q ∷ rs); follows = subst (λ (x : Record). Follows p x) e g.1 })
    (λ d. let w = preceded_after view owner q rs r g.2 d in record { before = w.before; stands = there p (q ∷ rs) w.before w.stands; follows = w.follows })
    (in_cons q rs r c)

pub preceded : (view : View) (owner : PubKey) (xs : List Record) (r : Record) → IsChain view owner xs → Contains xs r → (r.seq ≡ 1) ⊎ PrecededIn xs r
preceded view owner [] r g c = absurd (in_nothing r c)
preceded view owner (q ∷ rs) r g c = ⊎_elim (λ e. inl (sym (ap (λ (x : Record). x.seq) e) ∙ g.1.seq)) (λ d. inr (preceded_after view owner q rs r g.2 d)) (in_cons q rs r c)

-- ---- the part's logs are chains

-- what was taken of a log goes on with what is left, or a record was left out and no later one can be taken
abbrev GoesOrStops : View → PubKey → List Record → List Record → Type 0
GoesOrStops view owner taken left = IsChain view owner (taken ++ left) ⊎ (IsChain view owner taken × AllByRecursion (λ q. length taken + 2 ≤ q.seq) left)

pub log_push : (owner : PubKey) (taken : List Record) (r : Record) (b : Bool) → eq_by_cmp owner_cmp owner r.owner ≡ b → log_of owner (taken ++ r ∷ []) ≡ log_of owner taken ++ cond b (r ∷ []) []
log_push owner taken r b e = filter-append (λ (x : Record). eq_by_cmp owner_cmp owner x.owner) taken (r ∷ []) ∙ ap (λ c. log_of owner taken ++ cond c (r ∷ []) []) e

-- where a record of the log was left out, no later one is the next
stopped : (view : View) (owner : PubKey) (taken : List Record) (r : Record) → eq_by_cmp owner_cmp owner r.owner ≡ true → IsChain view owner (log_of owner taken) → length (log_of owner taken) + 2 ≤ r.seq → is_next taken r ≡ true → ⊥
stopped view owner taken r mine chain far next = ⊎_elim
    (λ one. let e : r.seq ≡ 1 = eqb-true r.seq 1 one in omega arith)
    (λ some. let w = who_passes (λ p. eq_by_cmp owner_cmp r.owner p.owner && nat_eq (p.seq + 1) r.seq) taken some in
    let parts = both_true (eq_by_cmp owner_cmp r.owner w.0.owner) (nat_eq (w.0.seq + 1) r.seq) w.2 in
    let e : w.0.seq + 1 ≡ r.seq = eqb-true (w.0.seq + 1) r.seq parts.1 in
    let in_log = in_filter (λ (x : Record). eq_by_cmp owner_cmp owner x.owner) taken w.0 w.1 (subst (λ (o : PubKey). eq_by_cmp owner_cmp o w.0.owner ≡ true) (same_owner owner r.owner mine) parts.0) in
    let low : w.0.seq < length (log_of owner taken) + 1 = each (λ q. q.seq < length (log_of owner taken) + 1) (log_of owner taken) w.0 (numbers_below 1 (length (log_of owner taken) + 1) (log_of owner taken) (omega arith) (numbered view owner (log_of owner taken) chain)) in_log in
    omega arith)
    (or_cases (nat_eq r.seq 1) _ next)

pub part_chain : (view : View) (owner : PubKey) (taken rest : List Record) → GoesOrStops view owner (log_of owner taken) (log_of owner rest) → IsChain view owner (log_of owner taken ++ log_of owner (part_after view taken rest))
part_chain view owner taken [] state = ⊎_elim (λ goes. goes) (λ stops. subst (λ (l : List Record). IsChain view owner l) (sym (append-nil (log_of owner taken))) stops.0) state
part_chain view owner taken (r ∷ rest) state = by (eq_by_cmp owner_cmp owner r.owner) refl (may_follow view taken r) refl state (part_chain view owner (taken ++ r ∷ []) rest) (part_chain view owner taken rest)
  where
    by : (o : Bool) → eq_by_cmp owner_cmp owner r.owner ≡ o → (b : Bool) → may_follow view taken r ≡ b → GoesOrStops view owner (log_of owner taken) (cond o (r ∷ log_of owner rest) (log_of owner rest))
        → (GoesOrStops view owner (log_of owner (taken ++ r ∷ [])) (log_of owner rest) → IsChain view owner (log_of owner (taken ++ r ∷ []) ++ log_of owner (part_after view (taken ++ r ∷ []) rest)))
        → (GoesOrStops view owner (log_of owner taken) (log_of owner rest) → IsChain view owner (log_of owner taken ++ log_of owner (part_after view taken rest)))
        → IsChain view owner (log_of owner taken ++ log_of owner (cond b (r ∷ part_after view (taken ++ r ∷ []) rest) (part_after view taken rest)))
    by true mine true may (inl goes) taking leaving =
        let L = log_of owner taken in
        let more = log_of owner (part_after view (taken ++ r ∷ []) rest) in
        let moved : (xs : List Record) → log_of owner (taken ++ r ∷ []) ++ xs ≡ L ++ r ∷ xs = λ xs. ap (λ l. l ++ xs) (log_push owner taken r true mine) ∙ append_assoc L (r ∷ []) xs in
        subst (λ c. IsChain view owner (L ++ cond c (r ∷ more) more)) (sym mine)
        (subst (λ (l : List Record). IsChain view owner l) (moved more) (taking (inl (subst (λ (l : List Record). IsChain view owner l) (sym (moved (log_of owner rest))) goes))))
    by true mine true may (inr stops) taking leaving = absurd (stopped view owner taken r mine stops.0 stops.1.0 (both_true (is_next taken r) (has_causes view taken r) may).0)
    by true mine false may (inl goes) taking leaving =
        let L = log_of owner taken in
        let right = numbered_right 1 (1 + length L) L (r ∷ log_of owner rest) (omega arith) (numbered view owner (L ++ r ∷ log_of owner rest) goes) in
        leaving (inr (chain_front view owner L (r ∷ log_of owner rest) goes, numbers_from (1 + length L + 1) (log_of owner rest) right.1 (length L + 2) (omega arith)))
    by true mine false may (inr stops) taking leaving = leaving (inr (stops.0, stops.1.1))
    by false other true may st taking leaving =
        let L = log_of owner taken in
        let more = log_of owner (part_after view (taken ++ r ∷ []) rest) in
        let same : log_of owner (taken ++ r ∷ []) ≡ L = log_push owner taken r false other ∙ append-nil L in
        subst (λ c. IsChain view owner (L ++ cond c (r ∷ more) more)) (sym other)
        (subst (λ (l : List Record). IsChain view owner (l ++ more)) same (taking (subst (λ (l : List Record). GoesOrStops view owner l (log_of owner rest)) (sym same) st)))
    by false other false may st taking leaving = leaving st

-- ---- the part is among the records, and has its causes

pub part_in : (view : View) (taken rest : List Record) (q : Record) → Contains (part_after view taken rest) q → Contains rest q
part_in view taken [] q c = c
part_in view taken (r ∷ rest) q c = by (may_follow view taken r) c (part_in view (taken ++ r ∷ []) rest q) (part_in view taken rest q)
  where
    by : (b : Bool) → Contains (cond b (r ∷ part_after view (taken ++ r ∷ []) rest) (part_after view taken rest)) q → (Contains (part_after view (taken ++ r ∷ []) rest) q → Contains rest q) → (Contains (part_after view taken rest) q → Contains rest q) → Contains (r ∷ rest) q
    by true c more fewer = ⊎_elim (λ e. subst (λ (x : Record). Contains (r ∷ rest) x) e (here r rest)) (λ d. there r rest q (more d)) (in_cons r (part_after view (taken ++ r ∷ []) rest) q c)
    by false c more fewer = there r rest q (fewer c)

pub part_ascends : (view : View) (taken rest : List Record) → IsAscending rest → IsAscending (part_after view taken rest)
part_ascends view taken [] h = tt
part_ascends view taken (r ∷ rest) h = by (may_follow view taken r) (part_ascends view (taken ++ r ∷ []) rest h.1) (part_ascends view taken rest h.1)
  where
    by : (b : Bool) → IsAscending (part_after view (taken ++ r ∷ []) rest) → IsAscending (part_after view taken rest) → IsAscending (cond b (r ∷ part_after view (taken ++ r ∷ []) rest) (part_after view taken rest))
    by true more fewer = (each_from (λ later. IsTrue (is_lt (record_cmp r later))) (part_after view (taken ++ r ∷ []) rest) (λ q c. each (λ later. IsTrue (is_lt (record_cmp r later))) rest q h.0 (part_in view (taken ++ r ∷ []) rest q c)), more)
    by false more fewer = fewer

pub causes_weaken : (view : View) (s t : List Record) (r : Record) → ((c : Record) → Contains s c → Contains t c) → HasCauses view s r → HasCauses view t r
causes_weaken view s t r within h = each_from (λ e. IsTrue (is_member view e.0) → (c : Record) × Contains t c × IsCause c e r) r.vector
    (λ e in_vector member. let w = each (λ f. IsTrue (is_member view f.0) → (c : Record) × Contains s c × IsCause c f r) r.vector e h in_vector member in (w.0, within w.0 w.1, w.2))

pub part_causes : (view : View) (s taken rest : List Record) → ((c : Record) → Contains taken c → Contains s c) → ((c : Record) → Contains (part_after view taken rest) c → Contains s c) → AllByRecursion (HasCauses view s) (part_after view taken rest)
part_causes view s taken [] old new = tt
part_causes view s taken (r ∷ rest) old new = by (may_follow view taken r) refl new (part_causes view s (taken ++ r ∷ []) rest) (part_causes view s taken rest old)
  where
    by : (b : Bool) → may_follow view taken r ≡ b → ((c : Record) → Contains (cond b (r ∷ part_after view (taken ++ r ∷ []) rest) (part_after view taken rest)) c → Contains s c)
        → (((c : Record) → Contains (taken ++ r ∷ []) c → Contains s c) → ((c : Record) → Contains (part_after view (taken ++ r ∷ []) rest) c → Contains s c) → AllByRecursion (HasCauses view s) (part_after view (taken ++ r ∷ []) rest))
        → (((c : Record) → Contains (part_after view taken rest) c → Contains s c) → AllByRecursion (HasCauses view s) (part_after view taken rest))
        → AllByRecursion (HasCauses view s) (cond b (r ∷ part_after view (taken ++ r ∷ []) rest) (part_after view taken rest))
    by true may new more fewer = (
      causes_weaken view taken s r old (causes_are view taken r (both_true (is_next taken r) (has_causes view taken r) may).1),
      more (λ c within. ⊎_elim (old c) (λ e. new c (subst (λ (x : Record). Contains (r ∷ part_after view (taken ++ r ∷ []) rest) x) e (here r (part_after view (taken ++ r ∷ []) rest)))) (Contains-push_cases taken r c within))
          (λ c within. new c (there r (part_after view (taken ++ r ∷ []) rest) c within)),
    )
    by false may new more fewer = fewer new

-- ---- each closed set among the records is within the part

heavier : (wa wb : ℕ) (o : Ordering) → is_lt (ordering_then (nat_cmp wa wb) o) ≡ true → wa ≤ wb
heavier wa wb o h = by (nat_cmp wa wb) refl h
  where
    by : (r : Ordering) → r ≡ nat_cmp wa wb → is_lt (ordering_then r o) ≡ true → wa ≤ wb
    by Less e g = let l : wa < wb = ranked wa wb Less e in omega arith
    by Equal e g = let l : wa ≡ wb = ranked wa wb Equal e in omega arith
    by Greater e g = cc

pub later_not_lighter : (r q : Record) → IsTrue (is_lt (record_cmp r q)) → weight r ≤ weight q
later_not_lighter r q h = heavier (weight r) (weight q) _ h

-- what is lighter than the next record was seen before it
lighter_taken : (r : Record) (taken rest : List Record) (q : Record) → AllByRecursion (λ later. IsTrue (is_lt (record_cmp r later))) rest → Contains taken q ⊎ Contains (r ∷ rest) q → weight q < weight r → Contains taken q
lighter_taken r taken rest q above (inl c) light = c
lighter_taken r taken rest q above (inr c) light = ⊎_elim
    (λ e. let same : weight r ≡ weight q = ap weight e in absurd (omega arith))
    (λ d. let late = later_not_lighter r q (each (λ later. IsTrue (is_lt (record_cmp r later))) rest q above d) in absurd (omega arith))
    (in_cons r rest q c)

-- a record of a closed set whose lighter records of the set were all taken may follow
pub member_follows : (view : View) (t taken rest : List Record) (r : Record) → IsClosed view t → AllByRecursion (λ later. IsTrue (is_lt (record_cmp r later))) rest
    → ((q : Record) → Contains t q → Contains taken q ⊎ Contains (r ∷ rest) q) → Contains t r → may_follow view taken r ≡ true
member_follows view t taken rest r closed above seen within =
    both (is_next taken r) (has_causes view taken r)
    (⊎_elim (λ one. or_left (nat_eq r.seq 1) _ (eq-eqb r.seq 1 one)) (λ w. or_right (nat_eq r.seq 1) _ (next w)) (preceded view r.owner own_log r (closed.chains r.owner) (mine r within refl)))
    (causes_show view t taken r (each (HasCauses view t) t r closed.causes within) (λ c in_t light. lighter_taken r taken rest c above (seen c in_t) light))
  where
    own_log : List Record
    own_log = log_of r.owner t

    mine : (q : Record) → Contains t q → q.owner ≡ r.owner → Contains (log_of r.owner t) q
    mine q c e = in_filter (λ (x : Record). eq_by_cmp owner_cmp r.owner x.owner) t q c (subst (λ (o : PubKey). eq_by_cmp owner_cmp r.owner o ≡ true) (sym e) (owner_itself r.owner))

    next : PrecededIn (log_of r.owner t) r → list_any (λ p. eq_by_cmp owner_cmp r.owner p.owner && nat_eq (p.seq + 1) r.seq) taken ≡ true
    next w =
        let found = from_filter (λ (x : Record). eq_by_cmp owner_cmp r.owner x.owner) t w.before w.stands in
        let goods = chain_good view r.owner (log_of r.owner t) (closed.chains r.owner) in
        let good_p = each (IsGood view r.owner) (log_of r.owner t) w.before goods w.stands in
        let good_r = each (IsGood view r.owner) (log_of r.owner t) r goods (mine r within refl) in
        let light = follows_heavier w.before r good_p.spelled good_r.spelled good_p.owned w.follows.seq w.follows.grows in
        some_passes (λ p. eq_by_cmp owner_cmp r.owner p.owner && nat_eq (p.seq + 1) r.seq) taken w.before
        (lighter_taken r taken rest w.before above (seen w.before found.0) light)
        (both (eq_by_cmp owner_cmp r.owner w.before.owner) (nat_eq (w.before.seq + 1) r.seq) found.1 (eq-eqb (w.before.seq + 1) r.seq (sym w.follows.seq)))

pub part_has : (view : View) (t taken rest : List Record) → IsClosed view t → IsAscending rest → ((q : Record) → Contains t q → Contains taken q ⊎ Contains rest q)
    → (q : Record) → Contains t q → Contains taken q ⊎ Contains (part_after view taken rest) q
part_has view t taken [] closed up seen q c = seen q c
part_has view t taken (r ∷ rest) closed up seen q c = by (may_follow view taken r) refl (λ new. part_has view t (taken ++ r ∷ []) rest closed up.1 new q c) (λ new. part_has view t taken rest closed up.1 new q c)
  where
    by : (b : Bool) → may_follow view taken r ≡ b
        → (((x : Record) → Contains t x → Contains (taken ++ r ∷ []) x ⊎ Contains rest x) → Contains (taken ++ r ∷ []) q ⊎ Contains (part_after view (taken ++ r ∷ []) rest) q)
        → (((x : Record) → Contains t x → Contains taken x ⊎ Contains rest x) → Contains taken q ⊎ Contains (part_after view taken rest) q)
        → Contains taken q ⊎ Contains (cond b (r ∷ part_after view (taken ++ r ∷ []) rest) (part_after view taken rest)) q
    by true may more fewer = ⊎_elim
        (λ old. ⊎_elim (λ d. inl d) (λ e. inr (subst (λ (x : Record). Contains (r ∷ part_after view (taken ++ r ∷ []) rest) x) e (here r (part_after view (taken ++ r ∷ []) rest)))) (Contains-push_cases taken r q old))
        (λ new. inr (there r (part_after view (taken ++ r ∷ []) rest) q new))
        (more (λ x in_t. ⊎_elim (λ d. inl (Contains-append_left taken (r ∷ []) x d)) (λ d. ⊎_elim (λ e. inl (subst (λ (y : Record). Contains (taken ++ r ∷ []) y) e (Contains-push taken r))) (λ f. inr f) (in_cons r rest x d)) (seen x in_t)))
    by false may more fewer = fewer (λ x in_t. ⊎_elim (λ d. inl d)
        (λ d. ⊎_elim (λ e. absurd (apart (subst (λ (y : Record). Contains t y) (sym e) in_t))) (λ f. inr f) (in_cons r rest x d)) (seen x in_t))
      where
        apart : Contains t r → ⊥
        apart within = let yes = member_follows view t taken rest r closed up.0 seen within in cc

-- ---- the largest closed part

pub closed_part_is : (view : View) (all : List Record) → IsAscending all → AllByRecursion (λ r. Contains view.members r.owner) all → ((owner : PubKey) → IsChain view owner (log_of owner all)) → IsClosedPart view (Contains all) (closed_part view all)
closed_part_is view all up members chains = record {
  part = part_in view [] all;
  closed = record {
    ascending = part_ascends view [] all up;
    members = each_from (λ r. Contains view.members r.owner) (closed_part view all) (λ r c. each (λ q. Contains view.members q.owner) all r members (part_in view [] all r c));
    chains = λ owner. part_chain view owner [] all (inl (chains owner));
    causes = part_causes view (closed_part view all) [] all (λ c none. absurd (in_nothing c none)) (λ c within. within);
  };
  largest = λ t within closed r c. ⊎_elim (λ none. absurd (in_nothing r none)) (λ d. d) (part_has view t [] all closed up (λ q in_t. inr (within q in_t)) r c);
}
