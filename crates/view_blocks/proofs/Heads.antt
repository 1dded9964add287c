-- The head keys of public keys, and the tests that are made of them.
use Rattle.std.proofs.Common.{◌≡◌, ℕ, ◌+◌, ◌-◌, ◌<◌, Bool, true, false, ◌&&◌, ◌||◌, nat_eq, List, [], ◌∷◌, ◌++◌, length, get_or, take, drop, map, refl, sym, ap, ◌∙◌, subst, add-one, drop-cons}
use Rattle.std.specs.Prelude.{not}
use Rattle.std.specs.List.{list_any, list_all}
use Rattle.std.specs.Cmp.Lexicographic.{pointwise}
use Rattle.std.specs.Ordering.{is_eq, ordering_reverse}
use Rattle.std.specs.declared.cmp.Ordering.{Ordering}
use Rattle.std.specs.declared.cmp.Ordering.TheVariants.{Less, Equal, Greater}
use Rattle.std.proofs.lemmas.List.{drop-map, length-map, get_or-map, take_rest}
use Rattle.std.proofs.lemmas.List.Folds.{list_all-append, list_all-map}
use Rattle.ivy_base.specs.declared.key.Key.{Key}
use Rattle.ivy_base.specs.declared.key.PubKey.{PubKey}
use Rattle.ivy_base.specs.Naming.{head_key_of, key_cmp}
use Rattle.tree_model.specs.Tree.{same_key}
use Rattle.tree_model.proofs.Keys.{keys_total}
use Rattle.tree_model.proofs.Same.{same_key_answer}
use Rattle.log_model.specs.View.{is_log_of, have_own_head_keys}

-- `==` of two head keys
abbrev is_head : Key → Key → Bool
is_head log head = pointwise nat_eq head.0 log.0

of_heads : (log : Key) (keys : List PubKey) → list_any (is_head log) (map head_key_of keys) ≡ is_log_of keys log
of_heads log [] = refl
of_heads log (k ∷ ks) = λ i. sym (same_key_answer (head_key_of k) log) i || of_heads log ks i

-- a search of the heads answers for the keys
pub log_of_heads : (log : Key) (heads : List Key) (keys : List PubKey) → heads ≡ map head_key_of keys → list_any (is_head log) heads ≡ is_log_of keys log
log_of_heads log heads keys e = ap (λ (hs : List Key). list_any (is_head log) hs) e ∙ of_heads log keys

-- the head that is kept at a key's place is the key's
pub kept_head : (keys known : List PubKey) (heads : List Key) (owner : PubKey) (i : ℕ) (d : Key) → heads ≡ map head_key_of keys → keys ≡ known → i < length known → ((key : PubKey) → get_or known i key ≡ owner)
    → get_or heads i d ≡ head_key_of owner
kept_head keys known heads owner i d are is within at =
    let none : PubKey = record { 0 = [] } in
    ap (λ (hs : List Key). get_or hs i d) (are ∙ ap (λ (ks : List PubKey). map head_key_of ks) is)
    ∙ get_or-map head_key_of known i none d within
    ∙ ap head_key_of (at none)

-- ---- keys of their own

reversed : (o : Ordering) → is_eq (ordering_reverse o) ≡ is_eq o
reversed Less = refl
reversed Equal = refl
reversed Greater = refl

same_key_flip : (a b : Key) → same_key a b ≡ same_key b a
same_key_flip a b = ap is_eq (keys_total.antisymm a b) ∙ reversed (key_cmp b a)

not_or : (a b : Bool) → (not a && not b) ≡ not (a || b)
not_or true b = refl
not_or false b = refl

-- a key has a head key of its own where a search for it finds none
others_differ : (k : PubKey) (ks : List PubKey) → list_all (λ other. not (same_key (head_key_of k) (head_key_of other))) ks ≡ not (is_log_of ks (head_key_of k))
others_differ k [] = refl
others_differ k (other ∷ ks) =
    (λ i. not (same_key_flip (head_key_of k) (head_key_of other) i) && others_differ k ks i)
    ∙ not_or (same_key (head_key_of other) (head_key_of k)) (is_log_of ks (head_key_of k))

pub own_heads_from : (keys : List PubKey) (i : ℕ) (d : PubKey) → i < length keys
    → have_own_head_keys (drop i keys) ≡ (not (is_log_of (drop (i + 1) keys) (head_key_of (get_or keys i d))) && have_own_head_keys (drop (i + 1) keys))
own_heads_from keys i d within =
    let e : drop i keys ≡ get_or keys i d ∷ drop (i + 1) keys = rw (add-one, drop-cons keys i d) refl in
    ap have_own_head_keys e ∙ ap (λ (b : Bool). b && have_own_head_keys (drop (i + 1) keys)) (others_differ (get_or keys i d) (drop (i + 1) keys))

-- where a search of the later heads finds a key's head, or not
pub own_heads_step : (keys : List PubKey) (each heads : List Key) (i : ℕ) (d : Key) (found : Bool) → each ≡ map head_key_of keys → heads ≡ map head_key_of keys → i < length each
    → found ≡ list_any (is_head (get_or each i d)) (take (length heads - (i + 1)) (drop (i + 1) heads))
    → have_own_head_keys (drop i keys) ≡ (not found && have_own_head_keys (drop (i + 1) keys))
own_heads_step keys each heads i d found each_are are within search_is =
    let none : PubKey = record { 0 = [] } in
    let log = get_or each i d in
    let inside : i < length keys = subst (λ (n : ℕ). i < n) (ap length each_are ∙ length-map keys head_key_of) within in
    let head_is : log ≡ head_key_of (get_or keys i none) = ap (λ (hs : List Key). get_or hs i d) each_are ∙ get_or-map head_key_of keys i none d inside in
    let later : drop (i + 1) heads ≡ map head_key_of (drop (i + 1) keys) = ap (λ (hs : List Key). drop (i + 1) hs) are ∙ drop-map head_key_of (i + 1) keys in
    let e : found ≡ is_log_of (drop (i + 1) keys) (head_key_of (get_or keys i none)) =
    search_is ∙ ap (λ (hs : List Key). list_any (is_head log) hs) (take_rest heads (i + 1))
    ∙ log_of_heads log (drop (i + 1) heads) (drop (i + 1) keys) later
    ∙ ap (λ (l : Key). is_log_of (drop (i + 1) keys) l) head_is in
    own_heads_from keys i none inside ∙ ap (λ (b : Bool). not b && have_own_head_keys (drop (i + 1) keys)) (sym e)

-- the heads of the one list differ from those of the other
pub differ_heads : (heads : List Key) (keys others : List PubKey) → heads ≡ map head_key_of keys
    → list_all (λ head. not (is_log_of others head)) heads ≡ list_all (λ key. not (is_log_of others (head_key_of key))) keys
differ_heads heads keys others are = ap (λ (hs : List Key). list_all (λ head. not (is_log_of others head)) hs) are ∙ list_all-map (λ head. not (is_log_of others head)) head_key_of keys

and_true : (b : Bool) → b ≡ (b && true)
and_true true = refl
and_true false = refl

regrouped : (a b c d e : Bool) → ((a && b) && ((c && d) && e)) ≡ (((a && c) && d) && (b && e))
regrouped false b c d e = refl
regrouped true true c d e = refl
regrouped true false false d e = refl
regrouped true false true false e = refl
regrouped true false true true e = refl

-- over two lists
pub own_heads_of_both : (keys others : List PubKey) → have_own_head_keys (keys ++ others)
    ≡ ((have_own_head_keys keys && have_own_head_keys others) && list_all (λ key. not (is_log_of others (head_key_of key))) keys)
own_heads_of_both [] others = and_true (have_own_head_keys others)
own_heads_of_both (k ∷ ks) others =
    let differ : PubKey → Bool = λ other. not (same_key (head_key_of k) (head_key_of other)) in
    let e : list_all differ (ks ++ others) ≡ (list_all differ ks && not (is_log_of others (head_key_of k))) =
    list_all-append differ ks others ∙ ap (λ (b : Bool). list_all differ ks && b) (others_differ k others) in
    (λ i. e i && own_heads_of_both ks others i)
    ∙ regrouped (list_all differ ks) (not (is_log_of others (head_key_of k))) (have_own_head_keys ks) (have_own_head_keys others) (list_all (λ key. not (is_log_of others (head_key_of key))) ks)

pub apart_where_none : (keys others : List PubKey) (heads : List Key) (none : Bool) → heads ≡ map head_key_of keys
    → have_own_head_keys keys ≡ true → have_own_head_keys others ≡ true → none ≡ list_all (λ head. not (is_log_of others head)) heads
    → none ≡ have_own_head_keys (keys ++ others)
apart_where_none keys others heads none are own others_own is =
    is ∙ differ_heads heads keys others are ∙ sym (own_heads_of_both keys others ∙ rw (own, others_own) refl)
