-- The head keys of a view's logs: each key has its own, and a vector of them has no more entries than a record may cite.
use Rattle.std.proofs.Common.{◌≡◌, ⊎_elim, ◌≤◌, Bool, true, false, not, List, [], ◌∷◌, ◌++◌, length, length-append, map, refl, sym, ap, ◌∙◌, subst, arith, Contains}
use Rattle.std.specs.Prelude.{IsTrue}
use Rattle.std.specs.List.{AllByRecursion, IsDistinct, list_any, list_all}
use Rattle.std.specs.Cmp.{eq_by_cmp_equiv}
use Rattle.std.specs.Ordering.{is_lt, is_eq}
use Rattle.std.specs.declared.cmp.Ordering.{Ordering}
use Rattle.std.specs.declared.cmp.Ordering.TheVariants.{Less, Equal, Greater}
use Rattle.std.specs.FinMap.Entries.{is_sorted, below_all}
use Rattle.std.proofs.lemmas.List.{length-map}
use Rattle.std.proofs.lemmas.List.Elements.{Contains-append_left, Contains-append_right}
use Rattle.std.proofs.lemmas.Map.Keys.{IsDistinct-cons}
use Rattle.std.proofs.lemmas.Map.Made.{length-le_from_is_member}
use Rattle.ivy_base.specs.declared.key.Key.{Key}
use Rattle.ivy_base.specs.declared.key.PubKey.{PubKey}
use Rattle.ivy_base.specs.Naming.{key_cmp, head_key_of}
use Rattle.tree_model.specs.Tree.{same_key}
use Rattle.tree_model.proofs.Keys.{keys_total, same_key_is, same_key_itself}
use Rattle.tree_model.proofs.Sound.{both_true}
use Rattle.log_model.specs.View.{View, IsView, most_cited, is_log_of, is_member, is_former, is_named, have_own_head_keys}
use Rattle.log_model.specs.Vector.{Entry, Vector}
use Rattle.log_model.proofs.Lists.{in_cons, in_nothing, or_left, or_right, or_cases, some_passes, who_passes, passes}
use Rattle.log_model.proofs.Weights.{Sorted}

-- ---- of two keys with one head key

not_both : (b : Bool) → not b ≡ true → b ≡ true → ⊥
not_both true h g = cc
not_both false h g = cc

apart_from : (k : PubKey) (ks : List PubKey) (b : PubKey) → list_all (λ other. not (same_key (head_key_of k) (head_key_of other))) ks ≡ true → Contains ks b → head_key_of k ≡ head_key_of b → ⊥
apart_from k ks b h c e = not_both (same_key (head_key_of k) (head_key_of b))
    (passes (λ (other : PubKey). not (same_key (head_key_of k) (head_key_of other))) ks b h c)
    (subst (λ (x : Key). same_key (head_key_of k) x ≡ true) e (same_key_itself (head_key_of k)))

pub one_of_head_key : (ks : List PubKey) (a b : PubKey) → have_own_head_keys ks ≡ true → Contains ks a → Contains ks b → head_key_of a ≡ head_key_of b → a ≡ b
one_of_head_key [] a b h ca cb e = absurd (in_nothing a ca)
one_of_head_key (k ∷ ks) a b h ca cb e =
    let parts = both_true (list_all (λ other. not (same_key (head_key_of k) (head_key_of other))) ks) (have_own_head_keys ks) h in
    ⊎_elim
    (λ is_a. ⊎_elim
    (λ is_b. sym is_a ∙ is_b)
    (λ more. absurd (apart_from k ks b parts.0 more (ap (λ (x : PubKey). head_key_of x) is_a ∙ e)))
    (in_cons k ks b cb))
    (λ more_a. ⊎_elim
    (λ is_b. absurd (apart_from k ks a parts.0 more_a (ap (λ (x : PubKey). head_key_of x) is_b ∙ sym e)))
    (λ more_b. one_of_head_key ks a b parts.1 more_a more_b e)
    (in_cons k ks b cb))
    (in_cons k ks a ca)

-- two members of one head key are one
pub one_member : (view : View) (a b : PubKey) → IsView view → Contains view.members a → Contains view.members b → head_key_of a ≡ head_key_of b → a ≡ b
one_member view a b well ca cb e =
    one_of_head_key (view.members ++ view.former) a b well.apart
    (Contains-append_left view.members view.former a ca) (Contains-append_left view.members view.former b cb) e

pub member_is : (view : View) (own : PubKey) → Contains view.members own → is_member view (head_key_of own) ≡ true
member_is view own member = some_passes (λ (owner : PubKey). same_key (head_key_of owner) (head_key_of own)) view.members own member (same_key_itself (head_key_of own))

pub member_named : (view : View) (own : PubKey) → Contains view.members own → is_named view (head_key_of own) ≡ true
member_named view own member = or_left (is_member view (head_key_of own)) (is_former view (head_key_of own)) (member_is view own member)

-- ---- how many entries a vector of such logs has

abbrev heads : List PubKey → List Key
heads owners = map (λ (owner : PubKey). head_key_of owner) owners

in_heads : (owners : List PubKey) (owner : PubKey) → Contains owners owner → list_any (same_key (head_key_of owner)) (heads owners) ≡ true
in_heads [] owner c = absurd (in_nothing owner c)
in_heads (k ∷ ks) owner c = ⊎_elim
    (λ e. or_left (same_key (head_key_of owner) (head_key_of k)) _ (subst (λ (x : PubKey). same_key (head_key_of owner) (head_key_of x) ≡ true) (sym e) (same_key_itself (head_key_of owner))))
    (λ d. or_right (same_key (head_key_of owner) (head_key_of k)) _ (in_heads ks owner d))
    (in_cons k ks owner c)

log_in_heads : (owners : List PubKey) (all : List PubKey) (log : Key) → ((owner : PubKey) → Contains owners owner → Contains all owner) → is_log_of owners log ≡ true → list_any (same_key log) (heads all) ≡ true
log_in_heads owners all log within h =
    let w = who_passes (λ (owner : PubKey). same_key (head_key_of owner) log) owners h in
    subst (λ (x : Key). list_any (same_key x) (heads all) ≡ true) (same_key_is (head_key_of w.0) log w.2) (in_heads all w.0 (within w.0 w.1))

named_in_heads : (view : View) (log : Key) → is_named view log ≡ true → list_any (same_key log) (heads (view.members ++ view.former)) ≡ true
named_in_heads view log h = ⊎_elim
    (log_in_heads view.members (view.members ++ view.former) log (λ owner c. Contains-append_left view.members view.former owner c))
    (log_in_heads view.former (view.members ++ view.former) log (λ owner c. Contains-append_right view.members view.former owner c))
    (or_cases (is_member view log) (is_former view log) h)

abbrev logs : Vector → List Key
logs v = map (λ (e : Entry). e.0) v

logs_named : (view : View) (v : Vector) (log : Key) → AllByRecursion (λ e. IsTrue (is_named view e.0)) v → list_any (same_key log) (logs v) ≡ true → list_any (same_key log) (heads (view.members ++ view.former)) ≡ true
logs_named view [] log h g = cc
logs_named view (e ∷ v) log h g = ⊎_elim
    (λ same. subst (λ (x : Key). list_any (same_key x) (heads (view.members ++ view.former)) ≡ true) (sym (same_key_is log e.0 same)) (named_in_heads view e.0 h.0))
    (λ more. logs_named view v log h.1 more)
    (or_cases (same_key log e.0) (list_any (same_key log) (logs v)) g)

less_is_not_equal : (r : Ordering) → is_lt r ≡ true → is_eq r ≡ false
less_is_not_equal Less h = refl
less_is_not_equal Equal h = cc
less_is_not_equal Greater h = cc

below_apart : (log : Key) (v : Vector) → below_all key_cmp log v ≡ true → AllByRecursion (λ k. same_key log k ≡ false) (logs v)
below_apart log [] h = tt
below_apart log (e ∷ v) h =
    let parts = both_true (is_lt (key_cmp log e.0)) (below_all key_cmp log v) h in
    (less_is_not_equal (key_cmp log e.0) parts.0, below_apart log v parts.1)

logs_distinct : (v : Vector) → Sorted v → IsDistinct same_key (logs v)
unfolding IsDistinct
logs_distinct [] h = tt
logs_distinct (e ∷ v) h =
    let parts = both_true (below_all key_cmp e.0 v) (is_sorted key_cmp v) h in
    IsDistinct-cons same_key e.0 (logs v) (below_apart e.0 v parts.0) (logs_distinct v parts.1)

pub short_named : (view : View) (v : Vector) → IsView view → Sorted v → AllByRecursion (λ e. IsTrue (is_named view e.0)) v → length v ≤ most_cited
short_named view v well sorted named =
    let fewer : length (logs v) ≤ length (heads (view.members ++ view.former)) =
    length-le_from_is_member (eq_by_cmp_equiv keys_total) (logs v) (heads (view.members ++ view.former)) (logs_distinct v sorted) (λ q g. logs_named view v q named g) in
    let mine = length-map v (λ (e : Entry). e.0) in
    let theirs = length-map (view.members ++ view.former) (λ (owner : PubKey). head_key_of owner) in
    let both = length-append view.members view.former in
    let few = well.few in
    let few_former = well.few_former in
    omega (arith, fewer, mine, theirs, both, few, few_former)
