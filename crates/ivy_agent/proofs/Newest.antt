-- The edges of the newest records, from the newest record on.
use Rattle.std.proofs.Common.{◌≡◌, Bool, true, false, cond, List, [], ◌∷◌, ◌++◌, Option, Some, None, refl, sym, ap, ◌∙◌, subst, fold}
use Rattle.std.specs.Prelude.{is_some, T}
use Rattle.std.specs.Option.{option_or}
use Rattle.std.specs.List.{AllByRecursion, list_any}
use Rattle.std.specs.Ordering.{eq_by_cmp}
use Rattle.std.specs.declared.cmp.Ordering.{Ordering}
use Rattle.std.specs.declared.cmp.Ordering.TheVariants.{Less, Equal, Greater}
use Rattle.std.specs.FinMap.Entries.{by_order, put, find as value_at, is_sorted, find-put, is_sorted-put, same_entries}
use Rattle.ivy_base.specs.declared.key.Key.{Key}
use Rattle.ivy_base.specs.declared.key.PubKey.{PubKey}
use Rattle.ivy_base.specs.Naming.{key_cmp, owner_cmp, head_key_of}
use Rattle.tree_model.proofs.Keys.{keys_total, exact_keys, same_key_is, same_key_itself}
use Rattle.tree_model.proofs.Sound.{to_test}
use Rattle.log_model.specs.Record.{Record}
use Rattle.log_model.specs.Vector.{stamp_at}
use Rattle.log_model.proofs.Lists.{each, who_passes}
use Rattle.log_model.proofs.Opening.{same_owner}
use Rattle.log_model.specs.Fetched.{Edge, as_edge}
use Rattle.log_fetch.specs.Edges.{AreEdges}
use Rattle.ivy_agent.specs.Edges.{newest_edges, put_under, KnowsOthers}

abbrev Edges : Type 0
Edges = List (Key × Edge)

abbrev taken : Edges → Record → Edges
taken edges r = put key_cmp (head_key_of r.owner) (as_edge r) edges

or_or : (n : Option Edge) (b : Bool) (x : Edge) (rest : Option Edge) → option_or n (cond b (Some x) rest) ≡ option_or (option_or n (cond b (Some x) None)) rest
or_or (Some y) b x rest = refl
or_or None true x rest = refl
or_or None false x rest = refl

-- what is found in the edges over others
found_over : (q : Key) (rs : List Record) (es : Edges) → value_at key_cmp q (fold taken es rs) ≡ option_or (value_at key_cmp q (newest_edges rs)) (value_at key_cmp q es)
found_over q [] es = refl
found_over q (r ∷ rs) es =
    let k = head_key_of r.owner in
    found_over q rs (taken es r) ∙ ap (λ (o : Option Edge). option_or (value_at key_cmp q (newest_edges rs)) o) (find-put key_cmp keys_total q k (as_edge r) es)
    ∙ or_or (value_at key_cmp q (newest_edges rs)) (eq_by_cmp key_cmp q k) (as_edge r) (value_at key_cmp q es)
    ∙ ap (λ (o : Option Edge). option_or o (value_at key_cmp q es)) (sym (found_over q rs (taken [] r)))

pub sorted_over : (rs : List Record) (es : Edges) → T (is_sorted key_cmp es) → T (is_sorted key_cmp (fold taken es rs))
sorted_over [] es h = h
sorted_over (r ∷ rs) es h = sorted_over rs (taken es r) (is_sorted-put key_cmp keys_total (head_key_of r.owner) (as_edge r) es h)

or_none : (n : Option Edge) → option_or n None ≡ n
or_none (Some x) = refl
or_none None = refl

merged : (t b : Bool) (n : Option Edge) (x : Edge) → (b ≡ true → is_some n ≡ t) → option_or n (cond b (Some x) None) ≡ cond t n (cond b (Some x) n)
merged true true (Some y) x h = refl
merged true true None x h = absurd (cc (h refl))
merged true false n x h = or_none n
merged false true (Some y) x h = absurd (cc (h refl))
merged false true None x h = refl
merged false false n x h = or_none n

found_in : (t : Bool) (q : Key) (es fs : Edges) → value_at key_cmp q (cond t es fs) ≡ cond t (value_at key_cmp q es) (value_at key_cmp q fs)
found_in true q es fs = refl
found_in false q es fs = refl

sorted_in : (t : Bool) (es fs : Edges) → T (is_sorted key_cmp es) → T (is_sorted key_cmp fs) → T (is_sorted key_cmp (cond t es fs))
sorted_in true es fs h g = h
sorted_in false es fs h g = g

module _ (k : Key) (x : Edge) (es : Edges) where
  pub found_under : (q : Key) → value_at key_cmp q (put_under k x es) ≡ cond (is_some (value_at key_cmp k es)) (value_at key_cmp q es) (cond (eq_by_cmp key_cmp q k) (Some x) (value_at key_cmp q es))
  found_under q = found_in (is_some (value_at key_cmp k es)) q es (put key_cmp k x es) ∙ ap (λ (o : Option Edge). cond (is_some (value_at key_cmp k es)) (value_at key_cmp q es) o) (find-put key_cmp keys_total q k x es)

  kept_some : (t b : Bool) (n : Option Edge) → is_some n ≡ true → is_some (cond t n (cond b (Some x) n)) ≡ true
  kept_some true b n h = h
  kept_some false true n h = refl
  kept_some false false n h = h

  -- what is known stays known
  pub still_known : (q : Key) → is_some (value_at key_cmp q es) ≡ true → is_some (value_at key_cmp q (put_under k x es)) ≡ true
  still_known q h = ap (λ (o : Option Edge). is_some o) (found_under q) ∙ kept_some (is_some (value_at key_cmp k es)) (eq_by_cmp key_cmp q k) (value_at key_cmp q es) h

  some_now : (t : Bool) (n : Option Edge) → is_some n ≡ t → is_some (cond t n (cond true (Some x) n)) ≡ true
  some_now true n h = h
  some_now false n h = refl

  pub now_known : is_some (value_at key_cmp k (put_under k x es)) ≡ true
  now_known =
      ap (λ (o : Option Edge). is_some o) (found_under k)
      ∙ ap (λ (b : Bool). is_some (cond (is_some (value_at key_cmp k es)) (value_at key_cmp k es) (cond b (Some x) (value_at key_cmp k es)))) (same_key_itself k)
      ∙ some_now (is_some (value_at key_cmp k es)) (value_at key_cmp k es) refl

-- with an older record
pub with_older : (r : Record) (rs : List Record) → newest_edges (r ∷ rs) ≡ put_under (head_key_of r.owner) (as_edge r) (newest_edges rs)
with_older r rs =
    let k = head_key_of r.owner in
    let x = as_edge r in
    let es = newest_edges rs in
    let sorted : T (is_sorted key_cmp es) = sorted_over rs [] tt in
    let known : (q : Key) → eq_by_cmp key_cmp q k ≡ true → is_some (value_at key_cmp q es) ≡ is_some (value_at key_cmp k es) = (λ q same. ap (λ (l : Key). is_some (value_at key_cmp l es)) (same_key_is q k same)) in
    same_entries key_cmp keys_total exact_keys (newest_edges (r ∷ rs)) (put_under k x es) (sorted_over (r ∷ rs) [] tt) (sorted_in (is_some (value_at key_cmp k es)) es (put key_cmp k x es) sorted (is_sorted-put key_cmp keys_total k x es sorted))
    (λ q. found_over q rs (taken [] r) ∙ merged (is_some (value_at key_cmp k es)) (eq_by_cmp key_cmp q k) (value_at key_cmp q es) x (known q) ∙ sym (found_under k x es q))

-- with an older record of a log whose edge is known
pub with_known : (r : Record) (rs : List Record) → is_some (value_at key_cmp (head_key_of r.owner) (newest_edges rs)) ≡ true → newest_edges rs ≡ newest_edges (r ∷ rs)
with_known r rs known = sym (with_older r rs ∙ ap (λ (b : Bool). cond b (newest_edges rs) (put key_cmp (head_key_of r.owner) (as_edge r) (newest_edges rs))) known)

-- ---- which owners' edges are known

abbrev pub AreKnown : Edges → List PubKey → Type 0
AreKnown es owners = AllByRecursion (λ o. is_some (value_at key_cmp (head_key_of o) es) ≡ true) owners

pub all_known : (k : PubKey) (x : Edge) (es : Edges) (owners : List PubKey) → AreKnown es owners → AreKnown (put_under (head_key_of k) x es) (owners ++ k ∷ [])
all_known k x es [] h = (now_known (head_key_of k) x es, tt)
all_known k x es (o ∷ owners) h = (still_known (head_key_of k) x es (head_key_of o) h.0, all_known k x es owners h.1)

pub one_known : (k : PubKey) (es : Edges) (owners : List PubKey) → AreKnown es owners → list_any (eq_by_cmp owner_cmp k) owners ≡ true → is_some (value_at key_cmp (head_key_of k) es) ≡ true
one_known k es owners h among =
    let w = who_passes (eq_by_cmp owner_cmp k) owners among in
    subst (λ (o : PubKey). is_some (value_at key_cmp (head_key_of o) es) ≡ true) (same_owner k w.0 w.2) (each (λ o. is_some (value_at key_cmp (head_key_of o) es) ≡ true) owners w.0 h w.1)

-- ---- they are edges

abbrev IsOfOthers : Key × Edge → Type 0
IsOfOthers e = stamp_at e.1.vector e.0 ≡ None

put_one : (o : Ordering) (k : Key) (x : Edge) (e : Key × Edge) (es more : Edges) → (o ≡ Equal → k ≡ e.0) → IsOfOthers (k, x) → IsOfOthers e → AllByRecursion IsOfOthers es → AllByRecursion IsOfOthers more
    → AllByRecursion IsOfOthers (by_order o ((k, x) ∷ e ∷ es) ((e.0, x) ∷ es) (e ∷ more))
put_one Less k x e es more same h g all rest = (h, (g, all))
put_one Equal k x e es more same h g all rest = (subst (λ (l : Key). stamp_at x.vector l ≡ None) (same refl) h, all)
put_one Greater k x e es more same h g all rest = (g, rest)

put_others : (k : Key) (x : Edge) (es : Edges) → IsOfOthers (k, x) → AllByRecursion IsOfOthers es → AllByRecursion IsOfOthers (put key_cmp k x es)
put_others k x [] h all = (h, tt)
put_others k x (e ∷ es) h all = put_one (key_cmp k e.0) k x e es (put key_cmp k x es) (λ same. exact_keys k e.0 same) h all.0 all.1 (put_others k x es h all.1)

others_over : (rs : List Record) (es : Edges) → AllByRecursion KnowsOthers rs → AllByRecursion IsOfOthers es → AllByRecursion IsOfOthers (fold taken es rs)
others_over [] es h all = all
others_over (r ∷ rs) es h all = others_over rs (taken es r) h.1 (put_others (head_key_of r.owner) (as_edge r) es h.0 all)

pub are_edges : (rs : List Record) → AllByRecursion KnowsOthers rs → AreEdges (newest_edges rs)
are_edges rs h = record { in_order = to_test _ (sorted_over rs [] tt); of_others = others_over rs [] h tt }
