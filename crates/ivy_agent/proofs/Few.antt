-- Where edges of as many logs are known as the records are of, no older record has another.
use Rattle.std.proofs.Common.{◌≡◌, ◌⊎◌, ⊎_elim, ℕ, ◌+◌, ◌<◌, ◌≤◌, Bool, true, false, cond, not, List, [], ◌∷◌, ◌++◌, length, map, filter, drop, take, Option, Some, None, refl, sym, ap, ◌∙◌, subst, arith, Contains}
use Rattle.std.specs.Prelude.{is_some, nat_lt, T, count_by, min}
use Rattle.std.proofs.Math.Nat.{le_of_lt, min-eq_left, min-eq_right}
use Rattle.std.proofs.lemmas.Bool.{lt-ltb, ltb-true, ltb-false}
use Rattle.std.proofs.lemmas.List.Sums.{length-filter}
use Rattle.std.specs.List.{AllByRecursion}
use Rattle.std.specs.Ordering.{eq_by_cmp}
use Rattle.std.specs.declared.cmp.Ordering.TheVariants.{Equal}
use Rattle.std.specs.FinMap.Entries.{put, where_key, find as value_at, is_sorted, find-put, find-where_key, is_sorted-put, is_sorted-where_key, length-put, length_without}
use Rattle.std.proofs.lemmas.List.{length-map, map-append, take-append-drop}
use Rattle.ivy_base.specs.declared.key.Key.{Key}
use Rattle.ivy_base.specs.declared.key.PubKey.{PubKey}
use Rattle.ivy_base.specs.Naming.{key_cmp, head_key_of}
use Rattle.tree_model.specs.Tree.{same_key}
use Rattle.tree_model.proofs.Keys.{keys_total, exact_keys, same_key_is, same_key_itself}
use Rattle.log_model.specs.Record.{Record}
use Rattle.log_model.specs.Vector.{Entry, Stamp, Vector, reach, seq_of, stamp_at}
use Rattle.log_model.specs.Fetched.{Edge, as_edge}
use Rattle.log_model.proofs.Lists.{here, there, in_cons, in_filter, in_nothing, each, each_from, each_left, each_right}
use Rattle.turn_laws.proofs.Entries.{at_stamp}
use Rattle.log_records.specs.declared.record.Record as held
use Rattle.log_records.specs.Records.{record_of, records_of}
use Rattle.log_fetch.specs.declared.edges.Edge as kept
use Rattle.log_fetch.specs.Edges.{edge_of, edges_of}
use Rattle.ivy_agent.specs.Edges.{is_beyond, newest_edges, AreOfAtMost, IsBeyond}
use Rattle.ivy_agent.proofs.Newest.{found_under, sorted_over, with_older, with_known}

abbrev Edges : Type 0
Edges = List (Key × Edge)

abbrev IsFound : Edges → Key → Type 0
IsFound es q = is_some (value_at key_cmp q es) ≡ true

-- ---- edges of different logs are no more than the logs

one_less : (b : Bool) (n m most : ℕ) → cond b 1 0 + n ≡ m → n ≤ most → m ≤ most + 1
one_less true n m most e h = omega (arith, e, h)
one_less false n m most e h = omega (arith, e, h)

few : (logs : List Key) (es : Edges) → T (is_sorted key_cmp es) → ((q : Key) → IsFound es q → Contains logs q) → length es ≤ length logs
few [] [] sorted h = omega arith
few [] (e ∷ es) sorted h = absurd (in_nothing e.0 (h e.0 (ap (λ (b : Bool). is_some (cond b (Some e.1) (value_at key_cmp e.0 es))) (same_key_itself e.0))))
few (k ∷ logs) es sorted h =
    let fewer : length rest ≤ length logs = few logs rest (is_sorted-where_key key_cmp other es sorted) left in
    let less : length es ≤ length logs + 1 = one_less (is_some (value_at key_cmp k es)) (length rest) (length es) (length logs) (length_without key_cmp keys_total k es sorted) fewer in
    omega (arith, less)
  where
    other : Key → Bool
    other x = not (eq_by_cmp key_cmp k x)

    rest : Edges
    rest = where_key key_cmp other es

    by : (q : Key) (b : Bool) → eq_by_cmp key_cmp k q ≡ b → is_some (cond (not b) (value_at key_cmp q es) None) ≡ true → Contains logs q
    by q true same found = absurd (cc found)
    by q false same found = ⊎_elim
        (λ is. absurd (let itself = sym (same_key_itself k) ∙ ap (eq_by_cmp key_cmp k) is ∙ same in cc itself))
        (λ c. c)
        (in_cons k logs q (h q found))

    left : (q : Key) → IsFound rest q → Contains logs q
    left q found = by q (eq_by_cmp key_cmp k q) refl
        (ap (λ (o : Option Edge). is_some o) (sym (find-where_key key_cmp other q (λ x tied. ap other (sym (exact_keys q x tied))) es)) ∙ found)

-- ---- the edges of records are of their logs

abbrev AreOf : List Key → List Record → Type 0
AreOf logs rs = AllByRecursion (λ r. Contains logs (head_key_of r.owner)) rs

in_logs : (logs : List Key) (rs : List Record) → AreOf logs rs → (q : Key) → IsFound (newest_edges rs) q → Contains logs q
in_logs logs [] h q found = absurd (cc found)
in_logs logs (r ∷ rs) h q found = by (in_logs logs rs h.1 q) (is_some (value_at key_cmp k (newest_edges rs))) (eq_by_cmp key_cmp q k) refl
    (ap (λ (o : Option Edge). is_some o) (sym (ap (value_at key_cmp q) (with_older r rs) ∙ found_under k (as_edge r) (newest_edges rs) q)) ∙ found)
  where
    k : Key
    k = head_key_of r.owner

    by : (IsFound (newest_edges rs) q → Contains logs q) → (t b : Bool) → eq_by_cmp key_cmp q k ≡ b → is_some (cond t (value_at key_cmp q (newest_edges rs)) (cond b (Some (as_edge r)) (value_at key_cmp q (newest_edges rs)))) ≡ true → Contains logs q
    by inner true b same found = inner found
    by inner false true same found = subst (Contains logs) (sym (same_key_is q k same)) h.0
    by inner false false same found = inner found

-- ---- so where there are as many, each log's is known

module _ (logs : List Key) (newer : List Record) (are : AreOf logs newer) (enough : length logs ≤ length (newest_edges newer)) where
  abbrev es : Edges
  es = newest_edges newer

  sorted : T (is_sorted key_cmp es)
  sorted = sorted_over newer [] tt

  is_known : (k : Key) (x : Edge) → Contains logs k → IsFound es k
  is_known k x within = by (is_some (value_at key_cmp k es)) refl
    where
      more : Edges
      more = put key_cmp k x es

      pick : (q : Key) (b : Bool) → eq_by_cmp key_cmp q k ≡ b → is_some (cond b (Some x) (value_at key_cmp q es)) ≡ true → Contains logs q
      pick q true same found = subst (Contains logs) (sym (same_key_is q k same)) within
      pick q false same found = in_logs logs newer are q found

      too_many : is_some (value_at key_cmp k es) ≡ false → ⊥
      too_many none =
          let longer : length more ≡ length es + 1 = length-put key_cmp keys_total k x es sorted ∙ ap (λ (b : Bool). cond b (length es) (length es + 1)) none in
          let most : length more ≤ length logs = few logs more (is_sorted-put key_cmp keys_total k x es sorted)
          (λ q found. pick q (eq_by_cmp key_cmp q k) refl (ap (λ (o : Option Edge). is_some o) (sym (find-put key_cmp keys_total q k x es)) ∙ found)) in
          omega (arith, longer, most, enough)

      by : (b : Bool) → is_some (value_at key_cmp k es) ≡ b → IsFound es k
      by true e = e
      by false e = absurd (too_many e)

  nothing_more : (older : List Record) → AreOf logs older → newest_edges (older ++ newer) ≡ newest_edges newer
  nothing_more [] h = refl
  nothing_more (r ∷ older) h =
      let same : newest_edges (older ++ newer) ≡ es = nothing_more older h.1 in
      sym (with_known r (older ++ newer) (ap (λ (fs : Edges). is_some (value_at key_cmp (head_key_of r.owner) fs)) same ∙ is_known (head_key_of r.owner) (as_edge r) h.0)) ∙ same

-- ---- as the code has it

at_most : (n m most len : ℕ) → n ≤ most → most ≤ len → len ≡ m → n ≤ m
at_most n m most len a b e = omega (arith, a, b, e)

mapped : {X Y : Type 0} (f : X → Y) (xs : List X) (x : X) → Contains xs x → Contains (map f xs) (f x)
mapped f [] x c = absurd (in_nothing x c)
mapped f (y ∷ xs) x c = ⊎_elim
    (λ is. subst (λ (z : _). Contains (f y ∷ map f xs) z) (ap f is) (here (f y) (map f xs)))
    (λ d. there (f y) (map f xs) (f x) (mapped f xs x d))
    (in_cons y xs x c)

-- records of members are of as many logs at most
pub of_members : (members : List PubKey) (rs : List Record) → AllByRecursion (λ r. Contains members r.owner) rs → AreOfAtMost (length members) rs
of_members members rs h = (
  map head_key_of members,
  at_most (length (map head_key_of members)) (length members) (length (map head_key_of members)) (length (map head_key_of members)) (omega arith) (omega arith) (length-map members head_key_of),
  each_from (λ r. Contains (map head_key_of members) (head_key_of r.owner)) rs (λ r c. mapped head_key_of members r.owner (each (λ (q : Record). Contains members q.owner) rs r h c)),
)

-- records beyond the basis are of as many logs at most as the front goes further in than the basis does
pub of_beyond : (base front : Vector) (rs : List Record) → AllByRecursion (IsBeyond base front) rs → AreOfAtMost (count_by (is_beyond base) front) rs
of_beyond base front rs h = (
  map (λ (e : Entry). e.0) beyond,
  at_most (length (map (λ (e : Entry). e.0) beyond)) (count_by (is_beyond base) front) (length beyond) (length beyond)
      (let same = length-map beyond (λ (e : Entry). e.0) in omega (arith, same)) (omega arith) (length-filter (is_beyond base) front),
  each_from (λ r. Contains (map (λ (e : Entry). e.0) beyond) (head_key_of r.owner)) rs (λ r c. among r (each (IsBeyond base front) rs r h c)),
)
  where
    beyond : Vector
    beyond = filter (is_beyond base) front

    by : (log : Key) (o : Option Stamp) → stamp_at front log ≡ o → seq_of base log < reach o → Contains (map (λ (e : Entry). e.0) beyond) log
    by log None at further = absurd (omega (arith, further))
    by log (Some t) at further = mapped (λ (e : Entry). e.0) beyond (log, t)
        (in_filter (is_beyond base) front (log, t) (at_stamp (Contains front) front log t (each_from (Contains front) front (λ e c. c)) at) (lt-ltb (seq_of base log) t.seq further))

    among : (r : Record) → IsBeyond base front r → Contains (map (λ (e : Entry). e.0) beyond) (head_key_of r.owner)
    among r further = by (head_key_of r.owner) (stamp_at front (head_key_of r.owner)) refl further

-- the lesser of two bounds is one
pub of_lesser : (m n least : ℕ) (rs : List Record) → least ≡ min m n → AreOfAtMost m rs → AreOfAtMost n rs → AreOfAtMost least rs
of_lesser m n least rs is a b = by (nat_lt m n) refl
  where
    by : (t : Bool) → nat_lt m n ≡ t → AreOfAtMost least rs
    by true less = (a.0, (let lt = ltb-true m n less in let most = a.1 in let same = is ∙ min-eq_left (le_of_lt lt) in omega (arith, most, same)), a.2)
    by false more = (b.0, (let ge = ltb-false m n more in let most = b.1 in let same = is ∙ min-eq_right ge in omega (arith, most, same)), b.2)

module _ (records : List held.Record) (left most : ℕ) (edges : List kept.Edge) (few : AreOfAtMost most (records_of records)) (so_far : edges_of edges ≡ newest_edges (records_of (drop left records))) where
  parts : records_of (take left records) ++ records_of (drop left records) ≡ records_of records
  parts = sym (map-append record_of (take left records) (drop left records)) ∙ ap records_of (take-append-drop left records)

  both : AreOf few.0 (records_of (take left records) ++ records_of (drop left records))
  both = subst (AreOf few.0) (sym parts) few.2

  -- where edges of so many logs are known, they are all
  pub are_enough : (vec_len len : ℕ) → vec_len ≡ length edges → len ≡ vec_len → most ≤ len → edges_of edges ≡ newest_edges (records_of records)
  are_enough vec_len len sized is enough =
      let of_most : most ≤ length edges = omega (arith, sized, is, enough) in
      let newer = records_of (drop left records) in
      let older = records_of (take left records) in
      let known : length few.0 ≤ length (newest_edges newer) = at_most (length few.0) (length (newest_edges newer)) most (length edges) few.1 of_most (sym (length-map edges edge_of) ∙ ap length so_far) in
      so_far ∙ sym (nothing_more few.0 newer (each_right (λ r. Contains few.0 (head_key_of r.owner)) older newer both) known older (each_left (λ r. Contains few.0 (head_key_of r.owner)) older newer both)) ∙ ap newest_edges parts

  -- and where all records were seen
  pub are_seen : left ≤ 0 → edges_of edges ≡ newest_edges (records_of records)
  are_seen none =
      let zero_left : left ≡ 0 = omega (arith, none) in
      so_far ∙ ap (λ n. newest_edges (records_of (drop n records))) zero_left
