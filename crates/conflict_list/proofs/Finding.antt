-- What is found of the records that are in conflict with one.
use Rattle.std.proofs.Common.{◌≡◌, ℕ, ◌+◌, ◌<◌, ◌≤◌, ◌^◌, Bool, true, false, List, [], ◌∷◌, ◌++◌, length, get_or, take, min, length-take, refl, sym, ap, ◌∙◌, subst, ⊎_elim, arith, Contains, IsPermutation}
use Rattle.std.specs.Prelude.{not}
use Rattle.std.specs.List.{All, AllByRecursion}
use Rattle.std.proofs.lemmas.Bool.{cases_lt}
use Rattle.std.proofs.lemmas.List.{get_or-take}
use Rattle.std.proofs.lemmas.List.Elements.{Contains-append_left, Contains-push}
use Rattle.std.proofs.lemmas.List.Sorted.{Contains-permutation}
use Rattle.tree_model.proofs.Sound.{both_true}
use Rattle.log_model.specs.Record.{Record}
use Rattle.log_model.specs.Spelling.{HasSpelling}
use Rattle.log_records.specs.declared.record.Record as kept
use Rattle.log_records.specs.Records.{record_of, records_of}
use Rattle.conflict_list.specs.declared.logs.Log.{Log}
use Rattle.conflict_list.specs.declared.marked.Marked.{Marked}
use Rattle.log_model.specs.Conflicts.{are_concurrent, in_conflict, knows, touch}
use Rattle.conflict_list.specs.Marks.{looks, marks}
use Rattle.conflict_list.specs.Numbers.{looked_up, number, numbers_of}
use Rattle.conflict_list.specs.Order.{marked, order, order_of}
use Rattle.conflict_list.specs.Tables.{AllAreFound, AreFound, AreLogs, AreMarked, At, Grow, IsMarkOf, IsRun, KnowsAt, Stays}
use Rattle.conflict_list.proofs.Marks.{touching_is_found}
use Rattle.conflict_list.proofs.MarkedLemmas.{In, IsOf, in_map}
use Rattle.conflict_list.proofs.Places.{all_at, all_contained, at_one, at_some, below_or_at, at_read, in_all, in_more, spelled_at}

-- of two in conflict, the second doesn't know the first
pub not_known : (r s : Record) → in_conflict r s ≡ true → knows s r ≡ false
not_known r s h =
    let apart = both_true (touch r s) (are_concurrent r s) h in
    let ways = both_true (not (knows r s)) (not (knows s r)) apart.1 in
    by (knows s r) ways.1
  where
    by : (b : Bool) → not b ≡ true → b ≡ false
    by true e = cc
    by false e = refl

pub knows_at : (rs : List kept.Record) (i j : ℕ) (x y : kept.Record) (b : Bool) → At rs i x → At rs j y → b ≡ knows (record_of x) (record_of y) → KnowsAt rs i j b
knows_at rs i j x y b hx hy e r s hr hs = e ∙ ap (λ (q : kept.Record). knows (record_of q) (record_of y)) (at_one rs i x r hx hr) ∙ ap (λ (q : kept.Record). knows (record_of r) (record_of q)) (at_one rs j y s hy hs)

-- ---- a run

pub stays_on : (a b ys more : List ℕ) → Stays a b → more ≡ b ++ ys → Stays a more
stays_on a b ys more stays added j c = subst (λ (l : List ℕ). Contains l j) (sym added) (Contains-append_left b ys j (stays j c))

pub run_more : (rs : List kept.Record) (i : ℕ) (run : List Marked) (k : ℕ) (d : Marked) (found more : List ℕ) → k < length run → AreFound rs i (Contains (take k run)) found → more ≡ found ++ (get_or run k d).place ∷ []
    → AreFound rs i (Contains (take (k + 1) run)) more
run_more rs i run k d found more lt so_far added x c within clash =
    let m = get_or run k d in
    subst (λ (l : List ℕ). Contains l x.place) (sym added) (⊎_elim
    (λ e. Contains-append_left found ((get_or run k d).place ∷ []) x.place (so_far x e within clash))
    (λ e. subst (λ (y : Marked). Contains (found ++ (get_or run k d).place ∷ []) y.place) e (Contains-push found (get_or run k d).place))
    (in_more run k (get_or run k d) x (at_read run k d lt) c))

pub run_all : (rs : List kept.Record) (i : ℕ) (run : List Marked) (k : ℕ) (found : List ℕ) → length run ≤ k → AreFound rs i (Contains (take k run)) found → AreFound rs i (Contains run) found
run_all rs i run k found le so_far x c within clash = so_far x (in_all run k x le c) within clash

-- those after one that knows the record know it too
pub run_known : (rs : List kept.Record) (of : List ℕ) (i : ℕ) (run : List Marked) (k : ℕ) (d : Marked) (found : List ℕ) (answer : Bool) → i < length rs → Grow rs of (length rs) → All (IsMarkOf (length rs) of) run → IsRun run
    → k < length run → answer ≡ true → KnowsAt rs (get_or run k d).place i answer → AreFound rs i (Contains (take k run)) found → AreFound rs i (Contains run) found
run_known rs of i run k d found answer lt grow ours is_run inside truly known so_far x c within clash = ⊎_elim before behind (cases_lt c.0 k)
  where
    before : c.0 < k → Contains found x.place
    before less = so_far x (
      c.0,
      (let l : length (take k run) ≡ min k (length run) = length-take k run in let in_run = c.1 in omega (arith, l, less, in_run)),
      get_or-take k run c.0 x less ∙ c.2,
    ) within clash

    behind : k ≤ c.0 → Contains found x.place
    behind le =
        let m = get_or run k d in
        let stand : At run k (get_or run k d) = at_read run k d inside in
        let run_on = is_run k c.0 (get_or run k d) x le stand (c.1, sym c.2) in
        let mine = all_at (IsMarkOf (length rs) of) run k (get_or run k d) ours stand in
        let its = all_contained (IsMarkOf (length rs) of) run x ours c in
        let one = at_some rs i lt in
        let middle = at_some rs (get_or run k d).place mine.0 in
        let other = at_some rs x.place within in
        let lanes : get_or of (get_or run k d).place 0 ≡ get_or of x.place 0 = sym mine.1 ∙ run_on.0 ∙ its.1 in
        let knew : knows (record_of middle.0) (record_of one.0) ≡ true = sym (known middle.0 one.0 middle.1 one.1) ∙ truly in
        let knows_too : knows (record_of other.0) (record_of one.0) ≡ true = grow (get_or run k d).place x.place run_on.1 within lanes middle.0 other.0 middle.1 other.1 (record_of one.0) knew in
        let unknown : knows (record_of other.0) (record_of one.0) ≡ false = not_known (record_of one.0) (record_of other.0) (clash one.0 other.0 one.1 other.1) in
        absurd (cc (sym knows_too ∙ unknown))

-- ---- the runs of a number

-- the marks of a number
pub group_is : (n : ℕ) (of : List ℕ) (ms slice group : List Marked) (number low high : ℕ) → slice ≡ ms → low ≡ order_of number 0 0 → high ≡ order_of number 4294967295 4294967295 → n < 2 ^ 32 → All (IsMarkOf n of) ms
    → All (In slice low high) group → All (IsOf number) group
group_is n of ms slice group number low high same is_low is_high few ours parts k d lt =
    let part = parts k d lt in
    let is : IsMarkOf n of (get_or group k d) = all_contained (IsMarkOf n of) ms (get_or group k d) ours (subst (λ (l : List Marked). Contains l (get_or group k d)) same part.0) in
    let over = part.1 in let under = part.2 in let p = is.0 in let l = is.2 in
    (omega (arith, few, is_low, is_high, over, under, p, l), l, omega (arith, few, p))

pub in_group : (n : ℕ) (of : List ℕ) (ms slice group : List Marked) (number low high : ℕ) → slice ≡ ms → low ≡ order_of number 0 0 → high ≡ order_of number 4294967295 4294967295 → n < 2 ^ 32 → All (IsMarkOf n of) ms
    → ((m : Marked) → Contains slice m → low ≤ order m → order m ≤ high → Contains group m) → (m : Marked) → Contains ms m → m.number ≡ number → Contains group m
in_group n of ms slice group number low high same is_low is_high few ours gathers m c is_number =
    let is = all_contained (IsMarkOf n of) ms m ours c in
    let p = is.0 in let l = is.2 in
    gathers m (subst (λ (list : List Marked). Contains list m) (sym same) c) (omega (arith, is_low, is_number)) (omega (arith, is_high, few, p, l, is_number))

-- what is in a part of a part is one of the records' marks
pub run_ours : (n : ℕ) (of : List ℕ) (ms slice group run : List Marked) (low high : ℕ) → slice ≡ ms → All (IsMarkOf n of) ms → All (In slice low high) group → All (Contains group) run → All (IsMarkOf n of) run
run_ours n of ms slice group run low high same ours parts inside k d lt =
    all_contained (IsMarkOf n of) ms (get_or run k d) ours (subst (λ (l : List Marked). Contains l (get_or run k d)) same (all_contained (In slice low high) group (get_or run k d) parts (inside k d lt)).0)

abbrev pub Under : List Marked → ℕ → ℕ → ℕ → Marked → Type 0
Under ms number i lanes m = Contains ms m × (m.number ≡ number) × (i < m.place) × (m.log < lanes)

pub lane_more : (rs : List kept.Record) (i : ℕ) (ms group run : List Marked) (number lane : ℕ) (found more : List ℕ)
    → ((m : Marked) → Contains ms m → m.number ≡ number → Contains group m)
    → ((m : Marked) → Contains group m → m.log ≡ lane → i < m.place → Contains run m)
    → AreFound rs i (Under ms number i lane) found → AreFound rs i (Contains run) more → Stays found more → AreFound rs i (Under ms number i (lane + 1)) more
lane_more rs i ms group run number lane found more gathers runs so_far here stays m u within clash = ⊎_elim
    (λ less. stays m.place (so_far m (u.0, u.1, u.2, less) within clash))
    (λ now. here m (runs m (gathers m u.0 u.1) now u.2) within clash)
    (below_or_at m.log lane u.3)

pub no_lane : (rs : List kept.Record) (i : ℕ) (ms : List Marked) (number : ℕ) (found : List ℕ) → AreFound rs i (Under ms number i 0) found
no_lane rs i ms number found m u within clash = absurd (let lt = u.3 in omega (arith, lt))

pub all_lanes : (rs : List kept.Record) (i : ℕ) (logs : List Log) (of : List ℕ) (ms : List Marked) (number lanes : ℕ) (found : List ℕ) → length logs ≤ lanes → AreLogs rs (length rs) logs of → AreMarked rs of (length rs) ms
    → AreFound rs i (Under ms number i lanes) found → AreFound rs i (λ m. Contains ms m × (m.number ≡ number) × (i < m.place)) found
all_lanes rs i logs of ms number lanes found le are ours so_far m u within clash =
    let r = at_some rs m.place within in
    let is = all_contained (IsMarkOf (length rs) of) ms m ours.only u.0 in
    let key = are.keyed m.place r.0 within r.1 in
    let lane = key.stands.0 in
    let log = is.1 in
    so_far m (u.0, u.1, u.2, omega (arith, le, lane, log)) within clash

-- where a number has no marks there is nothing to be found
pub none_under : (rs : List kept.Record) (i : ℕ) (ms group : List Marked) (number : ℕ) (found : List ℕ) → length group ≡ 0 → ((m : Marked) → Contains ms m → m.number ≡ number → Contains group m)
    → AreFound rs i (λ m. Contains ms m × (m.number ≡ number) × (i < m.place)) found
none_under rs i ms group number found none gathers m u within clash = let lt = (gathers m u.0 u.1).1 in absurd (omega (arith, none, lt))

-- ---- all numbers

pub number_more : (rs : List kept.Record) (i : ℕ) (ms : List Marked) (ks : List ℕ) (x k : ℕ) (found more : List ℕ) → At ks x k
    → AreFound rs i (λ m. Contains ms m × Contains (take x ks) m.number × (i < m.place)) found → AreFound rs i (λ m. Contains ms m × (m.number ≡ k) × (i < m.place)) more → Stays found more
    → AreFound rs i (λ m. Contains ms m × Contains (take (x + 1) ks) m.number × (i < m.place)) more
number_more rs i ms ks x k found more stand so_far here stays m u within clash = ⊎_elim
    (λ c. stays m.place (so_far m (u.0, c, u.2) within clash))
    (λ e. here m (u.0, sym e, u.2) within clash)
    (in_more ks x k m.number stand u.1)

pub no_number : (rs : List kept.Record) (i : ℕ) (ms : List Marked) (ks : List ℕ) (found : List ℕ) → AreFound rs i (λ m. Contains ms m × Contains (take 0 ks) m.number × (i < m.place)) found
no_number rs i ms ks found m u within clash = absurd (let lt = u.1.1 in omega (arith, lt))

pub all_numbers : (rs : List kept.Record) (i : ℕ) (ms : List Marked) (ks : List ℕ) (x : ℕ) (found : List ℕ) → length ks ≤ x
    → AreFound rs i (λ m. Contains ms m × Contains (take x ks) m.number × (i < m.place)) found → AreFound rs i (λ m. Contains ms m × Contains ks m.number × (i < m.place)) found
all_numbers rs i ms ks x found le so_far m u within clash = so_far m (u.0, in_all ks x m.number le u.1, u.2) within clash

-- ---- what touches is found

pub all_found : (rs : List kept.Record) (of : List ℕ) (ms : List Marked) (i : ℕ) (r : kept.Record) (ks found sorted : List ℕ) → At rs i r → AllByRecursion HasSpelling (records_of rs) → AreMarked rs of (length rs) ms
    → ks ≡ looked_up r.op → AreFound rs i (λ m. Contains ms m × Contains ks m.number × (i < m.place)) found → IsPermutation found sorted → AllAreFound rs i sorted
all_found rs of ms i r ks found sorted stand spelled ours ks_are so_far moved j less within clash =
    let other = at_some rs j within in
    let s = other.0 in
    let told : in_conflict (record_of r) (record_of s) ≡ true = clash r s stand other.1 in
    let touched = both_true (touch (record_of r) (record_of s)) (are_concurrent (record_of r) (record_of s)) told in
    let meet = touching_is_found r.op s.op (spelled_at rs i r stand spelled).operation (spelled_at rs j s other.1 spelled).operation touched.0 in
    let looked : Contains ks (number meet.0) = subst (λ (l : List ℕ). Contains l (number meet.0)) (sym ks_are) (in_map number (looks r.op) meet.0 meet.1) in
    let there : Contains (numbers_of s.op) (number meet.0) = in_map number (marks s.op) meet.0 meet.2 in
    let mark = marked (get_or of j 0) j (number meet.0) in
    Contains-permutation found sorted j moved (so_far mark (ours.each i j s (number meet.0) less within clash other.1 there, looked, less) within clash)
