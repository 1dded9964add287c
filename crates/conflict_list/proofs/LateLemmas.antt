-- Records that aren't late: they know all the records before them.
use Rattle.std.proofs.Common.{◌≡◌, ℕ, ◌+◌, ◌<◌, ◌≤◌, Bool, true, false, List, [], ◌∷◌, ◌++◌, length, get_or, refl, sym, ap, ◌∙◌, subst, ⊎_elim, arith}
use Rattle.std.specs.Prelude.{not}
use Rattle.std.proofs.lemmas.Bool.{le-leb}
use Rattle.std.proofs.lemmas.List.{get_or_append_left, get_or_push}
use Rattle.ivy_base.specs.declared.key.Key.{Key}
use Rattle.ivy_base.specs.Naming.{head_key_of}
use Rattle.log_model.specs.Rank.{full_vector}
use Rattle.log_model.specs.Vector.{seq_of}
use Rattle.log_model.specs.Conflicts.{knows}
use Rattle.log_records.specs.declared.record.Record as kept
use Rattle.log_records.specs.Records.{record_of}
use Rattle.conflict_list.specs.declared.logs.Log.{Log}
use Rattle.conflict_list.specs.Tables.{AreLate, AreLogs, AreNewest, At, Clashing, HasKey, Reaches}
use Rattle.conflict_list.proofs.Finding.{not_known}
use Rattle.conflict_list.proofs.Places.{at_one, at_some, below_or_at}

-- a record that goes as far in each log as those before it is in conflict with none of them
pub none_clashes : (rs : List kept.Record) (n i j : ℕ) (logs slice : List Log) (of newest numbers : List ℕ) (s : kept.Record) → AreLogs rs n logs of → AreNewest rs of j newest
    → slice ≡ logs → numbers ≡ newest → i < j → j < n → At rs j s → Reaches s slice numbers → Clashing rs i j → ⊥
none_clashes rs n i j logs slice of newest numbers s are up same same_numbers less within stand goes clash =
    let lt = stand.0 in
    let far : Reaches s logs newest = subst (λ (l : List Log). Reaches s l newest) same (subst (λ (l : List ℕ). Reaches s slice l) same_numbers goes) in
    let one = at_some rs i (omega (arith, less, lt)) in
    let key = are.keyed i one.0 (omega (arith, less, within)) one.1 in
    let reach : get_or newest (get_or of i 0) 0 ≤ seq_of (full_vector (record_of s)) key.log.key = far (get_or of i 0) key.log key.stands in
    let high : one.0.seq ≤ get_or newest (get_or of i 0) 0 = up i one.0 less one.1 in
    let most : get_or newest (get_or of i 0) 0 ≤ seq_of (full_vector (record_of s)) (head_key_of one.0.owner) = subst (λ (k : Key). get_or newest (get_or of i 0) 0 ≤ seq_of (full_vector (record_of s)) k) key.is reach in
    let known : knows (record_of s) (record_of one.0) ≡ true = le-leb one.0.seq (seq_of (full_vector (record_of s)) (head_key_of one.0.owner)) (omega (arith, high, most)) in
    cc (sym known ∙ not_known (record_of one.0) (record_of s) (clash one.0 s one.1 stand))

pub none_late : (rs : List kept.Record) (late : List Bool) → AreLate rs 0 late
none_late rs late i j less within clash = absurd (omega (arith, within))

-- one record more
pub late_more : (rs : List kept.Record) (n : ℕ) (late more : List Bool) (answer : Bool) → length late ≡ n → more ≡ late ++ not answer ∷ []
    → (answer ≡ true → (i : ℕ) → i < n → Clashing rs i n → ⊥) → AreLate rs n late → AreLate rs (n + 1) more
late_more rs n late more answer long added apart so_far i j less within clash = subst (λ (l : List Bool). get_or l j false ≡ true) (sym added) (⊎_elim
    (λ low. get_or_append_left late (not answer ∷ []) false j (omega (arith, long, low)) ∙ so_far i j less low clash)
    (λ here. get_or_push late (not answer) false j (omega (arith, long, here)) ∙ by answer refl here)
    (below_or_at j n within))
  where
    by : (b : Bool) → answer ≡ b → j ≡ n → not b ≡ true
    by false e here = refl
    by true e here = absurd (apart e i (omega (arith, less, here)) (subst (λ (k : ℕ). Clashing rs i k) here clash))

pub newest_more : (rs : List kept.Record) (of : List ℕ) (n : ℕ) (newest more : List ℕ) (r : kept.Record) → At rs n r → AreNewest rs of n newest
    → ((k : ℕ) → get_or newest k 0 ≤ get_or more k 0) → r.seq ≤ get_or more (get_or of n 0) 0 → AreNewest rs of (n + 1) more
newest_more rs of n newest more r here so_far up reached i s within stand = ⊎_elim
    (λ less. let low = so_far i s less stand in let high = up (get_or of i 0) in omega (arith, low, high))
    (λ now. subst (λ (k : ℕ). s.seq ≤ get_or more (get_or of k 0) 0) (sym now) (subst (λ (q : kept.Record). q.seq ≤ get_or more (get_or of n 0) 0) (at_one rs n r s here (subst (λ (k : ℕ). At rs k s) now stand)) reached))
    (below_or_at i n within)

pub none_newest : (rs : List kept.Record) (of newest : List ℕ) → AreNewest rs of 0 newest
none_newest rs of newest i r within stand = absurd (omega (arith, within))
