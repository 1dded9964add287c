-- The logs of records, one record more.
use Rattle.std.proofs.Common.{◌≡◌, ℕ, ◌+◌, ◌<◌, ◌≤◌, List, [], ◌∷◌, ◌++◌, length, get_or, sym, ap, ◌∙◌, subst, ⊎_elim, arith, length-append}
use Rattle.std.specs.List.{All}
use Rattle.std.proofs.lemmas.List.{get_or_append_left, get_or_push}
use Rattle.std.proofs.lemmas.List.Elements.{All-push}
use Rattle.ivy_base.specs.declared.key.Key.{Key}
use Rattle.ivy_base.specs.declared.key.PubKey.{PubKey}
use Rattle.ivy_base.specs.Naming.{head_key_of}
use Rattle.log_records.specs.declared.record.Record as kept
use Rattle.conflict_list.specs.declared.logs.Log.{Log}
use Rattle.conflict_list.specs.Tables.{AreLogs, At, HasItsKey, HasKey}
use Rattle.conflict_list.proofs.Places.{all_at, at_left, at_one, at_push, below_or_at}

-- a log that is there
pub key_there : (list : List Log) (lane : ℕ) (log : Log) (owner : PubKey) → All HasItsKey list → At list lane log → log.owner ≡ owner → HasKey list lane (head_key_of owner)
key_there list lane log owner keys h same = record { log = log; stands = h; is = all_at HasItsKey list lane log keys h ∙ ap head_key_of same }

-- a log that is added
pub key_added : (list new : List Log) (owner : PubKey) (log : Log) (lane : ℕ) → log.owner ≡ owner → log.key ≡ head_key_of owner → new ≡ list ++ log ∷ [] → lane ≡ length list → HasKey new lane (head_key_of owner)
key_added list new owner log lane same is added last = subst (λ (l : List Log). HasKey l lane (head_key_of owner)) (sym added)
    (subst (λ (n : ℕ). HasKey (list ++ log ∷ []) n (head_key_of owner)) (sym last) (record { log = log; stands = at_push list log; is = is }))

pub keys_added : (list new : List Log) (owner : PubKey) (log : Log) → log.owner ≡ owner → log.key ≡ head_key_of owner → new ≡ list ++ log ∷ [] → All HasItsKey list → All HasItsKey new
keys_added list new owner log same is added keys = subst (All HasItsKey) (sym added) (All-push HasItsKey list log keys (is ∙ ap head_key_of (sym same)))

pub key_stays : (list more : List Log) (lane : ℕ) (key : Key) → HasKey list lane key → HasKey (list ++ more) lane key
key_stays list more lane key k = record { log = k.log; stands = at_left list more lane k.log k.stands; is = k.is }

pub keys_stay : (list new : List Log) (log : Log) → new ≡ list ++ log ∷ [] → (lane : ℕ) (key : Key) → HasKey list lane key → HasKey new lane key
keys_stay list new log added lane key k = subst (λ (l : List Log). HasKey l lane key) (sym added) (key_stays list (log ∷ []) lane key k)

-- one record more
pub logs_more : (rs : List kept.Record) (n : ℕ) (old new : List Log) (of more : List ℕ) (lane : ℕ) (r : kept.Record) → At rs n r → AreLogs rs n old of
    → HasKey new lane (head_key_of r.owner) → All HasItsKey new → length new ≤ length old + 1 → ((lane : ℕ) (key : Key) → HasKey old lane key → HasKey new lane key)
    → more ≡ of ++ lane ∷ [] → AreLogs rs (n + 1) new more
logs_more rs n old new of more lane r here so_far key keys few kept_on added = record {
  long = (let l : length (of ++ lane ∷ []) ≡ length of + length (lane ∷ []) = length-append of (lane ∷ []) in let e = ap length added in let long = so_far.long in omega (arith, l, e, long));
  few = (let before = so_far.few in omega (arith, before, few));
  keys = keys;
  keyed = λ j s lt stand. ⊎_elim (λ less. earlier j s less stand) (λ is. latest j s is stand) (below_or_at j n lt);
}
  where
    earlier : (j : ℕ) (s : kept.Record) → j < n → At rs j s → HasKey new (get_or more j 0) (head_key_of s.owner)
    earlier j s less stand =
        let long = so_far.long in
        let e : get_or more j 0 ≡ get_or of j 0 = ap (λ (l : List ℕ). get_or l j 0) added ∙ get_or_append_left of (lane ∷ []) 0 j (omega (arith, long, less)) in
        subst (λ (k : ℕ). HasKey new k (head_key_of s.owner)) (sym e) (kept_on (get_or of j 0) (head_key_of s.owner) (so_far.keyed j s less stand))

    latest : (j : ℕ) (s : kept.Record) → j ≡ n → At rs j s → HasKey new (get_or more j 0) (head_key_of s.owner)
    latest j s is stand =
        let long = so_far.long in
        let e : get_or more j 0 ≡ lane = ap (λ (l : List ℕ). get_or l j 0) added ∙ get_or_push of lane 0 j (omega (arith, long, is)) in
        let same : r ≡ s = at_one rs j r s (subst (λ (k : ℕ). At rs k r) (sym is) here) stand in
        subst (λ (k : ℕ). HasKey new k (head_key_of s.owner)) (sym e) (subst (λ (q : kept.Record). HasKey new lane (head_key_of q.owner)) same key)

pub no_logs : (rs : List kept.Record) (list : List Log) (of : List ℕ) → list ≡ [] → of ≡ [] → AreLogs rs 0 list of
no_logs rs list of none empty = record {
  long = ap length empty;
  few = (let e : length list ≡ 0 = ap length none in omega (arith, e));
  keys = subst (All HasItsKey) (sym none) (λ k d lt. absurd (omega (arith, lt)));
  keyed = λ j r lt stand. absurd (omega (arith, lt));
}
