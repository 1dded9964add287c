-- A walk that is brought the block that it wants goes further, or ends.
use Rattle.std.proofs.Common.{◌≡◌, ℕ, zero, suc, ◌+◌, ◌-◌, ◌<◌, List, [], ◌∷◌, ◌++◌, length, Option, Some, None, Ok, Err, refl, ap, subst, arith, length-append}
use Rattle.std.proofs.lemmas.List.Elements.{Contains-append_left, Contains-append_right}
use Rattle.ivy_base.specs.declared.key.Key.{Key}
use Rattle.ivy_base.specs.declared.key.PubKey.{PubKey}
use Rattle.log_model.specs.Record.{Record}
use Rattle.log_model.specs.Spelling.{IsRecordOf}
use Rattle.log_model.specs.Chain.{HasMadeNumber}
use Rattle.log_model.proofs.Lists.{here}
use Rattle.dhash_model.specs.declared.miss.Miss.{Miss}
use Rattle.session_model.specs.Brought.{Brought, BlockOf}
use Rattle.session_model.specs.Walks.{Walks, WalkEnd, Wants, Misses, Garbled}
use Rattle.session_model.specs.Walks.Walks.{came as all_came, wants as next_wanted, misses as one_misses, garbled as one_garbled, back as one_back}
use Rattle.log_fetch.specs.Walking.{Walking, Keeps, HasCome, HasBeenGiven, kept_with}
use Rattle.log_fetch.specs.Walking.HasCome.{wants as still_wants, garbled as ends_garbled, came as ends_whole}

module _ (owner : PubKey) where
  -- there are fewer than may come
  pub fewer : {count : ℕ} {newest next : Key} {brought : List Brought} {records : List Record} → Walks owner count newest brought records (Wants next) → length records < count
  fewer next_wanted = omega arith
  fewer (one_back bytes r is more) = let rest = fewer more in omega (arith, rest)

  -- with a record of the owner's it goes on from the one before it
  pub further : {count : ℕ} {newest next : Key} {brought : List Brought} {records : List Record} → Walks owner count newest brought records (Wants next) → (bytes : List ℕ) (r : Record) → IsRecordOf owner bytes r
      → (left : ℕ) → count ≡ suc left + length records → {more : List Brought} {rest : List Record} {end : WalkEnd} → Walks owner left r.prev more rest end
      → Walks owner count newest (brought ++ BlockOf next (Ok bytes) ∷ more) (records ++ r ∷ rest) end
  further next_wanted bytes r is left e {more} {rest} {end} w = one_back bytes r is (subst (λ (n : ℕ). Walks owner n r.prev more rest end) (omega (arith, e)) w)
  further (one_back b q of_q on) bytes r is left e w = one_back b q of_q (further on bytes r is left (omega (arith, e)) w)

  -- with other bytes it is over
  pub is_garbled : {count : ℕ} {newest next : Key} {brought : List Brought} {records : List Record} → Walks owner count newest brought records (Wants next) → (bytes : List ℕ) → ((r : Record) → IsRecordOf owner bytes r → ⊥)
      → Walks owner count newest (brought ++ BlockOf next (Ok bytes) ∷ []) records Garbled
  is_garbled next_wanted bytes none = one_garbled bytes none
  is_garbled (one_back b q of_q on) bytes none = one_back b q of_q (is_garbled on bytes none)

  -- without the block too
  pub is_missed : {count : ℕ} {newest next : Key} {brought : List Brought} {records : List Record} → Walks owner count newest brought records (Wants next) → (miss : Miss)
      → Walks owner count newest (brought ++ BlockOf next (Err miss) ∷ []) records (Misses miss)
  is_missed next_wanted miss = one_misses miss
  is_missed (one_back b q of_q on) miss = one_back b q of_q (is_missed on miss)

keeps_more : (records : List Record) (found : Option (List Record)) (r : Record) → Keeps records found → Keeps (records ++ r ∷ []) (kept_with found r)
keeps_more records (Some found) r e = ap (λ (l : List Record). l ++ r ∷ []) e
keeps_more records None r h = (h.0, Contains-append_left records (r ∷ []) h.0 h.1, h.2)

-- the state after a record, as what is kept is
with_record : (owner : PubKey) (count : ℕ) (newest : Key) (brought : List Brought) (records : List Record) (next : Key) → Walks owner count newest brought records (Wants next)
    → (bytes : List ℕ) (r : Record) → IsRecordOf owner bytes r → (left : ℕ) → suc left ≡ count - length records → (found : Option (List Record)) → Keeps (records ++ r ∷ []) found
    → HasCome owner count newest (brought ++ BlockOf next (Ok bytes) ∷ []) left r.prev found
with_record owner count newest brought records next w bytes r is zero e found keeps =
    let few = fewer owner w in
    ends_whole (further owner w bytes r is zero (omega (arith, e, few)) all_came) keeps
with_record owner count newest brought records next w bytes r is (suc left) e found keeps =
    let few = fewer owner w in
    let one_more = length-append records (r ∷ []) in
    still_wants (further owner w bytes r is (suc left) (omega (arith, e, few)) next_wanted) (λ h. cc h) (omega (arith, e, few, one_more)) keeps

module _ (owner : PubKey) (next : Key) (found : Option (List Record)) (bytes : List ℕ) where
  -- the walk as it was, with so many records to come
  abbrev before : ℕ → Walking
  before left = record { owner = owner; left = left; next = next; found = found }

  goes_on : (left : ℕ) (r : Record) → IsRecordOf owner bytes r → (after : Option (List Record)) → ((records : List Record) → Keeps records found → Keeps (records ++ r ∷ []) after)
      → {count : ℕ} {newest : Key} {brought : List Brought} → HasCome owner count newest brought (suc left) next found → HasCome owner count newest (brought ++ BlockOf next (Ok bytes) ∷ []) left r.prev after
  goes_on left r is after keep {count} {newest} {brought} (still_wants {records} w some e k) = with_record owner count newest brought records next w bytes r is left e after (keep records k)

  ends : (left : ℕ) → ((r : Record) → IsRecordOf owner bytes r → ⊥) → (rest : Key) → {count : ℕ} {newest : Key} {brought : List Brought} → HasCome owner count newest brought (suc left) next found
      → HasCome owner count newest (brought ++ BlockOf next (Ok bytes) ∷ []) 0 rest None
  ends left none rest (still_wants w some e k) = ends_garbled (is_garbled owner w bytes none)

  -- the block is a record of the owner's, which is kept
  pub given_good : (left less : ℕ) → left ≡ suc less → (r : Record) → IsRecordOf owner bytes r → HasBeenGiven (before left) (record { owner = owner; left = less; next = r.prev; found = kept_with found r }) bytes
  given_good left less e r is = (refl, λ count newest brought h. goes_on less r is (kept_with found r) (λ records k. keeps_more records found r k) (subst (λ (n : ℕ). HasCome owner count newest brought n next found) e h))

  -- it is one that can be in no chain
  pub given_misnumbered : (left less : ℕ) → left ≡ suc less → (prev : Key) → ((r : Record) × IsRecordOf owner bytes r × (r.prev ≡ prev) × (HasMadeNumber r.owner r.seq r.op → ⊥))
      → HasBeenGiven (before left) (record { owner = owner; left = less; next = prev; found = None }) bytes
  given_misnumbered left less e prev m = (
    refl,
    λ count newest brought h.
        subst (λ (k : Key). HasCome owner count newest (brought ++ BlockOf next (Ok bytes) ∷ []) less k None) m.2
        (goes_on less m.0 m.1 None (λ records k. (m.0, Contains-append_right records (m.0 ∷ []) m.0 (here m.0 []), m.3)) (subst (λ (n : ℕ). HasCome owner count newest brought n next found) e h)),
  )

  -- it is none
  pub given_garbled : (left less : ℕ) → left ≡ suc less → (rest : Key) → ((r : Record) → IsRecordOf owner bytes r → ⊥) → HasBeenGiven (before left) (record { owner = owner; left = 0; next = rest; found = None }) bytes
  given_garbled left less e rest none = (refl, λ count newest brought h. ends less none rest (subst (λ (n : ℕ). HasCome owner count newest brought n next found) e h))
