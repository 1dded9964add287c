-- The front of a set, or of what is held, with what a turn writes after it: that front, with the own log's newest record.
use Rattle.std.proofs.Common.{◌≡◌, ℕ, ◌+◌, ◌<◌, Bool, true, false, cond, not, List, [], ◌∷◌, ◌++◌, length, map, Option, Some, None, refl, sym, ap, ◌∙◌, subst, arith}
use Rattle.std.specs.Prelude.{fold}
use Rattle.std.specs.Cmp.{eq_by_cmp_equiv, ranked}
use Rattle.std.specs.List.{last_or}
use Rattle.std.specs.Option.{option_map_or}
use Rattle.std.specs.Ordering.{eq_by_cmp, is_lt, is_eq, nat_cmp}
use Rattle.std.specs.declared.cmp.Ordering.{Ordering}
use Rattle.std.specs.declared.cmp.Ordering.TheVariants.{Less, Equal, Greater}
use Rattle.std.specs.FinMap.Entries.{below_all, by_order, find-put, is_sorted, is_sorted-put, put, same_entries}
use Rattle.std.proofs.lemmas.List.{map-append}
use Rattle.std.proofs.lemmas.List.Sums.{fold-append}
use Rattle.ivy_base.specs.declared.key.Key.{Key}
use Rattle.ivy_base.specs.declared.key.PubKey.{PubKey}
use Rattle.ivy_base.specs.declared.operation.Moment.{Moment}
use Rattle.ivy_base.specs.declared.operation.Op.{Op}
use Rattle.ivy_base.specs.Naming.{key_cmp, head_key_of}
use Rattle.tree_model.proofs.Keys.{keys_total, exact_keys, same_key_is, same_key_itself}
use Rattle.tree_model.proofs.Sound.{both_true, from_test}
use Rattle.log_model.specs.Record.{Record}
use Rattle.log_model.specs.Rank.{own_entry, full_vector, front}
use Rattle.log_model.specs.Vector.{Stamp, Vector, stamp_at, seq_of, reach, later, later_or, with_entry, join, without_log}
use Rattle.log_model.proofs.Vectors.{stamp_at-with_entry}
use Rattle.log_model.proofs.Weights.{Sorted, sorted_with_entry, sorted_front}
use Rattle.log_model.specs.Spelling.{new_record, no_name}
use Rattle.turn_laws.proofs.Starts.{stamp_at-without_log, sorted_without_log}
use Rattle.turn_model.specs.Turn.{linked, own_seq, own_name}
use Rattle.agent_model.specs.Agent.{joined}
use Rattle.ivy_agent.specs.Newest.{newest_stamp, with_newest}
use Rattle.ivy_agent.specs.Appended.{heading, AppendedFront, HeldFront, NewestIsLast, NewestIsReached, written_over}

-- ---- a join, log by log

less_is_not_equal : (o : Ordering) → is_lt o ≡ true → is_eq o ≡ false
less_is_not_equal Less h = refl
less_is_not_equal Equal h = cc
less_is_not_equal Greater h = cc

-- a log below all of a vector isn't in it
absent : (k : Key) (v : Vector) → below_all key_cmp k v ≡ true → stamp_at v k ≡ None
absent k [] h = refl
absent k (d ∷ v) h =
    let parts = both_true (is_lt (key_cmp k d.0)) (below_all key_cmp k v) h in
    ap (λ b. cond b (Some d.1) (stamp_at v k)) (less_is_not_equal (key_cmp k d.0) parts.0) ∙ absent k v parts.1

-- the later of two stamps, where there are two
abbrev later_of : Option Stamp → Option Stamp → Option Stamp
later_of o None = o
later_of o (Some t) = Some (later_or o t)

stamp_at-join : (w v : Vector) (k : Key) → Sorted w → stamp_at (join v w) k ≡ later_of (stamp_at v k) (stamp_at w k)
stamp_at-join [] v k h = refl
stamp_at-join (e ∷ w) v k h =
    let parts = both_true (below_all key_cmp e.0 w) (is_sorted key_cmp w) h in
    stamp_at-join w (with_entry v e) k parts.1
    ∙ ap (λ o. later_of o (stamp_at w k)) (stamp_at-with_entry v e k)
    ∙ by (eq_by_cmp key_cmp k e.0) refl parts.0
  where
    by : (b : Bool) → eq_by_cmp key_cmp k e.0 ≡ b → below_all key_cmp e.0 w ≡ true
        → later_of (cond b (Some (later_or (stamp_at v e.0) e.1)) (stamp_at v k)) (stamp_at w k) ≡ later_of (stamp_at v k) (cond b (Some e.1) (stamp_at w k))
    by true tied below =
        let keys : k ≡ e.0 = same_key_is k e.0 tied in
        let none : stamp_at w k ≡ None = subst (λ (x : Key). stamp_at w x ≡ None) (sym keys) (absent e.0 w below) in
        ap (λ o. later_of (Some (later_or (stamp_at v e.0) e.1)) o) none ∙ ap (λ (x : Key). Some (later_or (stamp_at v x) e.1)) (sym keys)
    by false apart below = refl

sorted_join : (w v : Vector) → Sorted v → Sorted (join v w)
sorted_join [] v h = h
sorted_join (e ∷ w) v h = sorted_join w (with_entry v e) (sorted_with_entry v e h)

-- ---- the later of two stamps

one_choice : (o : Ordering) (b : Bool) (s : Stamp) → by_order o s (cond b s s) s ≡ s
one_choice Less b s = refl
one_choice Equal true s = refl
one_choice Equal false s = refl
one_choice Greater b s = refl

later_itself : (s : Stamp) → later s s ≡ s
later_itself s = one_choice (nat_cmp s.seq s.seq) (is_lt (key_cmp s.name s.name)) s

later_next : (o : Option Stamp) (t : Stamp) → reach o < t.seq → later_or o t ≡ t
later_next None t h = refl
later_next (Some s) t h = by (nat_cmp s.seq t.seq) refl
  where
    by : (o : Ordering) → o ≡ nat_cmp s.seq t.seq → by_order o t (cond (is_lt (key_cmp t.name s.name)) t s) s ≡ t
    by Less e = refl
    by Equal e = let same : s.seq ≡ t.seq = ranked s.seq t.seq Equal e in absurd (omega (arith, same, h))
    by Greater e = let above : t.seq < s.seq = ranked s.seq t.seq Greater e in absurd (omega (arith, above, h))

-- ---- records over a front

module _ (own : PubKey) (f : Vector) (sorted : Sorted f) where
  abbrev log : Key
  log = head_key_of own

  abbrev cited : Vector
  cited = without_log log f

  -- v goes as far as f in the other logs, and to the stamp in the own one
  abbrev IsOver : Vector → Option Stamp → Type 0
  IsOver v o = Sorted v × ((k : Key) → stamp_at v k ≡ cond (eq_by_cmp key_cmp k log) o (stamp_at f k))

  is_over_itself : IsOver f (stamp_at f log)
  is_over_itself = (sorted, λ k. by k (eq_by_cmp key_cmp k log) refl)
    where
      by : (k : Key) (b : Bool) → eq_by_cmp key_cmp k log ≡ b → stamp_at f k ≡ cond b (stamp_at f log) (stamp_at f k)
      by k true tied = ap (λ (x : Key). stamp_at f x) (same_key_is k log tied)
      by k false apart = refl

  cited_at : (s : Stamp) (k : Key) → stamp_at (with_entry cited (log, s)) k ≡ cond (eq_by_cmp key_cmp k log) (Some s) (stamp_at f k)
  cited_at s k = stamp_at-with_entry cited (log, s) k ∙ by (eq_by_cmp key_cmp k log) refl
    where
      by : (b : Bool) → eq_by_cmp key_cmp k log ≡ b → cond b (Some (later_or (stamp_at cited log) s)) (stamp_at cited k) ≡ cond b (Some s) (stamp_at f k)
      by true tied =
          let none : stamp_at cited log ≡ None = stamp_at-without_log f log log ∙ ap (λ b. cond (not b) (stamp_at f log) None) (same_key_itself log) in
          ap (λ (o : Option Stamp). Some (later_or o s)) none
      by false apart = stamp_at-without_log f log k ∙ ap (λ b. cond (not b) (stamp_at f k) None) ((eq_by_cmp_equiv keys_total).symm log k ∙ apart)

  one_more : (v : Vector) (o : Option Stamp) (s : Stamp) → reach o < s.seq → IsOver v o → IsOver (join v (with_entry cited (log, s))) (Some s)
  one_more v o s after over =
      let full : Sorted (with_entry cited (log, s)) = sorted_with_entry cited (log, s) (sorted_without_log log f sorted) in (
        sorted_join (with_entry cited (log, s)) v over.0,
        λ k. stamp_at-join (with_entry cited (log, s)) v k full ∙ (λ i. later_of (over.1 k i) (cited_at s k i)) ∙ by (eq_by_cmp key_cmp k log) (stamp_at f k),
      )
    where
      by : (b : Bool) (p : Option Stamp) → later_of (cond b o p) (cond b (Some s) p) ≡ cond b (Some s) p
      by true p = ap (λ (t : Stamp). Some t) (later_next o s after)
      by false None = refl
      by false (Some t) = ap (λ (x : Stamp). Some x) (later_itself t)

  -- the newest of the records, or else the stamp
  abbrev newest_or : Option Stamp → List Record → Option Stamp
  newest_or o rs = last_or o (map (λ r. (own_entry r).1) rs)

  all_more : (v : Vector) (o : Option Stamp) (now : Moment) (n : ℕ) (prev : Key) (ops : List Op) → reach o < n → IsOver v o
      → IsOver (fold join v (map full_vector (linked (heading own cited now) n prev ops))) (newest_or o (linked (heading own cited now) n prev ops))
  all_more v o now n prev [] after over = over
  all_more v o now n prev (op ∷ ops) after over =
      let r : Record = new_record (heading own cited now) n prev op in
      all_more (join v (full_vector r)) (Some (own_entry r).1) now (n + 1) r.name ops (omega arith) (one_more v o (own_entry r).1 after over)

  over_is : (v : Vector) (s : Stamp) → IsOver v (Some s) → v ≡ put key_cmp log s f
  over_is v s over =
      same_entries key_cmp keys_total exact_keys v (put key_cmp log s f) (from_test _ over.0) (is_sorted-put key_cmp keys_total log s f (from_test _ sorted))
      (λ k. over.1 k ∙ sym (find-put key_cmp keys_total k log s f))

  -- after a stamp there is a newest one
  some_newest : (s : Stamp) (rs : List Record) → (t : Stamp) × (newest_or (Some s) rs ≡ Some t)
  some_newest s [] = (s, refl)
  some_newest s (r ∷ rs) = some_newest (own_entry r).1 rs

  pub joined_front : (now : Moment) (n : ℕ) (prev : Key) (ops : List Op) → reach (stamp_at f log) < n
      → fold join f (map full_vector (linked (heading own cited now) n prev ops)) ≡ with_newest own (newest_stamp (linked (heading own cited now) n prev ops)) f
  joined_front now n prev [] after = refl
  joined_front now n prev (op ∷ ops) after =
      let r : Record = new_record (heading own cited now) n prev op in
      let rs : List Record = linked (heading own cited now) (n + 1) r.name ops in
      let newest = some_newest (own_entry r).1 rs in
      let over = all_more f (stamp_at f log) now n prev (op ∷ ops) after is_over_itself in
      over_is (fold join f (map full_vector (r ∷ rs))) newest.0
      (subst (λ (o : Option Stamp). IsOver (fold join f (map full_vector (r ∷ rs))) o) newest.1 over)
      ∙ ap (λ (o : Option Stamp). with_newest own o f) (sym newest.1)

-- the front of a set with what a turn appends
pub appended_front : AppendedFront
appended_front own now s ops =
    let more : List Record = written_over own now (front s) ops in
    ap (λ (vs : List Vector). fold join [] vs) (map-append full_vector s more) ∙ fold-append join [] (map full_vector s) (map full_vector more)
    ∙ joined_front own (front s) (sorted_front s) now (own_seq own s + 1) (own_name own s) ops (omega arith)

-- the front of what is held with what a turn writes
pub held_front : HeldFront
held_front own now h ops sorted =
    let log : Key = head_key_of own in
    let more : List Record = written_over own now (joined h) ops in
    ap (λ (vs : List Vector). fold join h.basis.front vs) (map-append full_vector h.held more) ∙ fold-append join h.basis.front (map full_vector h.held) (map full_vector more)
    ∙ joined_front own (joined h) sorted now (seq_of (joined h) log + 1) (option_map_or (λ t. t.name) (stamp_at (joined h) log) no_name) ops (omega arith)

-- ---- the newest one

some_is : (s t : Stamp) → Some s ≡ Some t → s ≡ t
some_is s t e = cc e

last_from : (r : Record) (rs : List Record) (t : Stamp) → last_or (Some (own_entry r).1) (map (λ x. (own_entry x).1) rs) ≡ Some t
    → (before : List Record) × (last : Record) × (r ∷ rs ≡ before ++ last ∷ []) × ((own_entry last).1 ≡ t)
last_from r [] t e = ([], r, refl, some_is (own_entry r).1 t e)
last_from r (q ∷ rs) t e =
    let more = last_from q rs t e in
    (r ∷ more.0, more.1, ap (λ (l : List Record). r ∷ l) more.2, more.3)

pub newest_is_last : NewestIsLast
newest_is_last [] t e = absurd (cc e)
newest_is_last (r ∷ rs) t e = last_from r rs t e

reached_from : (own : PubKey) (v : Vector) (now : Moment) (s t : Stamp) (n : ℕ) (prev : Key) (ops : List Op) → s.seq + 1 ≡ n
    → last_or (Some s) (map (λ x. (own_entry x).1) (linked (heading own v now) n prev ops)) ≡ Some t → t.seq ≡ s.seq + length ops
reached_from own v now s t n prev [] next e =
    let same : s.seq ≡ t.seq = ap (λ (x : Stamp). x.seq) (some_is s t e) in omega (arith, same)
reached_from own v now s t n prev (op ∷ ops) next e =
    let r : Record = new_record (heading own v now) n prev op in
    let more = reached_from own v now (own_entry r).1 t (n + 1) r.name ops refl e in
    omega (arith, next, more)

pub newest_is_reached : NewestIsReached
newest_is_reached own now f [] t e = absurd (cc e)
newest_is_reached own now f (op ∷ ops) t e =
    let log : Key = head_key_of own in
    let n : ℕ = seq_of f log + 1 in
    let r : Record = new_record (heading own (without_log log f) now) n (option_map_or (λ x. x.name) (stamp_at f log) no_name) op in
    let more = reached_from own (without_log log f) now (own_entry r).1 t (n + 1) r.name ops refl e in
    (omega (arith, more), omega arith)
