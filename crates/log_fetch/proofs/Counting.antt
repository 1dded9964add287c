-- How many heads and records are got: no more than the definitions leave.
use Rattle.std.specs.Prelude.{◌≢◌, nat_lt, sum_by, cond, not}
use Rattle.std.specs.List.{count_by}
use Rattle.std.specs.Str.{bytes_eq}
use Rattle.std.proofs.Common.{◌≡◌, Bool, true, false, if◌then◌else◌, ℕ, zero, suc, ◌+◌, ◌-◌, ◌≤◌, List, [], ◌∷◌, ◌++◌, length, map, take, Option, Some, None, Ok, Err, refl, sym, ap, ◌∙◌, subst, arith}
use Rattle.std.proofs.lemmas.List.{length-append, length-map}
use Rattle.std.proofs.lemmas.List.Sums.{sum_by-cons, sum_by-take-le, sum_by_push, count_by-le-length}
use Rattle.std.proofs.lemmas.Slice.Eq.{bytes_eq-Decides}
use Rattle.ivy_base.specs.declared.key.Key.{Key}
use Rattle.ivy_base.specs.declared.key.PubKey.{PubKey}
use Rattle.ivy_base.specs.Naming.{head_key_of}
use Rattle.log_model.specs.Vector.{Stamp, reach, seq_of, stamp_at}
use Rattle.log_model.specs.declared.chain_fault.ChainFault.{ChainFault}
use Rattle.log_model.specs.declared.chain_fault.ChainFault.TheVariants.{Bad}
use Rattle.dht_ids.specs.declared.ask.Heard.{Heard}
use Rattle.agent_model.specs.Standing as agent
use Rattle.session_model.specs.Brought.{Brought, HeadsOf, BlockOf, Part, brought_in}
use Rattle.session_model.specs.Refreshing as session
use Rattle.session_model.specs.Refreshing.{FetchBase, Fetches, FetchesAll, RefreshEnd, Needs, FailsBy, Done, end_of_log, floors_head, floors_own}
use Rattle.session_model.specs.Refreshing.Fetches.{wants_heads, no_heads, of_heads, of_own}
use Rattle.session_model.specs.Refreshing.FetchesAll.{all, stays, goes_on}
use Rattle.session_model.specs.Walks.{LogEnd, Lacks, Stops, Gives, GivesNone, Tries, Trial, WalkEnd, Wants, Misses, Garbled, Came, Walks}
use Rattle.session_model.specs.Walks.Walks.{came as all_came, wants as next_wanted, misses as next_missed, garbled as next_garbled, back as one_back}
use Rattle.session_model.specs.Walks.Tries.{none as none_left, wants as block_wanted, misses as block_missed, gives as is_given, passes as is_passed, garbled as is_garbled}
use Rattle.log_fetch.specs.Counting.{GetsAreFew, above_held, all_tried_above, came_of_get, floor_above, gets_of, held_of, most_gets, other_members, to_come, tried_above, tries}

-- ---- one head

abbrev wants : WalkEnd → ℕ
wants (Wants key) = 1
wants (Misses miss) = 0
wants Garbled = 0
wants Came = 0

walk_is_short : {owner : PubKey} {n : ℕ} {key : Key} {brought : List Brought} {records : _} {end : WalkEnd} → Walks owner n key brought records end → length brought + wants end ≤ n
walk_is_short all_came = omega arith
walk_is_short next_wanted = omega arith
walk_is_short (next_missed miss) = omega arith
walk_is_short (next_garbled bytes is_none) = omega arith
walk_is_short (one_back bytes r is more) = let less = walk_is_short more in omega (arith, less)

-- ---- the heads of one log

abbrev lacks : LogEnd → ℕ
lacks (Lacks want) = 1
lacks (Stops miss) = 0
lacks (Gives records) = 0
lacks GivesNone = 0

above_more : (held : ℕ) (t : Stamp) (ts : List Stamp) → above_held held (t ∷ ts) ≡ t.seq - held + above_held held ts
above_more held t ts = sum_by-cons (λ (x : Stamp). x.seq - held) t ts

above_one : (held : ℕ) (t : Stamp) → above_held held (t ∷ []) ≡ t.seq - held
above_one held t = let e = above_more held t [] in omega (arith, e)

-- one head that was passed over is one more that was tried
tries_more : (fault : ChainFault) (faults : List ChainFault) (end : LogEnd) → tries (fault ∷ faults) end ≡ suc (tries faults end)
tries_more fault faults (Lacks want) = omega arith
tries_more fault faults (Stops miss) = omega arith
tries_more fault faults (Gives records) = omega arith
tries_more fault faults GivesNone = omega arith

module _ (trial : Trial) where
  abbrev held_in : ℕ
  held_in = seq_of trial.start (head_key_of trial.owner)

  passed_over : (t : Stamp) (ts : List Stamp) (brought more : List Brought) (fault : ChainFault) (others : List ChainFault) (end : LogEnd) → length brought ≤ t.seq - held_in → length more + lacks end ≤ above_held held_in (take (tries others end) ts)
      → length (brought ++ more) + lacks end ≤ above_held held_in (take (tries (fault ∷ others) end) (t ∷ ts))
  passed_over t ts brought more fault others end walked rest =
      let both = length-append brought more in
      let one = above_more held_in t (take (tries others end) ts) in
      let count = ap (λ (n : ℕ). above_held held_in (take n (t ∷ ts))) (tries_more fault others end) in omega (arith, walked, rest, both, one, count)

  tries_are_few : {ts : List Stamp} {brought : List Brought} {faults : List ChainFault} {end : LogEnd} → Tries trial ts brought faults end → length brought + lacks end ≤ above_held held_in (take (tries faults end) ts)
  tries_are_few none_left = omega arith
  tries_are_few (block_wanted {t = t} walk) = let less = walk_is_short walk in let one = above_one held_in t in omega (arith, less, one)
  tries_are_few (block_missed {t = t} walk) = let less = walk_is_short walk in let one = above_one held_in t in omega (arith, less, one)
  tries_are_few (is_given {t = t} walk sound onward) = let less = walk_is_short walk in let one = above_one held_in t in omega (arith, less, one)
  tries_are_few (is_passed {t = t} {ts = ts} {brought = brought} {more = more} {fault = fault} {others = others} {end = end} walk real fails rest) =
      let less = walk_is_short walk in passed_over t ts brought more fault others end (omega (arith, less)) (tries_are_few rest)
  tries_are_few (is_garbled {t = t} {ts = ts} {brought = brought} {more = more} {others = others} {end = end} walk rest) =
      let less = walk_is_short walk in passed_over t ts brought more Bad others end (omega (arith, less)) (tries_are_few rest)

-- ---- the floor's own record after the heads

take_both : (held n : ℕ) (heads own : List Stamp) → above_held held (take n (heads ++ own)) ≤ above_held held (take n heads) + above_held held own
take_both held zero heads own = omega arith
take_both held (suc n) [] own = let less = sum_by-take-le (λ (x : Stamp). x.seq - held) own (suc n) in omega (arith, less)
take_both held (suc n) (t ∷ heads) own =
    let less = take_both held n heads own in
    let one = above_more held t (take n (heads ++ own)) in
    let same = above_more held t (take n heads) in omega (arith, less, one, same)

own_above : (held : ℕ) (floor : Option Stamp) → above_held held (floors_own floor held) ≤ reach floor - held
own_above held None = omega arith
own_above held (Some t) = by (nat_lt held t.seq)
  where
    by : (b : Bool) → above_held held (if b then t ∷ [] else []) ≤ t.seq - held
    by true = let one = above_one held t in omega (arith, one)
    by false = omega arith

-- ---- one log

abbrev one_of : PubKey → PubKey → ℕ
one_of own owner = cond (not (bytes_eq owner.0 own.0)) 1 0

other_counts : (own owner : PubKey) → owner ≢ own → ◌≡◌ {A = ℕ} (one_of own owner) 1
other_counts own owner other = by (bytes_eq owner.0 own.0) refl
  where
    by : (b : Bool) → bytes_eq owner.0 own.0 ≡ b → ◌≡◌ {A = ℕ} (cond (not b) 1 0) 1
    by true e = absurd (other (ap (λ (bytes : List ℕ). record { 0 = bytes }) ((bytes_eq-Decides owner.0 own.0).0 e)))
    by false e = refl

module _ (over : FetchBase) where
  log_is_few : (owner : PubKey) {brought : List Brought} {notes : List session.Note} {log : LogEnd} (fetches : Fetches over owner brought notes log)
      → length brought + lacks log ≤ one_of over.standing.own owner + floor_above over owner + tried_above over owner fetches
  log_is_few owner (wants_heads other) = let one = other_counts over.standing.own owner other in omega (arith, one)
  log_is_few owner (no_heads miss other) = let one = other_counts over.standing.own owner other in omega (arith, one)
  log_is_few owner (of_heads heads tried brought faults log other are tries_are) =
      let one = other_counts over.standing.own owner other in
      let few = tries_are_few _ tries_are in
      let both = take_both (held_of over owner) (tries faults log) tried (floors_head over owner) in
      let own = own_above (held_of over owner) (stamp_at over.standing.floor (head_key_of owner)) in omega (arith, one, few, both, own)
  log_is_few owner (of_own brought faults log is tries_are) =
      let few = tries_are_few _ tries_are in
      let all_of = sum_by-take-le (λ (x : Stamp). x.seq - held_of over owner) (floors_head over owner) (tries faults log) in
      let own = own_above (held_of over owner) (stamp_at over.standing.floor (head_key_of owner)) in omega (arith, few, all_of, own)

  -- ---- all logs

  lacks_so : (log : LogEnd) (end : RefreshEnd) → end_of_log log ≡ Some end → to_come end ≤ lacks log
  lacks_so (Lacks want) (Needs other) e = omega arith
  lacks_so (Lacks want) (FailsBy miss) e = omega arith
  lacks_so (Lacks want) Done e = omega arith
  lacks_so (Stops miss) (Needs other) e = absurd (cc e)
  lacks_so (Stops miss) (FailsBy other) e = omega arith
  lacks_so (Stops miss) Done e = omega arith
  lacks_so (Gives records) end e = absurd (cc e)
  lacks_so GivesNone end e = absurd (cc e)

  others_more : (owner : PubKey) (owners : List PubKey) → other_members over.standing.own (owner ∷ owners) ≡ one_of over.standing.own owner + other_members over.standing.own owners
  others_more owner owners = sum_by-cons (λ (m : PubKey). cond (not (bytes_eq m.0 over.standing.own.0)) 1 0) owner owners

  all_are_few : (owners : List PubKey) {brought : List Brought} {notes : List session.Note} {chains : List agent.Chain} {end : RefreshEnd} (fetches : FetchesAll over owners brought notes chains end)
      → length brought + to_come end ≤ most_gets over owners fetches
  all_are_few [] all = omega arith
  all_are_few (owner ∷ owners) (stays {log = log} {end = end} fetches is) =
      let few = log_is_few owner fetches in
      let lack = lacks_so log end is in
      let members = others_more owner owners in
      let floors = sum_by-cons (floor_above over) owner owners in omega (arith, few, lack, members, floors)
  all_are_few (owner ∷ owners) (goes_on {brought = brought} {more = more} fetches is rest) =
      let few = log_is_few owner fetches in
      let more_are_few = all_are_few owners rest in
      let both = length-append brought more in
      let members = others_more owner owners in
      let floors = sum_by-cons (floor_above over) owner owners in omega (arith, few, more_are_few, both, members, floors)

pub gets_are_few : GetsAreFew
gets_are_few over owners parts notes chains end fetches =
    let few = all_are_few over owners fetches in
    let got = count_by-le-length (λ (p : Part). came_of_get p.brought p.asks) parts in
    let same = length-map parts (λ (p : Part). p.brought) in omega (arith, few, got, same)
