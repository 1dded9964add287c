-- Fetching the members' logs ends, whatever comes: heads come once of a log, and then at most as many records as they are above what the refresh starts from.
use Rattle.std.proofs.Common.{◌≡◌, ◌≢◌, inl, inr, ⊎_elim, ℕ, zero, suc, ◌+◌, ◌-◌, ◌≤◌, ◌<◌, List, [], ◌∷◌, ◌++◌, length, map, Option, Some, None, Result, Ok, Err, refl, sym, ap, ◌∙◌, subst, arith, append_assoc, Contains}
use Rattle.std.specs.Cmp.{tied_itself}
use Rattle.std.specs.Ordering.{is_lt}
use Rattle.ivy_base.specs.declared.key.Key.{Key}
use Rattle.ivy_base.specs.declared.key.PubKey.{PubKey}
use Rattle.ivy_base.specs.Naming.{head_key_of}
use Rattle.ring_model.proofs.Lists.{nil_cons}
use Rattle.tree_model.proofs.Keys.{keys_total}
use Rattle.log_model.specs.Record.{Record}
use Rattle.log_model.specs.Vector.{Stamp, Vector, seq_of, stamp_at}
use Rattle.log_model.specs.View.{View}
use Rattle.log_model.proofs.Lists.{each, here, in_cons, in_nothing, there}
use Rattle.log_model.specs.declared.chain_fault.ChainFault.{ChainFault}
use Rattle.log_model.specs.Fetched.{Edge}
use Rattle.turn_model.specs.Candidates.{IsTriedBefore}
use Rattle.dht_ids.specs.declared.judge.Judged.{Judged}
use Rattle.dhash_model.specs.declared.miss.Miss.{Miss}
use Rattle.agent_model.specs.Standing.{Chain, Standing}
use Rattle.session_model.specs.Brought.{BlockOf, Brought, Content, Heads, HeadsOf, WantedOfRing, stamp_of}
use Rattle.session_model.specs.Walks.{Gives, GivesNone, InTryingOrder, Lacks, LogEnd, Stops, Tries, WalkEnd, Walks, Wants}
use Rattle.session_model.specs.Walks.Walks.{came as all_came, wants as next_wanted, misses as one_misses, garbled as one_garbled, back as one_back}
use Rattle.session_model.specs.Walks.Tries.{none as none_tried, wants as trial_wants, misses as trial_misses, gives as trial_gives, passes as trial_passes, garbled as trial_garbled}
use Rattle.session_model.specs.Refreshing.{Done, Fetches, FetchesAll, Needs, Note, RefreshEnd, chains_of, end_of_log, floors_own}
use Rattle.session_model.specs.Refreshing.Fetches.{wants_heads, no_heads, of_heads, of_own}
use Rattle.session_model.specs.Refreshing.FetchesAll.{all, stays, goes_on}
use Rattle.session_laws.specs.Going.{IsOfWant}
use Rattle.session_laws.proofs.Going.{AllCome, all_goes_on}

length_append : {A : Type 0} (xs ys : List A) → length (xs ++ ys) ≡ length xs + length ys
length_append [] ys = omega arith
length_append (x ∷ xs) ys = omega (arith, length_append xs ys)

-- ---- so many records

walk_short : {owner : PubKey} {n : ℕ} {key : Key} {brought : List Brought} {records : List Record} {end : WalkEnd} → Walks owner n key brought records end → length brought ≤ n
walk_short all_came = omega arith
walk_short next_wanted = omega arith
walk_short (one_misses miss) = omega arith
walk_short (one_garbled bytes none) = omega arith
walk_short (one_back bytes r is walk) = omega (arith, walk_short walk)

walk_lacks : {owner : PubKey} {n : ℕ} {key wanted : Key} {brought : List Brought} {records : List Record} {end : WalkEnd} → Walks owner n key brought records end → end ≡ Wants wanted → length brought < n
walk_lacks all_came is = absurd (cc is)
walk_lacks next_wanted is = omega arith
walk_lacks (one_misses miss) is = absurd (cc is)
walk_lacks (one_garbled bytes none) is = absurd (cc is)
walk_lacks (one_back bytes r is_record walk) is = omega (arith, walk_lacks walk is)

-- the records that heads may have, above what is there
abbrev weight : ℕ → List Stamp → ℕ
weight start [] = 0
weight start (t ∷ ts) = (t.seq - start) + weight start ts

weight_append : (start : ℕ) (xs ys : List Stamp) → weight start (xs ++ ys) ≡ weight start xs + weight start ys
weight_append start [] ys = omega arith
weight_append start (x ∷ xs) ys = omega (arith, weight_append start xs ys)

tries_short : {view : View} {owner : PubKey} {start floor : Vector} {edge : Option Edge} {ts : List Stamp} {brought : List Brought} {faults : List ChainFault} {end : LogEnd} {want : WantedOfRing}
    → Tries (record { view = view; owner = owner; start = start; floor = floor; edge = edge }) ts brought faults end → end ≡ Lacks want → length brought < weight (seq_of start (head_key_of owner)) ts
tries_short none_tried is = absurd (cc is)
tries_short (trial_wants walk) is = omega (arith, walk_lacks walk refl)
tries_short (trial_misses walk) is = absurd (cc is)
tries_short (trial_gives walk sound onward) is = absurd (cc is)
tries_short (trial_passes {brought = brought} {more = more} walk some why tries) is = omega (arith, walk_short walk, tries_short tries is, length_append brought more)
tries_short (trial_garbled {brought = brought} {more = more} walk tries) is = omega (arith, walk_short walk, tries_short tries is, length_append brought more)

-- ---- heads, each once

-- the others of a list that has this one
record Without (heads : List Stamp) (t : Stamp) : Type 0 where
  rest : List Stamp
  others : (u : Stamp) → Contains heads u → u ≢ t → Contains rest u
  sum : (start : ℕ) → weight start heads ≡ (t.seq - start) + weight start rest

without : (heads : List Stamp) (t : Stamp) → Contains heads t → Without heads t
without [] t h = absurd (in_nothing t h)
without (x ∷ heads) t h = elim (in_cons x heads t h) [
  | inl e ↦ record {
    rest = heads;
    others = λ u i other. ⊎_elim (λ same. absurd (other (sym same ∙ e))) (λ later. later) (in_cons x heads u i);
    sum = λ start. ap (λ (q : Stamp). (q.seq - start) + weight start heads) e;
  }
  | inr later ↦ (let w = without heads t later in record {
    rest = x ∷ w.rest;
    others = λ u i other. ⊎_elim (λ same. subst (Contains (x ∷ w.rest)) same (here x w.rest)) (λ behind. there x w.rest u (w.others u behind other)) (in_cons x heads u i);
    sum = λ start. omega (arith, w.sum start);
  })
]

irreflexive : (t : Stamp) → IsTriedBefore t t → ⊥
irreflexive t (inl less) = omega (arith, less)
irreflexive t (inr f) = let e = ap is_lt (tied_itself keys_total t.name) in cc

-- one that is tried before another is another
not_before_itself : (t u : Stamp) → IsTriedBefore t u → u ≢ t
not_before_itself t u before same = absurd (irreflexive t (subst (IsTriedBefore t) same before))

tried_weigh : (start : ℕ) (tried heads : List Stamp) → InTryingOrder tried → ((t : Stamp) → Contains tried t → Contains heads t) → weight start tried ≤ weight start heads
tried_weigh start [] heads order among = omega arith
tried_weigh start (t ∷ tried) heads order among =
    let w = without heads t (among t (here t tried)) in
    let later = tried_weigh start tried w.rest order.1 (λ u i. w.others u (among u (there t tried u i)) (not_before_itself t u (each (IsTriedBefore t) tried u order.0 i))) in
    omega (arith, w.sum start, later)

-- ---- the members

module _ (s : Standing) (start : Vector) where
  -- However it goes on, the fetch of these logs comes to its end.
  pub data FetchEnds (owners : List PubKey) : List Brought → Type 0 where
    fetch_comes_to : {brought : List Brought} (notes : List Note) (chains : List Chain) (end : RefreshEnd) → FetchesAll (record { standing = s; start = start }) owners brought notes chains end
        → ((want : WantedOfRing) (came : Brought) → end ≡ Needs want → IsOfWant want came → FetchEnds owners (brought ++ came ∷ [])) → FetchEnds owners brought

  -- after a log that is fetched
  behind : (owner : PubKey) (owners : List PubKey) (brought : List Brought) (notes : List Note) (log : LogEnd) → Fetches (record { standing = s; start = start }) owner brought notes log → end_of_log log ≡ None → {more : List Brought} → FetchEnds owners more
      → FetchEnds (owner ∷ owners) (brought ++ more)
  behind owner owners brought notes log fetch goes {more} (fetch_comes_to others chains end fetches next) = fetch_comes_to (notes ++ others) (chains_of owner log ++ chains) end (goes_on fetch goes fetches)
      (λ want came is of. subst (FetchEnds (owner ∷ owners)) (sym (append_assoc brought more (came ∷ []))) (behind owner owners brought notes log fetch goes (next want came is of)))

  lacks_it : (log : LogEnd) (want : WantedOfRing) → end_of_log log ≡ Some (Needs want) → log ≡ Lacks want
  lacks_it (Lacks other) want e = ap Lacks (cc e)
  lacks_it (Stops miss) want e = cc e
  lacks_it (Gives records) want e = cc e
  lacks_it GivesNone want e = cc e

  module _ (owner : PubKey) (owners : List PubKey) (later : (brought : List Brought) (notes : List Note) (chains : List Chain) (end : RefreshEnd) → FetchesAll (record { standing = s; start = start }) owners brought notes chains end → FetchEnds owners brought) where
    -- a bound of what may be brought for the log while something lacks
    record IsBounded (Fits : List Brought → Type 0) (most : ℕ) : Type 0 where
      few : (brought : List Brought) (notes : List Note) (want : WantedOfRing) → Fits brought → Fetches (record { standing = s; start = start }) owner brought notes (Lacks want) → length brought < most
      on : (brought : List Brought) (came : Brought) → Fits brought → Fits (brought ++ came ∷ [])

    module _ {Fits : List Brought → Type 0} {most : ℕ} (bounded : IsBounded Fits most) where
      bounded_end : (n : ℕ) {brought : List Brought} {notes : List Note} {chains : List Chain} {end : RefreshEnd} → most ≤ n + length brought → Fits brought → FetchesAll (record { standing = s; start = start }) (owner ∷ owners) brought notes chains end
          → FetchEnds (owner ∷ owners) brought
      bounded_end n enough fits (goes_on {brought = brought} {notes = notes} {log = log} fetch goes rest) = behind owner owners brought notes log fetch goes (later _ _ _ _ rest)
      bounded_end zero {brought} enough fits (stays {notes = notes} {log = log} {end = end} fetch is) = fetch_comes_to notes [] end (stays fetch is)
          (λ want came e of. absurd (none want (subst (Fetches (record { standing = s; start = start }) owner brought notes) (lacks_it log want (is ∙ ap Some e)) fetch)))
        where
          none : (want : WantedOfRing) → Fetches (record { standing = s; start = start }) owner brought notes (Lacks want) → ⊥
          none want lacking = omega (arith, enough, bounded.few brought notes want fits lacking)
      bounded_end (suc n) {brought} enough fits (stays {notes = notes} {log = log} {end = end} fetch is) = fetch_comes_to notes [] end (stays fetch is)
          (λ want came e of. let then_so = all_goes_on s start want came of (stays {owners = owners} fetch is) e in
          bounded_end n (omega (arith, enough, length_append brought (came ∷ []))) (bounded.on brought came fits) then_so.fetches)

    -- the floor's own record, where it is to be fetched
    abbrev last : List Stamp
    last = floors_own (stamp_at s.floor (head_key_of owner)) (seq_of start (head_key_of owner))

    abbrev base : ℕ
    base = seq_of start (head_key_of owner)

    -- the own log has no heads
    own_bounded : owner ≡ s.own → IsBounded (λ brought. Unit {0}) (weight base last)
    own_bounded own = record { few = λ brought notes want fits fetch. few fetch refl; on = λ brought came fits. tt }
      where
        few : {brought : List Brought} {notes : List Note} {end : LogEnd} {want : WantedOfRing} → Fetches (record { standing = s; start = start }) owner brought notes end → end ≡ Lacks want → length brought < weight base last
        few (wants_heads other) is = absurd (other own)
        few (no_heads miss other) is = absurd (other own)
        few (of_heads heads tried brought faults end other are tries) is = absurd (other own)
        few (of_own brought faults end mine tries) is = tries_short tries is

    same_heads : (owner other : PubKey) (a b : List Judged) (xs ys : List Brought) → HeadsOf owner (Ok a) ∷ xs ≡ HeadsOf other (Ok b) ∷ ys → (a ≡ b) × (xs ≡ ys)
    same_heads owner other a b xs ys e = (cc e, cc e)

    -- what came first of it
    abbrev BeginsWith : Result (List Judged) Miss → List Brought → Type 0
    BeginsWith got brought = (rest : List Brought) × (brought ≡ HeadsOf owner got ∷ rest)

    begins_on : (got : Result (List Judged) Miss) {brought : List Brought} (came : Brought) → BeginsWith got brought → BeginsWith got (brought ++ came ∷ [])
    begins_on got came fits = (fits.0 ++ came ∷ [], ap (λ (l : List Brought). l ++ came ∷ []) fits.1)

    came_or_not : (a : List Judged) (miss : Miss) (xs ys : List Brought) → HeadsOf owner (Ok a) ∷ xs ≡ HeadsOf owner (Err miss) ∷ ys → ⊥
    came_or_not a miss xs ys e = cc e

    missed_bounded : (owner ≡ s.own → ⊥) → (miss : Miss) → IsBounded (BeginsWith (Err miss)) 0
    missed_bounded other miss = record { few = λ brought notes want fits fetch. absurd (none fits fetch refl); on = λ brought came fits. begins_on (Err miss) came fits }
      where
        none : {brought : List Brought} {notes : List Note} {end : LogEnd} {want : WantedOfRing} → BeginsWith (Err miss) brought → Fetches (record { standing = s; start = start }) owner brought notes end → end ≡ Lacks want → ⊥
        none fits (wants_heads not) is = nil_cons (HeadsOf owner (Err miss)) fits.0 fits.1
        none fits (no_heads lost not) is = cc is
        none fits (of_heads got tried brought faults end not are tries) is = came_or_not got miss brought fits.0 fits.1
        none fits (of_own brought faults end own tries) is = other own

    -- the heads bound the records
    heads_bounded : (owner ≡ s.own → ⊥) → (heads : List Judged) → IsBounded (BeginsWith (Ok heads)) (suc (weight base (map stamp_of heads) + weight base last))
    heads_bounded other heads = record { few = λ brought notes want fits fetch. few fits fetch refl; on = λ brought came fits. begins_on (Ok heads) came fits }
      where
        few : {brought : List Brought} {notes : List Note} {end : LogEnd} {want : WantedOfRing} → BeginsWith (Ok heads) brought → Fetches (record { standing = s; start = start }) owner brought notes end → end ≡ Lacks want
            → length brought < suc (weight base (map stamp_of heads) + weight base last)
        few fits (wants_heads not) is = absurd (nil_cons (HeadsOf owner (Ok heads)) fits.0 fits.1)
        few fits (no_heads miss not) is = absurd (cc is)
        few fits (of_heads got tried brought faults end not are tries) is =
            let same = same_heads owner owner got heads brought fits.0 fits.1 in
            let most = tried_weigh base tried (map stamp_of heads) are.order (λ t i. subst (λ (l : List Judged). Contains (map stamp_of l) t) same.0 ((are.each t).0 i).0) in
            omega (arith, tries_short tries is, most, weight_append base tried last)
        few fits (of_own brought faults end own tries) is = absurd (other own)

    first_came : (owner ≡ s.own → ⊥) → (got : Result (List Judged) Miss) → AllCome s start (owner ∷ owners) (HeadsOf owner got ∷ []) → FetchEnds (owner ∷ owners) (HeadsOf owner got ∷ [])
    first_came other (Err miss) then_so = bounded_end (missed_bounded other miss) 0 (omega arith) ([], refl) then_so.fetches
    first_came other (Ok heads) then_so = bounded_end (heads_bounded other heads) (suc (weight base (map stamp_of heads) + weight base last)) (omega arith) ([], refl) then_so.fetches

    same_owner : (a b : PubKey) → Lacks (Heads a) ≡ Lacks (Heads b) → a ≡ b
    same_owner a b e = cc e

    after_heads : (owner ≡ s.own → ⊥) → (want : WantedOfRing) (came : Brought) → IsOfWant want came → Lacks (Heads owner) ≡ Lacks want → AllCome s start (owner ∷ owners) (came ∷ []) → FetchEnds (owner ∷ owners) (came ∷ [])
    after_heads other (Heads of) (HeadsOf log got) same is then_so =
        let one : log ≡ owner = same ∙ sym (same_owner owner of is) in
        subst (λ (o : PubKey). FetchEnds (owner ∷ owners) (HeadsOf o got ∷ [])) (sym one) (first_came other got (subst (λ (o : PubKey). AllCome s start (owner ∷ owners) (HeadsOf o got ∷ [])) one then_so))
    after_heads other (Heads of) (BlockOf name came) same is then_so = absurd same
    after_heads other (Content key) came same is then_so = absurd (cc is)

    stays_end : {brought : List Brought} {notes : List Note} {log : LogEnd} {end : RefreshEnd} → Fetches (record { standing = s; start = start }) owner brought notes log → end_of_log log ≡ Some end → FetchEnds (owner ∷ owners) brought
    stays_end {end = end} (wants_heads other) is = fetch_comes_to [] [] end (stays (wants_heads other) is)
        (λ want came e of. after_heads other want came of (lacks_it (Lacks (Heads owner)) want (is ∙ ap Some e)) (all_goes_on s start want came of (stays {owners = owners} (wants_heads other) is) e))
    stays_end (no_heads miss other) is = bounded_end (missed_bounded other miss) 0 (omega arith) ([], refl) (stays (no_heads miss other) is)
    stays_end (of_heads heads tried brought faults end other are tries) is =
        bounded_end (heads_bounded other heads) (suc (weight base (map stamp_of heads) + weight base last)) (omega arith) (brought, refl) (stays (of_heads heads tried brought faults end other are tries) is)
    stays_end (of_own brought faults end own tries) is = bounded_end (own_bounded own) (weight base last) (omega arith) tt (stays (of_own brought faults end own tries) is)

    log_ends : {brought : List Brought} {notes : List Note} {chains : List Chain} {end : RefreshEnd} → FetchesAll (record { standing = s; start = start }) (owner ∷ owners) brought notes chains end → FetchEnds (owner ∷ owners) brought
    log_ends (stays fetch is) = stays_end fetch is
    log_ends (goes_on {brought = brought} {notes = notes} {log = log} fetch goes rest) = behind owner owners brought notes log fetch goes (later _ _ _ _ rest)

  pub fetch_ends : (owners : List PubKey) {brought : List Brought} {notes : List Note} {chains : List Chain} {end : RefreshEnd} → FetchesAll (record { standing = s; start = start }) owners brought notes chains end → FetchEnds owners brought
  fetch_ends [] all = fetch_comes_to [] [] Done all (λ want came e of. cc e)
  fetch_ends (owner ∷ owners) fetches = log_ends owner owners (λ brought notes chains end rest. fetch_ends owners rest) fetches
