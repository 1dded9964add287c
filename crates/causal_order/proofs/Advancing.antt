-- What a step makes of what is kept: the state of the pass goes on.
use Rattle.std.proofs.Common.{◌≡◌, ◌⊎◌, inl, inr, ⊎_elim, ℕ, suc, ◌+◌, ◌<◌, Bool, true, false, List, [], ◌∷◌, ◌++◌, length, get_or, map, refl, sym, ap, ◌∙◌, subst, arith, Option, Some, None, Contains, append_assoc}
use Rattle.std.specs.Prelude.{option_map, IfSome}
use Rattle.std.specs.List.{All}
use Rattle.std.specs.Ordering.{eq_by_cmp, is_lt, ordering_reverse}
use Rattle.std.specs.declared.cmp.Ordering.{Ordering}
use Rattle.std.specs.declared.cmp.Ordering.TheVariants.{Less, Equal, Greater}
use Rattle.std.proofs.lemmas.List.{append-nil}
use Rattle.std.proofs.lemmas.List.Elements.{Contains-append_left, Contains-append_right, Contains-append_cases, All-contains, All-from_recursion, All-set}
use Rattle.ivy_base.specs.declared.key.Key.{Key}
use Rattle.ivy_base.specs.declared.key.PubKey.{PubKey}
use Rattle.ivy_base.specs.Naming.{owner_cmp, head_key_of}
use Rattle.log_model.specs.View.{View}
use Rattle.log_model.specs.Vector.{Vector, Stamp, stamp_at, seq_of}
use Rattle.log_model.specs.Record.{Record}
use Rattle.log_model.specs.Rank as log
use Rattle.log_model.specs.Rank.{rank, rank_cmp, record_cmp}
use Rattle.log_model.specs.Closed.{log_of, IsAscending}
use Rattle.log_model.proofs.Lists.{here, there, in_cons, each_from, each}
use Rattle.log_model.proofs.Opening.{same_owner}
use Rattle.log_model.proofs.Owners.{records_total}
use Rattle.log_model.proofs.Part.{log_push}
use Rattle.log_model.proofs.Sets.{before_trans}
use Rattle.version_vectors.specs.declared.rank.Rank as kept_rank
use Rattle.version_vectors.specs.Ranks.{rank_of}
use Rattle.log_records.specs.declared.record.Record as kept
use Rattle.log_records.specs.Records.{record_of}
use Rattle.log_records.specs.Records.{records_of}
use Rattle.causal_order.specs.Over.{GoesOnFrom}
use Rattle.causal_order.specs.Passing.{Queue, AreApart, IsBefore, IsLeft, IsLeast, IsPassed, IsShortened, IsTaken}
use Rattle.causal_order.specs.declared.base.Base.{Base}
use Rattle.causal_order.specs.declared.log.Log.{Log}
use Rattle.causal_order.specs.Kept.{IsAt, AreAt, IsKept, IsNotBefore, IsNext, IsTakenAt, IsLeftAt, known_of, queue_of, newest_name, name_before, first_rank}
use Rattle.causal_order.proofs.Logs.{ascends_over}
use Rattle.causal_order.proofs.Passes.{start, is_mine, one_owner, left_owned}
use Rattle.causal_order.proofs.Steps.{ascends_right, apart_left, apart_right, taken, left_out}
use Rattle.causal_order.proofs.Ends.{same_rank_owner}
use Rattle.causal_order.proofs.Places.{places_more, places_push, last_at, newest_push, named_by_next, at_more, next_at, first_at, known_length}
use Rattle.causal_order.proofs.Meeting.{to_map, from_map}
use Rattle.causal_order.proofs.Stepping.{known_push, records_push, set_parts, shortened, owners_stay, next_is, queues_append}

-- ---- the least of the next records is the least that is left

not_less : (r q : Record) → is_lt (record_cmp q r) ≡ false → IsBefore r q ⊎ (record_cmp r q ≡ Equal)
not_less r q h = by (record_cmp q r) refl h
  where
    by : (o : Ordering) → record_cmp q r ≡ o → is_lt o ≡ false → IsBefore r q ⊎ (record_cmp r q ≡ Equal)
    by Less e g = cc
    by Equal e g = inr (records_total.antisymm r q ∙ ap ordering_reverse e)
    by Greater e g = inl (ap is_lt (records_total.antisymm r q ∙ ap ordering_reverse e))

first_before : (xs : List Record) (r q : Record) (rest : List Record) → xs ≡ r ∷ rest → IsAscending xs → Contains xs q → (r ≡ q) ⊎ IsBefore r q
first_before xs r q rest e up c =
    let higher : IsAscending (r ∷ rest) = subst IsAscending e up in
    ⊎_elim (λ s. inl s) (λ d. inr (each (IsBefore r) rest q higher.0 d)) (in_cons r rest q (subst (λ (l : List Record). Contains l q) e c))

heads : (r q : Record) (xs ys : List Record) → r ∷ xs ≡ q ∷ ys → r ≡ q
heads r q xs ys e = ap (λ (l : List Record). first_or l) e
  where
    first_or : List Record → Record
    first_or [] = r
    first_or (x ∷ l) = x

module _ (view : View) (front : Vector) (known : List Record) (logs : List Log) (kept_all : All (IsKept front known) logs) (p : IsPassed view front known (map queue_of logs)) where
  queue_ascends : (l : Log) → Contains logs l → IsAscending (records_of l.queue.items)
  queue_ascends l c = ascends_right (log_of l.owner known) (records_of l.queue.items) (ascends_over view l.owner (start view front l.owner) (log_of l.owner known ++ records_of l.queue.items) (p.going (queue_of l) (to_map queue_of logs l c)))

  module _ (i : ℕ) (n : IsNext logs i) (old : Log) (within : i < length logs) (stands : get_or logs i old ≡ old) (r : kept.Record) (rest : List kept.Record) (queue : old.queue.items ≡ r ∷ rest) where
    old_in : Contains logs old
    old_in = (i, within, stands)

    old_rank : rank_of n.0 ≡ rank (record_of r)
    old_rank = some_rank (rank_of n.0) (rank (record_of r)) (sym (ap (option_map rank_of) (next_is logs i old n (sym stands))) ∙ (All-contains (IsKept front known) logs old kept_all old_in).next ∙ ap (λ (q : List kept.Record). first_rank (records_of q)) queue)
      where
        some_rank : (a b : log.Rank) → Some a ≡ Some b → a ≡ b
        some_rank a b e = ap (λ (o : Option log.Rank). or o) e
          where
            or : Option log.Rank → log.Rank
            or None = a
            or (Some x) = x

    -- whatever stands in a queue, its first record isn't before this one
    first_not_before : (l : Log) → Contains logs l → (q : Record) (more : List Record) → records_of l.queue.items ≡ q ∷ more → is_lt (record_cmp q (record_of r)) ≡ false
    first_not_before l c q more e =
        let next = (All-contains (IsKept front known) logs l kept_all c).next ∙ ap first_rank e in
        let not = All-contains (λ (l : Log). IfSome l.next (λ r. IsNotBefore (rank_of n.0) (rank_of r))) logs l n.1.1 c in
        by l.next next not
      where
        by : (o : Option kept_rank.Rank) → option_map rank_of o ≡ Some (rank q) → IfSome o (λ x. IsNotBefore (rank_of n.0) (rank_of x)) → is_lt (record_cmp q (record_of r)) ≡ false
        by None h g = cc
        by (Some x) h g =
            let is : rank_of x ≡ rank q = some_rank (rank_of x) (rank q) h in
            subst (λ (b : log.Rank). is_lt (rank_cmp (rank q) b) ≡ false) old_rank (subst (λ (a : log.Rank). is_lt (rank_cmp a (rank_of n.0)) ≡ false) is g)
          where
            some_rank : (a b : log.Rank) → Some a ≡ Some b → a ≡ b
            some_rank a b e = ap (λ (o : Option log.Rank). or o) e
              where
                or : Option log.Rank → log.Rank
                or None = a
                or (Some y) = y

    pub is_least : IsLeast (map queue_of logs) (queue_of old) (record_of r) (records_of rest)
    is_least = record {
      stands = to_map queue_of logs old old_in;
      first = ap records_of queue;
      least = λ q left. below q left;
    }
      where
        below : (q : Record) → IsLeft (map queue_of logs) q → (record_of r ≡ q) ⊎ IsBefore (record_of r) q
        below q left =
            let w = from_map queue_of logs left.queue left.stands in
            let in_queue = subst (λ (k : Queue). Contains k.left q) (sym w.2) left.left in
            by w.0 w.1 (records_of w.0.queue.items) refl in_queue
          where
            by : (l : Log) → Contains logs l → (xs : List Record) → records_of l.queue.items ≡ xs → Contains xs q → (record_of r ≡ q) ⊎ IsBefore (record_of r) q
            by l c [] e d = absurd (let w = d.1 in omega (arith, w))
            by l c (x ∷ xs) e d =
                let after = first_before (x ∷ xs) x q xs refl (subst IsAscending e (queue_ascends l c)) d in
                ⊎_elim
                (λ less. inr (⊎_elim (λ s. subst (λ (y : Record). IsBefore (record_of r) y) s less) (λ more. before_trans (record_of r) x q less more) after))
                (λ tied.
                let owned_x = (left_owned view front known (map queue_of logs) p (queue_of l) (to_map queue_of logs l c) x (subst (λ (ys : List Record). Contains ys x) (sym e) (here x xs))).owned in
                let owned_r = (left_owned view front known (map queue_of logs) p (queue_of old) (to_map queue_of logs old old_in) (record_of r) (subst (λ (ys : List Record). Contains ys (record_of r)) (sym (ap records_of queue)) (here (record_of r) (records_of rest)))).owned in
                let one : queue_of l ≡ queue_of old = one_owner (map queue_of logs) p.apart (queue_of l) (queue_of old) (to_map queue_of logs l c) (to_map queue_of logs old old_in) (sym owned_x ∙ same_rank_owner (record_of r) x tied ∙ owned_r) in
                let same : x ≡ record_of r = heads x (record_of r) xs (records_of rest) (sym e ∙ ap (λ (k : Queue). k.left) one ∙ ap records_of queue) in
                ⊎_elim (λ s. inl (sym same ∙ s)) (λ more. inr (subst (λ (y : Record). IsBefore y q) same more)) after)
                (not_less (record_of r) x (first_not_before l c x xs e))

-- ---- what is kept after it

middle_at : (xs ys : List Record) (r : Record) → IsAt (xs ++ r ∷ ys) (length xs) r
middle_at xs ys r = subst (λ (l : List Record). IsAt l (length xs) r) (append_assoc xs (r ∷ []) ys) (at_more (xs ++ r ∷ []) ys (length xs) r (last_at xs r))

behind_at : (xs ys : List Record) (r q : Record) → IsAt (xs ++ r ∷ q ∷ ys) (suc (length xs)) q
behind_at [] ys r q = next_at r (q ∷ ys) 0 q (first_at q ys)
behind_at (x ∷ xs) ys r q = next_at x (xs ++ r ∷ q ∷ ys) (suc (length xs)) q (behind_at xs ys r q)

-- the next one, or else the last one's name, names the record
named : (view : View) (owner : PubKey) (o : Option Stamp) (xs rest : List Record) (r : Record) (last : Key) → GoesOnFrom view owner o (xs ++ r ∷ rest) → IfSome (newest_name None (r ∷ rest)) (λ name. name ≡ last) → name_before rest last ≡ r.name
named view owner o xs [] r last g h = sym h
named view owner o xs (q ∷ rest) r last g h = named_by_next view owner o (xs ++ r ∷ q ∷ rest) (length xs) (suc (length xs)) r q refl g (middle_at xs (q ∷ rest) r) (behind_at xs rest r q)

fewer_named : (r : Record) (rest : List Record) (last : Key) → IfSome (newest_name None (r ∷ rest)) (λ name. name ≡ last) → IfSome (newest_name None rest) (λ name. name ≡ last)
fewer_named r [] last h = tt
fewer_named r (q ∷ rest) last h = h

each_to_all : {X : Type 0} (P : X → Type 0) (xs : List X) → ((x : X) → Contains xs x → P x) → All P xs
each_to_all P xs h = All-from_recursion P xs (each_from P xs h)

module _ (Available : Record → Type 0) (base : Base) (taken_before : List kept.Record) (logs : List Log) (i : ℕ) (n : IsNext logs i)
    (kept_all : All (IsKept base.front.now (known_of base taken_before)) logs) (owners : map (λ (l : Log). l.owner) logs ≡ base.view.now.members)
    (t : IsTaken base.view.now base.front.now Available (known_of base taken_before) (records_of taken_before) (map queue_of logs)) where
  known : List Record
  known = known_of base taken_before

  other_log : (owner : PubKey) (r : Record) (of : PubKey) → r.owner ≡ of → (owner ≡ of → ⊥) → log_of owner (known_of base taken_before ++ r ∷ []) ≡ log_of owner (known_of base taken_before)
  other_log owner r of e other = by (eq_by_cmp owner_cmp owner r.owner) refl
    where
      by : (b : Bool) → eq_by_cmp owner_cmp owner r.owner ≡ b → log_of owner (known_of base taken_before ++ r ∷ []) ≡ log_of owner (known_of base taken_before)
      by true h = absurd (other (sym (same_owner owner r.owner h) ∙ e))
      by false h = log_push owner (known_of base taken_before) r false h ∙ append-nil (log_of owner (known_of base taken_before))

  -- a log of another owner is kept as it is
  stays : (l : Log) (r : Record) (of : PubKey) → r.owner ≡ of → (l.owner ≡ of → ⊥) → IsKept base.front.now (known_of base taken_before) l → IsKept base.front.now (known_of base taken_before ++ r ∷ []) l
  stays l r of e other h =
      let same = other_log l.owner r of e other in
      record {
        key = h.key;
        base = h.base;
        places = subst (λ (rs : List Record). AreAt (known_of base taken_before ++ r ∷ []) l.places.items rs) (sym same) (places_more (known_of base taken_before) (r ∷ []) l.places.items (log_of l.owner (known_of base taken_before)) h.places);
        tip = h.tip ∙ ap (newest_name (stamp_at base.front.now l.key)) (sym same);
        last = h.last;
        next = h.next;
      }

  module _ (after : List Log) (more : List kept.Record) (s : IsTakenAt base logs taken_before after more i) where
    r : Record
    r = record_of s.next

    rest : List Record
    rest = records_of s.new.queue.items

    old_stands : Contains logs s.old
    old_stands = (i, n.1.0.within, s.stands)

    least : IsLeast (map queue_of logs) (queue_of s.old) (record_of s.next) (records_of s.new.queue.items)
    least = is_least base.view.now base.front.now (known_of base taken_before) logs kept_all t.passed i n s.old n.1.0.within s.stands s.next s.new.queue.items s.advanced.queue

    short : IsShortened (map queue_of logs) (map queue_of after) (queue_of s.old) (records_of s.new.queue.items)
    short = subst (λ (a : List Log). IsShortened (map queue_of logs) (map queue_of a) (queue_of s.old) (records_of s.new.queue.items)) (sym s.set)
        (shortened logs i s.old s.new (records_of s.new.queue.items) n.1.0.within s.stands s.advanced.owner refl)

    owned : (record_of s.next).owner ≡ s.old.owner
    owned = (left_owned base.view.now base.front.now (known_of base taken_before) (map queue_of logs) t.passed (queue_of s.old) (to_map queue_of logs s.old old_stands) (record_of s.next) (subst (λ (ys : List Record). Contains ys (record_of s.next)) (sym least.first) (here (record_of s.next) (records_of s.new.queue.items)))).owned

    pub taken_state : IsTaken base.view.now base.front.now Available (known_of base more) (records_of more) (map queue_of after)
    taken_state =
        let next = taken base.view.now base.front.now Available (known_of base taken_before) (records_of taken_before) (map queue_of logs) (map queue_of after) (queue_of s.old) (record_of s.next) (records_of s.new.queue.items) t least short s.causes in
        let known_is : known_of base more ≡ known_of base taken_before ++ record_of s.next ∷ [] = ap (known_of base) s.pushed ∙ known_push base taken_before s.next in
        let taken_is : records_of more ≡ records_of taken_before ++ record_of s.next ∷ [] = ap records_of s.pushed ∙ records_push taken_before s.next in
        subst (λ (k : List Record). IsTaken base.view.now base.front.now Available k (records_of more) (map queue_of after)) (sym known_is)
        (subst (λ (out : List Record). IsTaken base.view.now base.front.now Available (known_of base taken_before ++ record_of s.next ∷ []) out (map queue_of after)) (sym taken_is) next)

    going : GoesOnFrom base.view.now s.old.owner (start base.view.now base.front.now s.old.owner) (log_of s.old.owner (known_of base taken_before) ++ record_of s.next ∷ records_of s.new.queue.items)
    going = subst (λ (q : List Record). GoesOnFrom base.view.now s.old.owner (start base.view.now base.front.now s.old.owner) (log_of s.old.owner (known_of base taken_before) ++ q)) least.first (t.passed.going (queue_of s.old) (to_map queue_of logs s.old old_stands))

    kept_old : IsKept base.front.now (known_of base taken_before) s.old
    kept_old = All-contains (IsKept base.front.now (known_of base taken_before)) logs s.old kept_all old_stands

    last_old : IfSome (newest_name None (record_of s.next ∷ records_of s.new.queue.items)) (λ name. name ≡ s.old.last)
    last_old = subst (λ (q : List Record). IfSome (newest_name None q) (λ name. name ≡ s.old.last)) least.first kept_old.last

    own_log : log_of s.new.owner (known_of base taken_before ++ record_of s.next ∷ []) ≡ log_of s.old.owner (known_of base taken_before) ++ record_of s.next ∷ []
    own_log = ap (λ (o : PubKey). log_of o (known_of base taken_before ++ record_of s.next ∷ [])) s.advanced.owner ∙ log_push s.old.owner (known_of base taken_before) (record_of s.next) true (is_mine s.old.owner (record_of s.next) owned)

    kept_new : IsKept base.front.now (known_of base taken_before ++ record_of s.next ∷ []) s.new
    kept_new = record {
      key = s.advanced.key ∙ kept_old.key ∙ ap head_key_of (sym s.advanced.owner);
      base = s.advanced.base ∙ kept_old.base ∙ ap (λ (k : Key). seq_of base.front.now k) (sym s.advanced.key);
      places = subst (λ (places : List ℕ). AreAt (known_of base taken_before ++ record_of s.next ∷ []) places (log_of s.new.owner (known_of base taken_before ++ record_of s.next ∷ []))) (sym s.advanced.places)
          (subst (λ (rs : List Record). AreAt (known_of base taken_before ++ record_of s.next ∷ []) (s.old.places.items ++ (length base.held.now + length taken_before) ∷ []) rs) (sym own_log)
          (places_push (known_of base taken_before ++ record_of s.next ∷ []) s.old.places.items (log_of s.old.owner (known_of base taken_before)) (length base.held.now + length taken_before) (record_of s.next)
          (places_more (known_of base taken_before) (record_of s.next ∷ []) s.old.places.items (log_of s.old.owner (known_of base taken_before)) kept_old.places)
          (subst (λ (k : ℕ). IsAt (known_of base taken_before ++ record_of s.next ∷ []) k (record_of s.next)) (known_length base taken_before) (last_at (known_of base taken_before) (record_of s.next)))));
      tip = s.advanced.tip
          ∙ ap (λ (k : Key). Some k) (ap (name_before (records_of s.new.queue.items)) s.advanced.last ∙ named base.view.now s.old.owner (start base.view.now base.front.now s.old.owner) (log_of s.old.owner (known_of base taken_before)) (records_of s.new.queue.items) (record_of s.next) s.old.last going last_old)
          ∙ sym (newest_push (stamp_at base.front.now s.new.key) (log_of s.old.owner (known_of base taken_before)) (record_of s.next)) ∙ ap (newest_name (stamp_at base.front.now s.new.key)) (sym own_log);
      last = subst (λ (k : Key). IfSome (newest_name None (records_of s.new.queue.items)) (λ name. name ≡ k)) (sym s.advanced.last) (fewer_named (record_of s.next) (records_of s.new.queue.items) s.old.last last_old);
      next = s.advanced.next;
    }

    pub taken_kept : All (IsKept base.front.now (known_of base more)) after
    taken_kept =
        let w = set_parts logs i s.old s.new n.1.0.within s.stands in
        let apart = subst AreApart (ap (map queue_of) w.2 ∙ queues_append w.0 s.old w.1) t.passed.apart in
        let known_is : known_of base more ≡ known_of base taken_before ++ record_of s.next ∷ [] = ap (known_of base) s.pushed ∙ known_push base taken_before s.next in
        let from : (l : Log) → Contains (w.0 ++ s.new ∷ w.1) l → IsKept base.front.now (known_of base taken_before ++ record_of s.next ∷ []) l = λ l c. ⊎_elim
        (λ d. stays l (record_of s.next) s.old.owner owned (λ same. apart_left (map queue_of w.0) (queue_of s.old) (map queue_of w.1) apart (queue_of l) (to_map queue_of w.0 l d) same)
        (All-contains (IsKept base.front.now (known_of base taken_before)) logs l kept_all (subst (λ (ls : List Log). Contains ls l) (sym w.2) (Contains-append_left w.0 (s.old ∷ w.1) l d))))
        (λ d. ⊎_elim (λ e. subst (IsKept base.front.now (known_of base taken_before ++ record_of s.next ∷ [])) e kept_new)
        (λ f. stays l (record_of s.next) s.old.owner owned (λ same. apart_right (map queue_of w.0) (queue_of s.old) (map queue_of w.1) apart (queue_of l) (to_map queue_of w.1 l f) same)
        (All-contains (IsKept base.front.now (known_of base taken_before)) logs l kept_all (subst (λ (ls : List Log). Contains ls l) (sym w.2) (Contains-append_right w.0 (s.old ∷ w.1) l (there s.old w.1 l f)))))
        (in_cons s.new w.1 l d))
        (Contains-append_cases w.0 (s.new ∷ w.1) l c) in
        subst (λ (k : List Record). All (IsKept base.front.now k) after) (sym known_is)
        (subst (λ (ls : List Log). All (IsKept base.front.now (known_of base taken_before ++ record_of s.next ∷ [])) ls) (sym (s.set ∙ w.3)) (each_to_all (IsKept base.front.now (known_of base taken_before ++ record_of s.next ∷ [])) (w.0 ++ s.new ∷ w.1) from))

    pub taken_owners : map (λ (l : Log). l.owner) after ≡ base.view.now.members
    taken_owners = ap (map (λ (l : Log). l.owner)) s.set ∙ owners_stay logs i s.old s.new n.1.0.within s.stands s.advanced.owner ∙ owners

  module _ (after : List Log) (more : List kept.Record) (s : IsLeftAt base logs taken_before after more i) where
    left_stands : Contains logs s.old
    left_stands = (i, n.1.0.within, s.stands)

    pub left_state : IsTaken base.view.now base.front.now Available (known_of base more) (records_of more) (map queue_of after)
    left_state =
        let least = is_least base.view.now base.front.now (known_of base taken_before) logs kept_all t.passed i n s.old n.1.0.within s.stands s.first s.queue.0 s.queue.1 in
        let short = subst (λ (a : List Log). IsShortened (map queue_of logs) (map queue_of a) (queue_of s.old) []) (sym s.set) (shortened logs i s.old s.new [] n.1.0.within s.stands s.cleared.owner (ap records_of s.cleared.queue)) in
        let next = left_out base.view.now base.front.now Available (known_of base taken_before) (records_of taken_before) (map queue_of logs) (map queue_of after) (queue_of s.old) (record_of s.first) (records_of s.queue.0) t least short s.missing in
        subst (λ (m : List kept.Record). IsTaken base.view.now base.front.now Available (known_of base m) (records_of m) (map queue_of after)) (sym s.kept_taken) next

    left_new : IsKept base.front.now (known_of base taken_before) s.new
    left_new =
        let h = All-contains (IsKept base.front.now (known_of base taken_before)) logs s.old kept_all left_stands in
        let log_is : log_of s.old.owner (known_of base taken_before) ≡ log_of s.new.owner (known_of base taken_before) = ap (λ (o : PubKey). log_of o (known_of base taken_before)) (sym s.cleared.owner) in
        record {
          key = s.cleared.key ∙ h.key ∙ ap head_key_of (sym s.cleared.owner);
          base = s.cleared.base ∙ h.base ∙ ap (λ (k : Key). seq_of base.front.now k) (sym s.cleared.key);
          places = subst (λ (places : List ℕ). AreAt (known_of base taken_before) places (log_of s.new.owner (known_of base taken_before))) (sym (ap (λ v. v.items) s.cleared.places))
              (subst (λ (rs : List Record). AreAt (known_of base taken_before) s.old.places.items rs) log_is h.places);
          tip = s.cleared.tip ∙ h.tip ∙ ap (λ (k : Key). newest_name (stamp_at base.front.now k) (log_of s.old.owner (known_of base taken_before))) (sym s.cleared.key) ∙ ap (newest_name (stamp_at base.front.now s.new.key)) log_is;
          last = subst (λ (q : List kept.Record). IfSome (newest_name None (records_of q)) (λ name. name ≡ s.new.last)) (sym s.cleared.queue) tt;
          next = ap (option_map rank_of) s.cleared.next ∙ ap (λ (q : List kept.Record). first_rank (records_of q)) (sym s.cleared.queue);
        }

    pub left_kept : All (IsKept base.front.now (known_of base more)) after
    left_kept = subst (λ (m : List kept.Record). All (IsKept base.front.now (known_of base m)) after) (sym s.kept_taken)
        (subst (λ (ls : List Log). All (IsKept base.front.now (known_of base taken_before)) ls) (sym s.set) (All-set (IsKept base.front.now (known_of base taken_before)) logs i s.new left_new kept_all))

    pub left_owners : map (λ (l : Log). l.owner) after ≡ base.view.now.members
    left_owners = ap (map (λ (l : Log). l.owner)) s.set ∙ owners_stay logs i s.old s.new n.1.0.within s.stands s.cleared.owner ∙ owners
