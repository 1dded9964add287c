-- What is known after a turn is backed by its own front, the same heads and blocks and whatever came to these.
use Rattle.std.proofs.Common.{◌≡◌, ◌⊎◌, inl, inr, ℕ, ◌+◌, ◌≤◌, Bool, true, false, cond, ◌||◌, List, [], ◌∷◌, length, map, Option, Some, refl, sym, ap, ◌∙◌, subst, arith, Contains}
use Rattle.std.specs.Prelude.{nat_lt, ◌==◌}
use Rattle.std.specs.List.{AllByRecursion}
use Rattle.ivy_base.specs.declared.format.Format.{Format}
use Rattle.ivy_base.specs.declared.format.Format.TheVariants.{One}
use Rattle.ivy_base.specs.declared.key.Key.{Key}
use Rattle.ivy_base.specs.declared.key.PubKey.{PubKey}
use Rattle.ivy_base.specs.declared.operation.Moment.{Moment}
use Rattle.ivy_base.specs.declared.operation.Op.{Op}
use Rattle.ivy_base.specs.Naming.{head_key_of}
use Rattle.tree_model.proofs.Keys.{same_key_itself}
use Rattle.log_model.specs.Vector.{Entry, Vector, Stamp, stamp_at, reach, seq_of, Dominates, later_or}
use Rattle.log_model.specs.Record.{Heading, Record}
use Rattle.log_model.proofs.Standing.{stands_among_more}
use Rattle.log_model.specs.Rank.{own_entry, full_vector, front}
use Rattle.log_model.specs.Replay.{replay}
use Rattle.log_model.proofs.Lists.{each, each_from, each_append}
use Rattle.log_model.proofs.Vectors.{stamp_at-with_entry, later_or_reaches}
use Rattle.log_model.proofs.Weights.{joins_reach}
use Rattle.log_model.specs.Standing.{Stand}
use Rattle.log_model.specs.Spelling.{new_record, most_records}
use Rattle.nfs_model.specs.Changing.{is_changing, Plan, Refuse, Nothing, Operations, plan}
use Rattle.turn_model.specs.Known.{IsUnderHead, IsBacked}
use Rattle.turn_model.specs.Turn.{Inputs, Asked, Turned, own_seq, own_name, heading_over, linked, appended, by_plan, turn_on}
use Rattle.turn_laws.specs.Verified.{AreAmong, KnownStaysBacked}

-- ---- a front goes at least as far as each record of the set

own_reach : (r : Record) → r.seq ≤ seq_of (full_vector r) (head_key_of r.owner)
own_reach r =
    let log = head_key_of r.owner in
    subst (λ (o : Option Stamp). r.seq ≤ reach o)
    (sym (stamp_at-with_entry r.vector (own_entry r) log ∙ ap (λ b. cond b (Some (later_or (stamp_at r.vector log) (own_entry r).1)) (stamp_at r.vector log)) (same_key_itself log)))
    (later_or_reaches (stamp_at r.vector log) (own_entry r).1).1

in_front : (v : Vector) (s : List Record) → AllByRecursion (λ w. Dominates v w) (map full_vector s) → AllByRecursion (λ r. r.seq ≤ seq_of v (head_key_of r.owner)) s
in_front v [] h = tt
in_front v (r ∷ s) h =
    let far : seq_of (full_vector r) (head_key_of r.owner) ≤ seq_of v (head_key_of r.owner) = h.0 (head_key_of r.owner) in
    let own = own_reach r in (omega arith, in_front v s h.1)

within_front : (s : List Record) (r : Record) → Contains s r → r.seq ≤ seq_of (front s) (head_key_of r.owner)
within_front s r c = each (λ (q : Record). q.seq ≤ seq_of (front s) (head_key_of q.owner)) s r (in_front (front s) s (joins_reach (map full_vector s) [])) c

own_within : (own : PubKey) (s : List Record) (r : Record) → r.owner ≡ own → Contains s r → r.seq ≤ seq_of (front s) (head_key_of own)
own_within own s r e c = subst (λ (o : PubKey). r.seq ≤ seq_of (front s) (head_key_of o)) e (within_front s r c)

-- ---- with more blocks and heads

module _ (blocks more : List (List ℕ)) (received later : List Entry) (in_more : AreAmong blocks more) (in_later : AreAmong received later) where
  more_stand : (log : List Record) → Stand blocks log → Stand more log
  more_stand [] h = tt
  more_stand (r ∷ log) h = (stands_among_more blocks more r in_more h.0, more_stand log h.1)

  more_under : (r : Record) → IsUnderHead blocks received r → IsUnderHead more later r
  more_under r u = record {
    head = u.head;
    received = in_later u.head u.received;
    log = u.log;
    linked = u.linked;
    stand = more_stand u.log u.stand;
    of_log = u.of_log;
    ends = u.ends;
    below = u.below;
  }

-- ---- a set of own records and of others under heads

module _ (own : PubKey) (blocks : List (List ℕ)) (heads : List Entry) where
  -- an own record, however far, or another's under a head
  abbrev IsSound : Record → Type 0
  IsSound r = (r.owner ≡ own) ⊎ ((r.owner ≡ own → ⊥) × IsUnderHead blocks heads r)

  linked_sound : (h : Heading) → h.owner ≡ own → (seq : ℕ) (prev : Key) (ops : List Op) → AllByRecursion IsSound (linked h seq prev ops)
  linked_sound h mine seq prev [] = tt
  linked_sound h mine seq prev (op ∷ ops) =
      (inl mine, linked_sound h mine (seq + 1) ((new_record h seq prev op).name) ops)

  -- the set is backed by its own front
  abbrev IsBackedByFront : List Record → Type 0
  IsBackedByFront s = AllByRecursion (IsBacked blocks own (front s) heads) s

  one_backed : (s : List Record) (r : Record) → Contains s r → IsSound r → IsBacked blocks own (front s) heads r
  one_backed s r c (inl e) = inl (e, own_within own s r e c)
  one_backed s r c (inr u) = inr u

  all_backed : (s : List Record) → AllByRecursion IsSound s → IsBackedByFront s
  all_backed s h = each_from (IsBacked blocks own (front s) heads) s (λ r c. one_backed s r c (each IsSound s r h c))

-- ---- along a turn

module _ (a : Inputs) (blocks : List (List ℕ)) (heads : List Entry) (s : List Record) (sound : AllByRecursion (IsSound a.own blocks heads) s) (asked : Asked) (now : Moment) where
  abbrev Keeps : Turned → Type 0
  Keeps x = IsBackedByFront a.own blocks heads x.set

  same_set : IsBackedByFront a.own blocks heads s
  same_set = all_backed a.own blocks heads s sound

  longer_set : (format : Format) (ops : List Op) → IsBackedByFront a.own blocks heads (appended a.own format now s ops)
  longer_set format ops =
      let new = linked_sound a.own blocks heads (heading_over a.own format now (front s)) refl (own_seq a.own s + 1) (own_name a.own s) ops in
      all_backed a.own blocks heads (appended a.own format now s ops) (each_append (IsSound a.own blocks heads) s _ sound new)

  chosen : (b c : Bool) (x y z : Turned) → Keeps x → Keeps y → Keeps z → Keeps (cond b x (cond c y z))
  chosen true c x y z p q o = p
  chosen false true x y z p q o = q
  chosen false false x y z p q o = o

  in_plan : (p : Plan) → Keeps (by_plan a s asked now p)
  in_plan (Refuse reply) = same_set
  in_plan (Nothing reply) = same_set
  in_plan (Operations ops) = chosen (a.leaves == 0 || nat_lt most_records (own_seq a.own s + length ops)) a.has_failed _ _ _ same_set same_set (longer_set One ops)

  either : (b : Bool) (x y : Turned) → Keeps x → Keeps y → Keeps (cond b x y)
  either true x y p q = p
  either false x y p q = q

  in_turn : Keeps (turn_on a s asked now)
  in_turn = either (is_changing asked.args) _ _ (in_plan (plan (replay s) a.view asked.caller asked.args now a.own (own_seq a.own s + 1))) same_set

-- ---- the law

module _ (own : PubKey) (blocks more : List (List ℕ)) (floor : Vector) (received later : List Entry) (in_more : AreAmong blocks more) (in_later : AreAmong received later) where
  one_sound : (r : Record) → IsBacked blocks own floor received r → IsSound own more later r
  one_sound r (inl mine) = inl mine.0
  one_sound r (inr other) = inr (other.0, more_under blocks more received later in_more in_later r other.1)

  all_sound : (s : List Record) → AllByRecursion (IsBacked blocks own floor received) s → AllByRecursion (IsSound own more later) s
  all_sound [] h = tt
  all_sound (r ∷ s) h = (one_sound r h.0, all_sound s h.1)

pub known_stays_backed : KnownStaysBacked
known_stays_backed a blocks more floor received later taken asked now in_more in_later backed =
    in_turn a more later taken (all_sound a.own blocks more floor received later in_more in_later taken backed) asked now
