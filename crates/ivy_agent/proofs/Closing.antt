-- What is held over a basis's front is closed with the records that a turn writes after it.
use Rattle.std.proofs.Common.{◌≡◌, ◌⊎◌, inl, inr, ⊎_elim, ℕ, ◌+◌, ◌<◌, ◌≤◌, Bool, true, false, cond, not, List, [], ◌∷◌, ◌++◌, map, Option, Some, None, refl, sym, ap, ◌∙◌, subst, append_assoc, arith, Contains}
use Rattle.std.specs.Prelude.{IsTrue}
use Rattle.std.specs.List.{AllByRecursion}
use Rattle.std.specs.Cmp.{eq_by_cmp_equiv}
use Rattle.std.specs.Option.{option_map_or}
use Rattle.std.specs.Ordering.{eq_by_cmp}
use Rattle.std.proofs.lemmas.List.{append-nil}
use Rattle.std.proofs.lemmas.List.Elements.{Contains-append_left}
use Rattle.ivy_base.specs.declared.key.Key.{Key}
use Rattle.ivy_base.specs.declared.key.PubKey.{PubKey}
use Rattle.ivy_base.specs.declared.operation.Moment.{Moment}
use Rattle.ivy_base.specs.declared.operation.Op.{Op}
use Rattle.ivy_base.specs.Naming.{head_key_of, key_cmp, owner_cmp}
use Rattle.tree_model.proofs.Keys.{keys_total, same_key_is, same_key_itself}
use Rattle.causal_order.specs.Over.{IsUnder, IsMet, HasCauses, ComesNext, GoesOnFrom, IsChainOver, IsClosed}
use Rattle.causal_order.proofs.Logs.{good_over, numbers_over}
use Rattle.log_model.specs.Chain.{IsGood, Follows, GoesOn, MayBeWritten, AllMayBeWritten}
use Rattle.log_model.specs.Closed.{log_of}
use Rattle.log_model.specs.Rank.{own_entry, full_vector, weight}
use Rattle.log_model.specs.Record.{Record}
use Rattle.log_model.specs.Spelling.{new_record, no_name, HasSpelling, IsKey, IsMoment}
use Rattle.log_model.specs.Vector.{Entry, Stamp, Vector, Dominates, reach, seq_of, stamp_at, weight_of, without_log}
use Rattle.log_model.specs.View.{View, IsView, is_member}
use Rattle.log_model.proofs.Chains.{last_after, GoesOn-push}
use Rattle.log_model.proofs.Later.{last_in, last_push, seq_with}
use Rattle.log_model.proofs.Lists.{each, each_append, each_from, from_filter, in_filter, in_nothing}
use Rattle.log_model.proofs.Opening.{same_owner}
use Rattle.log_model.proofs.Owners.{owner_itself}
use Rattle.log_model.proofs.Part.{numbers_from, log_push}
use Rattle.log_model.proofs.Weights.{Sorted, joins_keep, joins_reach}
use Rattle.turn_laws.proofs.Entries.{at_stamp, each_joins, each_with_entry, each_without_log}
use Rattle.turn_laws.proofs.Heads.{member_is, one_member}
use Rattle.turn_laws.proofs.Starts.{last_or_before, stamp_at-without_log}
use Rattle.turn_laws.proofs.Whole.{at_entry}
use Rattle.turn_model.specs.Basis.{Holding}
use Rattle.turn_model.specs.Turn.{linked}
use Rattle.agent_model.specs.Agent.{joined}
use Rattle.ivy_agent.specs.Appended.{heading, MayBeCited, WrittenIsClosed, written_over}
use Rattle.ivy_agent.proofs.Records.{IsSpelled, MayCite, all_lighter, ascend_with, may_cite, name_of_new, new_is_good, none_heavier}

-- ---- the end of the own log

-- a log that isn't empty ends with that record
abbrev EndsWith : List Record → Stamp → Type 0
EndsWith log t = (first : Record) × (rest : List Record) × (log ≡ first ∷ rest) × ((own_entry (last_after first rest)).1 ≡ t)

-- or it is empty, and the front of the basis has the record
abbrev EndsOver : Option Stamp → List Record → Stamp → Type 0
EndsOver o log t = EndsWith log t ⊎ ((log ≡ []) × (o ≡ Some t))

-- after a stamp, or from its first record on, a log goes on by a record that follows its last one
goes_on : (view : View) (owner : PubKey) (o : Option Stamp) (first : Record) (rest : List Record) (r : Record) → GoesOnFrom view owner o (first ∷ rest) → IsGood view owner r → Follows (last_after first rest) r
    → GoesOnFrom view owner o (first ∷ rest ++ r ∷ [])
goes_on view owner None first rest r g good follows = (g.0, g.1, GoesOn-push view owner first rest r g.2 good follows)
goes_on view owner (Some s) first rest r g good follows = (g.0, GoesOn-push view owner first rest r g.1 good follows)

-- so it does by the record that is numbered next and names the end, and knows all that the log's records do
goes_over : (view : View) (owner : PubKey) (o : Option Stamp) (log : List Record) (t : Stamp) (r : Record) → GoesOnFrom view owner o log → EndsOver o log t → IsGood view owner r → r.seq ≡ t.seq + 1 → r.prev ≡ t.name
    → ((q : Record) → Contains log q → Dominates (full_vector r) (full_vector q)) → GoesOnFrom view owner o (log ++ r ∷ [])
goes_over view owner o log t r g ends good next prev knows = ⊎_elim
    (λ w.
    let chain : GoesOnFrom view owner o (w.0 ∷ w.1) = subst (λ (l : List Record). GoesOnFrom view owner o l) w.2 g in
    let number : (last_after w.0 w.1).seq ≡ t.seq = ap (λ (x : Stamp). x.seq) w.3 in
    let name : (last_after w.0 w.1).name ≡ t.name = ap (λ (x : Stamp). x.name) w.3 in
    let follows : Follows (last_after w.0 w.1) r = record {
      seq = omega (arith, next, number);
      prev = prev ∙ sym name;
      grows = knows (last_after w.0 w.1) (subst (λ (l : List Record). Contains l (last_after w.0 w.1)) (sym w.2) (last_in w.0 w.1));
    } in
    subst (λ (l : List Record). GoesOnFrom view owner o (l ++ r ∷ [])) (sym w.2) (goes_on view owner o w.0 w.1 r chain good follows))
    (λ n.
    let first : ComesNext view owner t r = record { good = good; seq = next; prev = prev } in
    subst (λ (l : List Record). GoesOnFrom view owner o (l ++ r ∷ [])) (sym n.0) (subst (λ (x : Option Stamp). GoesOnFrom view owner x (r ∷ [])) (sym n.1) (first, tt)))
    ends

-- and ends with it
ends_pushed : (o : Option Stamp) (log : List Record) (t : Stamp) (r : Record) → EndsOver o log t → EndsOver o (log ++ r ∷ []) (own_entry r).1
unfolding last_after
ends_pushed o log t r ends = ⊎_elim
    (λ w. inl (w.0, w.1 ++ r ∷ [], ap (λ (l : List Record). l ++ r ∷ []) w.2, ap (λ (x : Record). (own_entry x).1) (last_push w.0 w.1 r)))
    (λ n. inl (r, [], ap (λ (l : List Record). l ++ r ∷ []) n.0, refl))
    ends

-- ---- one record more

-- an entry of a member's log is under the basis's front, or is that of a record of the set
abbrev Stands : View → Vector → List Record → Entry → Type 0
Stands view base s e = IsTrue (is_member view e.0) → IsUnder base e ⊎ ((c : Record) × Contains s c × (own_entry c ≡ e))

-- the set is closed over the basis's front, its own log ends with that record, and the vector with it knows all of the set
record IsOver (view : View) (base : Vector) (own : PubKey) (v : Vector) (s : List Record) (t : Stamp) : Type 0 where
  closed : IsClosed view base s
  ends : EndsOver (stamp_at base (head_key_of own)) (log_of own s) t
  stands : AllByRecursion (Stands view base s) v
  light : AllByRecursion (λ q. weight q < t.seq + 1 + weight_of v) s
  covers : AllByRecursion (λ q. (k : Key) → seq_of (full_vector q) k ≤ cond (eq_by_cmp key_cmp k (head_key_of own)) t.seq (seq_of v k)) s
  begun : 1 ≤ t.seq
  key : IsKey t.name

chosen_grows : (b : Bool) (n m k l : ℕ) → k ≤ cond b n l → n ≤ m → k ≤ cond b m l
chosen_grows true n m k l h le = omega (arith, h, le)
chosen_grows false n m k l h le = h

module _ (view : View) (base : Vector) (own : PubKey) (v : Vector) (now : Moment) (member : Contains view.members own) (cites : MayCite view own v) (moment : IsMoment now) where
  abbrev next : Stamp → Op → Record
  next t op = new_record (heading own v now) (t.seq + 1) t.name op

  full_next : (t : Stamp) (op : Op) (k : Key) → seq_of (full_vector (next t op)) k ≡ cond (eq_by_cmp key_cmp k (head_key_of own)) (t.seq + 1) (seq_of v k)
  full_next t op k = seq_with v (next t op) k cites.of_others

  -- the next record knows what the vector with the one before covers
  knows_all : (t : Stamp) (op : Op) (q : Record) → ((k : Key) → seq_of (full_vector q) k ≤ cond (eq_by_cmp key_cmp k (head_key_of own)) t.seq (seq_of v k)) → Dominates (full_vector (next t op)) (full_vector q)
  knows_all t op q h k =
      let more = chosen_grows (eq_by_cmp key_cmp k (head_key_of own)) t.seq (t.seq + 1) (seq_of (full_vector q) k) (seq_of v k) (h k) (omega arith) in
      subst (λ (n : ℕ). seq_of (full_vector q) k ≤ n) (sym (full_next t op k)) more

  met_more : (s : List Record) (x r : Record) → HasCauses view base s r → HasCauses view base (s ++ x ∷ []) r
  met_more s x r h = each_from (IsMet view base (s ++ x ∷ []) r) r.vector (λ e within is. ⊎_elim
      (λ under. inl under)
      (λ w. inr (w.0, Contains-append_left s (x ∷ []) w.0 w.1, w.2))
      (each (IsMet view base s r) r.vector e h within is))

  one_more : (s : List Record) (t : Stamp) (op : Op) → IsOver view base own v s t → MayBeWritten own (t.seq + 1) op → IsOver view base own v (s ++ next t op ∷ []) (own_entry (next t op)).1
  one_more s t op over may = record {
    closed = record {
      ascending = ascend_with own v now s (t.seq + 1) t.name (op ∷ []) over.closed.ascending over.light;
      members = each_append (λ q. Contains view.members q.owner) s (next t op ∷ []) over.closed.members (member, tt);
      chains = λ owner. by owner (eq_by_cmp owner_cmp owner own) refl;
      causes = each_append (HasCauses view base (s ++ next t op ∷ [])) s (next t op ∷ [])
          (each_from (HasCauses view base (s ++ next t op ∷ [])) s (λ q c. met_more s (next t op) q (each (HasCauses view base s) s q over.closed.causes c)))
          (causes, tt);
    };
    ends = subst (λ (l : List Record). EndsOver (stamp_at base (head_key_of own)) l (own_entry (next t op)).1) (sym pushed) (ends_pushed (stamp_at base (head_key_of own)) (log_of own s) t (next t op) over.ends);
    stands = each_from (Stands view base (s ++ next t op ∷ [])) v (λ e within is. ⊎_elim
        (λ under. inl under)
        (λ w. inr (w.0, Contains-append_left s (next t op ∷ []) w.0 w.1, w.2))
        (each (Stands view base s) v e over.stands within is));
    light = each_append (λ q. weight q < t.seq + 1 + 1 + weight_of v) s (next t op ∷ [])
        (each_from (λ q. weight q < t.seq + 1 + 1 + weight_of v) s (λ q c. let less = each (λ x. weight x < t.seq + 1 + weight_of v) s q over.light c in omega (arith, less)))
        (omega arith, tt);
    covers = each_append (λ q. (k : Key) → seq_of (full_vector q) k ≤ cond (eq_by_cmp key_cmp k (head_key_of own)) (t.seq + 1) (seq_of v k)) s (next t op ∷ [])
        (each_from (λ q. (k : Key) → seq_of (full_vector q) k ≤ cond (eq_by_cmp key_cmp k (head_key_of own)) (t.seq + 1) (seq_of v k)) s
        (λ q c k. chosen_grows (eq_by_cmp key_cmp k (head_key_of own)) t.seq (t.seq + 1) (seq_of (full_vector q) k) (seq_of v k) (covered q c k) (omega arith)))
        (λ k. let same = full_next t op k in omega (arith, same), tt);
    begun = omega arith;
    key = name_of_new own (t.seq + 1) t.name v now op;
  }
    where
      covered : (q : Record) → Contains s q → (k : Key) → seq_of (full_vector q) k ≤ cond (eq_by_cmp key_cmp k (head_key_of own)) t.seq (seq_of v k)
      covered q c = each (λ x. (k : Key) → seq_of (full_vector x) k ≤ cond (eq_by_cmp key_cmp k (head_key_of own)) t.seq (seq_of v k)) s q over.covers c

      pushed : log_of own (s ++ next t op ∷ []) ≡ log_of own s ++ next t op ∷ []
      pushed = log_push own s (next t op) true (owner_itself own)

      good : IsGood view own (next t op)
      good = let begun = over.begun in new_is_good view own (t.seq + 1) t.name v now op cites moment (omega (arith, begun)) over.key may

      own_chain : GoesOnFrom view own (stamp_at base (head_key_of own)) (log_of own s ++ next t op ∷ [])
      own_chain = goes_over view own (stamp_at base (head_key_of own)) (log_of own s) t (next t op) (over.closed.chains own) over.ends good refl refl
          (λ q c. knows_all t op q (covered q (from_filter (λ (x : Record). eq_by_cmp owner_cmp own x.owner) s q c).0))

      by : (owner : PubKey) (b : Bool) → eq_by_cmp owner_cmp owner own ≡ b → IsChainOver view base owner (log_of owner (s ++ next t op ∷ []))
      by owner true e =
          let is_own : own ≡ owner = same_owner owner own e in
          subst (λ (o : PubKey). IsChainOver view base o (log_of o (s ++ next t op ∷ []))) is_own (subst (λ (l : List Record). IsChainOver view base own l) (sym pushed) own_chain)
      by owner false e = subst (λ (l : List Record). IsChainOver view base owner l) (sym (log_push owner s (next t op) false e ∙ append-nil (log_of owner s))) (over.closed.chains owner)

      causes : HasCauses view base (s ++ next t op ∷ []) (next t op)
      causes = each_from (IsMet view base (s ++ next t op ∷ []) (next t op)) v (λ e within is. ⊎_elim
          (λ under. inl under)
          (λ w. inr (
            w.0,
            Contains-append_left s (next t op ∷ []) w.0 w.1,
            record {
              cited = w.2;
              lighter = each (λ q. weight q < t.seq + 1 + weight_of v) s w.0 over.light w.1;
              known = knows_all t op w.0 (covered w.0 w.1);
            },
          ))
          (each (Stands view base s) v e over.stands within is))

  all_more : (s : List Record) (t : Stamp) (ops : List Op) → IsOver view base own v s t → AllMayBeWritten own (t.seq + 1) ops → IsClosed view base (s ++ linked (heading own v now) (t.seq + 1) t.name ops)
  all_more s t [] over may = subst (λ (l : List Record). IsClosed view base l) (sym (append-nil s)) over.closed
  all_more s t (op ∷ ops) over may =
      subst (λ (l : List Record). IsClosed view base l) (append_assoc s (next t op ∷ []) (linked (heading own v now) (t.seq + 1 + 1) (next t op).name ops))
      (all_more (s ++ next t op ∷ []) (own_entry (next t op)).1 ops (one_more s t op over may.0) may.1)

-- ---- over what is held

all_reached : (f : Vector) (s : List Record) → AllByRecursion (λ w. Dominates f w) (map full_vector s) → AllByRecursion (λ q. Dominates f (full_vector q)) s
all_reached f [] h = tt
all_reached f (q ∷ s) h = (h.0, all_reached f s h.1)

module _ (view : View) (own : PubKey) (h : Holding) (well : IsView view) (member : Contains view.members own) (sorted : Sorted h.basis.front) (closed : IsClosed view h.basis.front h.held) where
  abbrev base : Vector
  base = h.basis.front

  abbrev log : Key
  log = head_key_of own

  member_of : (r : Record) → Contains h.held r → Contains view.members r.owner
  member_of r c = each (λ q. Contains view.members q.owner) h.held r closed.members c

  good_of : (r : Record) → Contains h.held r → IsGood view r.owner r
  good_of r c =
      each (IsGood view r.owner) (log_of r.owner h.held) r (good_over view r.owner (stamp_at base (head_key_of r.owner)) (log_of r.owner h.held) (closed.chains r.owner))
      (in_filter (λ (x : Record). eq_by_cmp owner_cmp r.owner x.owner) h.held r c (owner_itself r.owner))

  all_spelled : AllByRecursion HasSpelling h.held
  all_spelled = each_from HasSpelling h.held (λ r c. (good_of r c).spelled)

  stands_in : (r : Record) → Contains h.held r → AllByRecursion (Stands view base h.held) (full_vector r)
  stands_in r c =
      let causes = each (HasCauses view base h.held) h.held r closed.causes c in
      let cited : AllByRecursion (Stands view base h.held) r.vector = each_from (Stands view base h.held) r.vector (λ e within is. ⊎_elim
      (λ under. inl under)
      (λ w. inr (w.0, w.1, w.2.cited))
      (each (IsMet view base h.held r) r.vector e causes within is)) in
      each_with_entry (Stands view base h.held) r.vector (own_entry r) cited (λ is. inr (r, c, refl))

  all_stand : AllByRecursion (Stands view base h.held) (joined h)
  all_stand = each_joins (Stands view base h.held) base h.held
      (each_from (Stands view base h.held) base (λ e c is. inl (inr (at_entry base e sorted c))))
      (each_from (λ r. AllByRecursion (Stands view base h.held) (full_vector r)) h.held stands_in)

  reached : (q : Record) → Contains h.held q → Dominates (joined h) (full_vector q)
  reached q c = each (λ r. Dominates (joined h) (full_vector r)) h.held q (all_reached (joined h) h.held (joins_reach (map full_vector h.held) base)) c

  -- a record of the own log, by its entry
  own_record : (c : Record) (t : Stamp) → Contains h.held c → own_entry c ≡ (log, t) → (c.owner ≡ own) × Contains (log_of own h.held) c
  own_record c t within is =
      let owned : c.owner ≡ own = one_member view c.owner own well (member_of c within) member (ap (λ (e : Entry). e.0) is) in
      (owned, in_filter (λ (x : Record). eq_by_cmp owner_cmp own x.owner) h.held c within (subst (λ (o : PubKey). eq_by_cmp owner_cmp own o ≡ true) (sym owned) (owner_itself own)))

  -- the basis's front goes no further in the own log
  base_at_most : (t : Stamp) → stamp_at (joined h) log ≡ Some t → seq_of base log ≤ t.seq
  base_at_most t at =
      let far : seq_of base log ≤ seq_of (joined h) log = joins_keep (map full_vector h.held) base log in
      let is : seq_of (joined h) log ≡ t.seq = ap reach at in
      omega (arith, far, is)

  -- a chain goes on after its first record
  goes_behind : (o : Option Stamp) (first : Record) (rest : List Record) → GoesOnFrom view own o (first ∷ rest) → GoesOn view own first rest
  goes_behind None first rest g = g.2
  goes_behind (Some s) first rest g = g.1

  -- the last record of the own log is later than the basis's front, and no later than the front
  last_reached : (first : Record) (rest : List Record) (t : Stamp) → log_of own h.held ≡ first ∷ rest → stamp_at (joined h) log ≡ Some t
      → (seq_of base log < (last_after first rest).seq) × ((last_after first rest).seq ≤ t.seq)
  last_reached first rest t e at =
      let p : Record = last_after first rest in
      let chain : GoesOnFrom view own (stamp_at base log) (first ∷ rest) = subst (λ (l : List Record). GoesOnFrom view own (stamp_at base log) l) e (closed.chains own) in
      let later = each (λ q. seq_of base log + 1 ≤ q.seq) (first ∷ rest) p (numbers_from (seq_of base log + 1) (first ∷ rest) (numbers_over view own (stamp_at base log) (first ∷ rest) chain) (seq_of base log + 1) (omega arith)) (last_in first rest) in
      let within = from_filter (λ (x : Record). eq_by_cmp owner_cmp own x.owner) h.held p (subst (λ (l : List Record). Contains l p) (sym e) (last_in first rest)) in
      let owned : p.owner ≡ own = same_owner own p.owner within.1 in
      let tied : eq_by_cmp key_cmp log (head_key_of p.owner) ≡ true = subst (λ (o : PubKey). eq_by_cmp key_cmp log (head_key_of o) ≡ true) (sym owned) (same_key_itself log) in
      let here : seq_of (full_vector p) log ≡ p.seq = seq_with p.vector p log (good_of p within.0).spelled.of_others ∙ ap (λ b. cond b p.seq (seq_of p.vector log)) tied in
      let far : seq_of (full_vector p) log ≤ seq_of (joined h) log = reached p within.0 log in
      let is : seq_of (joined h) log ≡ t.seq = ap reach at in
      (omega (arith, later), omega (arith, here, far, is))

  -- the own log ends where the front has it
  ends_there : (t : Stamp) → stamp_at (joined h) log ≡ Some t → EndsOver (stamp_at base log) (log_of own h.held) t
  ends_there t at = by (log_of own h.held) refl (at_stamp (Stands view base h.held) (joined h) log t all_stand at (member_is view own member))
    where
      by : (l : List Record) → log_of own h.held ≡ l → IsUnder base (log, t) ⊎ ((c : Record) × Contains h.held c × (own_entry c ≡ (log, t))) → EndsOver (stamp_at base log) (log_of own h.held) t
      by [] e stands = ⊎_elim
          (λ under. ⊎_elim
          (λ less. let far = base_at_most t at in absurd (omega (arith, less, far)))
          (λ same. inr (e, same))
          under)
          (λ w. absurd (in_nothing w.0 (subst (λ (l : List Record). Contains l w.0) e (own_record w.0 t w.1 w.2).1)))
          stands
      by (first ∷ rest) e stands =
          let last = last_reached first rest t e at in
          let later = last.0 in
          let near = last.1 in
          ⊎_elim
          (λ under. ⊎_elim
          (λ less. absurd (omega (arith, less, later, near)))
          (λ same. let number : seq_of base log ≡ t.seq = ap reach same in absurd (omega (arith, number, later, near)))
          under)
          (λ w.
          let chain : GoesOnFrom view own (stamp_at base log) (first ∷ rest) = subst (λ (l : List Record). GoesOnFrom view own (stamp_at base log) l) e (closed.chains own) in
          let number : w.0.seq ≡ t.seq = ap (λ (x : Entry). x.1.seq) w.2 in
          ⊎_elim
          (λ is_last. inl (first, rest, e, ap (λ (x : Record). (own_entry x).1) (sym is_last) ∙ ap (λ (x : Entry). x.1) w.2))
          (λ less. absurd (omega (arith, number, less, near)))
          (last_or_before view own first rest w.0 (goes_behind (stamp_at base log) first rest chain) (subst (λ (l : List Record). Contains l w.0) e (own_record w.0 t w.1 w.2).1)))
          stands

  covers_held : (t : Stamp) → stamp_at (joined h) log ≡ Some t → (q : Record) → Contains h.held q → (k : Key) → seq_of (full_vector q) k ≤ cond (eq_by_cmp key_cmp k log) t.seq (seq_of (without_log log (joined h)) k)
  covers_held t at q c k = by (eq_by_cmp key_cmp k log) refl
    where
      by : (b : Bool) → eq_by_cmp key_cmp k log ≡ b → seq_of (full_vector q) k ≤ cond b t.seq (seq_of (without_log log (joined h)) k)
      by true tied =
          let number : seq_of (joined h) k ≡ t.seq = ap (λ (x : Key). seq_of (joined h) x) (same_key_is k log tied) ∙ ap reach at in
          let far = reached q c k in
          omega (arith, number, far)
      by false apart =
          let other : eq_by_cmp key_cmp log k ≡ false = (eq_by_cmp_equiv keys_total).symm log k ∙ apart in
          let kept : seq_of (without_log log (joined h)) k ≡ seq_of (joined h) k = ap reach (stamp_at-without_log (joined h) log k ∙ ap (λ b. cond (not b) (stamp_at (joined h) k) None) other) in
          let far = reached q c k in
          omega (arith, kept, far)

  is_over : (t : Stamp) → MayBeCited view (joined h) → 1 ≤ seq_of (joined h) log → stamp_at (joined h) log ≡ Some t → IsOver view base own (without_log log (joined h)) h.held t
  is_over t cited begun at =
      let number : seq_of (joined h) log ≡ t.seq = ap reach at in
      let light = all_lighter own h.held (joined h) cited.whole.in_order (none_heavier h.held (joined h) cited.whole.in_order all_spelled (joins_reach (map full_vector h.held) base)) in
      record {
        closed = closed;
        ends = ends_there t at;
        stands = each_without_log (Stands view base h.held) log (joined h) all_stand;
        light = subst (λ (n : ℕ). AllByRecursion (λ q. weight q < n + 1 + weight_of (without_log log (joined h))) h.held) number light;
        covers = each_from (λ q. (k : Key) → seq_of (full_vector q) k ≤ cond (eq_by_cmp key_cmp k log) t.seq (seq_of (without_log log (joined h)) k)) h.held (covers_held t at);
        begun = omega (arith, begun, number);
        key = (at_stamp IsSpelled (joined h) log t cited.whole.entries at).3;
      }

pub written_is_closed : WrittenIsClosed
written_is_closed view own now h ops well member sorted cited closed moment begun may = by (stamp_at (joined h) (head_key_of own)) refl
  where
    log : Key
    log = head_key_of own

    by : (o : Option Stamp) → stamp_at (joined h) (head_key_of own) ≡ o → IsClosed view h.basis.front (h.held ++ written_over own now (joined h) ops)
    by None e = let zero : seq_of (joined h) (head_key_of own) ≡ 0 = ap reach e in absurd (omega (arith, zero, begun))
    by (Some t) e =
        let number : seq_of (joined h) (head_key_of own) ≡ t.seq = ap reach e in
        let named : option_map_or (λ x. x.name) (stamp_at (joined h) (head_key_of own)) no_name ≡ t.name = ap (λ (o : Option Stamp). option_map_or (λ x. x.name) o no_name) e in
        let v : Vector = without_log (head_key_of own) (joined h) in
        let over = is_over view own h well member sorted closed t cited begun e in
        subst (λ (k : Key). IsClosed view h.basis.front (h.held ++ linked (heading own v now) (seq_of (joined h) (head_key_of own) + 1) k ops)) (sym named)
        (subst (λ (n : ℕ). IsClosed view h.basis.front (h.held ++ linked (heading own v now) (n + 1) t.name ops)) (sym number)
        (all_more view h.basis.front own v now member (may_cite view own (joined h) well cited) moment h.held t ops over (subst (λ (n : ℕ). AllMayBeWritten own (n + 1) ops) number may)))
