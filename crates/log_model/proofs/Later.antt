-- A set with a record more that goes on from its own log and cites the set's front.
use Rattle.std.proofs.Common.{◌≡◌, ℕ, ◌+◌, ◌<◌, ◌≤◌, ◌^◌, Bool, true, false, cond, List, [], ◌∷◌, ◌++◌, length, Option, Some, None, refl, sym, ap, ◌∙◌, subst, map, append_assoc, arith, Contains}
use Rattle.std.specs.Prelude.{IsTrue}
use Rattle.std.specs.List.{AllByRecursion}
use Rattle.std.specs.Ordering.{eq_by_cmp}
use Rattle.std.specs.FinMap.Entries.{put}
use Rattle.std.proofs.lemmas.List.{append-nil, map-append}
use Rattle.std.proofs.lemmas.List.Elements.{Contains-append_left}
use Rattle.ivy_base.specs.declared.key.Key.{Key}
use Rattle.ivy_base.specs.declared.key.PubKey.{PubKey}
use Rattle.ivy_base.specs.declared.operation.Moment.{Moment}
use Rattle.ivy_base.specs.declared.operation.Op.{Op}
use Rattle.ivy_base.specs.Naming.{key_cmp, owner_cmp, head_key_of}
use Rattle.ivy_base.proofs.NameLemmas.{length-name, bytes-name}
use Rattle.tree_model.specs.Apply.{apply, apply_all, empty_tree}
use Rattle.tree_model.specs.Tree.{Tree}
use Rattle.log_model.specs.View.{View, is_member, is_named, most_cited}
use Rattle.log_model.specs.Vector.{Stamp, Vector, stamp_at, reach, seq_of, Dominates, later_or, with_entry, weight_of}
use Rattle.log_model.specs.Record.{Record, Heading}
use Rattle.log_model.specs.Spelling.{record_block, new_record, HasSpelling, IsKey, IsMoment}
use Rattle.log_model.specs.Rank.{own_entry, full_vector, weight}
use Rattle.log_model.specs.Chain.{IsGood, Follows, GoesOn, IsChain, MayBeWritten, AllMayBeWritten}
use Rattle.log_model.specs.Closed.{log_of, IsAscending, IsCause, HasCauses, IsClosed}
use Rattle.log_model.specs.Replay.{effect, replay}
use Rattle.log_model.proofs.Lists.{here, there, each_from, each, each_append, in_filter, from_filter}
use Rattle.log_model.proofs.Opening.{same_owner}
use Rattle.log_model.proofs.Chains.{last_after, GoesOn-push}
use Rattle.log_model.proofs.Vectors.{stamp_at-with_entry}
use Rattle.log_model.proofs.Weights.{Sorted, weight-mono, weight-full_vector, weight-put_new, sorted_with_entry, Dominates-trans}
use Rattle.log_model.proofs.Part.{log_push, causes_weaken, chain_good}
use Rattle.log_model.proofs.Owners.{owner_itself}
use Rattle.log_model.proofs.Sets.{IsBefore, lighter_is_before, ascending_in_order}

-- a record that is above all of an ascending list
ascends_push : (s : List Record) (r : Record) → IsAscending s → AllByRecursion (λ q. weight q < weight r) s → IsAscending (s ++ r ∷ [])
ascends_push [] r h light = (tt, tt)
ascends_push (x ∷ s) r h light = (each_append (IsBefore x) s (r ∷ []) h.0 (lighter_is_before x r light.0, tt), ascends_push s r h.1 light.1)

-- the last record of a log that isn't empty
pub record EndsWith (s : List Record) (own : PubKey) (p : Record) : Type 0 where
  pub first : Record
  pub rest : List Record
  pub log : log_of own s ≡ first ∷ rest
  pub last : last_after first rest ≡ p

pub push_closed : (view : View) (s : List Record) (own : PubKey) (p r : Record) → IsClosed view s → Contains view.members own → EndsWith s own p → IsGood view own r → Follows p r → HasCauses view s r → AllByRecursion (λ q. weight q < weight r) s → IsClosed view (s ++ r ∷ [])
push_closed view s own p r closed member ends good follows causes light = record {
  ascending = ascends_push s r closed.ascending light;
  members = each_append (λ q. Contains view.members q.owner) s (r ∷ []) closed.members (subst (λ (o : PubKey). Contains view.members o) (sym good.owned) member, tt);
  chains = λ owner. by owner (eq_by_cmp owner_cmp owner r.owner) refl;
  causes = each_append (HasCauses view (s ++ r ∷ [])) s (r ∷ [])
      (each_from (HasCauses view (s ++ r ∷ [])) s (λ q c. causes_weaken view s (s ++ r ∷ []) q (λ x d. Contains-append_left s (r ∷ []) x d) (each (HasCauses view s) s q closed.causes c)))
      (causes_weaken view s (s ++ r ∷ []) r (λ x d. Contains-append_left s (r ∷ []) x d) causes, tt);
}
  where
    goes_on : GoesOn view own ends.first (ends.rest ++ r ∷ [])
    goes_on = let chain : IsChain view own (ends.first ∷ ends.rest) = subst (λ (l : List Record). IsChain view own l) ends.log (closed.chains own) in
        GoesOn-push view own ends.first ends.rest r chain.2 good (subst (λ (x : Record). Follows x r) (sym ends.last) follows)

    own_chain : IsChain view own (log_of own s ++ r ∷ [])
    own_chain = let chain : IsChain view own (ends.first ∷ ends.rest) = subst (λ (l : List Record). IsChain view own l) ends.log (closed.chains own) in
        subst (λ (l : List Record). IsChain view own (l ++ r ∷ [])) (sym ends.log) (chain.0, chain.1, goes_on)

    by : (owner : PubKey) (b : Bool) → eq_by_cmp owner_cmp owner r.owner ≡ b → IsChain view owner (log_of owner (s ++ r ∷ []))
    by owner true e =
        let is_own : own ≡ owner = sym good.owned ∙ same_owner owner r.owner e in
        subst (λ (l : List Record). IsChain view owner l) (sym (log_push owner s r true e)) (subst (λ (o : PubKey). IsChain view o (log_of o s ++ r ∷ [])) is_own own_chain)
    by owner false e = subst (λ (l : List Record). IsChain view owner l) (sym (log_push owner s r false e ∙ append-nil (log_of owner s))) (closed.chains owner)

-- ---- what a turn writes over a set

-- a vector over a set: what a record that goes on from p may cite
pub record IsOver (view : View) (s : List Record) (own : PubKey) (v : Vector) (p : Record) : Type 0 where
  pub in_order : Sorted v
  pub of_others : stamp_at v (head_key_of own) ≡ None
  pub entries : AllByRecursion (λ e. IsKey e.0 × (1 ≤ e.1.seq) × (e.1.seq < 2 ^ 32) × IsKey e.1.name) v
  pub short : length v ≤ most_cited
  pub named : AllByRecursion (λ e. IsTrue (is_named view e.0)) v
  -- each entry of a member's log is a record of the set
  pub stands : AllByRecursion (λ e. IsTrue (is_member view e.0) → (c : Record) × Contains s c × (own_entry c ≡ e)) v
  -- with p it goes as far as each record of the set
  pub covers : AllByRecursion (λ q. Dominates (with_entry v (own_entry p)) (full_vector q)) s
  pub owned : p.owner ≡ own
  pub began : 1 ≤ p.seq
  pub named_well : IsKey p.name

abbrev pub next_record : Heading → Record → Op → Record
next_record h p op = new_record h (p.seq + 1) p.name op

-- names are well-formed keys: a fact of the digest alone
pub name_is_key : (r : Record) → HasSpelling r → IsKey r.name
name_is_key r h = subst IsKey (sym h.named) (record { size = length-name (record_block r); each = bytes-name (record_block r) })

reach_chosen : (b : Bool) (t : Stamp) (o : Option Stamp) → reach (cond b (Some t) o) ≡ cond b t.seq (reach o)
reach_chosen true t o = refl
reach_chosen false t o = refl

-- how far a vector goes with a record of a log that it doesn't cite
pub seq_with : (v : Vector) (p : Record) (log : Key) → stamp_at v (head_key_of p.owner) ≡ None → seq_of (with_entry v (own_entry p)) log ≡ cond (eq_by_cmp key_cmp log (head_key_of p.owner)) p.seq (seq_of v log)
seq_with v p log none =
    ap reach (stamp_at-with_entry v (own_entry p) log)
    ∙ ap (λ (o : Option Stamp). reach (cond (eq_by_cmp key_cmp log (head_key_of p.owner)) (Some (later_or o (own_entry p).1)) (stamp_at v log))) none
    ∙ reach_chosen (eq_by_cmp key_cmp log (head_key_of p.owner)) (own_entry p).1 (stamp_at v log)

chosen_grows : (b : Bool) (n m k : ℕ) → n ≤ m → cond b n k ≤ cond b m k
chosen_grows true n m k le = le
chosen_grows false n m k le = omega arith

-- with a later record of its log it goes as far
pub grown : (v : Vector) (p r : Record) → p.owner ≡ r.owner → stamp_at v (head_key_of r.owner) ≡ None → p.seq ≤ r.seq → Dominates (with_entry v (own_entry r)) (with_entry v (own_entry p))
grown v p r same none le log =
    let none_p : stamp_at v (head_key_of p.owner) ≡ None = subst (λ (o : PubKey). stamp_at v (head_key_of o) ≡ None) (sym same) none in
    let left = seq_with v p log none_p in
    let right = seq_with v r log none in
    let moved : cond (eq_by_cmp key_cmp log (head_key_of p.owner)) p.seq (seq_of v log) ≡ cond (eq_by_cmp key_cmp log (head_key_of r.owner)) p.seq (seq_of v log) = ap (λ (o : PubKey). cond (eq_by_cmp key_cmp log (head_key_of o)) p.seq (seq_of v log)) same in
    let step = chosen_grows (eq_by_cmp key_cmp log (head_key_of r.owner)) p.seq r.seq (seq_of v log) le in
    omega arith

weight_with : (v : Vector) (p : Record) → stamp_at v (head_key_of p.owner) ≡ None → weight_of (with_entry v (own_entry p)) ≡ p.seq + weight_of v
weight_with v p none = ap (λ (o : Option Stamp). weight_of (put key_cmp (head_key_of p.owner) (later_or o (own_entry p).1) v)) none ∙ weight-put_new (head_key_of p.owner) (own_entry p).1 v none

pub good_of : (view : View) (s : List Record) (q : Record) → IsClosed view s → Contains s q → IsGood view q.owner q
good_of view s q closed c = each (IsGood view q.owner) (log_of q.owner s) q (chain_good view q.owner (log_of q.owner s) (closed.chains q.owner)) (in_filter (λ (x : Record). eq_by_cmp owner_cmp q.owner x.owner) s q c (owner_itself q.owner))

pub last_in : (p : Record) (rs : List Record) → Contains (p ∷ rs) (last_after p rs)
unfolding last_after
last_in p [] = here p []
last_in p (r ∷ rs) = there p (r ∷ rs) (last_after r rs) (last_in r rs)

pub last_push : (p : Record) (rs : List Record) (r : Record) → last_after p (rs ++ r ∷ []) ≡ r
unfolding last_after
last_push p [] r = refl
last_push p (q ∷ rs) r = last_push q rs r

pub last_stands : (s : List Record) (own : PubKey) (p : Record) → EndsWith s own p → Contains s p
last_stands s own p ends =
    let c = subst (λ (x : Record). Contains (ends.first ∷ ends.rest) x) ends.last (last_in ends.first ends.rest) in
    (from_filter (λ (x : Record). eq_by_cmp owner_cmp own x.owner) s p (subst (λ (l : List Record). Contains l p) (sym ends.log) c)).0

pub record Goes (view : View) (s : List Record) (own : PubKey) (v : Vector) (r : Record) : Type 0 where
  pub closed : IsClosed view (s ++ r ∷ [])
  pub ends : EndsWith (s ++ r ∷ []) own r
  pub over : IsOver view (s ++ r ∷ []) own v r
  pub above : AllByRecursion (λ q. weight q < weight r) s

-- a closed set with the next record is closed, and that record is above all others
pub goes : (view : View) (s : List Record) (h : Heading) (p : Record) (op : Op)
    → IsClosed view s → Contains view.members h.owner → IsMoment h.moment → EndsWith s h.owner p → IsOver view s h.owner h.vector p → MayBeWritten h.owner (p.seq + 1) op
    → Goes view s h.owner h.vector (next_record h p op)
goes view s h p op closed member moment ends over may = record {
  closed = push_closed view s h.owner p r closed member ends good follows causes light;
  ends = record { first = ends.first; rest = ends.rest ++ r ∷ []; log = log_push h.owner s r true (owner_itself h.owner) ∙ ap (λ l. l ++ r ∷ []) ends.log; last = last_push ends.first ends.rest r };
  over = record {
    in_order = over.in_order;
    of_others = over.of_others;
    entries = over.entries;
    short = over.short;
    named = over.named;
    stands = each_from (λ e. IsTrue (is_member view e.0) → (c : Record) × Contains (s ++ r ∷ []) c × (own_entry c ≡ e)) h.vector
        (λ e in_vector is. let w = each (λ e. IsTrue (is_member view e.0) → (c : Record) × Contains s c × (own_entry c ≡ e)) h.vector e over.stands in_vector is in (w.0, Contains-append_left s (r ∷ []) w.0 w.1, w.2));
    covers = each_append (λ q. Dominates (with_entry h.vector (own_entry r)) (full_vector q)) s (r ∷ []) (each_from (λ q. Dominates (with_entry h.vector (own_entry r)) (full_vector q)) s (λ q c. known q c)) (λ log. omega arith, tt);
    owned = refl;
    began = omega arith;
    named_well = name_is_key r good.spelled;
  };
  above = light;
}
  where
    r : Record
    r = next_record h p op

    known : (q : Record) → Contains s q → Dominates (with_entry h.vector (own_entry (next_record h p op))) (full_vector q)
    known q c = Dominates-trans (with_entry h.vector (own_entry (next_record h p op))) (with_entry h.vector (own_entry p)) (full_vector q) (grown h.vector p (next_record h p op) over.owned over.of_others (omega arith)) (each (λ q. Dominates (with_entry h.vector (own_entry p)) (full_vector q)) s q over.covers c)

    none_p : stamp_at h.vector (head_key_of p.owner) ≡ None
    none_p = subst (λ (o : PubKey). stamp_at h.vector (head_key_of o) ≡ None) (sym over.owned) over.of_others

    light : AllByRecursion (λ q. weight q < weight (next_record h p op)) s
    light = each_from (λ q. weight q < weight (next_record h p op)) s (λ q c.
        let spelled = (good_of view s q closed c).spelled in
        let same = weight-full_vector q spelled in
        let le = weight-mono (full_vector q) (with_entry h.vector (own_entry p)) (sorted_with_entry h.vector (own_entry p) over.in_order) (sorted_with_entry q.vector (own_entry q) spelled.in_order) (each (λ q. Dominates (with_entry h.vector (own_entry p)) (full_vector q)) s q over.covers c) in
        let more = weight_with h.vector p none_p in
        omega arith)

    good : IsGood view h.owner (next_record h p op)
    good = record {
      owned = refl;
      spelled = record {
        some = omega arith;
        few = may.few;
        prev = over.named_well;
        moment = moment;
        entries = over.entries;
        in_order = over.in_order;
        short = over.short;
        of_others = over.of_others;
        operation = may.fits;
        ends_first = (λ e. let b = over.began in absurd (omega arith), λ e. absurd (may.no_end e));
        first_alone = λ e. let b = over.began in absurd (omega arith);
        first_plain = λ e. let b = over.began in absurd (omega arith);
        named = refl;
      };
      number = may.number;
      named = over.named;
    }

    follows : Follows p (next_record h p op)
    follows = record { seq = refl; prev = refl; grows = known p (last_stands s h.owner p ends) }

    causes : HasCauses view s (next_record h p op)
    causes = each_from (λ e. IsTrue (is_member view e.0) → (c : Record) × Contains s c × IsCause c e (next_record h p op)) h.vector
        (λ e in_vector is. let w = each (λ e. IsTrue (is_member view e.0) → (c : Record) × Contains s c × (own_entry c ≡ e)) h.vector e over.stands in_vector is in
        (w.0, w.1, record { cited = w.2; lighter = each (λ q. weight q < weight (next_record h p op)) s w.0 light w.1; known = known w.0 w.1 }))

-- ---- all that a turn writes

-- one record for each operation, each after the one before
abbrev pub written : Heading → Record → List Op → List Record
written h p [] = []
written h p (op ∷ ops) = next_record h p op ∷ written h (next_record h p op) ops

pub all_go : (view : View) (s : List Record) (h : Heading) (p : Record) (ops : List Op)
    → IsClosed view s → Contains view.members h.owner → IsMoment h.moment → EndsWith s h.owner p → IsOver view s h.owner h.vector p → AllMayBeWritten h.owner (p.seq + 1) ops
    → IsClosed view (s ++ written h p ops)
all_go view s h p [] closed member moment ends over may = subst (λ (l : List Record). IsClosed view l) (sym (append-nil s)) closed
all_go view s h p (op ∷ ops) closed member moment ends over may =
    let one = goes view s h p op closed member moment ends over may.0 in
    let r : Record = next_record h p op in
    subst (λ (l : List Record). IsClosed view l) (append_assoc s (r ∷ []) (written h r ops))
    (all_go view (s ++ r ∷ []) h r ops one.closed member moment one.ends one.over may.1)

-- ---- the tree of a larger set

pub apply_more : (t : Tree) (xs ys : List (Moment × Op)) → apply_all t (xs ++ ys) ≡ apply_all (apply_all t xs) ys
apply_more t [] ys = refl
apply_more t (x ∷ xs) ys = apply_more (apply t x.0 x.1) xs ys

pub replay_more : (s more : List Record) → IsAscending s → IsAscending (s ++ more) → replay (s ++ more) ≡ apply_all (replay s) (map effect more)
replay_more s more up all =
    ap (λ (l : List Record). apply_all empty_tree (map effect l)) (ascending_in_order (s ++ more) all)
    ∙ ap (λ (l : List (Moment × Op)). apply_all empty_tree l) (map-append effect s more)
    ∙ apply_more empty_tree (map effect s) (map effect more)
    ∙ ap (λ (l : List Record). apply_all (apply_all empty_tree (map effect l)) (map effect more)) (sym (ascending_in_order s up))
