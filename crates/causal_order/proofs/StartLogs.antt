-- Where a pass starts: all the logs, with all the chains.
use Rattle.std.proofs.Common.{◌≡◌, ◌⊎◌, inl, inr, ⊎_elim, ℕ, zero, suc, ◌+◌, ◌<◌, true, false, List, [], ◌∷◌, ◌++◌, length, get_or, set, take, drop, map, refl, sym, ap, ◌∙◌, subst, append_assoc, arith, Contains}
use Rattle.std.specs.List.{All, AllByRecursion, list_all}
use Rattle.std.specs.Cmp.{tied_itself}
use Rattle.std.specs.Ordering.{is_lt}
use Rattle.std.proofs.lemmas.List.{append-nil, drop_all, length-map, map-append, take_all, take_more}
use Rattle.std.proofs.lemmas.List.Elements.{All-get_or, All-push, All-weaker, All-contains, All-from_recursion, Contains-get_or, Contains-append_left, Contains-append_right, Contains-append_cases}
use Rattle.ivy_base.specs.declared.key.PubKey.{PubKey}
use Rattle.ivy_base.specs.Naming.{owner_cmp, head_key_of}
use Rattle.tree_model.proofs.Sound.{both_true}
use Rattle.log_model.specs.View.{View, IsView, ascend}
use Rattle.log_model.specs.Vector.{Vector, stamp_at}
use Rattle.log_model.specs.Record.{Record}
use Rattle.log_model.specs.Chain.{IsGood}
use Rattle.log_model.specs.Closed.{log_of}
use Rattle.log_model.proofs.Lists.{here, there, in_cons, in_nothing, each_from, each, passes}
use Rattle.log_model.proofs.Owners.{owners_total}
use Rattle.log_records.specs.declared.record.Record as kept
use Rattle.log_records.specs.Records.{record_of}
use Rattle.log_records.specs.Records.{records_of}
use Rattle.log_model.specs.Fetched.{owner_of}
use Rattle.causal_order.specs.Over.{GoesOnFrom, IsChainOver, IsClosed}
use Rattle.causal_order.specs.Available.{IsLinked, IsFetched, Extends, IsAvailable, news, held_to}
use Rattle.causal_order.specs.Passing.{Queue, AreApart, IsLeft, IsPassed, IsTaken}
use Rattle.causal_order.specs.declared.log.Log.{Log}
use Rattle.log_records.specs.declared.batch.Chain.{Chain}
use Rattle.causal_order.specs.Kept.{IsKept, AreKept, queue_of}
use Rattle.causal_order.specs.Started.{HaveOwnOwners, IsHeldLog, HasQueued, TakesIn}
use Rattle.causal_order.proofs.Logs.{good_over}
use Rattle.causal_order.proofs.Meeting.{to_map, from_map}
use Rattle.causal_order.proofs.Passes.{start}
use Rattle.causal_order.proofs.StartChains.{news_owner}

-- ---- owners

abbrev pub AllApart : List PubKey → Type 0
AllApart [] = Unit {0}
AllApart (k ∷ ks) = AllByRecursion (λ l. k ≡ l → ⊥) ks × AllApart ks

pub members_apart : (ks : List PubKey) → ascend ks ≡ true → AllApart ks
members_apart [] h = tt
members_apart (k ∷ ks) h =
    let parts = both_true (list_all (λ later. is_lt (owner_cmp k later)) ks) (ascend ks) h in
    (each_from (λ l. k ≡ l → ⊥) ks (λ l c e. never l (passes (λ later. is_lt (owner_cmp k later)) ks l parts.0 c) e), members_apart ks parts.1)
  where
    never : (l : PubKey) → is_lt (owner_cmp k l) ≡ true → k ≡ l → ⊥
    never l less e =
        let own : is_lt (owner_cmp k k) ≡ true = subst (λ (o : PubKey). is_lt (owner_cmp k o) ≡ true) (sym e) less in
        let tied : is_lt (owner_cmp k k) ≡ false = ap is_lt (tied_itself owners_total k) in
        absurd (let no_way = sym own ∙ tied in cc)

queues_apart : (logs : List Log) → AllApart (map (λ l. l.owner) logs) → AreApart (map queue_of logs)
queues_apart [] h = tt
queues_apart (x ∷ logs) h = (
  each_from (λ k. x.owner ≡ k.owner → ⊥) (map queue_of logs) (λ k c e.
      let w = from_map queue_of logs k c in
      each (λ o. x.owner ≡ o → ⊥) (map (λ l. l.owner) logs) w.0.owner h.0 (to_map (λ (l : Log). l.owner) logs w.0 w.1) (e ∙ sym (ap (λ (q : Queue). q.owner) w.2))),
  queues_apart logs h.1,
)

module _ (P : Log → Type 0) where
  pub set_each : (logs : List Log) (i : ℕ) (new : Log) → AllApart (map (λ l. l.owner) logs) → i < length logs → P new
      → ((x : Log) → Contains logs x → (x.owner ≡ (get_or logs i new).owner → ⊥) → P x) → AllByRecursion P (set logs i new)
  set_each [] i new apart within p other = absurd (omega (arith, within))
  set_each (x ∷ xs) zero new apart within p other =
      (p, each_from P xs (λ y c. other y (there x xs y c) (λ e. each (λ o. x.owner ≡ o → ⊥) (map (λ l. l.owner) xs) y.owner apart.0 (to_map (λ (l : Log). l.owner) xs y c) (sym e))))
  set_each (x ∷ xs) (suc i) new apart within p other =
      let less : i < length xs = omega (arith, within) in (
        other x (here x xs) (λ e. each (λ o. x.owner ≡ o → ⊥) (map (λ l. l.owner) xs) (get_or xs i new).owner apart.0 (to_map (λ (l : Log). l.owner) xs (get_or xs i new) (Contains-get_or xs i new less)) e),
        set_each xs i new apart.1 less p (λ y c ne. other y (there x xs y c) ne),
      )

set_owners : (logs : List Log) (i : ℕ) (new : Log) → i < length logs → new.owner ≡ (get_or logs i new).owner → map (λ l. l.owner) (set logs i new) ≡ map (λ l. l.owner) logs
set_owners [] i new within e = absurd (omega (arith, within))
set_owners (x ∷ xs) zero new within e = ap (λ (o : PubKey). o ∷ map (λ l. l.owner) xs) e
set_owners (x ∷ xs) (suc i) new within e = ap (λ (os : List PubKey). x.owner ∷ os) (set_owners xs i new (omega (arith, within)) e)

-- ---- chains

pub owner_is : (items : List kept.Record) (first : kept.Record) → 0 < length items → first ≡ get_or items 0 first → first.owner ≡ owner_of (records_of items)
owner_is [] first h e = absurd (omega (arith, h))
owner_is (x ∷ items) first h e = ap (λ (y : kept.Record). y.owner) e

-- a chain's owner is none of those before it
pub apart_before : (a : List (List Record)) (k : List Record) (b : List (List Record)) → HaveOwnOwners (a ++ k ∷ b) → (c : List Record) → Contains a c → owner_of c ≡ owner_of k → ⊥
apart_before [] k b h c d e = absurd (in_nothing c d)
apart_before (x ∷ a) k b h c d e = ⊎_elim
    (λ is_c. each (λ y. owner_of x ≡ owner_of y → ⊥) (a ++ k ∷ b) k h.0 (Contains-append_right a (k ∷ b) k (here k b)) (ap owner_of is_c ∙ e))
    (λ f. apart_before a k b h.1 c f e) (in_cons x a c d)

nothing_in : (items : List kept.Record) → ((q : Record) → Contains (records_of items) q → ⊥) → items ≡ []
nothing_in [] h = refl
nothing_in (x ∷ items) h = absurd (h (record_of x) (here (record_of x) (records_of items)))

module _ (view : View) (front : Vector) (held : List Record) where
  over_owner : (owner : PubKey) (more : List Record) (q : Record) → IsChainOver view front owner (log_of owner held ++ more) → Contains more q → q.owner ≡ owner
  over_owner owner more q going c = (each (IsGood view owner) (log_of owner held ++ more) q (good_over view owner (start view front owner) (log_of owner held ++ more) going) (Contains-append_right (log_of owner held) more q c)).owned

  -- a log of which there was no chain yet has nothing to be seen
  pub still_empty : (done : List (List Record)) (owner : PubKey) (l : Log) → ((c : List Record) → Contains done c → IsLinked view c) → ((c : List Record) → Contains done c → owner_of c ≡ owner → ⊥)
      → HasQueued view front held done l → l.owner ≡ owner → l.queue.items ≡ []
  still_empty done owner l linked apart h e = nothing_in l.queue.items (λ q c.
      let w = h.hand q c in
      apart w.0 w.1 (sym (news_owner view (held_to front held l.owner) w.0 q (linked w.0 w.1) w.3) ∙ over_owner l.owner (records_of l.queue.items) q h.going c ∙ e))

  with_chain : (done : List (List Record)) (chain : List Record) (old new : Log) → HasQueued view front held done old → old.queue.items ≡ [] → old.owner ≡ new.owner → HasQueued view front held (chain ∷ []) new → HasQueued view front held (done ++ chain ∷ []) new
  with_chain done chain old new h empty same g = record {
    kept = g.kept;
    going = g.going;
    hand = λ q c. let w = g.hand q c in (w.0, Contains-append_right done (chain ∷ []) w.0 w.1, w.2, w.3);
    all = λ other c extends q d. ⊎_elim
        (λ before. absurd (in_nothing q (subst (λ (xs : List kept.Record). Contains (records_of xs) q) empty
        (h.all other before (subst (λ (o : PubKey). Extends view front held o other) (sym same) extends) q (subst (λ (o : PubKey). Contains (news front held o other) q) (sym same) d)))))
        (λ now. g.all other now extends q d)
        (Contains-append_cases done (chain ∷ []) other c);
  }

  other_chain : (done : List (List Record)) (chain : List Record) (l : Log) → IsLinked view chain → (l.owner ≡ owner_of chain → ⊥) → HasQueued view front held done l → HasQueued view front held (done ++ chain ∷ []) l
  other_chain done chain l linked apart h = record {
    kept = h.kept;
    going = h.going;
    hand = λ q c. let w = h.hand q c in (w.0, Contains-append_left done (chain ∷ []) w.0 w.1, w.2, w.3);
    all = λ other c extends q d. ⊎_elim
        (λ before. h.all other before extends q d)
        (λ now. ⊎_elim
        (λ e. absurd (apart (sym (over_owner l.owner (news front held l.owner other) q extends d) ∙ news_owner view (held_to front held l.owner) other q (subst (λ (xs : List Record). IsLinked view xs) e linked) d ∙ sym (ap owner_of e))))
        (λ f. absurd (in_nothing other f)) (in_cons chain [] other now))
        (Contains-append_cases done (chain ∷ []) other c);
  }

  pub more_queued : (done : List (List Record)) (chain : List Record) (old new : List Log) → IsLinked view chain → AllApart (map (λ l. l.owner) old)
      → All (λ l. l.owner ≡ owner_of chain → l.queue.items ≡ []) old → All (HasQueued view front held done) old → TakesIn view front held chain old new → All (HasQueued view front held (done ++ chain ∷ [])) new
  more_queued done chain old new linked apart empty h t =
      let was : Log = get_or old t.place t.log in
      subst (λ (ls : List Log). All (HasQueued view front held (done ++ chain ∷ [])) ls) (sym t.set)
      (All-from_recursion (HasQueued view front held (done ++ chain ∷ [])) (set old t.place t.log)
      (set_each (HasQueued view front held (done ++ chain ∷ [])) old t.place t.log apart t.within
      (with_chain done chain (get_or old t.place t.log) t.log (All-get_or (HasQueued view front held done) old t.place t.log t.within h)
      (All-get_or (λ l. l.owner ≡ owner_of chain → l.queue.items ≡ []) old t.place t.log t.within empty t.was) (t.was ∙ sym t.owned) t.queued)
      (λ y c ne. other_chain done chain y linked (λ e. ne (e ∙ sym t.was)) (All-contains (HasQueued view front held done) old y h c))))

  pub same_owners : (chain : List Record) (old new : List Log) → TakesIn view front held chain old new → map (λ l. l.owner) new ≡ map (λ l. l.owner) old
  same_owners chain old new t = ap (λ (ls : List Log). map (λ (l : Log). l.owner) ls) t.set ∙ set_owners old t.place t.log t.within (t.owned ∙ sym t.was)

  -- no chain was taken in yet
  pub none_queued : (l : Log) → IsChainOver view front l.owner (log_of l.owner held) → IsHeldLog front held l.owner l → HasQueued view front held [] l
  none_queued l chain h = record {
    kept = h.kept;
    going = subst (λ (xs : List kept.Record). GoesOnFrom view l.owner (stamp_at front (head_key_of l.owner)) (log_of l.owner held ++ records_of xs)) (sym h.empty)
        (subst (λ (xs : List Record). GoesOnFrom view l.owner (stamp_at front (head_key_of l.owner)) xs) (sym (append-nil (log_of l.owner held))) chain);
    hand = λ q c. absurd (in_nothing q (subst (λ (xs : List kept.Record). Contains (records_of xs) q) h.empty c));
    all = λ other c extends q d. absurd (in_nothing other c);
  }

  -- ---- the start of the pass

  module _ (chains : List (List Record)) (logs : List Log) (legal : IsView view) (closed : IsClosed view front held)
      (owners : map (λ l. l.owner) logs ≡ view.members) (queued : All (HasQueued view front held chains) logs) where
    queued_in : (l : Log) → Contains logs l → HasQueued view front held chains l
    queued_in l c = All-contains (HasQueued view front held chains) logs l queued c

    apart : AllApart (map (λ l. l.owner) logs)
    apart = subst AllApart (sym owners) (members_apart view.members legal.members_ascend)

    passed : IsPassed view front held (map queue_of logs)
    passed = record {
      logs = closed.chains;
      going = λ k c. let w = from_map queue_of logs k c in subst (λ (m : Queue). IsChainOver view front m.owner (log_of m.owner held ++ m.left)) w.2 (queued_in w.0 w.1).going;
      apart = queues_apart logs apart;
      owners = each_from (λ k. Contains view.members k.owner) (map queue_of logs) (λ k c.
          let w = from_map queue_of logs k c in
          subst (λ (m : Queue). Contains view.members m.owner) w.2 (subst (λ (os : List PubKey). Contains os w.0.owner) owners (to_map (λ (l : Log). l.owner) logs w.0 w.1)));
      members = closed.members;
      causes = closed.causes;
    }

    pub kept_held : AreKept view front held logs
    kept_held = record {
      kept = All-weaker (HasQueued view front held chains) (IsKept front held) (λ l h. h.kept) logs queued;
      owners = owners;
      passed = passed;
    }

    -- what is left is available
    left_available : (q : Record) → IsLeft (map queue_of logs) q → IsAvailable view front held chains q
    left_available q left =
        let w = from_map queue_of logs left.queue left.stands in
        let h = queued_in w.0 w.1 in
        let stands : Contains (records_of w.0.queue.items) q = subst (λ (m : Queue). Contains m.left q) (sym w.2) left.left in
        let d = h.hand q stands in
        let own : w.0.owner ≡ q.owner = sym (over_owner w.0.owner (records_of w.0.queue.items) q h.going stands) in
        inr (d.0, d.1, subst (λ (o : PubKey). Extends view front held o d.0) own d.2, subst (λ (o : PubKey). Contains (news front held o d.0) q) own d.3)

    -- what is available of a member's log is held or left
    seen_available : (q : Record) → Contains view.members q.owner → IsAvailable view front held chains q → Contains held q ⊎ IsLeft (map queue_of logs) q
    seen_available q member (inl c) = inl c
    seen_available q member (inr d) =
        let w = from_map (λ (l : Log). l.owner) logs q.owner (subst (λ (os : List PubKey). Contains os q.owner) (sym owners) member) in
        let own : q.owner ≡ w.0.owner = sym w.2 in
        let left : Contains (records_of w.0.queue.items) q = (queued_in w.0 w.1).all d.0 d.1 (subst (λ (o : PubKey). Extends view front held o d.0) own d.2) q (subst (λ (o : PubKey). Contains (news front held o d.0) q) own d.3) in
        inr (record { queue = queue_of w.0; stands = to_map queue_of logs w.0 w.1; left = left })

    pub taken_held : IsTaken view front (IsAvailable view front held chains) held [] (map queue_of logs)
    taken_held = record {
      passed = passed;
      hand = λ q c. inl c;
      left_hand = left_available;
      seen = λ t within_closed within q c. seen_available q (each (λ r. Contains view.members r.owner) t q within_closed.members c) (within q c);
      ascending = tt;
      below = λ q x c l. absurd (in_nothing q c);
    }

    pub kept_start : AreKept view front (held ++ []) logs
    kept_start = subst (λ (known : List Record). AreKept view front known logs) (sym (append-nil held)) kept_held

    pub taken_start : IsTaken view front (IsAvailable view front held chains) (held ++ []) [] (map queue_of logs)
    taken_start = subst (λ (known : List Record). IsTaken view front (IsAvailable view front held chains) known [] (map queue_of logs)) (sym (append-nil held)) taken_held

-- a log of that owner there is
pub no_log : (logs : List Log) (owner other : PubKey) → owner ≡ other → Contains (map (λ l. l.owner) logs) other → All (λ l. l.owner ≡ owner → ⊥) logs → ⊥
no_log logs owner other e c none =
    let w = from_map (λ (l : Log). l.owner) logs other c in
    All-contains (λ l. l.owner ≡ owner → ⊥) logs w.0 none w.1 (w.2 ∙ sym e)

-- ---- the loop over the chains

module _ (view : View) (front : Vector) (held : List Record) (items done rest later : List Chain) (chain : Chain) (whole : items ≡ done ++ rest) (next : rest ≡ chain ∷ later) where
  split : items ≡ done ++ chain ∷ later
  split = whole ∙ ap (λ (xs : List Chain). done ++ xs) next

  pub more_whole : items ≡ (done ++ chain ∷ []) ++ later
  more_whole = split ∙ sym (append_assoc done (chain ∷ []) later)

  was_done : (c : Chain) → Contains done c → Contains items c
  was_done c d = subst (λ (xs : List Chain). Contains xs c) (sym split) (Contains-append_left done (chain ∷ later) c d)

  is_now : Contains items chain
  is_now = subst (λ (xs : List Chain). Contains xs chain) (sym split) (Contains-append_right done (chain ∷ later) chain (here chain later))

  module _ (fetched : AllByRecursion (λ c. IsFetched view front held (records_of c.records)) items) (own : HaveOwnOwners (map (λ c. records_of c.records) items)) where
    done_linked : (c : List Record) → Contains (map (λ (x : Chain). records_of x.records) done) c → IsLinked view c
    done_linked c d =
        let w = from_map (λ (x : Chain). records_of x.records) done c d in
        subst (λ (xs : List Record). IsLinked view xs) w.2 (each (λ x. IsFetched view front held (records_of x.records)) items w.0 fetched (was_done w.0 w.1)).linked

    done_apart : (c : List Record) → Contains (map (λ (x : Chain). records_of x.records) done) c → owner_of c ≡ owner_of (records_of chain.records) → ⊥
    done_apart = apart_before (map (λ (x : Chain). records_of x.records) done) (records_of chain.records) (map (λ (x : Chain). records_of x.records) later)
        (subst HaveOwnOwners (ap (λ (xs : List Chain). map (λ (x : Chain). records_of x.records) xs) split ∙ map-append (λ (x : Chain). records_of x.records) done (chain ∷ later)) own)

    pub empty_yet : (logs : List Log) → All (HasQueued view front held (map (λ (x : Chain). records_of x.records) done)) logs → All (λ l. l.owner ≡ owner_of (records_of chain.records) → l.queue.items ≡ []) logs
    empty_yet logs h = All-weaker (HasQueued view front held (map (λ (x : Chain). records_of x.records) done)) (λ l. l.owner ≡ owner_of (records_of chain.records) → l.queue.items ≡ [])
        (λ l q e. still_empty view front held (map (λ (x : Chain). records_of x.records) done) (owner_of (records_of chain.records)) l done_linked done_apart q e) logs h

    pub chain_queued : (old new : List Log) → AllApart (map (λ l. l.owner) old) → All (HasQueued view front held (map (λ (x : Chain). records_of x.records) done)) old
        → TakesIn view front held (records_of chain.records) old new → All (HasQueued view front held (map (λ (x : Chain). records_of x.records) (done ++ chain ∷ []))) new
    chain_queued old new apart h t = subst (λ (cs : List (List Record)). All (HasQueued view front held cs) new) (sym (map-append (λ (x : Chain). records_of x.records) done (chain ∷ [])))
        (more_queued view front held (map (λ (x : Chain). records_of x.records) done) (records_of chain.records) old new
        (each (λ x. IsFetched view front held (records_of x.records)) items chain fetched is_now).linked apart (empty_yet old h) h t)

-- ---- the loop over the members

pub owners_more : (logs : List Log) (os : List PubKey) (i : ℕ) (new : Log) (d : PubKey) → map (λ l. l.owner) logs ≡ take i os → i < length os → new.owner ≡ get_or os i d → map (λ l. l.owner) (logs ++ new ∷ []) ≡ take (i + 1) os
owners_more logs os i new d e within own = map-append (λ (l : Log). l.owner) logs (new ∷ []) ∙ ap (λ (xs : List PubKey). xs ++ new.owner ∷ []) e ∙ ap (λ (o : PubKey). take i os ++ o ∷ []) own ∙ sym (take_more os i d within)

pub held_more : (front : Vector) (held : List Record) (logs : List Log) (owner : PubKey) (new : Log) → All (λ l. IsHeldLog front held l.owner l) logs → IsHeldLog front held owner new → All (λ l. IsHeldLog front held l.owner l) (logs ++ new ∷ [])
held_more front held logs owner new h g = All-push (λ l. IsHeldLog front held l.owner l) logs new h (record { owned = refl; kept = g.kept; empty = g.empty })

-- ---- the logs in their vector

pub refilled : (len : ℕ) (slice new items : List Log) → slice ≡ items → length slice ≡ len → map (λ l. l.owner) new ≡ map (λ l. l.owner) slice → take len (new ++ drop (length new) items) ≡ new
refilled len slice new items same size owners =
    let counted : length new ≡ length slice = sym (length-map new (λ (l : Log). l.owner)) ∙ ap length owners ∙ length-map slice (λ (l : Log). l.owner) in
    let count : length items ≡ length slice = ap length (sym same) in
    let none : drop (length new) items ≡ [] = drop_all (length new) items (omega (arith, counted, count)) in
    ap (λ (xs : List Log). take len (new ++ xs)) none ∙ ap (λ (xs : List Log). take len xs) (append-nil new) ∙ take_all len new (omega (arith, counted, size))
