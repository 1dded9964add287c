-- What one chain leaves to be seen of its log.
use Rattle.std.proofs.Common.{◌≡◌, ⊎_elim, ℕ, ◌+◌, ◌<◌, ◌≤◌, Bool, true, false, cond, List, [], ◌∷◌, ◌++◌, length, get_or, refl, sym, ap, ◌∙◌, subst, arith, Option, Some, None, Contains, lt-ltb, ltb-true}
use Rattle.std.specs.Prelude.{IfSome, nat_lt, option_map}
use Rattle.std.proofs.lemmas.List.{append-nil}
use Rattle.std.proofs.lemmas.Bool.{cases_lt}
use Rattle.ivy_base.specs.declared.key.Key.{Key}
use Rattle.ivy_base.specs.declared.key.PubKey.{PubKey}
use Rattle.ivy_base.specs.Naming.{head_key_of}
use Rattle.log_model.specs.View.{View}
use Rattle.log_model.specs.Vector.{Vector, stamp_at}
use Rattle.log_model.specs.Record.{Record}
use Rattle.log_model.specs.Rank as rank
use Rattle.log_model.specs.Rank.{rank}
use Rattle.log_model.specs.Chain.{IsGood, IsFirst, GoesOn}
use Rattle.log_model.specs.Closed.{log_of}
use Rattle.log_model.proofs.Lists.{here, in_cons, in_nothing, each, from_filter}
use Rattle.log_records.specs.declared.record.Record as kept
use Rattle.log_records.specs.Records.{record_of}
use Rattle.version_vectors.specs.declared.rank.Rank as kept_rank
use Rattle.version_vectors.specs.Ranks.{rank_of}
use Rattle.log_records.specs.Records.{records_of}
use Rattle.log_model.specs.Fetched.{owner_of}
use Rattle.causal_order.specs.Over.{GoesOnFrom, IsChainOver}
use Rattle.causal_order.specs.Available.{IsLinked, BeginsBy, IsFetched, Extends, above, news, held_to}
use Rattle.causal_order.specs.declared.log.Log.{Log}
use Rattle.causal_order.specs.Kept.{IsKept, newest_name, first_rank}
use Rattle.causal_order.specs.Started.{Joins, HasQueued}
use Rattle.causal_order.proofs.Logs.{numbers_after, good_after}
use Rattle.causal_order.proofs.Starts.{onward_rest, above_from, joined_over, split_over}

-- the first of a chain's records of greater numbers, and what follows it
pub record FirstNews (view : View) (owner : PubKey) (n : ℕ) (chain : List Record) (x : Record) (rest : List Record) : Type 0 where
  pub good : IsGood view owner x
  pub opens : x.seq ≡ 1 → IsFirst x
  pub onward : GoesOn view owner x rest
  pub number : x.seq ≡ n + 1
  pub newest : newest_name None (x ∷ rest) ≡ newest_name None chain

not_above : (n m : ℕ) → nat_lt n m ≡ false → m ≤ n
not_above n m low = ⊎_elim (λ lt. absurd (let yes = lt-ltb n m lt in cc)) (λ le. le) (cases_lt n m)

news_here : (view : View) (n : ℕ) (r : Record) (qs : List Record) (x : Record) (rest : List Record) → IsLinked view (r ∷ qs) → r.seq ≤ n + 1 → n < r.seq → r ∷ above n qs ≡ x ∷ rest → FirstNews view r.owner n (r ∷ qs) x rest
news_here view n r qs x rest g near lt f =
    let same : r ∷ qs ≡ x ∷ rest = ap (λ (xs : List Record). r ∷ xs) (sym (above_from n (r.seq + 1) qs (numbers_after view r.owner r (r.seq + 1) qs refl g.2) (omega (arith, lt)))) ∙ f in
    let first : r ≡ x = cc in
    let more : qs ≡ rest = cc in
    let own : FirstNews view r.owner n (r ∷ qs) r qs = record { good = g.0; opens = g.1; onward = g.2; number = omega (arith, near, lt); newest = refl } in
    subst (λ (ys : List Record). FirstNews view r.owner n (r ∷ qs) x ys) more (subst (λ (y : Record). FirstNews view r.owner n (r ∷ qs) y qs) first own)

news_later : (view : View) (n : ℕ) (r q : Record) (qs : List Record) (x : Record) (rest : List Record) → IsLinked view (r ∷ q ∷ qs) → FirstNews view q.owner n (q ∷ qs) x rest → FirstNews view r.owner n (r ∷ q ∷ qs) x rest
news_later view n r q qs x rest g later =
    let own : q.owner ≡ r.owner = g.2.0.owned in
    record {
      good = subst (λ (o : PubKey). IsGood view o x) own later.good;
      opens = later.opens;
      onward = subst (λ (o : PubKey). GoesOn view o x rest) own later.onward;
      number = later.number;
      newest = later.newest;
    }

pub first_news : (view : View) (n : ℕ) (chain : List Record) (x : Record) (rest : List Record) → IsLinked view chain → BeginsBy n chain → above n chain ≡ x ∷ rest → FirstNews view (owner_of chain) n chain x rest
first_news view n [] x rest h near e = absurd h
first_news view n (r ∷ []) x rest h near e = by (nat_lt n r.seq) refl e
  where
    by : (b : Bool) → nat_lt n r.seq ≡ b → cond b (r ∷ []) [] ≡ x ∷ rest → FirstNews view r.owner n (r ∷ []) x rest
    by true t f = news_here view n r [] x rest h near (ltb-true n r.seq t) f
    by false t f = cc
first_news view n (r ∷ q ∷ qs) x rest h near e = by (nat_lt n r.seq) refl e (λ low f. first_news view n (q ∷ qs) x rest (onward_rest view r (q ∷ qs) h) low f)
  where
    by : (b : Bool) → nat_lt n r.seq ≡ b → cond b (r ∷ above n (q ∷ qs)) (above n (q ∷ qs)) ≡ x ∷ rest
        → (q.seq ≤ n + 1 → above n (q ∷ qs) ≡ x ∷ rest → FirstNews view q.owner n (q ∷ qs) x rest) → FirstNews view r.owner n (r ∷ q ∷ qs) x rest
    by true t f again = news_here view n r (q ∷ qs) x rest h near (ltb-true n r.seq t) f
    by false t f again = let s = h.2.1.seq in let low = not_above n r.seq t in news_later view n r q qs x rest h (again (omega (arith, s, low)) f)

-- each record of a linked chain is of its owner
pub chain_owner : (view : View) (chain : List Record) (q : Record) → IsLinked view chain → Contains chain q → q.owner ≡ owner_of chain
chain_owner view [] q h c = absurd h
chain_owner view (r ∷ rs) q h c = ⊎_elim (λ e. sym (ap (λ (y : Record). y.owner) e))
    (λ d. (each (IsGood view r.owner) rs q (good_after view r.owner r rs h.2) d).owned) (in_cons r rs q c)

pub news_owner : (view : View) (n : ℕ) (chain : List Record) (q : Record) → IsLinked view chain → Contains (above n chain) q → q.owner ≡ owner_of chain
news_owner view n chain q h c = chain_owner view chain q h (from_filter (λ (r : Record). nat_lt n r.seq) chain q c).0

-- a queue that isn't empty
pub first_of : (items : List kept.Record) (first : kept.Record) → 0 < length items → first ≡ get_or items 0 first → (rest : List kept.Record) × (items ≡ first ∷ rest)
first_of [] first h e = absurd (omega (arith, h))
first_of (x ∷ items) first h e = (items, ap (λ (y : kept.Record). y ∷ items) (sym e))

module _ (view : View) (front : Vector) (held chain : List Record) (l : Log) (kept_l : IsKept front held l) (owned : l.owner ≡ owner_of chain)
    (log_chain : IsChainOver view front l.owner (log_of l.owner held)) (fetched : IsFetched view front held chain) where
  -- the log stays with nothing to be seen where the chain has no news, or doesn't extend it
  pub stays : l.queue.items ≡ [] → ((q : Record) → Extends view front held l.owner chain → Contains (news front held l.owner chain) q → ⊥) → HasQueued view front held (chain ∷ []) l
  stays empty none = record {
    kept = kept_l;
    going = subst (λ (xs : List kept.Record). GoesOnFrom view l.owner (stamp_at front (head_key_of l.owner)) (log_of l.owner held ++ records_of xs)) (sym empty)
        (subst (λ (xs : List Record). GoesOnFrom view l.owner (stamp_at front (head_key_of l.owner)) xs) (sym (append-nil (log_of l.owner held))) log_chain);
    hand = λ q c. absurd (in_nothing q (subst (λ (xs : List kept.Record). Contains (records_of xs) q) empty c));
    all = λ other c extends q d. ⊎_elim
        (λ e. absurd (none q (subst (λ (xs : List Record). Extends view front held l.owner xs) (sym e) extends) (subst (λ (xs : List Record). Contains (news front held l.owner xs) q) (sym e) d)))
        (λ f. absurd (in_nothing other f)) (in_cons chain [] other c);
  }

  -- and else it has the news
  pub takes : (m : Log) → m.owner ≡ l.owner → IsKept front held m → records_of m.queue.items ≡ news front held l.owner chain → Extends view front held l.owner chain → HasQueued view front held (chain ∷ []) m
  takes m own kept_m queue extends =
      let back : l.owner ≡ m.owner = sym own in
      let queue_m : records_of m.queue.items ≡ news front held m.owner chain = subst (λ (o : PubKey). records_of m.queue.items ≡ news front held o chain) back queue in
      let extends_m : Extends view front held m.owner chain = subst (λ (o : PubKey). Extends view front held o chain) back extends in
      record {
        kept = kept_m;
        going = subst (λ (xs : List Record). GoesOnFrom view m.owner (stamp_at front (head_key_of m.owner)) (log_of m.owner held ++ xs)) (sym queue_m) extends_m;
        hand = λ q c. (chain, here chain [], extends_m, subst (λ (xs : List Record). Contains xs q) queue_m c);
        all = λ other c also q d. ⊎_elim
            (λ e. subst (λ (xs : List Record). Contains xs q) (sym queue_m) (subst (λ (xs : List Record). Contains (news front held m.owner xs) q) (sym e) d))
            (λ f. absurd (in_nothing other f)) (in_cons chain [] other c);
      }

  module _ (x : Record) (rest : List Record) (new : news front held l.owner chain ≡ x ∷ rest) where
    pub the_first : FirstNews view (owner_of chain) (held_to front held l.owner) chain x rest
    the_first = first_news view (held_to front held l.owner) chain x rest fetched.linked (subst (λ (o : PubKey). BeginsBy (held_to front held o) chain) (sym owned) fetched.near) new

    good_first : IsGood view l.owner x
    good_first = subst (λ (o : PubKey). IsGood view o x) (sym owned) the_first.good

    onward_first : GoesOn view l.owner x rest
    onward_first = subst (λ (o : PubKey). GoesOn view o x rest) (sym owned) the_first.onward

    pub extends_by : Joins (stamp_at front l.key) (log_of l.owner held) x → Extends view front held l.owner chain
    extends_by j = subst (λ (xs : List Record). GoesOnFrom view l.owner (stamp_at front (head_key_of l.owner)) (log_of l.owner held ++ xs)) (sym new)
        (joined_over view l.owner x rest good_first onward_first (stamp_at front (head_key_of l.owner)) (log_of l.owner held) log_chain the_first.number the_first.opens
        (subst (λ (k : Key). Joins (stamp_at front k) (log_of l.owner held) x) kept_l.key j))

    pub joins_by : Extends view front held l.owner chain → Joins (stamp_at front l.key) (log_of l.owner held) x
    joins_by extends = subst (λ (k : Key). Joins (stamp_at front k) (log_of l.owner held) x) (sym kept_l.key)
        (split_over view l.owner x rest good_first onward_first (stamp_at front (head_key_of l.owner)) (log_of l.owner held)
        (subst (λ (xs : List Record). GoesOnFrom view l.owner (stamp_at front (head_key_of l.owner)) (log_of l.owner held ++ xs)) new extends))

-- what it is to be the first of the queue
pub record Fronts (items : List kept.Record) (first : kept.Record) : Type 0 where
  pub rest : List kept.Record
  pub is : items ≡ first ∷ rest

pub fronts : (items : List kept.Record) (first : kept.Record) → 0 < length items → first ≡ get_or items 0 first → Fronts items first
fronts items first h e = let w = first_of items first h e in record { rest = w.0; is = w.1 }

module _ (view : View) (front : Vector) (held : List Record) (chain : List Record) (l : Log) (kept_l : IsKept front held l) (owned : l.owner ≡ owner_of chain)
    (log_chain : IsChainOver view front l.owner (log_of l.owner held)) (fetched : IsFetched view front held chain)
    (items : List kept.Record) (new : records_of items ≡ news front held l.owner chain) (first : kept.Record) (f : Fronts items first) where
  new_is : news front held l.owner chain ≡ record_of first ∷ records_of f.rest
  new_is = sym new ∙ ap (λ (xs : List kept.Record). records_of xs) f.is

  pub front_news : FirstNews view (owner_of chain) (held_to front held l.owner) chain (record_of first) (records_of f.rest)
  front_news = the_first view front held chain l kept_l owned log_chain fetched (record_of first) (records_of f.rest) new_is

  pub front_owner : first.owner ≡ l.owner
  front_owner = front_news.good.owned ∙ sym owned

  pub front_extends : Joins (stamp_at front l.key) (log_of l.owner held) (record_of first) → Extends view front held l.owner chain
  front_extends = extends_by view front held chain l kept_l owned log_chain fetched (record_of first) (records_of f.rest) new_is

  pub front_joins : Extends view front held l.owner chain → Joins (stamp_at front l.key) (log_of l.owner held) (record_of first)
  front_joins = joins_by view front held chain l kept_l owned log_chain fetched (record_of first) (records_of f.rest) new_is

  pub front_newest : (name : Key) → IfSome (newest_name None chain) (λ n. n ≡ name) → IfSome (newest_name None (records_of items)) (λ n. n ≡ name)
  front_newest name h = subst (λ (o : Option Key). IfSome o (λ n. n ≡ name)) (sym front_news.newest ∙ ap (λ (xs : List kept.Record). newest_name None (records_of xs)) (sym f.is)) h

  pub front_rank : (k : kept_rank.Rank) → rank_of k ≡ rank (record_of first) → option_map rank_of (Some k) ≡ first_rank (records_of items)
  front_rank k e = ap (λ (r : rank.Rank). Some r) e ∙ ap (λ (xs : List kept.Record). first_rank (records_of xs)) (sym f.is)
