-- Of what is known and of candidates there is a largest closed part.
use Rattle.std.proofs.Common.{◌≡◌, ◌⊎◌, inl, inr, true, List, [], ◌∷◌, ◌++◌, map, refl, sym, ap, ◌∙◌, subst, Contains}
use Rattle.std.specs.Prelude.{IsTrue}
use Rattle.std.specs.Cmp.{tied_itself}
use Rattle.std.specs.List.{AllByRecursion, list_all}
use Rattle.std.specs.Ordering.{eq_by_cmp, is_lt}
use Rattle.std.proofs.lemmas.List.Elements.{Contains-append_left, Contains-append_right, Contains-append_cases}
use Rattle.ivy_base.specs.declared.key.PubKey.{PubKey}
use Rattle.ivy_base.specs.Naming.{owner_cmp}
use Rattle.tree_model.proofs.Sound.{both_true}
use Rattle.wire_model.proofs.OneReading.{whole}
use Rattle.log_model.specs.View.{View, ascend}
use Rattle.log_model.specs.Record.{Record}
use Rattle.log_model.specs.Spelling.{record_block}
use Rattle.log_model.specs.Chain.{IsGood, IsChain}
use Rattle.log_model.specs.Closed.{log_of, IsClosed, IsClosedPart}
use Rattle.log_model.specs.Part.{closed_part}
use Rattle.log_model.specs.Replay.{in_order}
use Rattle.log_model.proofs.Lists.{here, there, in_cons, in_nothing, each, each_from, in_filter, from_filter, passes}
use Rattle.log_model.proofs.Opening.{same_owner}
use Rattle.log_model.proofs.Owners.{owners_total, owner_itself}
use Rattle.log_model.proofs.Part.{chain_good, numbered, closed_part_is}
use Rattle.log_model.proofs.Sets.{in_order_ascends, in_order_in, in_order_has, same_list, chain_ascends, filter_ascends, numbered_one, same_rank_is}
use Rattle.log_records.proofs.OneRecord.{one_record}
use Rattle.turn_model.specs.Turn.{Candidate, IsPrefixOf, IsAvailable}
use Rattle.turn_model.specs.Candidates.{Evidence, IsCandidate, own_log, newest, as_known}
use Rattle.turn_laws.proofs.Deciding.{same_or_not}
use Rattle.turn_laws.specs.Some.{ThereIsALargestPart}
use Rattle.turn_laws.proofs.RecordReading.{Known, both_known}
use Rattle.turn_laws.proofs.SomeChain.{some_in}
use Rattle.turn_laws.proofs.SomeCandidate.{owner_known}

-- ---- whether a log begins with what is known of it

same_record : (view : View) (owner : PubKey) (r q : Record) → IsGood view owner r → IsGood view owner q → Known (r ≡ q)
same_record view owner r q good_r good_q = elim (same_or_not (record_block r) (record_block q)) [
  | inl e ↦ inl (whole (one_record owner) r q (good_r.owned, good_r.spelled) (good_q.owned, good_q.spelled) e)
  | inr other ↦ inr (λ e. other (ap record_block e))
]

-- the front of the longer one
goes_before : (x y : Record) (xs ys : List Record) → Known (x ≡ y) → Known (IsPrefixOf xs ys) → Known (IsPrefixOf (x ∷ xs) (y ∷ ys))
goes_before x y xs ys (inl e) (inl p) = inl (p.0, ap (λ (r : Record). r ∷ (xs ++ p.0)) e ∙ ap (λ (l : List Record). y ∷ l) p.1)
goes_before x y xs ys (inl e) (inr none) = inr (λ p. none (p.0, cc p.1))
goes_before x y xs ys (inr other) p = inr (λ z. other (cc z.1))

prefix_known : (view : View) (owner : PubKey) (xs ys : List Record) → AllByRecursion (IsGood view owner) xs → AllByRecursion (IsGood view owner) ys → Known (IsPrefixOf xs ys)
prefix_known view owner [] ys good_x good_y = inl (ys, refl)
prefix_known view owner (x ∷ xs) [] good_x good_y = inr (λ p. cc p.1)
prefix_known view owner (x ∷ xs) (y ∷ ys) good_x good_y = goes_before x y xs ys (same_record view owner x y good_x.0 good_y.0) (prefix_known view owner xs ys good_x.1 good_y.1)

in_prefix : (xs ys : List Record) → IsPrefixOf xs ys → (q : Record) → Contains xs q → Contains ys q
in_prefix xs ys p q c = subst (λ (l : List Record). Contains l q) p.1 (Contains-append_left xs p.0 q c)

-- ---- owners stand once

in_owners : (cs : List Candidate) (c : Candidate) → Contains cs c → Contains (map (λ (d : Candidate). d.owner) cs) c.owner
in_owners [] c within = absurd (in_nothing c within)
in_owners (d ∷ cs) c within = elim (in_cons d cs c within) [
  | inl f ↦ subst (λ (k : PubKey). Contains (d.owner ∷ map (λ (w : Candidate). w.owner) cs) k) (ap (λ (w : Candidate). w.owner) f) (here d.owner (map (λ (w : Candidate). w.owner) cs))
  | inr more ↦ there d.owner (map (λ (w : Candidate). w.owner) cs) c.owner (in_owners cs c more)
]

apart_owners : (owners : List PubKey) (candidates : List Candidate) → IsTrue (ascend owners) → map (λ c. c.owner) candidates ≡ owners → (c d : Candidate) → Contains candidates c → Contains candidates d → c.owner ≡ d.owner → c ≡ d
apart_owners owners [] up e c d in_c in_d same = absurd (in_nothing c in_c)
apart_owners [] (x ∷ xs) up e c d in_c in_d same = absurd (cc e)
apart_owners (o ∷ os) (x ∷ xs) up e c d in_c in_d same = by (in_cons x xs c in_c) (in_cons x xs d in_d) (λ f g. apart_owners os xs (both_true (list_all (λ later. is_lt (owner_cmp o later)) os) (ascend os) up).1 (cc e) c d f g same)
  where
    tests : (list_all (λ later. is_lt (owner_cmp o later)) os ≡ true) × (ascend os ≡ true)
    tests = both_true (list_all (λ later. is_lt (owner_cmp o later)) os) (ascend os) up

    first : x.owner ≡ o
    first = cc e

    rest : map (λ (y : Candidate). y.owner) xs ≡ os
    rest = cc e

    other : (y : Candidate) → Contains xs y → x.owner ≡ y.owner → ⊥
    other y within f =
        let later = passes (λ later. is_lt (owner_cmp o later)) os y.owner tests.0 (subst (λ (l : List PubKey). Contains l y.owner) rest (in_owners xs y within)) in
        let same_one : is_lt (owner_cmp o o) ≡ true = subst (λ (k : PubKey). is_lt (owner_cmp o k) ≡ true) (sym f ∙ first) later in
        let none = ap is_lt (tied_itself owners_total o) in
        cc

    by : (x ≡ c) ⊎ Contains xs c → (x ≡ d) ⊎ Contains xs d → (Contains xs c → Contains xs d → c ≡ d) → c ≡ d
    by (inl f) (inl g) again = sym f ∙ g
    by (inl f) (inr g) again = absurd (other d g (ap (λ (w : Candidate). w.owner) f ∙ same))
    by (inr f) (inl g) again = absurd (other c f (ap (λ (w : Candidate). w.owner) g ∙ sym same))
    by (inr f) (inr g) again = again f g

-- ---- what is available, as a list

module _ (view : View) (known : List Record) (closed : IsClosed view known) where
  abbrev IsOurs : Candidate → Type 0
  IsOurs c = Contains view.members c.owner × IsChain view c.owner c.chain

  abbrev GoesOn : Candidate → Type 0
  GoesOn c = IsPrefixOf (log_of c.owner known) c.chain

  goes_known : (c : Candidate) → IsOurs c → Known (GoesOn c)
  goes_known c ours = prefix_known view c.owner (log_of c.owner known) c.chain (chain_good view c.owner (log_of c.owner known) (closed.chains c.owner)) (chain_good view c.owner c.chain ours.1)

  -- the records of those that go on
  record HasNews (candidates : List Candidate) : Type 0 where
    news : List Record
    from : (q : Record) → Contains news q → (c : Candidate) × Contains candidates c × GoesOn c × Contains c.chain q
    has : (c : Candidate) → Contains candidates c → GoesOn c → (q : Record) → Contains c.chain q → Contains news q

  some_news : (candidates : List Candidate) → AllByRecursion IsOurs candidates → HasNews candidates
  some_news [] ours = record { news = []; from = λ q c. absurd (in_nothing q c); has = λ c within. absurd (in_nothing c within) }
  some_news (x ∷ xs) ours =
      let rest : HasNews xs = some_news xs ours.1 in
      elim (goes_known x ours.0) [
        | inl goes ↦ record {
          news = x.chain ++ rest.news;
          from = λ q c. elim (Contains-append_cases x.chain rest.news q c) [
            | inl new ↦ (x, here x xs, goes, new)
            | inr old ↦ (let w = rest.from q old in (w.0, there x xs w.0 w.1, w.2, w.3))
          ];
          has = λ c within on q in_chain. elim (in_cons x xs c within) [
            | inl e ↦ Contains-append_left x.chain rest.news q (subst (λ (y : Candidate). Contains y.chain q) (sym e) in_chain)
            | inr more ↦ Contains-append_right x.chain rest.news q (rest.has c more on q in_chain)
          ];
        }
        | inr stops ↦ record {
          news = rest.news;
          from = λ q c. (let w = rest.from q c in (w.0, there x xs w.0 w.1, w.2, w.3));
          has = λ c within on q in_chain. elim (in_cons x xs c within) [
            | inl e ↦ absurd (stops (subst GoesOn (sym e) on))
            | inr more ↦ rest.has c more on q in_chain
          ];
        }
      ]

  module _ (candidates : List Candidate) (ours : AllByRecursion IsOurs candidates) (apart : (c d : Candidate) → Contains candidates c → Contains candidates d → c.owner ≡ d.owner → c ≡ d) (n : HasNews candidates) where
    abbrev Gathered : List Record
    Gathered = known ++ n.news

    mine : (q : Record) → (s : List Record) → Contains s q → (owner : PubKey) → q.owner ≡ owner → Contains (log_of owner s) q
    mine q s c owner e = in_filter (λ (x : Record). eq_by_cmp owner_cmp owner x.owner) s q c (subst (λ (o : PubKey). eq_by_cmp owner_cmp owner o ≡ true) (sym e) (owner_itself owner))

    theirs : (q : Record) → (s : List Record) → (owner : PubKey) → Contains (log_of owner s) q → Contains s q × (q.owner ≡ owner)
    theirs q s owner c = let w = from_filter (λ (x : Record). eq_by_cmp owner_cmp owner x.owner) s q c in (w.0, same_owner owner q.owner w.1)

    in_chain_owned : (c : Candidate) → Contains candidates c → (q : Record) → Contains c.chain q → q.owner ≡ c.owner
    in_chain_owned c within q in_chain = (each (IsGood view c.owner) c.chain q (chain_good view c.owner c.chain (each IsOurs candidates c ours within).1) in_chain).owned

    -- the whole log of an owner among all these
    record IsLog (owner : PubKey) (log : List Record) : Type 0 where
      chain : IsChain view owner log
      in_log : (q : Record) → Contains Gathered q → q.owner ≡ owner → Contains log q
      from_log : (q : Record) → Contains log q → Contains Gathered q × (q.owner ≡ owner)

    -- a candidate of the owner that goes on
    abbrev Goes : PubKey → Candidate → Type 0
    Goes owner c = (c.owner ≡ owner) × GoesOn c

    search_for : (owner : PubKey) → Known ((c : Candidate) × Contains candidates c × Goes owner c)
    search_for owner = some_in candidates (Goes owner) (λ c within. both_known (owner_known c.owner owner) (goes_known c (each IsOurs candidates c ours within)))

    log_by : (owner : PubKey) → (c : Candidate) → Contains candidates c → c.owner ≡ owner → GoesOn c → IsLog owner c.chain
    log_by owner c within same goes = record {
      chain = subst (λ (o : PubKey). IsChain view o c.chain) same (each IsOurs candidates c ours within).1;
      in_log = λ q all owned. elim (Contains-append_cases known n.news q all) [
        | inl old ↦ in_prefix (log_of c.owner known) c.chain goes q (mine q known old c.owner (owned ∙ sym same))
        | inr new ↦
            let w = n.from q new in
            let one : w.0 ≡ c = apart w.0 c w.1 within (sym (in_chain_owned w.0 w.1 q w.3) ∙ owned ∙ sym same) in
            subst (λ (d : Candidate). Contains d.chain q) one w.3
      ];
      from_log = λ q in_chain. (Contains-append_right known n.news q (n.has c within goes q in_chain), in_chain_owned c within q in_chain ∙ same);
    }

    log_known : (owner : PubKey) → ((c : Candidate) × Contains candidates c × Goes owner c → ⊥) → IsLog owner (log_of owner known)
    log_known owner none = record {
      chain = closed.chains owner;
      in_log = λ q all owned. elim (Contains-append_cases known n.news q all) [
        | inl old ↦ mine q known old owner owned
        | inr new ↦ (let w = n.from q new in absurd (none (w.0, w.1, (sym (in_chain_owned w.0 w.1 q w.3) ∙ owned, w.2))))
      ];
      from_log = λ q in_log. (let w = theirs q known owner in_log in (Contains-append_left known n.news q w.0, w.1));
    }

    a_log : (owner : PubKey) → (log : List Record) × IsLog owner log
    a_log owner = elim (search_for owner) [
      | inl z ↦ (z.0.chain, log_by owner z.0 z.1 z.2.0 z.2.1)
      | inr none ↦ (log_of owner known, log_known owner none)
    ]

    -- one record of each rank, so all of them stand in their order
    one_each : (q r : Record) → Contains Gathered q → Contains Gathered r → q.owner ≡ r.owner → q.seq ≡ r.seq → q ≡ r
    one_each q r c d owners seqs =
        let log = a_log r.owner in
        numbered_one 1 log.0 (numbered view r.owner log.0 log.1.chain) q r (log.1.in_log q c owners) (log.1.in_log r d refl) seqs

    in_all : (q : Record) → Contains Gathered q → Contains (in_order Gathered) q
    in_all q c =
        let w = in_order_has Gathered q c in
        let rank = same_rank_is q w.0 w.2 in
        subst (λ (y : Record). Contains (in_order Gathered) y) (sym (one_each q w.0 c (in_order_in Gathered w.0 w.1) rank.0 rank.1)) w.1

    all_chains : (owner : PubKey) → IsChain view owner (log_of owner (in_order Gathered))
    all_chains owner =
        let log = a_log owner in
        let same : log.0 ≡ log_of owner (in_order Gathered) = same_list log.0 (log_of owner (in_order Gathered)) (chain_ascends view owner log.0 log.1.chain)
        (filter_ascends (λ (x : Record). eq_by_cmp owner_cmp owner x.owner) (in_order Gathered) (in_order_ascends Gathered))
        (λ q c. (let w = log.1.from_log q c in mine q (in_order Gathered) (in_all q w.0) owner w.1))
        (λ q c. (let w = theirs q (in_order Gathered) owner c in log.1.in_log q (in_order_in Gathered q w.0) w.1)) in
        subst (λ (l : List Record). IsChain view owner l) same log.1.chain

    all_members : AllByRecursion (λ r. Contains view.members r.owner) (in_order Gathered)
    all_members = each_from (λ r. Contains view.members r.owner) (in_order Gathered) (λ r c. elim (Contains-append_cases known n.news r (in_order_in Gathered r c)) [
      | inl old ↦ each (λ q. Contains view.members q.owner) known r closed.members old
      | inr new ↦ (let w = n.from r new in subst (λ (o : PubKey). Contains view.members o) (sym (in_chain_owned w.0 w.1 r w.3)) (each IsOurs candidates w.0 ours w.1).0)
    ])

    available : (q : Record) → Contains (in_order Gathered) q → IsAvailable known candidates q
    available q c = elim (Contains-append_cases known n.news q (in_order_in Gathered q c)) [
      | inl old ↦ inl old
      | inr new ↦ (let w = n.from q new in inr (w.0, w.1, w.2, w.3))
    ]

    gathered : (q : Record) → IsAvailable known candidates q → Contains (in_order Gathered) q
    gathered q (inl old) = in_all q (Contains-append_left known n.news q old)
    gathered q (inr w) = in_all q (Contains-append_right known n.news q (n.has w.0 w.1 w.2 q w.3))

    largest : IsClosedPart view (IsAvailable known candidates) (closed_part view (in_order Gathered))
    largest =
        let part = closed_part_is view (in_order Gathered) (in_order_ascends Gathered) all_members all_chains in
        record {
          part = λ r c. available r (part.part r c);
          closed = part.closed;
          largest = λ t within t_closed r c. part.largest t (λ q d. gathered q (within q d)) t_closed r c;
        }

-- ---- of candidates

chain_of : (e : Evidence) → IsClosed e.view e.known → (owner : PubKey) (chain : List Record) → IsCandidate e owner chain → IsChain e.view owner chain
chain_of e closed owner _ (own_log mine) = closed.chains owner
chain_of e closed owner _ (newest head chain apart tried makes first) = makes.chain_of_log
chain_of e closed owner _ (as_known apart none) = closed.chains owner

pub there_is_a_largest_part : ThereIsALargestPart
there_is_a_largest_part e candidates is_view closed are =
    let ours : AllByRecursion (IsOurs e.view e.known closed) candidates = each_from (IsOurs e.view e.known closed) candidates (λ c within. (
      subst (λ (l : List PubKey). Contains l c.owner) are.of_members (in_owners candidates c within),
      chain_of e closed c.owner c.chain (each (λ d. IsCandidate e d.owner d.chain) candidates c are.each within),
    )) in
    let apart = apart_owners e.view.members candidates is_view.members_ascend are.of_members in
    let n = some_news e.view e.known closed candidates ours in
    (closed_part e.view (in_order (e.known ++ n.news)), largest e.view e.known closed candidates ours apart n)
