-- What a turn takes that isn't refused: there is a largest closed part of what is available.
use Rattle.std.proofs.Common.{◌≡◌, ◌⊎◌, inl, inr, ⊎_elim, ℕ, ◌+◌, Bool, true, false, not, filter, List, [], ◌∷◌, ◌++◌, map, Option, Some, None, refl, sym, ap, ◌∙◌, subst, Contains}
use Rattle.std.specs.Cmp.{tied_itself}
use Rattle.std.specs.List.{AllByRecursion, list_any}
use Rattle.std.specs.Ordering.{is_eq}
use Rattle.std.specs.declared.cmp.Ordering.{Ordering}
use Rattle.std.specs.declared.cmp.Ordering.TheVariants.{Less, Equal, Greater}
use Rattle.std.proofs.lemmas.List.Elements.{Contains-append_left, Contains-append_right, Contains-append_cases}
use Rattle.ivy_base.specs.declared.key.PubKey.{PubKey}
use Rattle.ivy_base.specs.Naming.{head_key_of}
use Rattle.log_model.specs.View.{View}
use Rattle.log_model.specs.Vector.{Stamp, Vector, seq_of, stamp_at}
use Rattle.log_model.specs.Record.{Record}
use Rattle.log_model.specs.Rank.{record_cmp}
use Rattle.log_model.specs.Chain.{GoesOn, IsChain, IsGood}
use Rattle.log_model.specs.Closed.{log_of, IsClosedPart}
use Rattle.log_model.specs.Part.{closed_part}
use Rattle.log_model.specs.Replay.{in_order}
use Rattle.log_model.proofs.Later.{good_of}
use Rattle.log_model.proofs.Lists.{here, there, in_cons, in_nothing, each, each_append, each_from, from_filter, in_filter, some_passes, who_passes}
use Rattle.log_model.proofs.Owners.{records_total}
use Rattle.log_model.proofs.Sets.{in_order_ascends, in_order_has, in_order_in, same_list, filter_ascends}
use Rattle.turn_model.specs.Basis.{Holding}
use Rattle.causal_order.specs.Available.{Extends, IsNewPart, above, held_to, news}
use Rattle.causal_order.specs.Over as causal
use Rattle.causal_order.specs.Over.{GoesOnFrom}
use Rattle.turn_laws.proofs.ChainRules.{first_known, follows_known}
use Rattle.turn_laws.proofs.RecordReading.{Known, both_known, key_known, number_known}
use Rattle.turn_laws.proofs.SomeCandidate.{owner_known}
use Rattle.agent_model.specs.Agent.{joined}
use Rattle.agent_model.specs.Standing.{Chain, Refresh}
use Rattle.turn_laws.specs.Taking.{within}
use Rattle.turn_laws.specs.Laws.{ThereIsATaking}
use Rattle.turn_laws.proofs.Fronts.{in_log, from_log}
use Rattle.turn_laws.proofs.Going.{IsGoing, below, full, full_chain, in_part}
use Rattle.turn_laws.proofs.Hand.{Hand, IsOfBrought, chain_hand, hand_above, hand_cases}
use Rattle.turn_laws.proofs.Largest.{IsLog, largest_part, one_each}
use Rattle.turn_laws.proofs.Over.{IsOverPart, over_part}
use Rattle.turn_laws.proofs.Rows.{is_above, row_good}
use Rattle.turn_laws.proofs.Taken.{going}

-- ---- whether records go on from others

some_in : {A : Type 0} (xs : List A) (Q : A → Type 0) → ((x : A) → Contains xs x → Known (Q x)) → Known ((x : A) × Contains xs x × Q x)
some_in [] Q known = inr (λ z. in_nothing z.0 z.1)
some_in (x ∷ xs) Q known = elim (known x (here x xs)) [
  | inl q ↦ inl (x, here x xs, q)
  | inr not_x ↦ elim (some_in xs Q (λ y c. known y (there x xs y c))) [
    | inl z ↦ inl (z.0, there x xs z.0 z.1, z.2)
    | inr none ↦ inr (λ z. elim (in_cons x xs z.0 z.1) [
      | inl e ↦ not_x (subst Q (sym e) z.2)
      | inr c ↦ none (z.0, c, z.2)
    ])
  ]
]

goes_on_known : (view : View) (owner : PubKey) (p : Record) (rs : List Record) → AllByRecursion (IsGood view owner) rs → Known (GoesOn view owner p rs)
goes_on_known view owner p [] good = inl tt
goes_on_known view owner p (r ∷ rs) good = elim (both_known (follows_known p r) (goes_on_known view owner r rs good.1)) [
  | inl f ↦ inl (good.0, f.0, f.1)
  | inr none ↦ inr (λ g. none (g.1, g.2))
]

from_known : (view : View) (owner : PubKey) (o : Option Stamp) (rs : List Record) → AllByRecursion (IsGood view owner) rs → Known (GoesOnFrom view owner o rs)
from_known view owner None [] good = inl tt
from_known view owner None (r ∷ rs) good = elim (both_known (first_known r) (goes_on_known view owner r rs good.1)) [
  | inl f ↦ inl (good.0, f.0, f.1)
  | inr none ↦ inr (λ g. none (g.1, g.2))
]
from_known view owner (Some t) [] good = inl tt
from_known view owner (Some t) (r ∷ rs) good = elim (both_known (both_known (number_known r.seq (t.seq + 1)) (key_known r.prev t.name)) (goes_on_known view owner r rs good.1)) [
  | inl f ↦ inl (record { good = good.0; seq = f.0.0; prev = f.0.1 }, f.1)
  | inr none ↦ inr (λ g. none ((g.0.seq, g.0.prev), g.1))
]

-- ---- a record by its rank

is_equal : (o : Ordering) → is_eq o ≡ true → o ≡ Equal
is_equal Less h = cc
is_equal Equal h = refl
is_equal Greater h = cc

not_true : (b : Bool) → not b ≡ true → b ≡ true → ⊥
not_true true h g = cc
not_true false h g = cc

not_of : (b : Bool) → b ≡ false → not b ≡ true
not_of true h = cc
not_of false h = refl

module _ {view : View} {met : List (List ℕ)} {own : PubKey} {floor : Vector} {known : List Record} {h : Holding} {brought : Refresh} {part : List Record}
    (g : IsGoing view met own floor known h brought part) where
  -- ---- which chains extend what is held

  below_part : (r : Record) → Contains (below g) r → Contains part r
  below_part r c = subst (λ (l : List Record). Contains l r) (sym g.holds.whole) (Contains-append_left (below g) h.held r c)

  held_part : (r : Record) → Contains h.held r → Contains part r
  held_part r c = subst (λ (l : List Record). Contains l r) (sym g.holds.whole) (Contains-append_right (below g) h.held r c)

  owned : (c : Chain) → Contains brought.chains c → (r : Record) → Contains c.records r → r.owner ≡ c.owner
  owned c stands r d = (row_good view c.owner c.records (g.rows c stands) r d).owned

  abbrev Goes : Chain → Type 0
  Goes c = Extends view h.basis.front h.held c.owner c.records

  goes_known : (c : Chain) → Contains brought.chains c → Known (Goes c)
  goes_known c stands = from_known view c.owner (stamp_at h.basis.front (head_key_of c.owner)) (log_of c.owner h.held ++ news h.basis.front h.held c.owner c.records)
      (each_append (IsGood view c.owner) (log_of c.owner h.held) (news h.basis.front h.held c.owner c.records)
      (each_from (IsGood view c.owner) (log_of c.owner h.held) (λ r d. let w = from_log c.owner h.held r d in subst (λ (o : PubKey). IsGood view o r) w.1 (good_of view part r g.part_closed (held_part r w.0))))
      (each_from (IsGood view c.owner) (news h.basis.front h.held c.owner c.records) (λ r d. row_good view c.owner c.records (g.rows c stands) r (is_above (held_to h.basis.front h.held c.owner) c.records r d).0)))

  -- ---- what is available, as a list

  abbrev Available : Record → Type 0
  Available r = Contains (below g) r ⊎ Hand g r

  at_part : (r : Record) → Contains part r → Available r
  at_part r c = ⊎_elim (λ d. inl d) (λ d. inr (inl d)) (in_part g r c)

  sides : (r : Record) → Available r → Contains part r ⊎ IsOfBrought g r
  sides r (inl c) = inl (below_part r c)
  sides r (inr hand) = ⊎_elim (λ c. inl (held_part r c)) (λ b. inr b) (hand_cases g r hand)

  abbrev beyond_held : Chain → List Record
  beyond_held c = above (seq_of (joined h) (head_key_of c.owner)) c.records

  -- what some of the chains bring
  record HasNews (cs : List Chain) : Type 0 where
    records : List Record
    from : (r : Record) → Contains records r → IsOfBrought g r
    has : (c : Chain) → Contains cs c → Goes c → (r : Record) → Contains (beyond_held c) r → Contains records r

  some_news : (cs : List Chain) → ((c : Chain) → Contains cs c → Contains brought.chains c) → HasNews cs
  some_news [] stand = record { records = []; from = λ r c. absurd (in_nothing r c); has = λ c d. absurd (in_nothing c d) }
  some_news (x ∷ xs) stand =
      let more : HasNews xs = some_news xs (λ c d. stand c (there x xs c d)) in
      let stands = stand x (here x xs) in
      elim (goes_known x stands) [
        | inl goes ↦ record {
          records = beyond_held x ++ more.records;
          from = λ r c. elim (Contains-append_cases (beyond_held x) more.records r c) [
            | inl new ↦ (x, stands, goes, new, owned x stands r (is_above (seq_of (joined h) (head_key_of x.owner)) x.records r new).0)
            | inr old ↦ more.from r old
          ];
          has = λ c d on r e. elim (in_cons x xs c d) [
            | inl same ↦ Contains-append_left (beyond_held x) more.records r (subst (λ (y : Chain). Contains (beyond_held y) r) (sym same) e)
            | inr later ↦ Contains-append_right (beyond_held x) more.records r (more.has c later on r e)
          ];
        }
        | inr stops ↦ record {
          records = more.records;
          from = more.from;
          has = λ c d on r e. elim (in_cons x xs c d) [
            | inl same ↦ absurd (stops (subst Goes (sym same) on))
            | inr later ↦ more.has c later on r e
          ];
        }
      ]

  gathered_news : HasNews brought.chains
  gathered_news = some_news brought.chains (λ c d. d)

  abbrev all : List Record
  all = part ++ gathered_news.records

  from_all : (r : Record) → Contains all r → Available r
  from_all r c = elim (Contains-append_cases part gathered_news.records r c) [
    | inl d ↦ at_part r d
    | inr d ↦ (let b = gathered_news.from r d in inr (chain_hand g b.0 b.1 b.2 r b.4 b.3))
  ]

  in_all : (r : Record) → Available r → Contains all r
  in_all r a = elim (sides r a) [
    | inl c ↦ Contains-append_left part gathered_news.records r c
    | inr b ↦ Contains-append_right part gathered_news.records r (gathered_news.has b.0 b.1 b.2 r b.3)
  ]

  members : (r : Record) → Available r → Contains view.members r.owner
  members r a = elim (sides r a) [
    | inl c ↦ each (λ q. Contains view.members q.owner) part r g.part_closed.members c
    | inr b ↦ subst (λ (o : PubKey). Contains view.members o) (sym b.4) (g.members b.0 b.1)
  ]

  -- ---- the logs of what is available

  log_with : (owner : PubKey) (c : Chain) (stands : Contains brought.chains c) → c.owner ≡ owner → Goes c → IsLog view Available owner (full g c stands)
  log_with owner c stands same goes = record {
    chain = subst (λ (o : PubKey). IsChain view o (full g c stands)) same (full_chain g c stands goes);
    in_log = λ r a mine. elim (sides r a) [
      | inl d ↦ Contains-append_left (log_of c.owner part) (beyond_held c) r (in_log c.owner part r d (mine ∙ sym same))
      | inr b ↦
          let one : b.0 ≡ c = g.once b.0 c b.1 stands (sym b.4 ∙ mine ∙ sym same) in
          Contains-append_right (log_of c.owner part) (beyond_held c) r (subst (λ (x : Chain). Contains (beyond_held x) r) one b.3)
    ];
    from_log = λ r d. elim (Contains-append_cases (log_of c.owner part) (beyond_held c) r d) [
      | inl old ↦ (let w = from_log c.owner part r old in (at_part r w.0, w.1 ∙ same))
      | inr new ↦ (let mine = owned c stands r (is_above (seq_of (joined h) (head_key_of c.owner)) c.records r new).0 in (inr (chain_hand g c stands goes r mine new), mine ∙ same))
    ];
  }

  log_without : (owner : PubKey) → ((c : Chain) × Contains brought.chains c × ((c.owner ≡ owner) × Goes c) → ⊥) → IsLog view Available owner (log_of owner part)
  log_without owner none = record {
    chain = g.part_closed.chains owner;
    in_log = λ r a mine. elim (sides r a) [
      | inl d ↦ in_log owner part r d mine
      | inr b ↦ absurd (none (b.0, b.1, (sym b.4 ∙ mine, b.2)))
    ];
    from_log = λ r d. (let w = from_log owner part r d in (at_part r w.0, w.1));
  }

  a_log : (owner : PubKey) → (log : List Record) × IsLog view Available owner log
  a_log owner = elim (some_in brought.chains (λ c. (c.owner ≡ owner) × Goes c) (λ c stands. both_known (owner_known c.owner owner) (goes_known c stands))) [
    | inl z ↦ (full g z.0 z.1, log_with owner z.0 z.1 z.2.0 z.2.1)
    | inr none ↦ (log_of owner part, log_without owner none)
  ]

  -- ---- the largest closed part

  whole : IsClosedPart view Available (closed_part view (in_order all))
  whole = largest_part view Available all from_all in_all members a_log

  one : (q r : Record) → Available q → Available r → record_cmp q r ≡ Equal → q ≡ r
  one q r a b rank = one_each view Available all from_all in_all members a_log q r a b rank

  over : (t : List Record) × IsOverPart view h.basis (below g) g.well g.holds.stands (Hand g) Available (hand_above g) (λ r c. inl c) (λ r c. inr c) (λ r a. a) (closed_part view (in_order all)) whole t
  over = over_part view h.basis (below g) g.well g.holds.stands (Hand g) Available (hand_above g) (λ r c. inl c) (λ r c. inr c) (λ r a. a) (closed_part view (in_order all)) whole

  abbrev taken : List Record
  taken = over.0

  held_taken : (r : Record) → Contains h.held r → Contains taken r
  held_taken r c = over.1.has r (whole.largest part at_part g.part_closed r (held_part r c)) (inl c)

  -- ---- the new ones

  abbrev is_held : Record → Bool
  is_held r = list_any (λ q. is_eq (record_cmp r q)) h.held

  abbrev new : List Record
  new = filter (λ r. not (is_held r)) taken

  no_new : (r : Record) → Contains new r → Contains h.held r → ⊥
  no_new r c d = not_true (is_held r) (from_filter (λ (x : Record). not (is_held x)) taken r c).1 (some_passes (λ (q : Record). is_eq (record_cmp r q)) h.held r d (ap is_eq (tied_itself records_total r)))

  held_or_new : (r : Record) → Contains taken r → (b : Bool) → is_held r ≡ b → Contains (h.held ++ new) r
  held_or_new r c true is =
      let w = who_passes (λ (q : Record). is_eq (record_cmp r q)) h.held is in
      Contains-append_left h.held new r (subst (λ (x : Record). Contains h.held x) (sym (one r w.0 (inr (over.1.largest.part r c)) (inr (inl w.1)) (is_equal (record_cmp r w.0) w.2))) w.1)
  held_or_new r c false is = Contains-append_right h.held new r (in_filter (λ (x : Record). not (is_held x)) taken r c (not_of (is_held r) is))

  from_both : (r : Record) → Contains (h.held ++ new) r → Contains taken r
  from_both r c = ⊎_elim (λ d. held_taken r d) (λ d. (from_filter (λ (x : Record). not (is_held x)) taken r d).0) (Contains-append_cases h.held new r c)

  in_both : (r : Record) → Contains taken r → Contains (in_order (h.held ++ new)) r
  in_both r c =
      let w = in_order_has (h.held ++ new) r (held_or_new r c (is_held r) refl) in
      let d = from_both w.0 (in_order_in (h.held ++ new) w.0 w.1) in
      subst (λ (x : Record). Contains (in_order (h.held ++ new)) x) (sym (one r w.0 (inr (over.1.largest.part r c)) (inr (over.1.largest.part w.0 d)) w.2)) w.1

  same : taken ≡ in_order (h.held ++ new)
  same = same_list taken (in_order (h.held ++ new)) over.1.largest.closed.ascending (in_order_ascends (h.held ++ new)) in_both (λ r c. from_both r (in_order_in (h.held ++ new) r c))

  pub new_part : (new : List Record) × IsNewPart view h.basis.front h.held (map (within own floor) brought.chains) new
  new_part = (
    new,
    record {
      ascending = filter_ascends (λ (x : Record). not (is_held x)) taken over.1.largest.closed.ascending;
      fresh = each_from (λ r. Contains h.held r → ⊥) new no_new;
      within = each_from (λ r. Contains (in_order (h.held ++ new)) r) new (λ r c. in_both r (from_filter (λ (x : Record). not (is_held x)) taken r c).0);
      largest = subst (λ (l : List Record). causal.IsClosedPart view h.basis.front (Hand g) l) same over.1.largest;
    },
  )

pub there_is_a_taking : ThereIsATaking
there_is_a_taking grounds view own floor holding h known brought apart well k gone may caught_up none_below =
    let part = new_part (going grounds view own floor holding h known brought apart well k gone may caught_up none_below) in
    (part.0, record { caught_up = caught_up; above = none_below; part = part.1 })
