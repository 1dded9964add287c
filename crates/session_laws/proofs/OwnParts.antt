-- What was brought of all logs has a part for each: the heads in it are those of its log, and no two logs have one head key.
use Rattle.std.proofs.Common.{◌≡◌, inl, inr, ◌↔◌, ℕ, Bool, true, false, not, List, [], ◌∷◌, ◌++◌, map, flat_map, filter, Option, Some, None, Ok, Err, sym, ap, ◌∙◌, subst, Contains}
use Rattle.std.specs.Prelude.{Result}
use Rattle.std.specs.List.{AllByRecursion, list_all}
use Rattle.std.proofs.lemmas.List.Elements.{Contains-append_left, Contains-append_right, Contains-append_cases}
use Rattle.ivy_base.specs.declared.key.Key.{Key}
use Rattle.ivy_base.specs.declared.key.PubKey.{PubKey}
use Rattle.ivy_base.specs.Naming.{head_key_of}
use Rattle.tree_model.specs.Tree.{same_key}
use Rattle.tree_model.proofs.Keys.{same_key_is, same_key_itself}
use Rattle.tree_model.proofs.Sound.{both_true}
use Rattle.log_model.specs.View.{View, have_own_head_keys}
use Rattle.log_model.specs.Vector.{Stamp, Vector, Entry}
use Rattle.log_model.specs.Record.{Record}
use Rattle.log_model.proofs.Lists.{here, there, in_cons, in_nothing, each, each_from, passes, in_filter, from_filter}
use Rattle.causal_order.proofs.Meeting.{to_map, from_map}
use Rattle.dht_ids.specs.declared.judge.Judged.{Judged}
use Rattle.dhash_model.specs.declared.miss.Miss.{Miss}
use Rattle.log_model.specs.Fetched.{Edge}
use Rattle.log_model.specs.declared.chain_fault.ChainFault.{ChainFault}
use Rattle.agent_model.specs.Standing.{Standing, Chain}
use Rattle.session_model.specs.Brought.{Brought, HeadsOf, BlockOf, stamp_of, heads_of, all_heads, heads_at}
use Rattle.session_model.specs.Walks.{Walks, WalkEnd, Tries, LogEnd, Lacks, Stops, Gives, GivesNone}
use Rattle.session_model.specs.Walks.Walks.{came as all_came, wants as next_wanted, misses as one_misses, garbled as one_garbled, back as one_back}
use Rattle.session_model.specs.Walks.Tries.{none as none_left, wants as head_wants, misses as head_misses, gives as is_given, passes as is_passed, garbled as is_garbled}
use Rattle.session_model.specs.Refreshing.{Note, RefreshEnd, Done, Fetches, FetchesAll, end_of_log, chains_of}
use Rattle.session_model.specs.Refreshing.Fetches.{wants_heads, no_heads, of_heads, of_own}
use Rattle.session_model.specs.Refreshing.FetchesAll.{all, stays, goes_on}

-- ---- lists of lists

pub from_flat_map : {X Y : Type 0} (f : X → List Y) (xs : List X) (y : Y) → Contains (flat_map f xs) y → (x : X) × Contains xs x × Contains (f x) y
from_flat_map f [] y c = absurd (in_nothing y c)
from_flat_map f (x ∷ xs) y c = elim (Contains-append_cases (f x) (flat_map f xs) y c) [
  | inl mine ↦ (x, here x xs, mine)
  | inr later ↦ (let w = from_flat_map f xs y later in (w.0, there x xs w.0 w.1, w.2))
]

pub to_flat_map : {X Y : Type 0} (f : X → List Y) (xs : List X) (x : X) (y : Y) → Contains xs x → Contains (f x) y → Contains (flat_map f xs) y
to_flat_map f [] x y c w = absurd (in_nothing x c)
to_flat_map {Y = Y} f (z ∷ xs) x y c w = elim (in_cons z xs x c) [
  | inl e ↦ Contains-append_left (f z) (flat_map f xs) y (subst (λ (l : List Y). Contains l y) (sym (ap f e)) w)
  | inr later ↦ Contains-append_right (f z) (flat_map f xs) y (to_flat_map f xs x y later w)
]

-- ---- owners apart

-- no two have one head key
abbrev pub AreApart : List PubKey → Type 0
AreApart [] = Unit {0}
AreApart (k ∷ ks) = AllByRecursion (λ l. head_key_of k ≡ head_key_of l → ⊥) ks × AreApart ks

pub apart_keys : (ks more : List PubKey) → have_own_head_keys (ks ++ more) ≡ true → AreApart ks
apart_keys [] more h = tt
apart_keys (k ∷ ks) more h =
    let parts = both_true (list_all (λ other. not (same_key (head_key_of k) (head_key_of other))) (ks ++ more)) (have_own_head_keys (ks ++ more)) h in (
      each_from (λ (l : PubKey). head_key_of k ≡ head_key_of l → ⊥) ks (λ l c e. not_both (same_key (head_key_of k) (head_key_of l))
          (passes (λ (other : PubKey). not (same_key (head_key_of k) (head_key_of other))) (ks ++ more) l parts.0 (Contains-append_left ks more l c))
          (subst (λ (x : Key). same_key (head_key_of k) x ≡ true) e (same_key_itself (head_key_of k)))),
      apart_keys ks more parts.1,
    )
  where
    not_both : (b : Bool) → not b ≡ true → b ≡ true → ⊥
    not_both true h g = cc
    not_both false h g = cc

-- ---- what was brought for one log has no other's heads

-- blocks alone
abbrev pub HasNoHeads : List Brought → Type 0
HasNoHeads brought = (o : PubKey) (came : Result (List Judged) Miss) → Contains brought (HeadsOf o came) → ⊥

pub none_yet : HasNoHeads []
none_yet o came c = in_nothing (HeadsOf o came) c

pub block_first : (key : Key) (block : Result (List ℕ) Miss) (brought : List Brought) → HasNoHeads brought → HasNoHeads (BlockOf key block ∷ brought)
block_first key block brought none o came c = elim (in_cons (BlockOf key block) brought (HeadsOf o came) c) [
  | inl e ↦ cc e
  | inr more ↦ none o came more
]

none_in_both : (xs ys : List Brought) → HasNoHeads xs → HasNoHeads ys → HasNoHeads (xs ++ ys)
none_in_both xs ys none others o came c = elim (Contains-append_cases xs ys (HeadsOf o came) c) [
  | inl first ↦ none o came first
  | inr more ↦ others o came more
]

walk_has_none : {owner : PubKey} {n : ℕ} {key : Key} {brought : List Brought} {records : List Record} {end : WalkEnd} → Walks owner n key brought records end → HasNoHeads brought
walk_has_none all_came = none_yet
walk_has_none next_wanted = none_yet
walk_has_none (one_misses {key = key} miss) = block_first key (Err miss) [] none_yet
walk_has_none (one_garbled {key = key} bytes none) = block_first key (Ok bytes) [] none_yet
walk_has_none (one_back {key = key} {more = brought} bytes r is walk) = block_first key (Ok bytes) brought (walk_has_none walk)

tries_have_none : {view : View} {owner : PubKey} {start floor : Vector} {edge : Option Edge} {ts : List Stamp} {brought : List Brought} {faults : List ChainFault} {end : LogEnd} → Tries (record { view = view; owner = owner; start = start; floor = floor; edge = edge }) ts brought faults end → HasNoHeads brought
tries_have_none none_left = none_yet
tries_have_none (head_wants walk) = walk_has_none walk
tries_have_none (head_misses walk) = walk_has_none walk
tries_have_none (is_given walk sound onward) = walk_has_none walk
tries_have_none (is_passed {brought = first} {more = more} walk some fails tries) = none_in_both first more (walk_has_none walk) (tries_have_none tries)
tries_have_none (is_garbled {brought = first} {more = more} walk tries) = none_in_both first more (walk_has_none walk) (tries_have_none tries)

module _ (s : Standing) (start : Vector) where
  -- the heads of the log alone, once
  record HasOwnHeads (owner : PubKey) (brought : List Brought) : Type 0 where
    owned : (o : PubKey) (came : Result (List Judged) Miss) → Contains brought (HeadsOf o came) → o ≡ owner
    once : (o p : PubKey) (came others : Result (List Judged) Miss) → Contains brought (HeadsOf o came) → Contains brought (HeadsOf p others) → HeadsOf o came ≡ HeadsOf p others

  no_own : (owner : PubKey) (brought : List Brought) → HasNoHeads brought → HasOwnHeads owner brought
  no_own owner brought none = record { owned = λ o came c. absurd (none o came c); once = λ o p came others c d. absurd (none o came c) }

  own_first : (owner : PubKey) (came : Result (List Judged) Miss) (brought : List Brought) → HasNoHeads brought → HasOwnHeads owner (HeadsOf owner came ∷ brought)
  own_first owner came brought none =
      let is : (o : PubKey) (others : Result (List Judged) Miss) → Contains (HeadsOf owner came ∷ brought) (HeadsOf o others) → HeadsOf owner came ≡ HeadsOf o others =
      λ o others c. elim (in_cons (HeadsOf owner came) brought (HeadsOf o others) c) [ inl e ↦ e | inr more ↦ absurd (none o others more) ] in
      record {
        owned = λ o others c. (let e = is o others c in cc e);
        once = λ o p one other c d. sym (is o one c) ∙ is p other d;
      }

  fetched_heads : {owner : PubKey} {brought : List Brought} {notes : List Note} {end : LogEnd} → Fetches (record { standing = s; start = start }) owner brought notes end → HasOwnHeads owner brought
  fetched_heads {owner = owner} (wants_heads other) = no_own owner [] none_yet
  fetched_heads {owner = owner} (no_heads miss other) = own_first owner (Err miss) [] none_yet
  fetched_heads {owner = owner} (of_heads came tried brought faults end other are_tried tries) = own_first owner (Ok came) brought (tries_have_none tries)
  fetched_heads {owner = owner} (of_own brought faults end mine tries) = no_own owner brought (tries_have_none tries)

  -- ---- the part of one log

  pub record HasPart (brought : List Brought) (chains : List Chain) (owner : PubKey) : Type 0 where
    pub part : List Brought
    pub notes : List Note
    pub end : LogEnd
    pub fetches : Fetches (record { standing = s; start = start }) owner part notes end
    pub through : end_of_log end ≡ None
    pub among : (b : Brought) → Contains part b → Contains brought b
    pub heads : (o : PubKey) (came : Result (List Judged) Miss) → Contains brought (HeadsOf o came) → head_key_of o ≡ head_key_of owner → Contains part (HeadsOf o came)
    pub has : (c : Chain) → Contains (chains_of owner end) c → Contains chains c
    pub just : (c : Chain) → Contains chains c → c.owner ≡ owner → Contains (chains_of owner end) c

  abbrev pub given_chain : PubKey → List Record → Chain
  given_chain owner records = record { owner = owner; records = records }

  chain_owned : (owner : PubKey) (end : LogEnd) (c : Chain) → Contains (chains_of owner end) c → c.owner ≡ owner
  chain_owned owner (Gives records) c w = elim (in_cons (given_chain owner records) [] c w) [
    | inl e ↦ sym (ap (λ (x : Chain). x.owner) e)
    | inr none ↦ absurd (in_nothing c none)
  ]
  chain_owned owner (Lacks want) c w = absurd (in_nothing c w)
  chain_owned owner (Stops miss) c w = absurd (in_nothing c w)
  chain_owned owner GivesNone c w = absurd (in_nothing c w)

  pub one_at_most : (owner : PubKey) (end : LogEnd) (c d : Chain) → Contains (chains_of owner end) c → Contains (chains_of owner end) d → c ≡ d
  one_at_most owner (Gives records) c d w v = sym (same c w) ∙ same d v
    where
      same : (x : Chain) → Contains (chains_of owner (Gives records)) x → (given_chain owner records) ≡ x
      same x u = elim (in_cons (given_chain owner records) [] x u) [
        | inl e ↦ e
        | inr none ↦ absurd (in_nothing x none)
      ]
  one_at_most owner (Lacks want) c d w v = absurd (in_nothing c w)
  one_at_most owner (Stops miss) c d w v = absurd (in_nothing c w)
  one_at_most owner GivesNone c d w v = absurd (in_nothing c w)

  -- all that was brought is of these owners
  heads_owned : {owners : List PubKey} {brought : List Brought} {notes : List Note} {chains : List Chain} {end : RefreshEnd} → FetchesAll (record { standing = s; start = start }) owners brought notes chains end
      → (o : PubKey) (came : Result (List Judged) Miss) → Contains brought (HeadsOf o came) → Contains owners o
  heads_owned all o came c = absurd (in_nothing (HeadsOf o came) c)
  heads_owned (stays {owner = owner} {owners = owners} fetches e) o came c = subst (λ (x : PubKey). Contains (owner ∷ owners) x) (sym ((fetched_heads fetches).owned o came c)) (here owner owners)
  heads_owned (goes_on {owner = owner} {owners = owners} {brought = first} {more = more} fetches e rest) o came c = elim (Contains-append_cases first more (HeadsOf o came) c) [
    | inl mine ↦ subst (λ (x : PubKey). Contains (owner ∷ owners) x) (sym ((fetched_heads fetches).owned o came mine)) (here owner owners)
    | inr later ↦ there owner owners o (heads_owned rest o came later)
  ]

  pub chains_owned : {owners : List PubKey} {brought : List Brought} {notes : List Note} {chains : List Chain} {end : RefreshEnd} → FetchesAll (record { standing = s; start = start }) owners brought notes chains end → (c : Chain) → Contains chains c → Contains owners c.owner
  chains_owned all c w = absurd (in_nothing c w)
  chains_owned (stays fetches e) c w = absurd (in_nothing c w)
  chains_owned (goes_on {owner = owner} {owners = owners} {chains = chains} {log = log} fetches e rest) c w = elim (Contains-append_cases (chains_of owner log) chains c w) [
    | inl mine ↦ subst (λ (x : PubKey). Contains (owner ∷ owners) x) (sym (chain_owned owner log c mine)) (here owner owners)
    | inr later ↦ there owner owners c.owner (chains_owned rest c later)
  ]

  -- a part stays one with another log's in front
  further : (owner other : PubKey) (first brought : List Brought) (log : LogEnd) (chains : List Chain) → HasOwnHeads owner first → (head_key_of owner ≡ head_key_of other → ⊥) → HasPart brought chains other
      → HasPart (first ++ brought) (chains_of owner log ++ chains) other
  further owner other first brought log chains own apart p = record {
    part = p.part;
    notes = p.notes;
    end = p.end;
    fetches = p.fetches;
    through = p.through;
    among = λ b c. Contains-append_right first brought b (p.among b c);
    heads = λ o came c e. elim (Contains-append_cases first brought (HeadsOf o came) c) [
      | inl mine ↦ absurd (apart (ap head_key_of (sym (own.owned o came mine)) ∙ e))
      | inr more ↦ p.heads o came more e
    ];
    has = λ c w. Contains-append_right (chains_of owner log) chains c (p.has c w);
    just = λ c w e. elim (Contains-append_cases (chains_of owner log) chains c w) [
      | inl mine ↦ absurd (apart (ap head_key_of (sym (chain_owned owner log c mine) ∙ e)))
      | inr more ↦ p.just c more e
    ];
  }

  first_part : (owner : PubKey) (owners : List PubKey) (first brought : List Brought) (own others : List Note) (log : LogEnd) (chains : List Chain) (end : RefreshEnd) → AllByRecursion (λ l. head_key_of owner ≡ head_key_of l → ⊥) owners
      → Fetches (record { standing = s; start = start }) owner first own log → end_of_log log ≡ None → FetchesAll (record { standing = s; start = start }) owners brought others chains end → HasPart (first ++ brought) (chains_of owner log ++ chains) owner
  first_part owner owners first brought own others log chains end apart fetches through rest = record {
    part = first;
    notes = own;
    end = log;
    fetches = fetches;
    through = through;
    among = λ b c. Contains-append_left first brought b c;
    heads = λ o came c e. elim (Contains-append_cases first brought (HeadsOf o came) c) [
      | inl mine ↦ mine
      | inr later ↦ absurd (each (λ (l : PubKey). head_key_of owner ≡ head_key_of l → ⊥) owners o apart (heads_owned rest o came later) (sym e))
    ];
    has = λ c w. Contains-append_left (chains_of owner log) chains c w;
    just = λ c w e. elim (Contains-append_cases (chains_of owner log) chains c w) [
      | inl mine ↦ mine
      | inr later ↦ absurd (each (λ (l : PubKey). head_key_of owner ≡ head_key_of l → ⊥) owners c.owner apart (chains_owned rest c later) (ap head_key_of (sym e)))
    ];
  }

  not_done : (log : LogEnd) (end : RefreshEnd) → end_of_log log ≡ Some end → end ≡ Done → ⊥
  not_done (Lacks want) end e done = cc (e, done)
  not_done (Stops miss) end e done = cc (e, done)
  not_done (Gives records) end e done = cc e
  not_done GivesNone end e done = cc e

  -- each has its own part
  pub parts : {owners : List PubKey} {brought : List Brought} {notes : List Note} {chains : List Chain} {end : RefreshEnd} → FetchesAll (record { standing = s; start = start }) owners brought notes chains end → end ≡ Done → AreApart owners
      → AllByRecursion (HasPart brought chains) owners
  parts all done apart = tt
  parts (stays {log = log} {end = end} fetches e) done apart = absurd (not_done log end e done)
  parts (goes_on {owner = owner} {owners = owners} {brought = first} {more = more} {notes = own} {others = others} {chains = chains} {log = log} {end = end} fetches e rest) done apart =
      let later = parts rest done apart.1 in (
        first_part owner owners first more own others log chains end apart.0 fetches e rest,
        each_from (HasPart (first ++ more) (chains_of owner log ++ chains)) owners (λ o c. further owner o first more log chains (fetched_heads fetches)
            (each (λ (l : PubKey). head_key_of owner ≡ head_key_of l → ⊥) owners o apart.0 c) (each (HasPart more chains) owners o later c)),
      )

  -- ---- the heads that count

  module _ (owner : PubKey) (brought : List Brought) (chains : List Chain) (p : HasPart brought chains owner) (came : List Judged) (found : Contains p.part (HeadsOf owner (Ok came))) where
    abbrev is_of_log : Entry → Bool
    is_of_log e = same_key e.0 (head_key_of owner)

    one_of_part : (t : Stamp) (e : Entry) (b : Brought) → Contains brought b → Contains (heads_of b) e → is_of_log e ≡ true → e.1 ≡ t → Contains (map stamp_of came) t
    one_of_part t e (BlockOf key block) c w of_log at = absurd (in_nothing e w)
    one_of_part t e (HeadsOf o (Err miss)) c w of_log at = absurd (in_nothing e w)
    one_of_part t e (HeadsOf o (Ok others)) c w of_log at =
        let j = from_map (λ (x : Judged). (head_key_of o, stamp_of x)) others e w in
        let key : head_key_of o ≡ head_key_of owner = ap (λ (x : Entry). x.0) j.2 ∙ same_key_is e.0 (head_key_of owner) of_log in
        let whole : HeadsOf o (Ok others) ≡ HeadsOf owner (Ok came) = (fetched_heads p.fetches).once o owner (Ok others) (Ok came) (p.heads o (Ok others) c key) found in
        let same : others ≡ came = cc whole in
        subst (λ (x : Stamp). Contains (map stamp_of came) x) (ap (λ (x : Entry). x.1) j.2 ∙ at) (subst (λ (l : List Judged). Contains (map stamp_of l) (stamp_of j.0)) same (to_map stamp_of others j.0 j.1))

    pub heads_same : (t : Stamp) → Contains (heads_at brought (head_key_of owner)) t ↔ Contains (map stamp_of came) t
    heads_same t = (
      λ c.
          let e = from_map (λ (x : Entry). x.1) (filter is_of_log (all_heads brought)) t c in
          let f = from_filter is_of_log (all_heads brought) e.0 e.1 in
          let b = from_flat_map heads_of brought e.0 f.0 in
          one_of_part t e.0 b.0 b.1 b.2 f.1 e.2,
      λ c.
          let j = from_map stamp_of came t c in
          let e : Entry = (head_key_of owner, stamp_of j.0) in
          let of_part : Contains (all_heads brought) e = to_flat_map heads_of brought (HeadsOf owner (Ok came)) e (p.among (HeadsOf owner (Ok came)) found) (to_map (λ (x : Judged). (head_key_of owner, stamp_of x)) came j.0 j.1) in
          subst (λ (x : Stamp). Contains (heads_at brought (head_key_of owner)) x) j.2
          (to_map (λ (x : Entry). x.1) (filter is_of_log (all_heads brought)) e (in_filter is_of_log (all_heads brought) e of_part (same_key_itself (head_key_of owner)))),
    )
