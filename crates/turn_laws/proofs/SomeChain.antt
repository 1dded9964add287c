-- Of each head it is known whether records among the blocks make the chain to it.
use Rattle.std.proofs.Common.{◌≡◌, ◌⊎◌, inl, inr, ℕ, zero, suc, ◌+◌, List, [], ◌∷◌, ◌++◌, length, Option, Some, None, refl, sym, ap, ◌∙◌, subst, arith, Contains, length-append}
use Rattle.std.specs.List.{AllByRecursion}
use Rattle.ivy_base.specs.declared.key.PubKey.{PubKey}
use Rattle.ivy_base.specs.Naming.{head_key_of}
use Rattle.wire_model.proofs.OneReading.{whole}
use Rattle.log_model.specs.View.{View}
use Rattle.log_model.specs.Vector.{Stamp, Vector, stamp_at}
use Rattle.log_model.specs.Record.{Record}
use Rattle.log_model.specs.Rank.{own_entry}
use Rattle.log_model.specs.Spelling.{record_block, IsRecordOf}
use Rattle.log_model.specs.Chain.{IsGood, GoesOn, IsChain}
use Rattle.log_model.specs.Standing.{StandsAmong, Stand}
use Rattle.log_model.proofs.Lists.{here, there, in_cons, in_nothing, each, each_from}
use Rattle.log_model.proofs.Part.{chain_good, numbered, Numbered}
use Rattle.log_records.proofs.OneRecord.{one_record}
use Rattle.turn_model.specs.Known.{EndsAt}
use Rattle.turn_model.specs.Candidates.{PassesThrough, MakeChain, IsPassedOver, Reading}
use Rattle.turn_laws.proofs.ChainRules.{made_known, named_known, first_known, follows_known, stamp_known}
use Rattle.turn_laws.proofs.RecordReading.{Known, both_known, record_or_not}

-- ---- finite searches

pub some_in : {A : Type 0} (xs : List A) (Q : A → Type 0) → ((x : A) → Contains xs x → Known (Q x)) → Known ((x : A) × Contains xs x × Q x)
some_in [] Q known = inr (λ z. in_nothing z.0 z.1)
some_in (x ∷ xs) Q known = elim (known x (here x xs)) [
  | inl q ↦ inl (x, here x xs, q)
  | inr not_x ↦ elim (some_in xs Q (λ y c. known y (there x xs y c))) [
    | inl z ↦ inl (z.0, there x xs z.0 z.1, z.2)
    | inr none ↦ inr (λ z. elim (in_cons x xs z.0 z.1) [
      | inl e ↦ not_x (subst Q (sym e) z.2)
      | inr c ↦ none (z.0, c, z.2)
    ])
  ]
]

abbrev AllIn : List Record → List Record → Type 0
AllIn rs xs = AllByRecursion (λ x. Contains rs x) xs

abbrev SomeOf : List Record → ℕ → (List Record → Type 0) → Type 0
SomeOf rs n P = (xs : List Record) × (length xs ≡ n) × AllIn rs xs × P xs

some_list : (rs : List Record) (n : ℕ) (P : List Record → Type 0) → ((xs : List Record) → AllIn rs xs → Known (P xs)) → Known (SomeOf rs n P)
some_list rs zero P known = elim (known [] tt) [
  | inl p ↦ inl ([], refl, tt, p)
  | inr none ↦ inr (λ z. none (subst P (no_length z.0 z.1) z.3))
]
  where
    no_length : (xs : List Record) → length xs ≡ 0 → xs ≡ []
    no_length [] e = refl
    no_length (x ∷ xs) e = absurd (omega (arith, e))
some_list rs (suc n) P known = elim (some_in rs (λ x. SomeOf rs n (λ xs. P (x ∷ xs))) (λ x c. some_list rs n (λ xs. P (x ∷ xs)) (λ xs all. known (x ∷ xs) (c, all)))) [
  | inl z ↦ inl (z.0 ∷ z.2.0, ap suc z.2.1, (z.1, z.2.2), z.2.3)
  | inr none ↦ inr (λ z. without z.0 z.1 z.2 z.3 none)
]
  where
    without : (xs : List Record) → length xs ≡ suc n → AllIn rs xs → P xs → ((x : Record) × Contains rs x × SomeOf rs n (λ ys. P (x ∷ ys)) → ⊥) → ⊥
    without [] e all p none = absurd (omega (arith, e))
    without (x ∷ xs) e all p none = none (x, all.0, (xs, omega (arith, e), all.1, p))

-- ---- the owner's good records among the blocks

module _ (view : View) (owner : PubKey) (blocks : List (List ℕ)) where
  abbrev IsOwn : Record → Type 0
  IsOwn r = IsGood view owner r × StandsAmong blocks r

  good_known : (b : List ℕ) (r : Record) → IsRecordOf owner b r → Known (IsGood view owner r)
  good_known b r is = elim (both_known (made_known owner r.seq r.op) (named_known view r.vector)) [
    | inl f ↦ inl (record { owned = is.owned; spelled = is.fits; number = f.0; named = f.1 })
    | inr none ↦ inr (λ g. none (g.number, g.named))
  ]

  -- those of some of the blocks
  record Gathered (some : List (List ℕ)) : Type 0 where
    records : List Record
    own : AllByRecursion IsOwn records
    all : (r : Record) → IsGood view owner r → Contains some (record_block r) → Contains records r

  same_record : (b : List ℕ) (r q : Record) → IsRecordOf owner b r → IsGood view owner q → b ≡ record_block q → q ≡ r
  same_record b r q is good e = whole (one_record owner) q r (good.owned, good.spelled) (is.owned, is.fits) (sym e ∙ is.spelled)

  gather : (some : List (List ℕ)) → ((b : List ℕ) → Contains some b → Contains blocks b) → Gathered some
  gather [] among = record { records = []; own = tt; all = λ r good c. absurd (in_nothing (record_block r) c) }
  gather (b ∷ some) among =
      let rest : Gathered some = gather some (λ c within. among c (there b some c within)) in
      elim (record_or_not owner b) [
        | inr none ↦ record {
          records = rest.records;
          own = rest.own;
          all = λ r good c. elim (in_cons b some (record_block r) c) [
            | inl e ↦ absurd (none r (record { owned = good.owned; fits = good.spelled; spelled = e }))
            | inr more ↦ rest.all r good more
          ];
        }
        | inl found ↦ elim (good_known b found.0 found.1) [
          | inl fine ↦ record {
            records = found.0 ∷ rest.records;
            own = ((fine, subst (λ (c : List ℕ). Contains blocks c) found.1.spelled (among b (here b some))), rest.own);
            all = λ r good c. elim (in_cons b some (record_block r) c) [
              | inl e ↦ subst (λ (q : Record). Contains (found.0 ∷ rest.records) q) (sym (same_record b found.0 r found.1 good e)) (here found.0 rest.records)
              | inr more ↦ there found.0 rest.records r (rest.all r good more)
            ];
          }
          | inr bad ↦ record {
            records = rest.records;
            own = rest.own;
            all = λ r good c. elim (in_cons b some (record_block r) c) [
              | inl e ↦ absurd (bad (subst (IsGood view owner) (same_record b found.0 r found.1 good e) good))
              | inr more ↦ rest.all r good more
            ];
          }
        ]
      ]

  -- ---- whether records are a chain

  goes_known : (p : Record) (rs : List Record) → AllByRecursion (IsGood view owner) rs → Known (GoesOn view owner p rs)
  goes_known p [] good = inl tt
  goes_known p (r ∷ rs) good = elim (both_known (follows_known p r) (goes_known r rs good.1)) [
    | inl f ↦ inl (good.0, f.0, f.1)
    | inr none ↦ inr (λ g. none (g.1, g.2))
  ]

  chain_known : (rs : List Record) → AllByRecursion (IsGood view owner) rs → Known (IsChain view owner rs)
  chain_known [] good = inl tt
  chain_known (r ∷ rs) good = elim (both_known (first_known r) (goes_known r rs good.1)) [
    | inl f ↦ inl (good.0, f.0, f.1)
    | inr none ↦ inr (λ g. none (g.1, g.2))
  ]

  -- ---- where they end, and what they pass

  nothing_ends : (t : Stamp) → EndsAt (Some t) [] → ⊥
  nothing_ends t f = by f.0 f.1 f.2
    where
      by : (before : List Record) (last : Record) → [] ≡ before ++ last ∷ [] → ⊥
      by [] last e = cc e
      by (b ∷ before) last e = cc e

  one_ends : (t : Stamp) (x : Record) → EndsAt (Some t) (x ∷ []) → (own_entry x).1 ≡ t
  one_ends t x f = by f.0 f.1 f.2 f.3
    where
      by : (before : List Record) (last : Record) → x ∷ [] ≡ before ++ last ∷ [] → (own_entry last).1 ≡ t → (own_entry x).1 ≡ t
      by [] last e g = let same : x ≡ last = cc e in ap (λ (r : Record). (own_entry r).1) same ∙ g
      by (b ∷ []) last e g = cc e
      by (b ∷ c ∷ before) last e g = cc e

  more_ends : (t : Stamp) (x y : Record) (ys : List Record) → EndsAt (Some t) (x ∷ y ∷ ys) → EndsAt (Some t) (y ∷ ys)
  more_ends t x y ys f = by f.0 f.1 f.2 f.3
    where
      by : (before : List Record) (last : Record) → x ∷ y ∷ ys ≡ before ++ last ∷ [] → (own_entry last).1 ≡ t → EndsAt (Some t) (y ∷ ys)
      by [] last e g = cc e
      by (b ∷ before) last e g = let rest : y ∷ ys ≡ before ++ last ∷ [] = cc e in (before, last, rest, g)

  ends_known : (t : Stamp) (xs : List Record) → Known (EndsAt (Some t) xs)
  ends_known t [] = inr (nothing_ends t)
  ends_known t (x ∷ []) = elim (stamp_known (own_entry x).1 t) [
    | inl e ↦ inl ([], x, refl, e)
    | inr other ↦ inr (λ f. other (one_ends t x f))
  ]
  ends_known t (x ∷ y ∷ ys) = elim (ends_known t (y ∷ ys)) [
    | inl f ↦ inl (x ∷ f.0, f.1, ap (λ (l : List Record). x ∷ l) f.2, f.3)
    | inr none ↦ inr (λ f. none (more_ends t x y ys f))
  ]

  Passes : Stamp → List Record → Type 0
  Passes t xs = PassesThrough (Some t) xs

  passes_none : (t : Stamp) (front rest : List Record) → [] ≡ front ++ rest → EndsAt (Some t) front → ⊥
  passes_none t [] rest e f = nothing_ends t f
  passes_none t (x ∷ front) rest e f = cc e

  passes_later : (t : Stamp) (x : Record) (xs front rest : List Record) → x ∷ xs ≡ front ++ rest → EndsAt (Some t) front → ((own_entry x).1 ≡ t → ⊥) → PassesThrough (Some t) xs
  passes_later t x xs [] rest e f other = absurd (nothing_ends t f)
  passes_later t x xs (y ∷ []) rest e f other =
      let same : x ≡ y = cc e in
      absurd (other (ap (λ (r : Record). (own_entry r).1) same ∙ one_ends t y f))
  passes_later t x xs (y ∷ z ∷ front) rest e f other = let more : xs ≡ (z ∷ front) ++ rest = cc e in (z ∷ front, rest, more, more_ends t y z front f)

  passes_known : (t : Stamp) (xs : List Record) → Known (PassesThrough (Some t) xs)
  passes_known t [] = inr (λ f. passes_none t f.0 f.1 f.2 f.3)
  passes_known t (x ∷ xs) = elim (stamp_known (own_entry x).1 t) [
    | inl e ↦ inl (x ∷ [], xs, refl, ([], x, refl, e))
    | inr other ↦ elim (passes_known t xs) [
      | inl f ↦ inl (x ∷ f.0, f.1, ap (λ (l : List Record). x ∷ l) f.2, (x ∷ f.3.0, f.3.1, ap (λ (l : List Record). x ∷ l) f.3.2, f.3.3))
      | inr none ↦ inr (λ f. none (passes_later t x xs f.0 f.1 f.2 f.3 other))
    ]
  ]

  floor_known : (s : Option Stamp) (xs : List Record) → Known (PassesThrough s xs)
  floor_known None xs = inl tt
  floor_known (Some t) xs = passes_known t xs

  -- ---- whether there is a chain to a head

  last_number : (n : ℕ) (before : List Record) (last : Record) → Numbered n (before ++ last ∷ []) → last.seq ≡ n + length before
  last_number n [] last h = omega (arith, h.0)
  last_number n (b ∷ before) last h = let more = last_number (n + 1) before last h.1 in omega (arith, more)

  long : (t : Stamp) (xs : List Record) → IsChain view owner xs → EndsAt (Some t) xs → length xs ≡ t.seq
  long t xs chain ends =
      let number = last_number 1 ends.0 ends.1 (subst (Numbered 1) ends.2 (numbered view owner xs chain)) in
      let same : ends.1.seq ≡ t.seq = ap (λ (s : Stamp). s.seq) ends.3 in
      let size : length xs ≡ length (ends.0 ++ ends.1 ∷ []) = ap length ends.2 in
      omega (arith, number, same, size, length-append ends.0 (ends.1 ∷ []))

  module _ (floor : Vector) (head : Stamp) where
    abbrev read : Reading
    read = record { blocks = blocks; view = view; floor = floor }

    make_known : (rs : List Record) → AllByRecursion IsOwn rs → (xs : List Record) → AllIn rs xs → Known (MakeChain read owner head xs)
    make_known rs own xs all =
        let good : AllByRecursion (IsGood view owner) xs = each_from (IsGood view owner) xs (λ x c. (each IsOwn rs x own (each (λ y. Contains rs y) xs x all c)).0) in
        let stand : Stand blocks xs = each_from (λ r. StandsAmong blocks r) xs (λ x c. (each IsOwn rs x own (each (λ y. Contains rs y) xs x all c)).1) in
        elim (both_known (chain_known xs good) (both_known (ends_known head xs) (floor_known (stamp_at floor (head_key_of owner)) xs))) [
          | inl f ↦ inl (record { chain_of_log = f.0; stand = stand; ends = f.1.0; passes = f.1.1 })
          | inr none ↦ inr (λ m. none (m.chain_of_log, (m.ends, m.passes)))
        ]

    pub chain_or_not : ((chain : List Record) × MakeChain read owner head chain) ⊎ IsPassedOver read owner head
    chain_or_not =
        let own = gather blocks (λ b c. c) in
        elim (some_list own.records head.seq (MakeChain read owner head) (make_known own.records own.own)) [
          | inl z ↦ inl (z.0, z.3)
          | inr none ↦ inr (λ chain makes. none (
            chain,
            long head chain makes.chain_of_log makes.ends,
            each_from (λ r. Contains own.records r) chain (λ r c. own.all r (each (IsGood view owner) chain r (chain_good view owner chain makes.chain_of_log) c) (each (λ q. StandsAmong blocks q) chain r makes.stand c)),
            makes,
          ))
        ]
