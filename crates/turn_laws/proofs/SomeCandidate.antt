-- Each member has a candidate.
use Rattle.std.proofs.Common.{◌≡◌, ◌⊎◌, inl, inr, ◌<◌, true, List, [], ◌∷◌, map, refl, sym, ap, ◌∙◌, subst, arith, Contains}
use Rattle.std.specs.Cmp.{tied_itself}
use Rattle.std.specs.List.{AllByRecursion}
use Rattle.std.specs.Ordering.{eq_by_cmp, is_lt}
use Rattle.std.specs.declared.cmp.Ordering.{Ordering}
use Rattle.std.specs.declared.cmp.Ordering.TheVariants.{Less, Equal, Greater}
use Rattle.std.proofs.lemmas.Bool.{cases_lt}
use Rattle.ivy_base.specs.declared.key.PubKey.{PubKey}
use Rattle.ivy_base.specs.Naming.{head_key_of, key_cmp, owner_cmp}
use Rattle.tree_model.proofs.Keys.{keys_total}
use Rattle.log_model.specs.Vector.{Stamp, seq_of}
use Rattle.log_model.specs.Record.{Record}
use Rattle.log_model.specs.Closed.{log_of}
use Rattle.log_model.proofs.Lists.{here, there, in_cons, in_nothing}
use Rattle.log_model.proofs.Opening.{same_owner}
use Rattle.log_model.proofs.Owners.{owner_itself}
use Rattle.turn_model.specs.Turn.{Candidate}
use Rattle.turn_model.specs.Candidates.{IsTriedBefore, IsPassedOver, MakeChain, Evidence, IsCandidate, reading, own_log, newest, as_known}
use Rattle.turn_laws.specs.Some.{ThereAreCandidates}
use Rattle.turn_laws.proofs.RecordReading.{Known, both_known, number_known, truth_known}
use Rattle.turn_laws.proofs.SomeChain.{chain_or_not}

pub owner_known : (a b : PubKey) → Known (a ≡ b)
owner_known a b = elim (truth_known (eq_by_cmp owner_cmp a b)) [
  | inl same ↦ inl (sym (same_owner a b same))
  | inr other ↦ inr (λ e. other (subst (λ (o : PubKey). eq_by_cmp owner_cmp a o ≡ true) e (owner_itself a)))
]

-- ---- which head is tried first

less_is : (o : Ordering) → is_lt o ≡ true → o ≡ Less
less_is Less h = refl
less_is Equal h = cc
less_is Greater h = cc

before_known : (s t : Stamp) → Known (IsTriedBefore s t)
before_known s t = elim (cases_lt t.seq s.seq) [
  | inl more ↦ inl (inl more)
  | inr least ↦ elim (both_known (number_known s.seq t.seq) (truth_known (is_lt (key_cmp s.name t.name)))) [
    | inl f ↦ inl (inr (f.0, f.1))
    | inr none ↦ inr (λ f. elim f [
      | inl more ↦ absurd (omega (arith, least, more))
      | inr g ↦ none (g.0, g.1)
    ])
  ]
]

before_both : (s t u : Stamp) → IsTriedBefore s t → IsTriedBefore t u → IsTriedBefore s u
before_both s t u (inl f) (inl g) = inl (omega (arith, f, g))
before_both s t u (inl f) (inr g) = inl (omega (arith, f, g.0))
before_both s t u (inr f) (inl g) = inl (omega (arith, f.0, g))
before_both s t u (inr f) (inr g) = inr (f.0 ∙ g.0, ap is_lt (keys_total.trans s.name t.name u.name (less_is _ f.1) (less_is _ g.1)))

not_before_itself : (s : Stamp) → IsTriedBefore s s → ⊥
not_before_itself s (inl f) = absurd (omega (arith, f))
not_before_itself s (inr f) = let e = ap is_lt (tied_itself keys_total s.name) in cc

-- ---- the first head whose records make a chain

module _ (e : Evidence) (owner : PubKey) where
  abbrev IsFurther : Stamp → Type 0
  IsFurther t = seq_of e.floor (head_key_of owner) < t.seq

  -- of some heads none makes one
  abbrev NoneOf : List Stamp → Type 0
  NoneOf some = (t : Stamp) → Contains some t → IsFurther t → IsPassedOver (reading e) owner t

  -- or one is the first that does
  record FirstOf (some : List Stamp) : Type 0 where
    head : Stamp
    within : Contains some head
    further : IsFurther head
    chain : List Record
    makes : MakeChain (reading e) owner head chain
    first : (t : Stamp) → Contains some t → IsFurther t → IsTriedBefore t head → IsPassedOver (reading e) owner t

  -- a head that makes none doesn't count
  none_more : (t : Stamp) (some : List Stamp) → (IsFurther t → IsPassedOver (reading e) owner t) → NoneOf some ⊎ FirstOf some → NoneOf (t ∷ some) ⊎ FirstOf (t ∷ some)
  none_more t some not_t (inl none) = inl (λ u c further. elim (in_cons t some u c) [
    | inl same ↦ subst (λ (x : Stamp). IsPassedOver (reading e) owner x) same (not_t (subst IsFurther (sym same) further))
    | inr more ↦ none u more further
  ])
  none_more t some not_t (inr f) = inr (record {
    head = f.head;
    within = there t some f.head f.within;
    further = f.further;
    chain = f.chain;
    makes = f.makes;
    first = λ u c further before. elim (in_cons t some u c) [
      | inl same ↦ subst (λ (x : Stamp). IsPassedOver (reading e) owner x) same (not_t (subst IsFurther (sym same) further))
      | inr more ↦ f.first u more further before
    ];
  })

  -- one that does is the first, or the first one before stays it
  one_more : (t : Stamp) (some : List Stamp) → IsFurther t → (chain : List Record) → MakeChain (reading e) owner t chain → NoneOf some ⊎ FirstOf some → FirstOf (t ∷ some)
  one_more t some far chain makes (inl none) = record {
    head = t;
    within = here t some;
    further = far;
    chain = chain;
    makes = makes;
    first = λ u c further before. elim (in_cons t some u c) [
      | inl same ↦ absurd (not_before_itself t (subst (λ (x : Stamp). IsTriedBefore x t) (sym same) before))
      | inr more ↦ none u more further
    ];
  }
  one_more t some far chain makes (inr f) = elim (before_known t f.head) [
    | inl sooner ↦ record {
      head = t;
      within = here t some;
      further = far;
      chain = chain;
      makes = makes;
      first = λ u c further before. elim (in_cons t some u c) [
        | inl same ↦ absurd (not_before_itself t (subst (λ (x : Stamp). IsTriedBefore x t) (sym same) before))
        | inr more ↦ f.first u more further (before_both u t f.head before sooner)
      ];
    }
    | inr not_sooner ↦ record {
      head = f.head;
      within = there t some f.head f.within;
      further = f.further;
      chain = f.chain;
      makes = f.makes;
      first = λ u c further before. elim (in_cons t some u c) [
        | inl same ↦ absurd (not_sooner (subst (λ (x : Stamp). IsTriedBefore x f.head) (sym same) before))
        | inr more ↦ f.first u more further before
      ];
    }
  ]

  first_of : (some : List Stamp) → NoneOf some ⊎ FirstOf some
  first_of [] = inl (λ t c further. absurd (in_nothing t c))
  first_of (t ∷ some) = elim (cases_lt (seq_of e.floor (head_key_of owner)) t.seq) [
    | inr near ↦ none_more t some (λ further. absurd (omega (arith, near, further))) (first_of some)
    | inl far ↦ elim (chain_or_not e.view owner e.blocks e.floor t) [
      | inr none ↦ none_more t some (λ further. none) (first_of some)
      | inl makes ↦ inr (one_more t some far makes.0 makes.1 (first_of some))
    ]
  ]

  some_candidate : (chain : List Record) × IsCandidate e owner chain
  some_candidate = elim (owner_known owner e.own) [
    | inl mine ↦ (log_of owner e.known, own_log mine)
    | inr other ↦ elim (first_of (e.heads (head_key_of owner))) [
      | inl none ↦ (log_of owner e.known, as_known other (λ t tried. none t tried.0 tried.1))
      | inr f ↦ (f.chain, newest f.head f.chain other (f.within, f.further) f.makes (λ t tried before. f.first t tried.0 tried.1 before))
    ]
  ]

candidates_of : (e : Evidence) (owners : List PubKey) → (candidates : List Candidate) × (map (λ c. c.owner) candidates ≡ owners) × AllByRecursion (λ c. IsCandidate e c.owner c.chain) candidates
candidates_of e [] = ([], refl, tt)
candidates_of e (owner ∷ owners) =
    let one = some_candidate e owner in
    let more = candidates_of e owners in
    (record { owner = owner; chain = one.0 } ∷ more.0, ap (λ (l : List PubKey). owner ∷ l) more.1, (one.1, more.2))

pub there_are_candidates : ThereAreCandidates
there_are_candidates e = let all = candidates_of e e.view.members in (all.0, record { of_members = all.1; each = all.2 })
