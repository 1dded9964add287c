-- Of records that were read it is known whether they are sound and onward, or else why their head is passed over.
use Rattle.std.proofs.Common.{◌≡◌, ◌≢◌, inl, inr, ⊎_elim, ℕ, suc, ◌+◌, List, [], ◌∷◌, ◌++◌, Option, Some, None, refl, ap, ◌∙◌}
use Rattle.std.specs.List.{AllByRecursion}
use Rattle.ivy_base.specs.declared.key.PubKey.{PubKey}
use Rattle.ivy_base.specs.Naming.{head_key_of}
use Rattle.log_model.specs.View.{View}
use Rattle.log_model.specs.Vector.{Stamp, Vector, reach, with_entry}
use Rattle.log_model.specs.Record.{Record}
use Rattle.log_model.specs.Rank.{own_entry, full_vector}
use Rattle.log_model.specs.Spelling.{HasSpelling}
use Rattle.log_model.specs.Chain.{IsGood, GoesOn}
use Rattle.log_model.proofs.Lists.{here, there, in_cons, in_nothing}
use Rattle.log_model.specs.Fetched.{Edge, ChainFails, EndsAtStamp, GoesOnFrom, HasRecord, IsOnward, IsSound, KnowsEdge, MayBeNext, OldestNames, PassesFloor, stamp_in}
use Rattle.log_model.specs.declared.chain_fault.ChainFault.{ChainFault}
use Rattle.log_model.specs.declared.chain_fault.ChainFault.TheVariants.{Bad, Fork, Memory}
use Rattle.turn_laws.proofs.ChainRules.{made_known, named_known, first_known, further_known, follows_known, stamp_known}
use Rattle.turn_laws.proofs.RecordReading.{Known, both_known, if_known, key_known, number_known, at_most_known}
use Rattle.turn_laws.proofs.SomeCandidate.{owner_known}

-- ---- the rules of a log

good_known : (view : View) (owner : PubKey) (r : Record) → HasSpelling r → Known (IsGood view owner r)
good_known view owner r spelled = elim (both_known (owner_known r.owner owner) (both_known (made_known owner r.seq r.op) (named_known view r.vector))) [
  | inl f ↦ inl (record { owned = f.0; spelled = spelled; number = f.1.0; named = f.1.1 })
  | inr none ↦ inr (λ g. none (g.owned, (g.number, g.named)))
]

goes_known : (view : View) (owner : PubKey) (p : Record) (rs : List Record) → AllByRecursion HasSpelling rs → Known (GoesOn view owner p rs)
goes_known view owner p [] spelled = inl tt
goes_known view owner p (r ∷ rs) spelled = elim (both_known (good_known view owner r spelled.0) (both_known (follows_known p r) (goes_known view owner r rs spelled.1))) [
  | inl f ↦ inl (f.0, f.1.0, f.1.1)
  | inr none ↦ inr (λ g. none (g.0, (g.1, g.2)))
]

-- ---- from a held record on

next_known : (held : Option Stamp) (r : Record) → Known (MayBeNext held r)
next_known None r = first_known r
next_known (Some t) r = number_known r.seq (t.seq + 1)

edge_known : (held : Option Stamp) (edge : Option Edge) (r : Record) → Known (KnowsEdge held edge r)
edge_known None edge r = inl tt
edge_known (Some t) None r = inl tt
edge_known (Some t) (Some edge) r = further_known (full_vector r) (with_entry edge.vector (head_key_of r.owner, t))

goes_on_known : (view : View) (held : Option Stamp) (edge : Option Edge) (chain : List Record) → AllByRecursion HasSpelling chain → Known (GoesOnFrom view held edge chain)
goes_on_known view held edge [] spelled = inl tt
goes_on_known view held edge (r ∷ rs) spelled =
    elim (both_known (both_known (good_known view r.owner r spelled.0) (next_known held r)) (both_known (edge_known held edge r) (goes_known view r.owner r rs spelled.1))) [
      | inl f ↦ inl (f.0.0, f.0.1, f.1.0, f.1.1)
      | inr none ↦ inr (λ g. none ((g.0, g.1), (g.2, g.3)))
    ]

nothing_ends : (t : Stamp) → EndsAtStamp t [] → ⊥
nothing_ends t ([], last, is, same) = cc
nothing_ends t (b ∷ before, last, is, same) = cc

one_ends : (t : Stamp) (x : Record) → EndsAtStamp t (x ∷ []) → (own_entry x).1 ≡ t
one_ends t x f = by f.0 f.1 f.2 f.3
  where
    by : (before : List Record) (last : Record) → x ∷ [] ≡ before ++ last ∷ [] → (own_entry last).1 ≡ t → (own_entry x).1 ≡ t
    by [] last e g = let same : x ≡ last = cc e in ap (λ (r : Record). (own_entry r).1) same ∙ g
    by (b ∷ []) last e g = cc e
    by (b ∷ c ∷ before) last e g = cc e

more_ends : (t : Stamp) (x y : Record) (ys : List Record) → EndsAtStamp t (x ∷ y ∷ ys) → EndsAtStamp t (y ∷ ys)
more_ends t x y ys f = by f.0 f.1 f.2 f.3
  where
    by : (before : List Record) (last : Record) → x ∷ y ∷ ys ≡ before ++ last ∷ [] → (own_entry last).1 ≡ t → EndsAtStamp t (y ∷ ys)
    by [] last e g = cc e
    by (b ∷ before) last e g = let rest : y ∷ ys ≡ before ++ last ∷ [] = cc e in (before, last, rest, g)

ends_known : (t : Stamp) (xs : List Record) → Known (EndsAtStamp t xs)
ends_known t [] = inr (nothing_ends t)
ends_known t (x ∷ []) = elim (stamp_known (own_entry x).1 t) [
  | inl e ↦ inl ([], x, refl, e)
  | inr other ↦ inr (λ f. other (one_ends t x f))
]
ends_known t (x ∷ y ∷ ys) = elim (ends_known t (y ∷ ys)) [
  | inl f ↦ inl (x ∷ f.0, f.1, ap (λ (l : List Record). x ∷ l) f.2, f.3)
  | inr none ↦ inr (λ f. none (more_ends t x y ys f))
]

-- ---- of which history

oldest_known : (held : Option Stamp) (xs : List Record) → Known (OldestNames held xs)
oldest_known held [] = inl tt
oldest_known None (r ∷ rs) = inl tt
oldest_known (Some t) (r ∷ rs) = key_known r.prev t.name

has_known : (t : Stamp) (xs : List Record) → Known (HasRecord t xs)
has_known t [] = inr (λ h. in_nothing h.0 h.1)
has_known t (x ∷ xs) = elim (stamp_known (own_entry x).1 t) [
  | inl e ↦ inl (x, here x xs, e)
  | inr other ↦ elim (has_known t xs) [
    | inl h ↦ inl (h.0, there x xs h.0 h.1, h.2)
    | inr none ↦ inr (λ h. ⊎_elim (λ is. other (ap (λ (r : Record). (own_entry r).1) is ∙ h.2)) (λ more. none (h.0, more, h.2)) (in_cons x xs h.0 h.1))
  ]
]

passes_known : (floor : Option Stamp) (reached : ℕ) (xs : List Record) → Known (PassesFloor floor reached xs)
passes_known None reached xs = inl tt
passes_known (Some f) reached xs = if_known (at_most_known (suc reached) f.seq) (has_known f xs)

-- ---- sound and onward, or passed over

module _ (view : View) (start floor : Vector) (edge : Option Edge) (t : Stamp) where
  -- the records are taken, or their head is passed over
  pub data Judging (chain : List Record) : Type 0 where
    takes : IsSound view start edge t chain → IsOnward start floor chain → Judging chain
    fails : (fault : ChainFault) → fault ≢ Memory → ChainFails view start floor t edge chain fault → Judging chain

  bad_differs : Bad ≢ Memory
  bad_differs e = cc e

  fork_differs : Fork ≢ Memory
  fork_differs e = cc e

  pub judging : (chain : List Record) → AllByRecursion HasSpelling chain → Judging chain
  judging chain spelled = elim (both_known (goes_on_known view (stamp_in start chain) edge chain spelled) (ends_known t chain)) [
    | inr none ↦ fails Bad bad_differs (λ sound. none (sound.goes_on, sound.ends))
    | inl f ↦ elim (both_known (oldest_known (stamp_in start chain) chain) (passes_known (stamp_in floor chain) (reach (stamp_in start chain)) chain)) [
      | inl g ↦ takes (record { goes_on = f.0; ends = f.1 }) (record { names = g.0; passes = g.1 })
      | inr other ↦ fails Fork fork_differs (record { goes_on = f.0; ends = f.1 }, λ onward. other (onward.names, onward.passes))
    ]
  ]
